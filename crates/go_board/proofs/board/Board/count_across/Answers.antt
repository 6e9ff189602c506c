use Rattle.go_board.proofs.boards.Eyes.{none_across, one_across}
use Rattle.go_board.proofs.boards.Neighbours.{IsOn-inside}
use Rattle.go_board.proofs.board.Board.count_across.Goals as goal

pub returns-clause-none : goal.returns-clause-none
returns-clause-none c =
    none_across c.args.self.now c.args.wanted c.args.place c.count_at.result c.count_at-2.result c.count_at-3.result
    c.count_at-4.result (record {
      low = (IsOn-inside c.args.place c.requires).low;
      first = record { yes = c.count_at.ensures.yes; no = c.count_at.ensures.no; few = c.count_at.ensures.few };
      second = record { yes = c.count_at-2.ensures.yes; no = c.count_at-2.ensures.no; few = c.count_at-2.ensures.few };
      third = record { yes = c.count_at-3.ensures.yes; no = c.count_at-3.ensures.no; few = c.count_at-3.ensures.few };
      last = record { yes = c.count_at-4.ensures.yes; no = c.count_at-4.ensures.no; few = c.count_at-4.ensures.few };
    })

pub returns-clause-one : goal.returns-clause-one
returns-clause-one c =
    one_across c.args.self.now c.args.wanted c.args.place c.count_at.result c.count_at-2.result c.count_at-3.result
    c.count_at-4.result (record {
      low = (IsOn-inside c.args.place c.requires).low;
      first = record { yes = c.count_at.ensures.yes; no = c.count_at.ensures.no; few = c.count_at.ensures.few };
      second = record { yes = c.count_at-2.ensures.yes; no = c.count_at-2.ensures.no; few = c.count_at-2.ensures.few };
      third = record { yes = c.count_at-3.ensures.yes; no = c.count_at-3.ensures.no; few = c.count_at-3.ensures.few };
      last = record { yes = c.count_at-4.ensures.yes; no = c.count_at-4.ensures.no; few = c.count_at-4.ensures.few };
    })
