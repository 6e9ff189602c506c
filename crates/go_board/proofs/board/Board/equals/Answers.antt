use Rattle.std.proofs.Common.{sym, ◌∙◌}
use Rattle.go_board.proofs.ko_rules.ReplayedBoards.{cells-decides}
use Rattle.go_board.proofs.board.Board.equals.Goals as goal

pub returns-then-eq : goal.returns-then-eq
returns-then-eq c =
    let same = cells-decides c.self.inside.cells c.other.inside.cells in (
      (λ e. sym c.self.view_is ∙ same.0 (sym c.eq-then-eq.ensures ∙ e) ∙ c.other.view_is),
      (λ e. c.eq-then-eq.ensures ∙ same.1 (c.self.view_is ∙ e ∙ sym c.other.view_is)),
    )
