use Rattle.std.proofs.Common.{◌≡◌, subst}
use Rattle.go_board.specs.Game.{GameRecord, board_of}
use Rattle.go_board.specs.private.Ko.{IsKo}
use Rattle.go_board.proofs.records.GameFields.{repeats-from}
use Rattle.go_board.proofs.game.Game.repeats_last.Goals as goal

pub returns-then-place-ko : goal.returns-then-place-ko
returns-then-place-ko c =
    repeats-from c.args.self.now c.self.inside.chains c.self.inside.ko c.in-Some.ko c.args.colour c.args.place
    c.place_of.result c.takes_only.result c.in-Some.is
    (subst (λ (g : GameRecord). IsKo g c.self.inside.ko) c.self.view_is c.self.invariant.ko_is)
    (subst (λ (g : GameRecord). c.self.inside.chains ≡ board_of g) c.self.view_is c.self.invariant.board_is)
    c.requires.empty c.if-place-ko.true c.place_of.ensures.value c.takes_only.ensures
