use Rattle.std.proofs.Common.{ℕ, sym, subst}
use Rattle.std.specs.Prelude.{Some}
use Rattle.go_board.specs.Game.{GameRecord, IsGame}
use Rattle.go_board.specs.KoPoint.{IsOnlyKoPoint}
use Rattle.go_board.specs.private.Ko.{IsKo}
use Rattle.go_board.specs.Refusals.{RefusesPoint}
use Rattle.go_board.specs.declared.faults.PlayFault.TheVariants.{Ko}
use Rattle.go_board.proofs.ko_rules.KoPointPlays.{ko-refused}
use Rattle.go_board.proofs.ko_rules.OnlyKoPoint.{only-kept}
use Rattle.go_board.proofs.game.Game.ko_point.Goals as goal

pub returns-then-is_ko-clause-refused : goal.returns-then-is_ko-clause-refused
returns-then-is_ko-clause-refused c =
    subst (λ (p : ℕ). RefusesPoint c.args.self.now c.args.colour p Ko) (sym c.point_at.ensures)
    (ko-refused c.args.self.now c.args.colour c.in_ok-ko.ko.point (subst IsGame c.self.view_is c.self.invariant.game)
    (c.is_ko.ensures.0 c.if-is_ko.true))

pub returns-then-is_ko-clause-point : goal.returns-then-is_ko-clause-point
returns-then-is_ko-clause-point c =
    subst (λ (p : ℕ). IsOnlyKoPoint c.args.self.now c.args.colour (Some p)) (sym c.point_at.ensures)
    (only-kept c.args.self.now c.self.inside.ko c.in_ok-ko.ko c.args.colour c.in_ok-ko.was
    (subst (λ (g : GameRecord). IsKo g c.self.inside.ko) c.self.view_is c.self.invariant.ko_is)
    (c.is_ko.ensures.0 c.if-is_ko.true))
