use Rattle.std.proofs.Common.{sym, subst}
use Rattle.std.specs.Prelude.{Option}
use Rattle.go_board.specs.private.Ko.{IsKoAfter}
use Rattle.go_board.specs.declared.ko.Ko.{Ko}
use Rattle.go_board.proofs.ko_rules.KoPointsFound.{ko_after-pass, ko_after-none, ko_after-one}
use Rattle.go_board.proofs.ko.ko_after.Goals as goal

pub returns-in_default : goal.returns-in_default
returns-in_default c =
    ko_after-pass c.args.moves.now c.in_ok-last.earlier.now c.in_ok-last.last.now c.args.stack.now
    c.in_ok-last.ensures.cases.0 c.in_default.is

pub returns-in_err-point : goal.returns-in_err-point
returns-in_err-point c =
    subst (λ (k : Option Ko). IsKoAfter c.args.moves.now c.args.stack.now k)
    (sym c.from_residual-in_err-point.ensures)
    (ko_after-none c.args.moves.now c.in_ok-last.earlier.now c.in_ok-last.last.now c.args.stack.now c.in-At.stone
    c.in_ok-last.ensures.cases.0 c.in-At.is c.in_err-point.ensures.none)

pub returns : goal.returns
returns c =
    ko_after-one c.args.moves.now c.in_ok-last.earlier.now c.in_ok-last.last.now c.args.stack.now c.in-At.stone
    c.in_ok-point.point c.in_ok-last.ensures.cases.0 c.in-At.is c.in_ok-point.ensures.some
