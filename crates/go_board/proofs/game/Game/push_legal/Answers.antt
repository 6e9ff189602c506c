use Rattle.std.proofs.Common.{ℕ, ◌+◌, ◌*◌, ◌++◌, ◌∷◌, [], ap, ◌∙◌, subst}
use Rattle.go_board.specs.Game.{IsGame}
use Rattle.go_board.specs.private.Columns.{IsFirst}
use Rattle.go_board.proofs.records.LegalPoints.{legal-on}
use Rattle.go_board.proofs.records.RowsOfPoints.{pushed-next, pushed-all}
use Rattle.go_board.proofs.game.Game.push_legal.Goals as goal

pub point_in-requires-clause-point : goal.point_in-requires-clause-point
point_in-requires-clause-point c =
    let first = subst (IsFirst c.loop-column.legal c.pop_first.new.self) c.in-Some.is c.pop_first.ensures in
    legal-on c.args.self.now c.args.colour (26 * c.args.row + c.in-Some.column)
    (subst IsGame c.self.view_is c.self.invariant.game)
    ((c.loop-column.invariant.left_is c.in-Some.column).0 first.0).2

pub loop-column-preserved : goal.loop-column-preserved
loop-column-preserved c =
    pushed-next c.args.self.now c.args.colour c.args.row c.in-Some.column c.loop-column.legal c.pop_first.new.self
    c.loop-column.points.items c.push.new.self.items
    (subst IsGame c.self.view_is c.self.invariant.game)
    c.loop-column.invariant
    (subst (IsFirst c.loop-column.legal c.pop_first.new.self) c.in-Some.is c.pop_first.ensures)
    (c.push.ensures.items ∙ ap (λ (q : ℕ). c.loop-column.points.items ++ q ∷ []) c.point_in.ensures)

pub returns : goal.returns
returns c =
    pushed-all c.args.self.now c.args.colour c.args.row c.loop-column.legal c.pop_first.new.self
    c.loop-column.points.items c.loop-column.invariant
    (subst (IsFirst c.loop-column.legal c.pop_first.new.self) c.in_default.is c.pop_first.ensures)
