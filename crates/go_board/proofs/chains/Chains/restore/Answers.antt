use Rattle.std.proofs.Common.{◌≡◌, ◌∙◌, ap, arith, subst, sym, List}
use Rattle.go_board.specs.Board.{at, stone}
use Rattle.go_board.specs.private.TakenStack.{IsRestored}
use Rattle.go_board.specs.declared.board.Cell.{Cell}
use Rattle.go_board.specs.declared.board.Cell.TheVariants.{Empty}
use Rattle.go_board.specs.declared.taken_stack.TakenStone.{TakenStone}
use Rattle.go_board.proofs.boards.Cells.{empty-point}
use Rattle.go_board.proofs.undo.RestoredStones.{popped-empty, IsRestoring-more, count-few, IsRestoring-done}
use Rattle.go_board.proofs.chains.Chains.restore.Goals as goal

pub place_stone-requires-clause-empty : goal.place_stone-requires-clause-empty
place_stone-requires-clause-empty c =
    popped-empty c.args.self.now
    (stone c.args.colour) c.args.number c.in-Some.place c.loop-place.count c.args.stack.now c.loop-place.stack
    c.pop_taken_by.new.self c.loop-place.self
    c.requires c.loop-place.invariant c.in-Some.ensures.some

pub place_stone-requires-clause-point : goal.place_stone-requires-clause-point
place_stone-requires-clause-point c =
    let empty : at c.loop-place.self c.in-Some.place ≡ Empty =
    popped-empty c.args.self.now
    (stone c.args.colour) c.args.number c.in-Some.place c.loop-place.count c.args.stack.now c.loop-place.stack
    c.pop_taken_by.new.self c.loop-place.self
    c.requires c.loop-place.invariant c.in-Some.ensures.some in
    c.self.invariant.framed.inside c.in-Some.place
    (empty-point c.self.inside.stones.board c.in-Some.place
    (ap (λ (b : List Cell). at b c.in-Some.place) c.self.view_is ∙ empty))

pub overflow_add-count : goal.overflow_add-count
overflow_add-count c =
    let few =
    count-few c.args.self.now
    (stone c.args.colour) c.args.number c.loop-place.count c.args.stack.now c.loop-place.stack
    c.loop-place.self c.loop-place.invariant in
    omega (arith, few)

pub loop-place-preserved : goal.loop-place-preserved
loop-place-preserved c =
    IsRestoring-more c.args.self.now
    (stone c.args.colour) c.args.number c.in-Some.place c.loop-place.count c.args.stack.now c.loop-place.stack
    c.pop_taken_by.new.self
    c.loop-place.self c.place_stone.new.self c.loop-place.invariant c.in-Some.ensures.some
    c.pop_taken_by.ensures.few c.place_stone.ensures

pub returns : goal.returns
returns c =
    subst (λ (left : List TakenStone). IsRestored c.args.self.now
    (stone c.args.colour) c.args.number c.args.stack.now left c.loop-place.self c.loop-place.count)
    (sym c.in_default.ensures.unchanged)
    (IsRestoring-done c.args.self.now
    (stone c.args.colour) c.args.number c.loop-place.count c.args.stack.now c.loop-place.stack
    c.loop-place.self
    c.loop-place.invariant c.in_default.ensures.none)
