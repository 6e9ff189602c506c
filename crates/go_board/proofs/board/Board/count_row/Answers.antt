use Rattle.std.proofs.Common.{◌+◌, ◌*◌, subst, arith}
use Rattle.go_base.specs.declared.colours.Colour.TheVariants.{Black, White}
use Rattle.go_board.specs.private.Columns.{IsFirst}
use Rattle.go_board.proofs.scores.OpenPoints.{row-begun, row-more, row-done, below-few}
use Rattle.go_board.proofs.board.Board.count_row.Goals as goal

pub loop-column-init : goal.loop-column-init
loop-column-init c =
    row-begun c.args.self.now c.args.row c.empty_in_row-empty.result c.args.area.now c.args.regions.now.known
    c.requires.before c.empty_in_row-empty.ensures c.requires.known

pub overflow_add-area : goal.overflow_add-area
overflow_add-area c =
    let counted = c.loop-column.invariant.black in
    let few = below-few c.args.self.now Black (26 * (c.args.row + 1)) in
    let one = c.alone.ensures.few in
    let row = c.requires.row in
    omega (arith, counted, few, one, row)

pub overflow_add-area-in-Some : goal.overflow_add-area-in-Some
overflow_add-area-in-Some c =
    let counted = c.loop-column.invariant.white in
    let few = below-few c.args.self.now White (26 * (c.args.row + 1)) in
    let one = c.alone-in-Some.ensures.few in
    let row = c.requires.row in
    omega (arith, counted, few, one, row)

pub loop-column-preserved : goal.loop-column-preserved
loop-column-preserved c =
    row-more c.args.self.now c.args.row c.loop-column.empty c.pop_first.new.self c.in-Some.column c.alone.result
    c.alone-in-Some.result c.loop-column.area c.loop-column.regions.known c.beside_empty-beside.new.regions.known
    c.beside_empty-beside.result
    (subst (IsFirst c.loop-column.empty c.pop_first.new.self) c.in-Some.is c.pop_first.ensures)
    c.beside_empty-beside.ensures.beside c.alone.ensures.value c.alone-in-Some.ensures.value
    c.beside_empty-beside.ensures.known c.loop-column.invariant

pub returns-clause-after : goal.returns-clause-after
returns-clause-after c =
    row-done c.args.self.now c.args.row c.loop-column.empty c.pop_first.new.self c.loop-column.area
    c.loop-column.regions.known
    (subst (IsFirst c.loop-column.empty c.pop_first.new.self) c.in_default.is c.pop_first.ensures)
    c.loop-column.invariant
