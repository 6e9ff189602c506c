use Rattle.std.proofs.Common.{◌*◌, arith}
use Rattle.go_base.specs.declared.colours.Colour.TheVariants.{Black, White}
use Rattle.go_board.proofs.floods.Beside.{known-none}
use Rattle.go_board.proofs.scores.OpenPoints.{below-none, below-few}
use Rattle.go_board.proofs.board.Board.open_area.Goals as goal

pub loop-row-init : goal.loop-row-init
loop-row-init c = record {
  so_far = record { black = below-none c.args.self.now Black; white = below-none c.args.self.now White };
  known_is = known-none c.args.self.now c.new-regions.result.known c.new-regions.ensures;
}

pub returns-clause-black : goal.returns-clause-black
returns-clause-black c =
    let is = c.loop-row.invariant.so_far.black in
    let few = below-few c.args.self.now Black (26 * c.loop-row.row) in
    let end = c.loop-row.auto.row-end in
    omega (arith, is, few, end)

pub returns-clause-white : goal.returns-clause-white
returns-clause-white c =
    let is = c.loop-row.invariant.so_far.white in
    let few = below-few c.args.self.now White (26 * c.loop-row.row) in
    let end = c.loop-row.auto.row-end in
    omega (arith, is, few, end)
