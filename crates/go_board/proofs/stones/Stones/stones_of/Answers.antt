use Rattle.std.proofs.Common.{arith}
use Rattle.go_base.specs.declared.colours.Colour.TheVariants.{Black, White}
use Rattle.go_board.proofs.liberties.StoneNumbers.{stones-few}
use Rattle.go_board.proofs.stones.Stones.stones_of.Goals as goal

pub returns-in-Black-clause-few : goal.returns-in-Black-clause-few
returns-in-Black-clause-few c =
    let is = c.self.invariant.black_is in
    omega (arith, is, stones-few c.self.inside.board Black)

pub returns-in-White-clause-few : goal.returns-in-White-clause-few
returns-in-White-clause-few c =
    let is = c.self.invariant.white_is in
    omega (arith, is, stones-few c.self.inside.board White)
