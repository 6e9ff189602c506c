-- One of the sides, borrowed to be changed.
use Rattle.std.specs.Borrow.{Lends, MutBor, Fml}
use Rattle.go_base.specs.declared.colours.Colour.{Colour}
use Rattle.gtp_match.specs.Sides.{with_side}
use Rattle.gtp_match.specs.contracts.sides.SideState.{the_row as side_row}
use Rattle.gtp_match.specs.contracts.sides.Sides.{the_row as sides_row}
use Rattle.gtp_match.specs.declared.sides.SideState.{SideState}
use Rattle.gtp_match.specs.declared.sides.Sides.{Sides}

-- the sides end with the last value of the reference in place of one of them
abbrev pub BorrowsSide : MutBor Sides → Colour → MutBor SideState → Fml
BorrowsSide sides side borrowed = Lends sides_row side_row sides borrowed (λ state. with_side side state sides.now)
