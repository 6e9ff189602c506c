-- Places and their stones.
use Rattle.std.proofs.Common.{◌≡◌, ℕ, List, sym, ◌∙◌, subst, inl, inr, get_or-set_other}
use Rattle.std.specs.Prelude.{◌≢◌}
use Rattle.std.proofs.Math.ListN.{set, length-set}
use Rattle.go_base.specs.Colour.{other}
use Rattle.go_base.specs.Point.{IsOn}
use Rattle.go_base.specs.Size.{most_size}
use Rattle.go_base.specs.declared.colours.Colour.{Colour}
use Rattle.go_base.specs.declared.colours.Colour.TheVariants as colour
use Rattle.go_board.specs.Board.{at, stone}
use Rattle.go_board.specs.private.Frame.{IsFramed}
use Rattle.go_board.specs.declared.board.Cell.{Cell}
use Rattle.go_board.specs.declared.board.Cell.TheVariants.{Edge, Empty}
use Rattle.std.proofs.lemmas.Bool.{cases_eq}

pub stone-point : (c : Colour) → stone c ≢ Edge
stone-point colour.Black = λ e. cc
stone-point colour.White = λ e. cc

pub stone-filled : (c : Colour) → stone c ≢ Empty
stone-filled colour.Black = λ e. cc
stone-filled colour.White = λ e. cc

pub stone-differs : (c : Colour) → stone c ≢ stone (other c)
stone-differs colour.Black = λ e. cc
stone-differs colour.White = λ e. cc

-- what a point holds may change
pub IsFramed-set : (board : List Cell) (p : ℕ) (x : Cell) → at board p ≢ Edge → IsFramed board
    → IsFramed (set board p x)
IsFramed-set board p x point f = record {
  length_is = length-set board p x ∙ f.length_is;
  inside = λ q held. elim (cases_eq q p) [
    | inl same ↦ subst (λ r. IsOn most_size r) (sym same) (f.inside p point)
    | inr another ↦ f.inside q (λ e. held (get_or-set_other board p q x Edge another ∙ e))
  ];
}

pub empty-point : (board : List Cell) (p : ℕ) → at board p ≡ Empty → at board p ≢ Edge
empty-point board p empty e = cc
