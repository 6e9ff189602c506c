-- How many stones of a colour are on a board, where one is placed or removed.
use Rattle.std.proofs.Common.{◌≡◌, ℕ, ◌+◌, ◌-◌, ◌<◌, ◌≤◌, List, length, refl, ◌∙◌, ap, arith}
use Rattle.std.proofs.Common.{get_or-set_other, get_or-set_same}
use Rattle.std.proofs.Math.ListN.{set}
use Rattle.go_base.specs.declared.colours.Colour.{Colour}
use Rattle.go_base.specs.declared.colours.Colour.TheVariants as colour
use Rattle.go_board.specs.Board.{at}
use Rattle.go_board.specs.declared.board.Cell.{Cell}
use Rattle.go_board.specs.declared.board.Cell.TheVariants.{Edge, Empty, Black, White}
use Rattle.go_board.specs.private.Areas.{one_of, stones_on}
use Rattle.go_board.proofs.Sums.{total-changed, total-at_least, total-at_most}
use Rattle.go_board.proofs.scores.OpenPoints.{stones-total}

one-few : (c : Colour) (x : Cell) → one_of c x ≤ 1
one-few colour.Black Black = omega arith
one-few colour.Black White = omega arith
one-few colour.Black Empty = omega arith
one-few colour.Black Edge = omega arith
one-few colour.White Black = omega arith
one-few colour.White White = omega arith
one-few colour.White Empty = omega arith
one-few colour.White Edge = omega arith

none-empty : (c : Colour) → one_of c Empty ≡ 0
none-empty colour.Black = refl
none-empty colour.White = refl

pub stones-few : (board : List Cell) (c : Colour) → stones_on board c ≤ 702
stones-few board c =
    let most = total-at_most (λ p. one_of c (at board p)) 1 702 (λ p. one-few c (at board p)) in
    omega (arith, most, stones-total board c)

-- another thing on a place
stones-set : (board : List Cell) (c : Colour) (p : ℕ) (x : Cell) → length board ≡ 702 → p < 702
    → stones_on (set board p x) c + one_of c (at board p) ≡ stones_on board c + one_of c x
stones-set board c p x long below =
    let within : p < length board = omega (arith, long, below) in
    let here = ap (one_of c) (get_or-set_same board p x Edge within) in
    let changed = total-changed (λ q. one_of c (at (set board p x) q)) (λ q. one_of c (at board q)) p 702 below
    (λ q away. ap (one_of c) (get_or-set_other board p q x Edge away)) in
    omega (arith, changed, here, stones-total board c, stones-total (set board p x) c)

-- a stone more
pub stones-placed : (board : List Cell) (c : Colour) (p : ℕ) (x : Cell) (had now : ℕ) → length board ≡ 702 → p < 702
    → at board p ≡ Empty → had ≡ stones_on board c → now ≡ had + one_of c x → now ≡ stones_on (set board p x) c
stones-placed board c p x had now long below empty is more =
    let none = ap (one_of c) empty ∙ none-empty c in
    omega (arith, none, is, more, stones-set board c p x long below)

-- as many as the place has
pub enough-stones : (board : List Cell) (c : Colour) (p had : ℕ) → p < 702 → had ≡ stones_on board c
    → one_of c (at board p) ≤ had
enough-stones board c p had below is =
    let least = total-at_least (λ q. one_of c (at board q)) p 702 below in
    omega (arith, least, is, stones-total board c)

-- a stone less
pub stones-removed : (board : List Cell) (c : Colour) (p had now : ℕ) → length board ≡ 702 → p < 702
    → had ≡ stones_on board c → now ≡ had - one_of c (at board p) → now ≡ stones_on (set board p Empty) c
stones-removed board c p had now long below is less =
    let enough = enough-stones board c p had below is in
    omega (arith, enough, none-empty c, is, less, stones-set board c p Empty long below)
