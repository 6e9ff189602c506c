-- Whether a stone is on the board, row by row.
use Rattle.std.proofs.Common.{◌≡◌, ℕ, ◌≤◌, true, false, refl, sym, ◌∙◌, ap, subst, arith}
use Rattle.std.specs.Prelude.{Option, Some, None, is_some}
use Rattle.go_base.specs.Point.{point, column_of, row_of, IsOn}
use Rattle.go_base.specs.declared.colours.Colour.{Colour}
use Rattle.go_base.specs.declared.colours.Colour.TheVariants as colour
use Rattle.go_board.specs.declared.board.Cell.{Cell}
use Rattle.go_board.specs.declared.board.Cell.TheVariants.{Edge, Empty, Black, White}
use Rattle.go_board.specs.Board.{at, stone, stone_of, stone_at, IsStone, HasStone}
use Rattle.go_board.specs.Game.{GameRecord, IsGame, board_of}
use Rattle.go_board.proofs.boards.Cells.{stone-point}
use Rattle.go_board.proofs.records.EveryGame.{IsOrderly-game}
use Rattle.gtp_check_texts.specs.Board.{IsBlankRow}

-- what has a colour is a stone
some-stone : (this : Cell) → is_some (stone_of this) ≡ true → IsStone this
some-stone Edge e = cc
some-stone Empty e = cc
some-stone Black e = (colour.Black, refl)
some-stone White e = (colour.White, refl)

-- a stone was seen
pub stone-seen : (game : GameRecord) (p : ℕ) (seen : Option Colour) → seen ≡ stone_at (board_of game) p
    → is_some seen ≡ true → HasStone (board_of game)
stone-seen game p seen is some =
    record { place = p; stone = some-stone (at (board_of game) p) (ap is_some (sym is) ∙ some) }

pub none-seen : (seen : Option Colour) → is_some seen ≡ false → seen ≡ None
none-seen None e = refl
none-seen (Some c) e = cc

no-stone : (this : Cell) → stone_of this ≡ None → IsStone this → ⊥
no-stone this none s = by_colour s.0 (ap stone_of (sym s.1) ∙ none)
  where
    by_colour : (c : Colour) → stone_of (stone c) ≡ None → ⊥
    by_colour colour.Black e = cc
    by_colour colour.White e = cc

-- where each row is blank there is no stone
pub blank-rows : (game : GameRecord) → IsGame game
    → ((row : ℕ) → 1 ≤ row → row ≤ game.size → IsBlankRow game row) → HasStone (board_of game) → ⊥
blank-rows game g blank h =
    let p = h.place in
    let c = h.stone.0 in
    let holds : at (board_of game) p ≡ stone c = h.stone.1 in
    let on : IsOn game.size p = ((IsOrderly-game game g).has_size p).0 (λ e. stone-point c (sym holds ∙ e)) in
    let crossing : point (column_of p) (row_of p) ≡ p = omega arith in
    no-stone (at (board_of game) p)
    (subst (λ (q : ℕ). stone_at (board_of game) q ≡ None) crossing
    (blank (row_of p) on.bottom on.top (column_of p) on.left on.right)) h.stone
