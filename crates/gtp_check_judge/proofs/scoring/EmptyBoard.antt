-- The score of a board without a stone is that of komi alone.
use Rattle.std.proofs.Common.{◌≡◌, ℕ, ◌<◌, Bool, true, false, List, [], ◌∷◌}
use Rattle.std.proofs.Common.{refl, sym, ◌∙◌, ap, arith, inl, inr}
use Rattle.std.specs.Prelude.{ℤ, pos, neg_ℤ, ◌*ℤ◌, ◌-ℤ◌, count_by, if◌then◌else◌}
use Rattle.std.proofs.lemmas.Int.{ints}
use Rattle.go_base.specs.declared.colours.Colour.{Colour}
use Rattle.go_board.specs.declared.board.Cell.{Cell}
use Rattle.go_board.specs.declared.board.Cell.TheVariants.{Edge, Empty}
use Rattle.go_board.specs.Board.{at, stone, empty_board, is_point, place_count}
use Rattle.go_board.specs.Game.{GameRecord, board, board_of, start}
use Rattle.go_board.specs.Area.{is_counted, area, score}
use Rattle.go_board.proofs.boards.Cells.{stone-point, stone-filled}
use Rattle.go_board.proofs.captures.CapturedStones.{in_list}
use Rattle.go_board.proofs.boards.EmptyBoard.{at-empty_board, length-empty_board}
use Rattle.go_board.proofs.boards.FirstBoard.{start-none}
use Rattle.go_board.specs.Counting.{CountsFor}
use Rattle.go_board.specs.decisions.Counting.{counts_for?}
use Rattle.go_base.specs.Decide.{holds}
use Rattle.std.specs.List.{range_with_len}
use Rattle.gtp_check_judge.specs.Dues.{IsFresh}
use Rattle.go_base.specs.declared.colours.Colour.TheVariants as colour

blank : (size : ℕ) (c : Colour) (q : ℕ) → at (empty_board size) q ≡ stone c → ⊥
blank size c q h =
    let inside = in_list (empty_board size) q (λ e. stone-point c (sym h ∙ e)) in
    let below : q < 702 = omega (arith, inside, length-empty_board size) in
    by (is_point size q) (sym (at-empty_board size q below) ∙ h)
  where
    by : (b : Bool) → (if b then Empty else Edge) ≡ stone c → ⊥
    by true e = stone-filled c (sym e)
    by false e = stone-point c (sym e)

none_count : (size : ℕ) (c : Colour) (q : ℕ) → CountsFor (empty_board size) c q → ⊥
none_count size c q (inl h) = blank size c q h
none_count size c q (inr h) = blank size c h.1.0.beside.place h.1.0.beside.holds

not_counted : (size : ℕ) (c : Colour) (q : ℕ) → is_counted (empty_board size) c q ≡ false
not_counted size c q = by (counts_for? (empty_board size) c q)
  where
    by : (d : Dec (CountsFor (empty_board size) c q)) → holds d ≡ false
    by (yes h) = absurd (none_count size c q h)
    by (no _) = refl

count_none : (f : ℕ → Bool) (list : List ℕ) → ((q : ℕ) → f q ≡ false) → count_by f list ≡ 0
count_none f [] none = refl
count_none f (q ∷ list) none = rw (none q) (count_none f list none)

no_area : (size : ℕ) (c : Colour) → area (empty_board size) c ≡ 0
unfolding area
no_area size c = count_none (is_counted (empty_board size) c) (range_with_len 0 place_count) (not_counted size c)

fresh_board : (game : GameRecord) → IsFresh game → board_of game ≡ empty_board game.size
unfolding board start
fresh_board game fresh =
    ap (λ moves. board game.size game.handicap moves) fresh.no_moves
    ∙ nothing game.handicap fresh.no_handicap
  where
    nothing : (handicap : ℕ) → handicap ≡ 0 → board game.size handicap [] ≡ empty_board game.size
    nothing handicap none = ap (start game.size) none ∙ start-none game.size

by_komi : (komi : ℤ) → (pos 2 *ℤ (pos 0 -ℤ pos 0)) -ℤ komi ≡ neg_ℤ komi
by_komi komi = omega (arith, ints)

pub score_fresh : (game : GameRecord) → IsFresh game → score game ≡ neg_ℤ game.komi
unfolding score
score_fresh game fresh =
    let is = fresh_board game fresh in
    ap (λ (b : List Cell). (pos 2 *ℤ (pos (area b colour.Black) -ℤ pos (area b colour.White))) -ℤ game.komi) is
    ∙ ap (λ (n : ℕ). (pos 2 *ℤ (pos n -ℤ pos (area (empty_board game.size) colour.White))) -ℤ game.komi)
    (no_area game.size colour.Black)
    ∙ ap (λ (n : ℕ). (pos 2 *ℤ (pos 0 -ℤ pos n)) -ℤ game.komi) (no_area game.size colour.White)
    ∙ by_komi game.komi
