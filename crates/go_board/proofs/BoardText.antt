-- The text of a board, as it is written from its front.
use Rattle.std.proofs.Common.{◌≡◌, ℕ, zero, suc, ◌+◌, ◌-◌, ◌≤◌, List, [], ◌∷◌, ◌++◌, length, map, reverse, Option, refl}
use Rattle.std.proofs.Common.{sym, ◌∙◌, ap, arith, append_assoc, append-nil, add-one}
use Rattle.std.specs.List.{range_with_len, flat_map, join_with_byte}
use Rattle.std.proofs.lemmas.List.{flat_map_more, reverse-append}
use Rattle.std.proofs.lemmas.List.FromFn.{map-range_with_len_more}
use Rattle.std.proofs.lemmas.Fmt.{length-decimal-le}
use Rattle.go_base.specs.Int.{written_int}
use Rattle.go_base.specs.Point.{point}
use Rattle.go_base.specs.Vertex.{letter_of}
use Rattle.go_base.specs.declared.colours.Colour.{Colour}
use Rattle.go_board.specs.Board.{stone_at}
use Rattle.go_board.specs.Game.{GameRecord, board_of}
use Rattle.go_board.specs.Show.{shown_point, shown_points, shown_row, shown_letters, shown_captures, rows_down}
use Rattle.go_board.specs.Show.{board_text}

-- ---- joined pieces

-- pieces in front of others
joined-front : {X : Type 0} (c : ℕ) (f : X → List ℕ) (xs : List X) (y : List ℕ) (ys : List (List ℕ))
    → join_with_byte c (map f xs ++ y ∷ ys) ≡ flat_map (λ x. f x ++ c ∷ []) xs ++ join_with_byte c (y ∷ ys)
joined-front c f [] y ys = refl
joined-front c f (x ∷ []) y ys =
    rw (append-nil (f x ++ c ∷ []), append_assoc (f x) (c ∷ []) (join_with_byte c (y ∷ ys))) refl
joined-front c f (x ∷ z ∷ xs) y ys =
    ap (λ t. f x ++ c ∷ t) (joined-front c f (z ∷ xs) y ys)
    ∙ sym (append_assoc (f x) (c ∷ []) _)
    ∙ sym (append_assoc (f x ++ c ∷ []) (flat_map (λ k. f k ++ c ∷ []) (z ∷ xs)) (join_with_byte c (y ∷ ys)))

-- one piece more at the end
joined-more : (c : ℕ) (x : List ℕ) (xs : List (List ℕ)) (y : List ℕ)
    → join_with_byte c (x ∷ xs ++ y ∷ []) ≡ join_with_byte c (x ∷ xs) ++ c ∷ y
joined-more c x [] y = refl
joined-more c x (z ∷ xs) y =
    ap (λ t. x ++ c ∷ t) (joined-more c z xs y) ∙ sym (append_assoc x (c ∷ join_with_byte c (z ∷ xs)) (c ∷ y))

-- ---- a row

-- a row's number has at most two digits
pub written_int-two : (row : ℕ) (digits : List ℕ) → row ≤ 25 → digits ≡ written_int row → length digits ≤ 2
written_int-two row digits most is = rw is (length-decimal-le 2 row (omega arith) (omega arith) (omega arith))

-- the points of a row before a column
unfoldable pub points_before : GameRecord → ℕ → ℕ → List ℕ
points_before game row column =
    flat_map (λ k. shown_point (stone_at (board_of game) (point k row))) (range_with_len 1 (column - 1))

pub points_before-first : (game : GameRecord) (row : ℕ) (text : List ℕ) → text ≡ text ++ points_before game row 1
unfolding points_before
points_before-first game row text = sym (append-nil text)

-- one number more
range-more : (a n : ℕ) → range_with_len a (n + 1) ≡ range_with_len a n ++ (a + n) ∷ []
range-more a zero = ap (λ k. k ∷ []) (omega arith)
range-more a (suc n) =
    ap (range_with_len a) (add-one (suc n))
    ∙ ap (λ l. a ∷ l) (ap (range_with_len (a + 1)) (sym (add-one n)) ∙ range-more (a + 1) n
    ∙ ap (λ k. range_with_len (a + 1) n ++ k ∷ []) (omega arith))

range-before : (column : ℕ) → 1 ≤ column
    → range_with_len 1 (column - 1) ++ column ∷ [] ≡ range_with_len 1 (column + 1 - 1)
range-before column least =
    ap (λ k. range_with_len 1 (column - 1) ++ k ∷ []) (omega arith) ∙ sym (range-more 1 (column - 1))
    ∙ ap (range_with_len 1) (omega arith)

-- one point more
pub points_before-more : (game : GameRecord) (row column mark : ℕ) (stone : Option Colour) (text : List ℕ) → 1 ≤ column
    → stone ≡ stone_at (board_of game) (point column row) → mark ∷ 32 ∷ [] ≡ shown_point stone
    → ((text ++ points_before game row column) ++ mark ∷ []) ++ 32 ∷ [] ≡ text ++ points_before game row (column + 1)
unfolding points_before
points_before-more game row column mark stone text least is shows =
    let f = λ (k : ℕ). shown_point (stone_at (board_of game) (point k row)) in
    let front = text ++ flat_map f (range_with_len 1 (column - 1)) in
    append_assoc front (mark ∷ []) (32 ∷ [])
    ∙ ap (λ p. front ++ p) (shows ∙ ap shown_point is)
    ∙ flat_map_more f text (range_with_len 1 (column - 1)) column
    ∙ ap (λ l. text ++ flat_map f l) (range-before column least)

pub points_before-all : (game : GameRecord) (row column : ℕ) (text : List ℕ) → column ≡ game.size + 1
    → text ++ points_before game row column ≡ text ++ shown_points game row
unfolding points_before shown_points
points_before-all game row column text past =
    ap (λ n. text ++ flat_map (λ k. shown_point (stone_at (board_of game) (point k row))) (range_with_len 1 n))
    (omega arith)

-- ---- the letters

-- the letters of the columns before a column
unfoldable pub letters_before : ℕ → List ℕ
letters_before column = join_with_byte 32 (map (λ k. letter_of k ∷ []) (range_with_len 1 (column - 1)))

pub letters_before-first : (text : List ℕ) → text ++ 65 ∷ [] ≡ text ++ letters_before 2
unfolding letters_before
letters_before-first text = refl

-- one letter more
joined-letters : (column : ℕ) → 2 ≤ column
    → letters_before column ++ 32 ∷ letter_of column ∷ [] ≡ letters_before (column + 1)
unfolding letters_before
joined-letters column least =
    let f = λ (k : ℕ). letter_of k ∷ [] in
    let m = column - 2 in
    ap (λ n. join_with_byte 32 (map f (range_with_len 1 n)) ++ 32 ∷ letter_of column ∷ [])
    (let e : column - 1 ≡ suc m = omega arith in e)
    ∙ sym (joined-more 32 (f 1) (map f (range_with_len 2 m)) (f column))
    ∙ ap (λ pieces. join_with_byte 32 (f 1 ∷ pieces)) (sym (map-range_with_len_more f 2 m column (omega arith)))
    ∙ ap (λ n. join_with_byte 32 (map f (range_with_len 1 n))) (let e : suc (m + 1) ≡ column + 1 - 1 = omega arith in e)

pub letters_before-more : (column : ℕ) (text : List ℕ) → 2 ≤ column
    → ((text ++ letters_before column) ++ 32 ∷ []) ++ letter_of column ∷ [] ≡ text ++ letters_before (column + 1)
letters_before-more column text least =
    append_assoc (text ++ letters_before column) (32 ∷ []) (letter_of column ∷ [])
    ∙ append_assoc text (letters_before column) (32 ∷ letter_of column ∷ [])
    ∙ ap (λ t. text ++ t) (joined-letters column least)

pub letters_before-all : (size column : ℕ) (text : List ℕ) → column ≡ size + 1
    → text ++ letters_before column ≡ text ++ shown_letters size
unfolding letters_before shown_letters
letters_before-all size column text past =
    ap (λ n. text ++ join_with_byte 32 (map (λ k. letter_of k ∷ []) (range_with_len 1 n))) (omega arith)

-- ---- the rows

-- the rows above a row, each with a newline after it
unfoldable pub rows_above : GameRecord → ℕ → List ℕ
rows_above game row = flat_map (λ k. shown_row game k ++ 10 ∷ []) (reverse (range_with_len (row + 1) (game.size - row)))

pub rows_above-first : (game : GameRecord) (row : ℕ) → row ≡ game.size → [] ≡ rows_above game row
unfolding rows_above
rows_above-first game row is =
    let none : 0 ≡ game.size - row = omega arith in
    ap (λ n. flat_map (λ k. shown_row game k ++ 10 ∷ []) (reverse (range_with_len (row + 1) n))) none

-- one row more
range-down : (size row : ℕ) → 1 ≤ row → row ≤ size
    → reverse (range_with_len (row + 1) (size - row)) ++ row ∷ []
    ≡ reverse (range_with_len (row - 1 + 1) (size - (row - 1)))
range-down size row least most =
    let first : row ≡ row - 1 + 1 = omega arith in
    let count : suc (size - row) ≡ size - (row - 1) = omega arith in
    sym (reverse-append (row ∷ []) (range_with_len (row + 1) (size - row)))
    ∙ ap (λ a. reverse (range_with_len a (suc (size - row)))) first
    ∙ ap (λ n. reverse (range_with_len (row - 1 + 1) n)) count

pub rows_above-more : (game : GameRecord) (row : ℕ) → 1 ≤ row → row ≤ game.size
    → (rows_above game row ++ shown_row game row) ++ 10 ∷ [] ≡ rows_above game (row - 1)
unfolding rows_above
rows_above-more game row least most =
    let f = λ (k : ℕ). shown_row game k ++ 10 ∷ [] in
    append_assoc (rows_above game row) (shown_row game row) (10 ∷ [])
    ∙ flat_map_more f [] (reverse (range_with_len (row + 1) (game.size - row))) row
    ∙ ap (flat_map f) (range-down game.size row least most)

-- all rows, the letters and the captures
pub board_text-from_front : (game : GameRecord) (row : ℕ) → row ≡ 0
    → ((rows_above game row ++ shown_letters game.size) ++ 10 ∷ []) ++ shown_captures game ≡ board_text game
unfolding rows_above board_text
board_text-from_front game row none =
    append_assoc (rows_above game row ++ shown_letters game.size) (10 ∷ []) (shown_captures game)
    ∙ append_assoc (rows_above game row) (shown_letters game.size) (10 ∷ shown_captures game)
    ∙ ap (λ k. flat_map (λ k. shown_row game k ++ 10 ∷ []) (reverse (range_with_len (k + 1) (game.size - k)))
    ++ (shown_letters game.size ++ 10 ∷ shown_captures game)) none
    ∙ ap (λ n. flat_map (λ k. shown_row game k ++ 10 ∷ []) (reverse (range_with_len 1 n))
    ++ (shown_letters game.size ++ 10 ∷ shown_captures game)) (let e : game.size - 0 ≡ game.size = omega arith in e)
    ∙ sym (joined-front 10 (shown_row game) (rows_down game.size) (shown_letters game.size) (shown_captures game ∷ []))
