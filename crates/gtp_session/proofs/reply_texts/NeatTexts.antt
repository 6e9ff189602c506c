-- Texts that a reply may have.
use Rattle.std.proofs.Common.{◌≡◌, ℕ, zero, suc, ◌+◌, ◌*◌, ◌/◌, ◌%◌, ◌<◌, ◌≤◌, List, [], ◌∷◌, ◌++◌, length, map}
use Rattle.std.proofs.Common.{reverse, Bool, true, false, cond, eqb, Option, Some, None, refl, ◌∙◌, ap, arith}
use Rattle.std.proofs.Common.{append-nil, length-append, lit≤, lit<}
use Rattle.std.specs.Prelude.{codes, All, ℤ, pos, negsuc}
use Rattle.std.specs.List.{range_with_len, flat_map, join_with_byte, list_all, AllByRecursion}
use Rattle.std.specs.Fmt.{digits, digits_onto, digit_glyph}
use Rattle.std.proofs.lemmas.Bool.Decides.{nat_tests}
use Rattle.std.proofs.lemmas.List.{reverse-append, length-reverse}
use Rattle.std.proofs.lemmas.List.FromFn.{length-range_with_len}
use Rattle.std.proofs.lemmas.List.Elements.{recursion_from_All}
use Rattle.std.proofs.lemmas.Fmt.{length-decimal-le}
use Rattle.go_base.specs.HalfPoints.{written_points, score_text}
use Rattle.go_base.specs.Handicap.{AllowsHandicap, handicap_points}
use Rattle.go_base.specs.Int.{written_int}
use Rattle.go_base.specs.Point.{point, column_of, row_of, IsOn}
use Rattle.go_base.specs.Size.{IsSize}
use Rattle.go_base.specs.Vertex.{letter_of, written_vertex}
use Rattle.go_base.specs.declared.vertices.Vertex.{Vertex}
use Rattle.go_base.specs.declared.vertices.Vertex.TheVariants.{Pass, At}
use Rattle.go_base.specs.declared.colours.Colour.{Colour}
use Rattle.go_base.specs.declared.colours.Colour.TheVariants.{Black, White}
use Rattle.go_base.proofs.board_points.HandicapPoints.{handicap_sound}
use Rattle.go_board.specs.Board.{stone_at}
use Rattle.go_board.specs.Game.{GameRecord, board_of, IsLegal}
use Rattle.go_board.specs.Taken.{taken}
use Rattle.go_board.specs.Show.{shown_point, shown_points, shown_row, shown_letters, shown_captures, rows_down}
use Rattle.go_board.specs.Show.{board_text}
use Rattle.gtp_wire.specs.Bytes.{is_newline, is_blank}
use Rattle.go_base.proofs.general.Lists.{AllByRecursion-append}
use Rattle.gtp_wire.specs.Replies.{has_two_newlines, is_shown, begins_blank, IsReplyText}

-- ---- neat texts: bytes 33 to 126, with at most one space or newline between each two

-- a byte that is shown and isn't blank
pub record IsInk (b : ℕ) : Type 0 where
  pub least : 33 ≤ b
  pub most : b ≤ 126

-- a space or a newline
pub data IsGap : ℕ → Type 0 where
  space : IsGap 32
  newline : IsGap 10

pub data IsNeat : List ℕ → Type 0 where
  last : {b : ℕ} → IsInk b → IsNeat (b ∷ [])
  ink : {b : ℕ} {t : List ℕ} → IsInk b → IsNeat t → IsNeat (b ∷ t)
  gap : {b g : ℕ} {t : List ℕ} → IsInk b → IsGap g → IsNeat t → IsNeat (b ∷ g ∷ t)

-- one after the other
pub neat-append : (a b : List ℕ) → IsNeat a → IsNeat b → IsNeat (a ++ b)
neat-append [] b n nb = elim n [ ]
neat-append (x ∷ []) b (last i) nb = ink i nb
neat-append (x ∷ t) b (ink i n) nb = ink i (neat-append t b n nb)
neat-append (x ∷ g ∷ t) b (gap i s n) nb = gap i s (neat-append t b n nb)

-- one after the other, with a space or a newline between
pub neat-apart : (a : List ℕ) (g : ℕ) (b : List ℕ) → IsNeat a → IsGap g → IsNeat b → IsNeat (a ++ g ∷ b)
neat-apart [] g b n s nb = elim n [ ]
neat-apart (x ∷ []) g b (last i) s nb = gap i s nb
neat-apart (x ∷ t) g b (ink i n) s nb = ink i (neat-apart t g b n s nb)
neat-apart (x ∷ h ∷ t) g b (gap i r n) s nb = gap i r (neat-apart t g b n s nb)

-- a word
pub neat-word : (b : ℕ) (w : List ℕ) → AllByRecursion IsInk (b ∷ w) → IsNeat (b ∷ w)
neat-word b [] all = last all.0
neat-word b (c ∷ w) all = ink all.0 (neat-word c w all.1)

-- pieces with a space or a newline between each two
pub neat-joined : (g : ℕ) (piece : List ℕ) (pieces : List (List ℕ)) → IsGap g → AllByRecursion IsNeat (piece ∷ pieces)
    → IsNeat (join_with_byte g (piece ∷ pieces))
neat-joined g piece [] s all = all.0
neat-joined g piece (next ∷ pieces) s all =
    neat-apart piece g (join_with_byte g (next ∷ pieces)) all.0 s (neat-joined g next pieces s all.1)

-- ---- a neat text is one that a reply may have

ink-shown : (b : ℕ) → IsInk b → is_shown b ≡ true
ink-shown b i = let least : 33 ≤ b = i.least in let most : b ≤ 126 = i.most in grind (arith, nat_tests)

ink-blank : (b : ℕ) → IsInk b → is_blank b ≡ false
ink-blank b i = let least : 33 ≤ b = i.least in grind (arith, nat_tests)

ink-newline : (b : ℕ) → IsInk b → is_newline b ≡ false
ink-newline b i = let least : 33 ≤ b = i.least in grind (arith, nat_tests)

gap-shown : (g : ℕ) → IsGap g → is_shown g ≡ true
gap-shown g space = refl
gap-shown g newline = refl

neat-shown : (t : List ℕ) → IsNeat t → list_all is_shown t ≡ true
neat-shown [] n = elim n [ ]
neat-shown (x ∷ []) (last i) = rw (ink-shown x i) refl
neat-shown (x ∷ t) (ink i n) = rw (ink-shown x i) (neat-shown t n)
neat-shown (x ∷ g ∷ t) (gap i s n) = rw (ink-shown x i, gap-shown g s) (neat-shown t n)

neat-front : (b : ℕ) (t : List ℕ) → IsNeat (b ∷ t) → IsInk b
neat-front b [] (last i) = i
neat-front b t (ink i n) = i
neat-front b (g ∷ t) (gap i s n) = i

neat-single : (t : List ℕ) → IsNeat t → has_two_newlines t ≡ false
neat-single [] n = elim n [ ]
neat-single (x ∷ []) n = refl
neat-single (x ∷ y ∷ t) (ink i n) = rw (ink-newline x i) (neat-single (y ∷ t) n)
neat-single (x ∷ g ∷ []) (gap i s n) = elim n [ ]
neat-single (x ∷ g ∷ y ∷ t) (gap i s n) =
    rw (ink-newline x i) (no_second g y t s (ink-newline y (neat-front y t n)) (neat-single (y ∷ t) n))
  where
    no_second : (h z : ℕ) (u : List ℕ) → IsGap h → is_newline z ≡ false → has_two_newlines (z ∷ u) ≡ false
        → has_two_newlines (h ∷ z ∷ u) ≡ false
    no_second h z u space other single = single
    no_second h z u newline other single = rw other single

-- the last byte
record HasLast (t : List ℕ) : Type 0 where
  front : List ℕ
  byte : ℕ
  is_ink : IsInk byte
  is : t ≡ front ++ byte ∷ []

neat-last : (t : List ℕ) → IsNeat t → HasLast t
neat-last [] n = elim n [ ]
neat-last (x ∷ []) (last i) = record { front = []; byte = x; is_ink = i; is = refl }
neat-last (x ∷ t) (ink i n) =
    let e = neat-last t n in
    record { front = x ∷ e.front; byte = e.byte; is_ink = e.is_ink; is = ap (λ u. x ∷ u) e.is }
neat-last (x ∷ g ∷ t) (gap i s n) =
    let e = neat-last t n in
    record { front = x ∷ g ∷ e.front; byte = e.byte; is_ink = e.is_ink; is = ap (λ u. x ∷ g ∷ u) e.is }

neat-begins : (t : List ℕ) → IsNeat t → begins_blank t ≡ false
neat-begins [] n = elim n [ ]
neat-begins (x ∷ t) n = ink-blank x (neat-front x t n)

neat-ends : (t : List ℕ) → IsNeat t → begins_blank (reverse t) ≡ false
neat-ends t n =
    let e = neat-last t n in
    ap begins_blank (ap reverse e.is ∙ reverse-append e.front (e.byte ∷ [])) ∙ ink-blank e.byte e.is_ink

pub IsReplyText-neat : (t : List ℕ) → length t ≤ 2000 → IsNeat t → IsReplyText t
IsReplyText-neat t few n =
    record {
      fits = few;
      shown = neat-shown t n;
      single = neat-single t n;
      front = neat-begins t n;
      end = neat-ends t n;
    }

-- ---- numbers

digit-ink : (n : ℕ) → IsInk (digit_glyph false (n % 10))
digit-ink n = record { least = grind (arith, nat_tests); most = grind (arith, nat_tests) }

either_ink : (b : Bool) (s t : List ℕ) → AllByRecursion IsInk s → AllByRecursion IsInk t
    → AllByRecursion IsInk (cond b s t)
either_ink true s t hs ht = hs
either_ink false s t hs ht = ht

digits_onto-ink : (k n : ℕ) (acc : List ℕ) → AllByRecursion IsInk acc
    → AllByRecursion IsInk (digits_onto k 10 false n acc)
digits_onto-ink zero n acc all = all
digits_onto-ink (suc k) n acc all =
    let d = digit_glyph false (n % 10) in
    let more : AllByRecursion IsInk (d ∷ acc) = (digit-ink n, all) in
    either_ink (eqb (n / 10) 0) (d ∷ acc) (digits_onto k 10 false (n / 10) (d ∷ acc)) more
    (digits_onto-ink k (n / 10) (d ∷ acc) more)

either_some : (b : Bool) (s t : List ℕ) → 0 < length s → 0 < length t → 0 < length (cond b s t)
either_some true s t hs ht = hs
either_some false s t hs ht = ht

digits_onto-some : (k n : ℕ) (acc : List ℕ) → 0 < length acc → 0 < length (digits_onto k 10 false n acc)
digits_onto-some zero n acc some = some
digits_onto-some (suc k) n acc some =
    let d = digit_glyph false (n % 10) in
    let more : 0 < length (d ∷ acc) = omega arith in
    either_some (eqb (n / 10) 0) (d ∷ acc) (digits_onto k 10 false (n / 10) (d ∷ acc)) more
    (digits_onto-some k (n / 10) (d ∷ acc) more)

neat-ink : (w : List ℕ) → 0 < length w → AllByRecursion IsInk w → IsNeat w
neat-ink [] some all = absurd (omega arith)
neat-ink (b ∷ w) some all = neat-word b w all

pub neat-written_int : (n : ℕ) → IsNeat (written_int n)
unfolding digits
neat-written_int n =
    let d = digit_glyph false (n % 10) in
    let one : 0 < length (d ∷ []) = lit< tt in
    neat-ink (written_int n)
    (either_some (eqb (n / 10) 0) (d ∷ []) (digits_onto 63 10 false (n / 10) (d ∷ [])) one
    (digits_onto-some 63 (n / 10) (d ∷ []) one))
    (digits_onto-ink 64 n [] tt)

-- ---- how long texts are

either_length : (b : Bool) (s t : List ℕ) (most : ℕ) → length s ≤ most → length t ≤ most → length (cond b s t) ≤ most
either_length true s t most hs ht = hs
either_length false s t most hs ht = ht

digits_onto-few : (k n : ℕ) (acc : List ℕ) → length (digits_onto k 10 false n acc) ≤ k + length acc
digits_onto-few zero n acc = omega arith
digits_onto-few (suc k) n acc =
    let d = digit_glyph false (n % 10) in
    either_length (eqb (n / 10) 0) (d ∷ acc) (digits_onto k 10 false (n / 10) (d ∷ acc)) (suc k + length acc)
    (omega arith) (omega (arith, digits_onto-few k (n / 10) (d ∷ acc)))

-- whatever the number
written_int-few : (n : ℕ) → length (written_int n) ≤ 64
unfolding digits
written_int-few n = digits_onto-few 64 n []

joined_step : (g : ℕ) (piece : List ℕ) (pieces : List (List ℕ))
    → length (join_with_byte g (piece ∷ pieces)) ≤ length piece + 1 + length (join_with_byte g pieces)
joined_step g piece [] = omega arith
joined_step g piece (next ∷ pieces) = omega (arith, length-append piece (g ∷ join_with_byte g (next ∷ pieces)))

short-point : (stone : Option Colour) (points : List ℕ) → length (shown_point stone ++ points) ≤ 2 + length points
short-point None points = omega arith
short-point (Some Black) points = omega arith
short-point (Some White) points = omega arith

short-points : (stone_of : ℕ → Option Colour) (first n : ℕ)
    → length (flat_map (λ k. shown_point (stone_of k)) (range_with_len first n)) ≤ 2 * n
short-points stone_of first zero = omega arith
short-points stone_of first (suc n) =
    omega (
      arith,
      short-points stone_of (first + 1) n,
      short-point (stone_of first) (flat_map (λ k. shown_point (stone_of k)) (range_with_len (first + 1) n)),
    )

short-row : (game : GameRecord) (row : ℕ) → game.size ≤ 25 → row ≤ 25 → length (shown_row game row) ≤ 52
unfolding shown_points
short-row game row most top =
    let stone_of : ℕ → Option Colour = λ k. stone_at (board_of game) (point k row) in
    omega (
      arith,
      most,
      short-points stone_of 1 game.size,
      length-append (flat_map (λ k. shown_point (stone_of k)) (range_with_len 1 game.size)) (written_int row),
      length-decimal-le 2 row (omega arith) (omega (arith, top)) (omega (arith, top)),
    )

short-rows : (game : GameRecord) (rows : List ℕ) (letters captures : List ℕ) → game.size ≤ 25
    → AllByRecursion (λ row. row ≤ 25) rows
    → length (join_with_byte 10 (map (shown_row game) rows ++ letters ∷ captures ∷ []))
    ≤ 53 * length rows + (length letters + 1 + length captures)
short-rows game [] letters captures most top = omega (arith, length-append letters (10 ∷ captures))
short-rows game (row ∷ rows) letters captures most top =
    omega (
      arith,
      joined_step 10 (shown_row game row) (map (shown_row game) rows ++ letters ∷ captures ∷ []),
      short-row game row most top.0,
      short-rows game rows letters captures most top.1,
    )

short-letters : (first n : ℕ)
    → length (join_with_byte 32 (map (λ k. letter_of k ∷ []) (range_with_len first n))) ≤ 2 * n
short-letters first zero = omega arith
short-letters first (suc n) =
    omega (
      arith,
      short-letters (first + 1) n,
      joined_step 32 (letter_of first ∷ []) (map (λ k. letter_of k ∷ []) (range_with_len (first + 1) n)),
    )

short-captures : (game : GameRecord) → length (shown_captures game) ≤ 142
short-captures game =
    omega (
      arith,
      length-append (written_int (taken game Black)) (codes " W " ++ written_int (taken game White)),
      written_int-few (taken game Black),
      written_int-few (taken game White),
    )

range_most : (first n : ℕ) → first + n ≤ 26 → AllByRecursion (λ row. row ≤ 25) (range_with_len first n)
range_most first zero most = tt
range_most first (suc n) most = (omega (arith, most), range_most (first + 1) n (omega (arith, most)))

all_reversed : (P : ℕ → Type 0) (xs : List ℕ) → AllByRecursion P xs → AllByRecursion P (reverse xs)
all_reversed P [] all = tt
all_reversed P (x ∷ xs) all =
    rw (reverse-append (x ∷ []) xs) (AllByRecursion-append P (reverse xs) (x ∷ []) (all_reversed P xs all.1)
    (all.0, tt))

-- a board's text of any game
pub shown_short : (game : GameRecord) → game.size ≤ 25 → length (board_text game) ≤ 2000
unfolding board_text shown_letters
shown_short game most =
    omega (
      arith,
      most,
      short-captures game,
      short-letters 1 game.size,
      short-rows game (rows_down game.size) (shown_letters game.size) (shown_captures game) most
          (all_reversed (λ row. row ≤ 25) (range_with_len 1 game.size) (range_most 1 game.size (omega (arith, most)))),
      length-reverse (range_with_len 1 game.size) ∙ length-range_with_len 1 game.size,
    )

-- ---- a board's text

neat-point : (stone : Option Colour) (points text : List ℕ) → IsNeat (points ++ text)
    → IsNeat ((shown_point stone ++ points) ++ text)
neat-point None points text n = gap (record { least = lit≤ tt; most = lit≤ tt }) space n
neat-point (Some Black) points text n = gap (record { least = lit≤ tt; most = lit≤ tt }) space n
neat-point (Some White) points text n = gap (record { least = lit≤ tt; most = lit≤ tt }) space n

neat-points : (stone_of : ℕ → Option Colour) (columns text : List ℕ) → IsNeat text
    → IsNeat (flat_map (λ k. shown_point (stone_of k)) columns ++ text)
neat-points stone_of [] text n = n
neat-points stone_of (k ∷ columns) text n =
    neat-point (stone_of k) (flat_map (λ j. shown_point (stone_of j)) columns) text
    (neat-points stone_of columns text n)

neat-row : (game : GameRecord) (row : ℕ) → IsNeat (shown_row game row)
unfolding shown_points
neat-row game row =
    neat-points (λ k. stone_at (board_of game) (point k row)) (range_with_len 1 game.size) (written_int row)
    (neat-written_int row)

neat-rows : (game : GameRecord) (rows : List ℕ) (below : List (List ℕ)) → AllByRecursion IsNeat below
    → AllByRecursion IsNeat (map (shown_row game) rows ++ below)
neat-rows game [] below all = all
neat-rows game (row ∷ rows) below all = (neat-row game row, neat-rows game rows below all)

letter-ink : (column : ℕ) → column ≤ 25 → IsInk (letter_of column)
letter-ink column most = record { least = grind (arith, nat_tests); most = grind (arith, nat_tests) }

neat-each_letter : (first n : ℕ) → first + n ≤ 26
    → AllByRecursion IsNeat (map (λ k. letter_of k ∷ []) (range_with_len first n))
neat-each_letter first zero most = tt
neat-each_letter first (suc n) most = (
  last (letter-ink first (omega arith)),
  neat-each_letter (first + 1) n
      (omega arith),
)

neat-letters : (size : ℕ) → 1 ≤ size → size ≤ 25 → IsNeat (shown_letters size)
unfolding shown_letters
neat-letters zero least most = absurd (omega arith)
neat-letters (suc n) least most =
    neat-joined 32 (65 ∷ []) (map (λ k. letter_of k ∷ []) (range_with_len 2 n)) space
    (last (letter-ink 1 (lit≤ tt)), neat-each_letter 2 n (omega arith))

neat_captures_word : IsNeat (codes "captures")
neat_captures_word =
    ink (record { least = lit≤ tt; most = lit≤ tt })
    (ink (record { least = lit≤ tt; most = lit≤ tt })
    (ink (record { least = lit≤ tt; most = lit≤ tt })
    (ink (record { least = lit≤ tt; most = lit≤ tt })
    (ink (record { least = lit≤ tt; most = lit≤ tt })
    (ink (record { least = lit≤ tt; most = lit≤ tt })
    (ink (record { least = lit≤ tt; most = lit≤ tt })
    (last (record { least = lit≤ tt; most = lit≤ tt }))))))))

neat-captures : (game : GameRecord) → IsNeat (shown_captures game)
neat-captures game =
    let white = neat-written_int (taken game White) in
    let black = neat-written_int (taken game Black) in
    let letter : (b : ℕ) → 33 ≤ b → b ≤ 126 → IsNeat (b ∷ []) =
    λ b least most. last (record { least = least; most = most }) in
    neat-apart (codes "captures") 32 _ neat_captures_word space
    (neat-apart (codes "B") 32 _ (letter 66 (lit≤ tt) (lit≤ tt)) space
    (neat-apart (written_int (taken game Black)) 32 _ black space
    (neat-apart (codes "W") 32 _ (letter 87 (lit≤ tt) (lit≤ tt)) space white)))

neat-lines : (game : GameRecord) (rows : List ℕ) (letters captures : List ℕ) → IsNeat letters → IsNeat captures
    → IsNeat (join_with_byte 10 (map (shown_row game) rows ++ letters ∷ captures ∷ []))
neat-lines game [] letters captures nl nc = neat-joined 10 letters (captures ∷ []) newline (nl, (nc, tt))
neat-lines game (row ∷ rows) letters captures nl nc =
    neat-joined 10 (shown_row game row) (map (shown_row game) rows ++ letters ∷ captures ∷ []) newline
    (neat-row game row, neat-rows game rows (letters ∷ captures ∷ []) (nl, (nc, tt)))

-- the text of a board may be that of a reply
pub shown_fits : (game : GameRecord) → IsSize game.size → IsReplyText (board_text game)
unfolding board_text
shown_fits game is_size =
    let least : 1 ≤ game.size = is_size.least in
    let most : game.size ≤ 25 = is_size.most in
    IsReplyText-neat (board_text game) (shown_short game most)
    (neat-lines game (rows_down game.size) (shown_letters game.size) (shown_captures game)
    (neat-letters game.size least most) (neat-captures game))

-- ---- points

neat-vertex : (size p : ℕ) → size ≤ 25 → IsOn size p → IsNeat (written_vertex (At p))
neat-vertex size p most on = ink (letter-ink (column_of p) (omega (arith, on.right))) (neat-written_int (row_of p))

short-vertex : (size p : ℕ) → size ≤ 25 → IsOn size p → length (written_vertex (At p)) ≤ 3
short-vertex size p most on = omega (
  arith,
  length-decimal-le 2 (row_of p) (omega arith) (omega (arith, on.top))
      (omega (arith, on.top)),
)

-- a vertex that is legal may be the text of a reply
pub vertex_fits : (game : GameRecord) (c : Colour) (v : Vertex) → game.size ≤ 25 → IsLegal game c v
    → IsReplyText (written_vertex v)
vertex_fits game c Pass most legal = record { fits = lit≤ tt; shown = refl; single = refl; front = refl; end = refl }
vertex_fits game c (At p) most legal =
    IsReplyText-neat (written_vertex (At p)) (omega (arith, short-vertex game.size p most legal.on_board))
    (neat-vertex game.size p most legal.on_board)

neat-vertices : (size : ℕ) (points : List ℕ) → size ≤ 25 → AllByRecursion (IsOn size) points
    → AllByRecursion IsNeat (map (λ p. written_vertex (At p)) points)
neat-vertices size [] most all = tt
neat-vertices size (p ∷ points) most all = (neat-vertex size p most all.0, neat-vertices size points most all.1)

pub short-vertices : (size : ℕ) (points : List ℕ) → size ≤ 25 → AllByRecursion (IsOn size) points
    → length (join_with_byte 32 (map (λ p. written_vertex (At p)) points)) ≤ 4 * length points
short-vertices size [] most all = lit≤ tt
short-vertices size (p ∷ []) most all = omega (arith, short-vertex size p most all.0)
short-vertices size (p ∷ q ∷ points) most all =
    let rest = join_with_byte 32 (map (λ k. written_vertex (At k)) (q ∷ points)) in
    omega (
      arith,
      length-append (written_vertex (At p))
          (32 ∷ rest),
      short-vertex size p most all.0,
      short-vertices size (q ∷ points) most all.1,
    )

points_fit-all : (size : ℕ) (points : List ℕ) → size ≤ 25 → AllByRecursion (IsOn size) points → length points ≤ 9
    → IsReplyText (join_with_byte 32 (map (λ p. written_vertex (At p)) points))
points_fit-all size [] most all few = record { fits = lit≤ tt; shown = refl; single = refl; front = refl; end = refl }
points_fit-all size (p ∷ points) most all few =
    let all_neat = neat-vertices size (p ∷ points) most all in
    IsReplyText-neat _ (omega (arith, short-vertices size (p ∷ points) most all))
    (neat-joined 32 (written_vertex (At p)) (map (λ q. written_vertex (At q)) points) space all_neat)

-- the vertices of a few points, with single spaces, may be the text of a reply
pub points_fit : (size : ℕ) (points : List ℕ) → size ≤ 25 → All (IsOn size) points → length points ≤ 9
    → IsReplyText (join_with_byte 32 (map (λ p. written_vertex (At p)) points))
points_fit size points most on few = points_fit-all size points most (recursion_from_All (IsOn size) points on) few

-- ---- handicap

either_few : (b : Bool) (s t : List ℕ) → length s ≤ 9 → length t ≤ 9 → length (cond b s t) ≤ 9
either_few true s t hs ht = hs
either_few false s t hs ht = ht

pub few_handicap_points : (size stones : ℕ) → length (handicap_points size stones) ≤ 9
unfolding handicap_points
few_handicap_points size stones =
    either_few (eqb stones 2) _ _ (lit≤ tt) (either_few (eqb stones 3) _ _ (lit≤ tt)
    (either_few (eqb stones 4) _ _ (lit≤ tt)
    (either_few (eqb stones 5) _ _ (lit≤ tt) (either_few (eqb stones 6) _ _ (lit≤ tt)
    (either_few (eqb stones 7) _ _ (lit≤ tt)
    (either_few (eqb stones 8) _ _ (lit≤ tt) (either_few (eqb stones 9) _ _ (lit≤ tt) (lit≤ tt))))))))

-- the vertices of handicap stones may be the text of a reply
pub handicap_fits : (size stones : ℕ) → IsSize size → AllowsHandicap size stones
    → IsReplyText (join_with_byte 32 (map (λ p. written_vertex (At p)) (handicap_points size stones)))
handicap_fits size stones is_size allowed =
    points_fit size (handicap_points size stones) is_size.most (handicap_sound size stones is_size allowed).on_board
    (few_handicap_points size stones)

-- ---- numbers and scores

-- a number may be the text of a reply
pub number_fits : (n : ℕ) → IsReplyText (written_int n)
number_fits n = IsReplyText-neat (written_int n) (omega (arith, written_int-few n)) (neat-written_int n)

neat-halved : (half : Bool) (t : List ℕ) → IsNeat t → IsNeat (t ++ cond half (codes ".5") [])
neat-halved true t n =
    neat-append t (codes ".5") n (ink (record { least = lit≤ tt; most = lit≤ tt })
    (last (record { least = lit≤ tt; most = lit≤ tt })))
neat-halved false t n = rw append-nil n

pub neat-written_points : (n : ℕ) → IsNeat (written_points n)
neat-written_points n = neat-halved (eqb (n % 2) 1) (written_int (n / 2)) (neat-written_int (n / 2))

short-written_points : (n : ℕ) → length (written_points n) ≤ 66
short-written_points n =
    let half : List ℕ = cond (eqb (n % 2) 1) (codes ".5") [] in
    omega (
      arith,
      length-append (written_int (n / 2)) half,
      written_int-few (n / 2),
      either_length (eqb (n % 2) 1) (codes ".5") [] 2 (lit≤ tt) (lit≤ tt),
    )

-- a score after the winner's letter may be the text of a reply
black_score_fits : (n : ℕ) → IsReplyText (codes "B+" ++ written_points n)
black_score_fits n =
    IsReplyText-neat (codes "B+" ++ written_points n) (omega (arith, short-written_points n))
    (ink (record { least = lit≤ tt; most = lit≤ tt })
    (ink (record { least = lit≤ tt; most = lit≤ tt }) (neat-written_points n)))

white_score_fits : (n : ℕ) → IsReplyText (codes "W+" ++ written_points n)
white_score_fits n =
    IsReplyText-neat (codes "W+" ++ written_points n) (omega (arith, short-written_points n))
    (ink (record { least = lit≤ tt; most = lit≤ tt })
    (ink (record { least = lit≤ tt; most = lit≤ tt }) (neat-written_points n)))

-- a score may be the text of a reply
pub score_fits : (half_points : ℤ) → IsReplyText (score_text half_points)
score_fits (pos zero) = IsReplyText-neat (written_points 0) (omega (arith, short-written_points 0))
    (neat-written_points 0)
score_fits (pos (suc n)) = black_score_fits (suc n)
score_fits (negsuc n) = white_score_fits (n + 1)
