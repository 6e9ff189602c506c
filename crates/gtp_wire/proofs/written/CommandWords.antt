-- The words of a command are words, and so its line is read back.
use Rattle.go_base.proofs.general.Lists.{AllByRecursion-append, last_of}
use Rattle.std.proofs.Common.{◌≡◌, ℕ, ◌+◌, ◌/◌, ◌%◌, ◌==◌, ◌≤◌, List, [], ◌∷◌, ◌++◌, length, Option, None, Bool, true}
use Rattle.std.proofs.Common.{false, refl, sym, ap, subst, ◌∙◌, arith, cond, append_assoc, length-append, Some}
use Rattle.std.specs.Prelude.{ℤ, pos, negsuc, IfSome, codes}
use Rattle.std.specs.List.{join_with_byte, AllByRecursion}
use Rattle.std.proofs.lemmas.Bool.Decides.{nat_tests}
use Rattle.std.proofs.lemmas.Int.{ints}
use Rattle.std.proofs.lemmas.List.{same_from_push}
use Rattle.std.proofs.lemmas.Fmt.{length-decimal-le}
use Rattle.go_base.proofs.numbers.Komis.{length-written_points}
use Rattle.go_base.specs.Int.{most_int, int_of, written_int}
use Rattle.go_base.specs.Komi.{IsKomi, most_half_points}
use Rattle.go_base.specs.HalfPoints.{written_points, written_half_points}
use Rattle.go_base.specs.Point.{column_of, row_of}
use Rattle.go_base.specs.Vertex.{IsVertex, letter_of, written_vertex}
use Rattle.go_base.specs.Colour.{written_colour}
use Rattle.go_base.specs.declared.colours.Colour.{Colour}
use Rattle.go_base.specs.declared.colours.Colour.TheVariants as colour
use Rattle.go_base.specs.declared.vertices.Vertex.{Vertex}
use Rattle.go_base.specs.declared.vertices.Vertex.TheVariants.{Pass, At}
use Rattle.gtp_wire.specs.declared.commands.Command.{Command}
use Rattle.gtp_wire.specs.declared.commands.Command.TheVariants.{Boardsize, Komi, ClearBoard, FixedHandicap, Play}
use Rattle.gtp_wire.specs.declared.commands.Command.TheVariants.{Genmove, Undo, Quit}
use Rattle.gtp_wire.specs.declared.lines.Line.TheVariants as line
use Rattle.gtp_wire.specs.Bytes.{is_space}
use Rattle.gtp_wire.specs.Words.{id_words}
use Rattle.gtp_wire.specs.Lines.{lines}
use Rattle.gtp_wire.specs.private.LineReading.{is_plain}
use Rattle.gtp_wire.specs.Commands.{name_of, arguments_of, words_of, written_command, IsWritable, IsInLimits}
use Rattle.gtp_wire.proofs.line_reading.LinesOfTexts.{lines_open}
use Rattle.gtp_wire.proofs.written.OneLine.{IsWord, AreWords, one_word, int_word, joined_plain, words_are_read}
use Rattle.gtp_wire.proofs.line_reading.OneAfterOther.{lines_anew}
use Rattle.gtp_wire.proofs.line_reading.Steps.{plain_kept, plain_no_newline}

-- a word and bytes of words after it are a word
longer_word : (w more : List ℕ) → IsWord w → AllByRecursion (λ b. is_plain b ≡ true) more
    → AllByRecursion (λ b. is_space b ≡ false) more
    → IsWord (w ++ more)
longer_word w more word plain whole = record {
  some = omega (arith, word.some, length-append w more);
  plain = AllByRecursion-append _ w more word.plain plain;
  whole = AllByRecursion-append _ w more word.whole whole;
}

-- a byte of a word and a word after it are a word
word_after : (b : ℕ) (w : List ℕ) → is_plain b ≡ true → is_space b ≡ false → IsWord w → IsWord (b ∷ w)
word_after b w plain whole word =
    record { some = omega arith; plain = (plain, word.plain); whole = (whole, word.whole) }

half_word : (w : List ℕ) (b : Bool) → IsWord w → IsWord (w ++ cond b (codes ".5") [])
half_word w true word = longer_word w (codes ".5") word (refl, (refl, tt)) (refl, (refl, tt))
half_word w false word = longer_word w [] word tt tt

points_word : (n : ℕ) → n ≤ most_half_points → IsWord (written_points n)
points_word n most = half_word (written_int (n / 2)) (n % 2 == 1) (int_word (n / 2) (omega arith))

komi_word : (half_points : ℤ) → IsKomi half_points → IsWord (written_half_points half_points)
komi_word (pos n) komi = points_word n (omega (arith, ints, komi.most))
komi_word (negsuc n) komi =
    word_after 45 (written_points (n + 1)) refl refl (points_word (n + 1) (omega (arith, ints, komi.least)))

colour_word : (c : Colour) → IsWord (written_colour c)
colour_word colour.Black = one_word (codes "b") refl
colour_word colour.White = one_word (codes "w") refl

letter_plain : (column : ℕ) → column ≤ 25 → (is_plain (letter_of column) ≡ true) × (is_space (letter_of column) ≡ false)
letter_plain column most = (grind (arith, nat_tests), grind (arith, nat_tests))

pub vertex_word : (v : Vertex) → IsVertex v → IsWord (written_vertex v)
vertex_word Pass on = one_word (codes "pass") refl
vertex_word (At p) on =
    let letter = letter_plain (column_of p) on.right in
    word_after (letter_of (column_of p)) (written_int (row_of p)) letter.0 letter.1
    (int_word (row_of p) (omega (arith, on.top)))

pub command_words : (command : Command) → IsWritable command → IsInLimits command → AreWords (words_of command)
command_words (Boardsize size) fits limits =
    (one_word (codes "boardsize") refl, (int_word size (omega (arith, limits.most)), tt))
command_words (Komi komi) fits limits = (one_word (codes "komi") refl, (komi_word komi limits, tt))
command_words ClearBoard fits limits = (one_word (codes "clear_board") refl, tt)
command_words (FixedHandicap stones) fits limits = (one_word (codes "fixed_handicap") refl, (int_word stones fits, tt))
command_words (Play move) fits limits =
    (one_word (codes "play") refl, (colour_word move.colour, (vertex_word move.vertex limits, tt)))
command_words (Genmove c) fits limits = (one_word (codes "genmove") refl, (colour_word c, tt))
command_words Undo fits limits = (one_word (codes "undo") refl, tt)
command_words Quit fits limits = (one_word (codes "quit") refl, tt)

-- no name of a command is an int
no_int : (command : Command) → int_of (name_of command) ≡ None
no_int (Boardsize size) = refl
no_int (Komi komi) = refl
no_int ClearBoard = refl
no_int (FixedHandicap stones) = refl
no_int (Play move) = refl
no_int (Genmove c) = refl
no_int Undo = refl
no_int Quit = refl

pub command_is_read : (id : Option ℕ) (command : Command) → IfSome id (λ n. n ≤ most_int) → IsWritable command
    → IsInLimits command → length (written_command id command) ≤ 64
    → lines (written_command id command) ≡ line.Command (record { id = id; words = words_of command }) ∷ []
command_is_read id command id_fits fits limits short =
    words_are_read id (name_of command) (arguments_of command) id_fits (no_int command)
    (command_words command fits limits)
    (omega (arith, short, length-append (join_with_byte 32 (id_words id ++ words_of command)) (10 ∷ [])))

-- ---- a command's line is short

join_more : (w v : List ℕ) (vs : List (List ℕ))
    → length (join_with_byte 32 (w ∷ v ∷ vs)) ≡ length w + 1 + length (join_with_byte 32 (v ∷ vs))
join_more w v vs = omega (arith, length-append w (32 ∷ join_with_byte 32 (v ∷ vs)))

int_short : (n : ℕ) → n ≤ most_int → length (written_int n) ≤ 10
int_short n fits = length-decimal-le 10 n (omega arith) (omega arith) (omega arith)

komi_short : (half_points : ℤ) → IsKomi half_points → length (written_half_points half_points) ≤ 12
komi_short (pos n) komi = omega (arith, length-written_points n (omega (arith, ints, komi.most)))
komi_short (negsuc n) komi = omega (arith, length-written_points (n + 1) (omega (arith, ints, komi.least)))

colour_short : (c : Colour) → length (written_colour c) ≡ 1
colour_short colour.Black = refl
colour_short colour.White = refl

vertex_short : (v : Vertex) → IsVertex v → length (written_vertex v) ≤ 11
vertex_short Pass on = omega arith
vertex_short (At p) on = omega (arith, int_short (row_of p) (omega (arith, on.top)))

words_short : (command : Command) → IsWritable command → IsInLimits command
    → length (join_with_byte 32 (words_of command)) ≤ 27
words_short (Boardsize size) fits limits =
    omega (arith, join_more (codes "boardsize") (written_int size) [], int_short size (omega (arith, limits.most)))
words_short (Komi komi) fits limits =
    omega (arith, join_more (codes "komi") (written_half_points komi) [], komi_short komi limits)
words_short ClearBoard fits limits = omega arith
words_short (FixedHandicap stones) fits limits =
    omega (arith, join_more (codes "fixed_handicap") (written_int stones) [], int_short stones fits)
words_short (Play move) fits limits =
    omega (
      arith,
      join_more (codes "play") (written_colour move.colour) (written_vertex move.vertex ∷ []),
      join_more (written_colour move.colour) (written_vertex move.vertex) [],
      colour_short move.colour,
      vertex_short move.vertex limits,
    )
words_short (Genmove c) fits limits = omega (arith, join_more (codes "genmove") (written_colour c) [], colour_short c)
words_short Undo fits limits = omega arith
words_short Quit fits limits = omega arith

-- the line of a command has at most 64 bytes
pub command_short : (id : Option ℕ) (command : Command) → IfSome id (λ n. n ≤ most_int)
    → IsWritable command → IsInLimits command
    → length (written_command id command) ≤ 64
command_short None command id_fits fits limits =
    omega (arith, words_short command fits limits, length-append (join_with_byte 32 (words_of command)) (10 ∷ []))
command_short (Some n) command id_fits fits limits =
    omega (
      arith,
      words_short command fits limits,
      int_short n id_fits,
      join_more (written_int n) (name_of command) (arguments_of command),
      length-append (join_with_byte 32 (written_int n ∷ words_of command)) (10 ∷ []),
    )

-- ---- a command's line with more after it, and cut short

-- with anything after it, it is one line, and then the lines of the rest
pub commands_are_lines : (id : Option ℕ) (command : Command) (later : List ℕ) → IfSome id (λ n. n ≤ most_int)
    → IsWritable command → IsInLimits command
    → lines (written_command id command ++ later)
    ≡ line.Command (record { id = id; words = words_of command }) ∷ lines later
commands_are_lines id command later id_fits fits limits =
    let text : List ℕ = join_with_byte 32 (id_words id ++ words_of command) in
    ap lines (append_assoc text (10 ∷ []) later) ∙ lines_anew text later
    ∙ ap (λ ls. ls ++ lines later)
    (command_is_read id command id_fits fits limits (command_short id command id_fits fits limits))

-- the bytes before its newline are those of words
pub line_plain : (id : Option ℕ) (command : Command) → IfSome id (λ n. n ≤ most_int) → IsWritable command
    → IsInLimits command
    → AllByRecursion (λ b. is_plain b ≡ true) (join_with_byte 32 (id_words id ++ words_of command))
line_plain None command id_fits fits limits =
    joined_plain (name_of command) (arguments_of command) (command_words command fits limits)
line_plain (Some n) command id_fits fits limits =
    joined_plain (written_int n) (words_of command) (int_word n id_fits, command_words command fits limits)

plain_front : (front more : List ℕ) → AllByRecursion (λ b. is_plain b ≡ true) (front ++ more)
    → AllByRecursion (λ b. is_plain b ≡ true) front
plain_front [] more all = tt
plain_front (b ∷ front) more all = (all.0, plain_front front more all.1)

-- no line ends before the newline does
pub command_front_open : (id : Option ℕ) (command : Command) (front : List ℕ) (b : ℕ) (rest : List ℕ)
    → IfSome id (λ n. n ≤ most_int) → IsWritable command → IsInLimits command
    → written_command id command ≡ front ++ b ∷ rest → lines front ≡ []
command_front_open id command front b rest id_fits fits limits cut =
    let text : List ℕ = join_with_byte 32 (id_words id ++ words_of command) in
    let last = last_of b rest in
    let same = same_from_push text (front ++ last.0) 10 last.1
    (cut ∙ ap (λ t. front ++ t) last.2 ∙ sym (append_assoc front last.0 (last.1 ∷ []))) in
    let P : List ℕ → Type 0 = λ t. AllByRecursion (λ b. is_plain b ≡ true) t in
    let plain : P front = plain_front front last.0 (subst P same.0 (line_plain id command id_fits fits limits)) in
    lines_open front (plain_kept front plain) (plain_no_newline front plain)
