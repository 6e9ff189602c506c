-- What is written as a line is read as that line.
use Rattle.go_base.proofs.general.Lists.{AllByRecursion-append}
use Rattle.std.proofs.Common.{◌≡◌, ℕ, ◌<◌, ◌≤◌, List, [], ◌∷◌, ◌++◌, length, Option, None, Some, Bool, true, false}
use Rattle.std.proofs.Common.{refl, sym, ◌∙◌, ap, arith, ◌&&◌, not, ltb, eqb, append-nil, length-append}
use Rattle.std.proofs.lemmas.Bool.{ltb-true, ne_eqb}
use Rattle.std.proofs.lemmas.Bool.Decides.{nat_tests}
use Rattle.std.specs.Prelude.{IfSome}
use Rattle.std.specs.Char.{is_ascii_control}
use Rattle.std.specs.List.{slice_split, join_with_byte, AllByRecursion, list_all}
use Rattle.go_base.specs.Int.{most_int, int_of, written_int}
use Rattle.go_base.proofs.numbers.Ints.{int_of_spelled, spells_written_int}
use Rattle.gtp_wire.specs.declared.lines.Line.TheVariants.{Command}
use Rattle.gtp_wire.specs.declared.lines.Stage.TheVariants.{Word}
use Rattle.gtp_wire.specs.Bytes.{is_space}
use Rattle.gtp_wire.specs.Words.{command_of, is_word_byte, is_written_word, id_words}
use Rattle.gtp_wire.specs.Lines.{lines}
use Rattle.gtp_wire.specs.private.LineReading.{is_plain, HoldsWords}
use Rattle.gtp_wire.proofs.line_reading.LinesOfTexts.{split_at, split_none, lines_open}
use Rattle.gtp_wire.proofs.line_reading.WordsOfLines.{words_joined}
use Rattle.gtp_wire.proofs.line_reading.Steps.{end_command}
use Rattle.gtp_wire.proofs.written.OneReply.{IsDigit, digits_of_value}

-- a word: some bytes, none of them a space, a control character or `#`
pub record IsWord (w : List ℕ) : Type 0 where
  pub some : 0 < length w
  pub plain : AllByRecursion (λ b. is_plain b ≡ true) w
  pub whole : AllByRecursion (λ b. is_space b ≡ false) w

abbrev pub AreWords : List (List ℕ) → Type 0
AreWords ws = AllByRecursion IsWord ws

split_joined : (w : List ℕ) (ws : List (List ℕ)) → AreWords (w ∷ ws)
    → slice_split is_space (join_with_byte 32 (w ∷ ws)) ≡ w ∷ ws
split_joined w [] all = split_none is_space w all.0.whole
split_joined w (v ∷ vs) all =
    split_at is_space w 32 (join_with_byte 32 (v ∷ vs)) all.0.whole refl ∙ ap (λ t. w ∷ t) (split_joined v vs all.1)

pub joined_plain : (w : List ℕ) (ws : List (List ℕ)) → AreWords (w ∷ ws)
    → AllByRecursion (λ b. is_plain b ≡ true) (join_with_byte 32 (w ∷ ws))
joined_plain w [] all = all.0.plain
joined_plain w (v ∷ vs) all =
    AllByRecursion-append _ w (32 ∷ join_with_byte 32 (v ∷ vs)) all.0.plain (refl, joined_plain v vs all.1)

joined_some : (w : List ℕ) (ws : List (List ℕ)) → AreWords (w ∷ ws) → 0 < length (join_with_byte 32 (w ∷ ws))
joined_some w [] all = all.0.some
joined_some w (v ∷ vs) all = omega (arith, all.0.some, length-append w (32 ∷ join_with_byte 32 (v ∷ vs)))

parts_some : (ws : List (List ℕ)) → AreWords ws → AllByRecursion (λ part. 0 < length part) ws
parts_some [] all = tt
parts_some (w ∷ ws) all = (all.0.some, parts_some ws all.1)

pub are_joined : (w : List ℕ) (ws : List (List ℕ)) → AreWords (w ∷ ws) → HoldsWords (join_with_byte 32 (w ∷ ws))
are_joined w ws all =
    record { plain = joined_plain w ws all; single = λ h. rw (split_joined w ws all) (parts_some (w ∷ ws) all) }

-- words that are written with single spaces and a newline are one line, of those words
pub written_line : (w : List ℕ) (ws : List (List ℕ)) → AreWords (w ∷ ws) → length (join_with_byte 32 (w ∷ ws)) ≤ 1000
    → lines (join_with_byte 32 (w ∷ ws) ++ 10 ∷ []) ≡ Command (command_of (w ∷ ws)) ∷ []
written_line w ws all short =
    let joined = are_joined w ws all in
    let some = joined_some w ws all in
    ap (λ t. lines (t ++ 10 ∷ [])) (sym (append-nil (join_with_byte 32 (w ∷ ws))))
    ∙ end_command (join_with_byte 32 (w ∷ ws)) Word [] joined some short
    ∙ ap (λ t. Command (command_of t) ∷ lines [])
    (words_joined (join_with_byte 32 (w ∷ ws)) joined some ∙ split_joined w ws all)
    ∙ ap (λ t. Command (command_of (w ∷ ws)) ∷ t) (lines_open [] tt tt)

-- words by their tests
and_parts : (a b : Bool) → (a && b) ≡ true → (a ≡ true) × (b ≡ true)
and_parts true b e = (refl, e)
and_parts false b e = absurd (cc)

three_tests : (c s h : Bool) → (not c && (not s && not h)) ≡ true → (c ≡ false) × (s ≡ false) × (h ≡ false)
three_tests false false false e = (refl, refl, refl)
three_tests false false true e = absurd (cc)
three_tests false true h e = absurd (cc)
three_tests true s h e = absurd (cc)

-- a byte that is no control character is neither HT nor LF
other_than : (b control : ℕ) → is_ascii_control b ≡ false → is_ascii_control control ≡ true → eqb b control ≡ false
other_than b control plain is =
    ne_eqb b control (λ (e : b ≡ control). let same : false ≡ true = sym plain ∙ ap is_ascii_control e ∙ is in cc)

word_byte : (b : ℕ) → is_word_byte b ≡ true → (is_plain b ≡ true) × (is_space b ≡ false)
word_byte b word =
    let tests = three_tests (is_ascii_control b) (is_space b) (eqb b 35) word in
    (rw (other_than b 9 tests.0 refl, other_than b 10 tests.0 refl, tests.0, tests.2) refl, tests.1)

word_bytes : (w : List ℕ) → list_all is_word_byte w ≡ true
    → AllByRecursion (λ b. is_plain b ≡ true) w × AllByRecursion (λ b. is_space b ≡ false) w
word_bytes [] all = (tt, tt)
word_bytes (b ∷ w) all =
    let parts = and_parts (is_word_byte b) (list_all is_word_byte w) all in
    let byte = word_byte b parts.0 in
    let rest = word_bytes w parts.1 in
    ((byte.0, rest.0), (byte.1, rest.1))

pub one_word : (w : List ℕ) → is_written_word w ≡ true → IsWord w
one_word w word =
    let parts = and_parts (ltb 0 (length w)) (list_all is_word_byte w) word in
    let bytes = word_bytes w parts.1 in
    record { some = ltb-true 0 (length w) parts.0; plain = bytes.0; whole = bytes.1 }

are_words : (ws : List (List ℕ)) → list_all is_written_word ws ≡ true → AreWords ws
are_words [] all = tt
are_words (w ∷ ws) all = let parts = and_parts (is_written_word w) (list_all is_written_word ws) all in
    (one_word w parts.0, are_words ws parts.1)

-- a written int is a word
digit_plain : (c : ℕ) → IsDigit c → is_plain c ≡ true
digit_plain c digit = let low : 48 ≤ c = digit.0 in let high : c ≤ 57 = digit.1 in grind (arith, nat_tests)

digit_no_space : (c : ℕ) → IsDigit c → is_space c ≡ false
digit_no_space c digit = let low : 48 ≤ c = digit.0 in grind (arith, nat_tests)

digits_word : (ds : List ℕ) → AllByRecursion IsDigit ds
    → AllByRecursion (λ b. is_plain b ≡ true) ds × AllByRecursion (λ b. is_space b ≡ false) ds
digits_word [] all = (tt, tt)
digits_word (d ∷ ds) all = let rest = digits_word ds all.1 in
    ((digit_plain d all.0, rest.0), (digit_no_space d all.0, rest.1))

pub int_word : (n : ℕ) → n ≤ most_int → IsWord (written_int n)
int_word n fits =
    let numeral = (spells_written_int n fits).numeral in
    let bytes = digits_word (written_int n) (digits_of_value (written_int n) numeral.1) in
    record { some = numeral.0; plain = bytes.0; whole = bytes.1 }

-- a command's words, after its id
pub words_are_read : (id : Option ℕ) (name : List ℕ) (arguments : List (List ℕ)) → IfSome id (λ n. n ≤ most_int)
    → int_of name ≡ None
    → AreWords (name ∷ arguments) → length (join_with_byte 32 (id_words id ++ name ∷ arguments)) ≤ 1000
    → lines (join_with_byte 32 (id_words id ++ name ∷ arguments) ++ 10 ∷ [])
    ≡ Command (record { id = id; words = name ∷ arguments }) ∷ []
words_are_read None name arguments fits no_int all short =
    written_line name arguments all short ∙ ap (λ c. Command c ∷ []) (rw no_int refl)
words_are_read (Some n) name arguments fits no_int all short =
    let int : int_of (written_int n) ≡ Some n = int_of_spelled n (written_int n) (spells_written_int n fits) in
    written_line (written_int n) (name ∷ arguments) (int_word n fits, all) short
    ∙ ap (λ c. Command c ∷ []) (rw int refl)

pub written_words_are_read : (id : Option ℕ) (name : List ℕ) (arguments : List (List ℕ)) → IfSome id (λ n. n ≤ most_int)
    → int_of name ≡ None
    → list_all is_written_word (name ∷ arguments) ≡ true
    → length (join_with_byte 32 (id_words id ++ name ∷ arguments)) ≤ 1000
    → lines (join_with_byte 32 (id_words id ++ name ∷ arguments) ++ 10 ∷ [])
    ≡ Command (record { id = id; words = name ∷ arguments }) ∷ []
written_words_are_read id name arguments fits no_int all short =
    words_are_read id name arguments fits no_int (are_words (name ∷ arguments) all) short
