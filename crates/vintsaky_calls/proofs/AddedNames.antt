-- A line of a name that was added waits for its answer.
use Rattle.std.proofs.Common.{◌≡◌, ℕ, Bool, true, false, ◌&&◌, List, [], ◌∷◌, ◌++◌, length, Some, None, refl, ap, ◌∙◌, arith}
use Rattle.std.proofs.lemmas.Bool.{and_parts}
use Rattle.std.proofs.lemmas.Bool.Decides.{nat_tests}
use Rattle.std.specs.Prelude.{nat_lt, nat_le, if◌then◌else◌}
use Rattle.std.specs.Char.{is_ascii_digit}
use Rattle.std.specs.List.{list_all}
use Rattle.std.specs.Str.{all_ascii_digits}
use Rattle.std.specs.Str.Parse.{digits_value}
use Rattle.go_base.specs.Int.{int_of, most_int}
use Rattle.go_board.specs.Game.{GameRecord}
use Rattle.gtp_wire.proofs.written.OneLine.{written_words_are_read}
use Rattle.gtp_wire.specs.Lines.{lines, head_of}
use Rattle.gtp_wire.specs.Words.{CommandWords, is_word_byte, is_written_word}
use Rattle.gtp_wire.specs.declared.lines.Line.{Line}
use Rattle.gtp_wire.specs.declared.lines.Line.TheVariants as line
use Rattle.gtp_session.specs.Commands.{named_command}
use Rattle.gtp_session.specs.OwnCommands.{IsOwnName, is_name_byte}
use Rattle.gtp_session.specs.Steps.{StepsState, ReadsOn, FindsLine, after_wait, event_of, wait_of, with_line}
use Rattle.gtp_session.specs.declared.events.Event.{Event}
use Rattle.gtp_session.specs.declared.events.Event.TheVariants as event
use Rattle.gtp_session.specs.declared.events.Wait.{Wait}
use Rattle.gtp_session.specs.declared.events.Wait.TheVariants as wait
use Rattle.vintsaky_calls.specs.Engines.{event_code}
use Rattle.vintsaky_calls.specs.Laws.{line_bytes, WaitsFor, AddedNamesWait}

-- ---- the name is a word, and no id

word_byte : (b : ℕ) → is_name_byte b ≡ true → is_word_byte b ≡ true
word_byte b e = grind (arith, nat_tests)

word_bytes : (name : List ℕ) → list_all is_name_byte name ≡ true → list_all is_word_byte name ≡ true
word_bytes [] e = refl
word_bytes (b ∷ name) e =
    let both = and_parts (is_name_byte b) (list_all is_name_byte name) e in
    ap (λ (x : Bool). x && list_all is_word_byte name) (word_byte b both.0) ∙ word_bytes name both.1

written_word : (name : List ℕ) → IsOwnName name → is_written_word name ≡ true
written_word name is =
    let some : nat_lt 0 (length name) ≡ true = let few = is.few.0 in grind (arith, nat_tests) in
    ap (λ (x : Bool). x && list_all is_word_byte name) some ∙ word_bytes name is.bytes

digits_alike : (name : List ℕ) → all_ascii_digits name ≡ list_all is_ascii_digit name
digits_alike [] = refl
digits_alike (b ∷ name) = ap (λ (rest : Bool). is_ascii_digit b && rest) (digits_alike name)

nothing_read : (a b c : Bool) (n : ℕ) → b ≡ false → (if a && (b && c) then Some n else None) ≡ None
nothing_read true true c n e = cc
nothing_read true false c n e = refl
nothing_read false b c n e = refl

no_int : (name : List ℕ) → list_all is_ascii_digit name ≡ false → int_of name ≡ None
no_int name e =
    nothing_read (nat_lt 0 (length name)) (all_ascii_digits name) (nat_le (digits_value 10 name) most_int)
    (digits_value 10 name) (digits_alike name ∙ e)

-- ---- what the engine does with the line

-- a line whose command the table doesn't have waits for its answer
waits_by : (game : GameRecord) (words : CommandWords) → named_command words.words ≡ None
    → wait_of game (line.Command words) ≡ wait.Answer
waits_by game words none = rw none refl

one_line : (found : Line) (words : CommandWords) → Some found ≡ Some (line.Command words)
    → found ≡ line.Command words
one_line found words e = cc

some_line : (words : CommandWords) → None ≡ Some (line.Command words) → ⊥
some_line words e = cc

by_line : (old new : StepsState) (input : List ℕ) (used : ℕ) (came : Event) (words : CommandWords)
    → wait_of old.game (line.Command words) ≡ wait.Answer
    → head_of (lines (old.rest ++ input)) ≡ Some (line.Command words)
    → FindsLine old input used came new → WaitsFor words old new (event_code came)
by_line old new input used came words waits first found =
    let same : found.line ≡ line.Command words = one_line found.line words (found.reads.first ∙ first) in
    let asks : wait_of old.game found.line ≡ wait.Answer = ap (wait_of old.game) same ∙ waits in
    let event_is : came ≡ event.Other = found.event_is ∙ ap event_of asks in
    let new_is = found.new_is ∙ ap (λ (w : Wait). after_wait (with_line old found.line found.rest) w) asks in
    record {
      says = ap event_code event_is;
      waits = ap (λ (s : StepsState). s.wait) new_is;
      line_is = ap (λ (s : StepsState). s.line) new_is ∙ same;
      game = ap (λ (s : StepsState). s.game) new_is;
    }

by_event : (came : Event) (old new : StepsState) (input : List ℕ) (used : ℕ) (words : CommandWords)
    → wait_of old.game (line.Command words) ≡ wait.Answer
    → head_of (lines (old.rest ++ input)) ≡ Some (line.Command words)
    → ReadsOn old input used came new → WaitsFor words old new (event_code came)
by_event event.More old new input used words waits first found =
    absurd (some_line words (found.reads.first ∙ first))
by_event event.Reply old new input used words waits first found =
    by_line old new input used event.Reply words waits first found
by_event (event.Asked colour) old new input used words waits first found =
    by_line old new input used (event.Asked colour) words waits first found
by_event event.Other old new input used words waits first found =
    by_line old new input used event.Other words waits first found
by_event event.Ended old new input used words waits first found = absurd found

pub names_wait : AddedNamesWait
names_wait name before after did id arguments is old new used number is_open nothing fed =
    let may = did.added.may in
    let words : CommandWords = record { id = id; words = name ∷ arguments } in
    let all : list_all is_written_word (name ∷ arguments) ≡ true =
    ap (λ (x : Bool). x && list_all is_written_word arguments) (written_word name may.word) ∙ is.words in
    let read : lines (line_bytes id name arguments) ≡ line.Command words ∷ [] =
    written_words_are_read id name arguments is.int (no_int name may.word.no_number) all is.short in
    let first : head_of (lines (old.rest ++ line_bytes id name arguments)) ≡ Some (line.Command words) =
    ap head_of (nothing (line_bytes id name arguments) ∙ read) in
    let waits = waits_by old.game words may.no_table in
    let said = by_event fed.came old new (line_bytes id name arguments) used words waits first (fed.feeds.reads is_open) in
    record { says = fed.number_is ∙ said.says; waits = said.waits; line_is = said.line_is; game = said.game }
