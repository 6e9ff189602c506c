-- What is written of a check's progress on a terminal, each text in place of the line before. (Own.)
use Rattle.std.specs.Prelude.{ℕ, zero, suc, ◌-◌, ◌==◌, ◌&&◌, count_by, nat_le, nat_lt, Bool, true, false, if◌then◌else◌}
use Rattle.std.specs.Prelude.{List, [], ◌∷◌, ◌++◌, codes, length, take, drop, slice_get, Option, None, Some}
use Rattle.std.specs.Fmt.{decimal}
use Rattle.std.specs.Io.BufRead.{strip_last}
use Rattle.std.specs.List.{concat}
use Rattle.std.specs.Option.{option_map_or}
use Rattle.byte_streams.specs.declared.calls.WriteOnce.{Ghosts as WriterGhosts}
use Rattle.byte_streams.specs.Writing.{WritesOrBreaks}
use Rattle.go_base.specs.Bytes.{newline}
use Rattle.gtp_check_course.specs.Lessons.{name_of, number_of}
use Rattle.gtp_check_course.specs.declared.lessons.Lesson.{Lesson}
use Rattle.gtp_check_talk.specs.declared.said.Said.{Said}
use Rattle.gtp_check_talk.specs.Dialogues.{Dialogue}
use Rattle.gtp_check_texts.specs.Summary.{plural}

-- ---- a line

-- how many columns of a line are written at most
abbrev pub most_columns : ℕ
most_columns = 79

-- A text in place of the line: back to its beginning, the text, and what clears the rest of it, ESC [ K.
abbrev pub in_place : List ℕ → List ℕ
in_place text = 13 ∷ take most_columns text ++ 27 ∷ codes "[K"

-- an empty line
abbrev pub cleared : List ℕ
cleared = in_place []

-- before shorter conversations are tried
abbrev pub looking_line : List ℕ
looking_line = in_place (codes "looking for a shorter conversation")

-- ---- what is waited for

-- whether an engine is read next: it owes an answer, and nothing that it wrote is held
abbrev pub is_read_next : {P : Type 0} → Dialogue P → Bool
is_read_next engine = nat_lt 0 (length engine.exam.unanswered) && (length engine.held == 0)

-- where the line of the command with this number, counted from 0, begins in all that was asked
abbrev pub line_start : List Said → ℕ → ℕ
line_start talk zero = 0
line_start talk (suc before) = option_map_or (λ said. said.end) (slice_get talk before) 0

-- that line, without its newline
abbrev pub line_at : List ℕ → List Said → ℕ → Said → List ℕ
line_at sent talk number said = strip_last newline (drop (line_start talk number) (take said.end sent))

-- the number of a lesson among these, counted from 1
abbrev pub place_among : List Lesson → Lesson → ℕ
place_among lessons lesson = count_by (λ one. nat_le (number_of one) (number_of lesson)) lessons

-- The command that is waited for, its lesson and which of how many it is, the commands that were asked and the starts.
abbrev pub waiting_text : List Lesson → List ℕ → Lesson → ℕ → ℕ → List ℕ
waiting_text lessons line lesson commands starts = concat (
    codes "waits for \"" ∷ line ∷ codes "\", " ∷ name_of lesson ∷
    codes " (" ∷ decimal (place_among lessons lesson) ∷ codes " of " ∷ decimal (length lessons) ∷
    codes "), " ∷ decimal commands ∷ codes " command" ∷ plural commands ∷
    codes ", " ∷ decimal starts ∷ codes " start" ∷ plural starts ∷ [])

-- the same of the first command that isn't answered, where there is one
abbrev pub waiting_for : {P : Type 0} → List Lesson → Dialogue P → ℕ → ℕ → Option Said → List (List ℕ)
waiting_for lessons engine number starts None = []
waiting_for lessons engine number starts (Some said) =
    in_place (waiting_text lessons (line_at engine.sent engine.talk number said) said.purpose.lesson
    engine.notes.commands starts) ∷ []

-- before an engine is read, after so many starts: what is waited for
abbrev pub before_read : {P : Type 0} → List Lesson → ℕ → Dialogue P → List (List ℕ)
before_read lessons starts engine =
    let number = length engine.talk - length engine.exam.unanswered in
    if is_read_next engine then waiting_for lessons engine number starts (slice_get engine.talk number) else []

-- ---- before something else is written

-- the line is cleared before these texts are written
abbrev pub clearing : List (List ℕ) → List (List ℕ)
clearing [] = []
clearing (text ∷ texts) = cleared ∷ []

-- before a complaint is written it is looked for a shorter one
abbrev pub looking : List (List ℕ) → List (List ℕ)
looking [] = []
looking (text ∷ texts) = looking_line ∷ cleared ∷ []

-- ---- what is written

-- Texts were written, one after another. One at which the writer breaks changes nothing else.
pub data EachWritesOrBreaks {W : Type 0} (known : WriterGhosts W) : List (List ℕ) → W → W → Type 0 where
  no_text : {before : W} → EachWritesOrBreaks known [] before before
  text_written : {text : List ℕ} {texts : List (List ℕ)} {before mid after : W} → WritesOrBreaks known text before mid
      → EachWritesOrBreaks known texts mid after → EachWritesOrBreaks known (text ∷ texts) before after

-- these, where that is asked for, and else none
abbrev pub shown_if : Bool → List (List ℕ) → List (List ℕ)
shown_if false texts = []
shown_if true texts = texts

-- texts of the progress were written, where it is
abbrev pub IsShown : {W : Type 0} → WriterGhosts W → Bool → List (List ℕ) → W → W → Type 0
IsShown known progress texts before after = EachWritesOrBreaks known (shown_if progress texts) before after
