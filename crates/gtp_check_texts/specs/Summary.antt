-- The first line and the last lines of a check. (Own.)
use Rattle.std.specs.Prelude.{ℕ, ◌==◌, ◌&&◌, Bool, true, false, not, if◌then◌else◌, List, [], ◌∷◌, ◌++◌, codes}
use Rattle.std.specs.Prelude.{length}
use Rattle.std.specs.Prelude.{map, slice_get}
use Rattle.std.specs.Prelude.{Option, None, Some, unwrap_or}
use Rattle.std.specs.Fmt.{decimal}
use Rattle.std.specs.List.{concat}
use Rattle.arrayvec.specs.ArrayVec.{ArrayVec}
use Rattle.go_base.specs.Bytes.{space}
use Rattle.go_board.specs.declared.rules.KoRule.{KoRule}
use Rattle.go_board.specs.declared.rules.KoRule.TheVariants.{Simple, Positional}
use Rattle.gtp_check_course.specs.Lessons.{all_lessons, name_of, number_of}
use Rattle.gtp_check_course.specs.declared.lessons.Lesson.{Lesson}
use Rattle.gtp_process.specs.Shown.{quoted, unstarted_text}
use Rattle.gtp_process.specs.declared.causes.Unstarted.{Unstarted}
use Rattle.gtp_check_talk.specs.Among.{is_among}
use Rattle.gtp_check_talk.specs.declared.notes.Notes.{Notes}
use Rattle.gtp_check_course.specs.declared.plan.Plan.{Plan}
use Rattle.gtp_check_texts.specs.declared.summary.Ending.{Ending}
use Rattle.gtp_check_texts.specs.declared.summary.Over.{Over}
use Rattle.gtp_check_texts.specs.declared.summary.Over.TheVariants.{Done, NoMoreStarts, NoRightAnswer, NotStarted}

-- ---- the first line

-- the beginning of what the engine answered, or this in its place
abbrev pub shown_or : Option (ArrayVec ℕ) → List ℕ → List ℕ
shown_or None other = other
shown_or (Some beginning) other = quoted beginning.items

-- the ko rule of a right engine
abbrev pub ko_text : KoRule → Bool → List ℕ
ko_text rule true = codes ", ko unasked\n"
ko_text Simple false = codes ", simple ko\n"
ko_text Positional false = codes ", positional ko\n"

-- the engine's name and version, the seed and the ko rule
abbrev pub first_line : Plan → Notes → List ℕ
first_line plan notes = concat (
    codes "check: " ∷ shown_or notes.name (codes "an engine without a name") ∷
    codes ", version " ∷ shown_or notes.version (codes "unknown") ∷
    codes ", seed " ∷ decimal plan.seed ∷ ko_text plan.rule plan.unasked.ko ∷ [])

-- ---- the last lines

-- how many complaints of the lesson aren't shown, of these numbers of all lessons
abbrev pub hidden_of : List ℕ → Lesson → ℕ
hidden_of hidden lesson = unwrap_or (slice_get hidden (number_of lesson)) 0

-- the line that says so, where there are any
abbrev pub hidden_text : Lesson → ℕ → List ℕ
hidden_text lesson count = if count == 0 then [] else concat (
    codes "check: " ∷ name_of lesson ∷ codes ": more complaints, of kinds that were shown three times: " ∷
    decimal count ∷ codes "\n" ∷ [])

abbrev pub hidden_line : List ℕ → Lesson → List ℕ
hidden_line hidden lesson = hidden_text lesson (hidden_of hidden lesson)

-- the same of all lessons
abbrev pub hidden_lines : List ℕ → List ℕ
hidden_lines hidden = concat (map (hidden_line hidden) all_lessons)

-- the name of a lesson after a space
abbrev pub spaced_name : Lesson → List ℕ
spaced_name lesson = space ∷ name_of lesson

-- a line that names lessons, where there are any
abbrev pub lessons_line : List ℕ → List Lesson → List ℕ
lessons_line what lessons = if length lessons == 0 then [] else concat (
    codes "check: " ∷ what ∷ concat (map spaced_name lessons) ∷ codes "\n" ∷ [])

-- that the engine was not started, and why
abbrev pub unstarted_line : Unstarted → List ℕ
unstarted_line unstarted = concat (codes "check: the engine was " ∷ unstarted_text unstarted ∷ codes "\n" ∷ [])

-- the lessons that were to be asked and were not, or not whole, and why
abbrev pub missed_lines : Over → List Lesson → List ℕ
missed_lines Done missed = []
missed_lines NoMoreStarts missed =
    lessons_line (codes "not asked, or not to their end, since no start was left:") missed
missed_lines NoRightAnswer missed =
    lessons_line (codes "not asked, or not to their end, after three starts without a right answer:") missed
missed_lines (NotStarted unstarted) missed =
    unstarted_line unstarted ++ lessons_line (codes "not asked, or not to their end, for that:") missed

-- The lesson was to be asked and isn't missed, but no move was answered rightly in it: the sizes of its boards were
-- refused, or each part, or often enough, was left before that.
abbrev pub is_unplayed : List Lesson → List Lesson → List Lesson → Lesson → Bool
is_unplayed lessons missed answered lesson =
    is_among lessons lesson && (not (is_among missed lesson) && not (is_among answered lesson))

-- the line of such a lesson, and nothing of another one
abbrev pub unplayed_line : Bool → Lesson → List ℕ
unplayed_line false lesson = []
unplayed_line true lesson = concat (
    codes "check: " ∷ name_of lesson ∷ codes ": no play and no genmove was answered rightly on any board of it\n" ∷ [])

-- those lines of all lessons, in their order
abbrev pub unplayed_lines : List Lesson → List Lesson → List Lesson → List ℕ
unplayed_lines lessons missed answered =
    concat (map (λ lesson. unplayed_line (is_unplayed lessons missed answered lesson) lesson) all_lessons)

-- that the engine lacks the command of this name, where it said so
abbrev pub lack_line : Bool → List ℕ → List ℕ
lack_line false name = []
lack_line true name =
    concat (codes "check: it lacks " ∷ name ∷ codes "; nothing was asked that needs it\n" ∷ [])

-- the same of each command that it may lack
abbrev pub lack_lines : Notes → List ℕ
lack_lines notes = concat (
    lack_line notes.lacks_handicap (codes "fixed_handicap") ∷
    lack_line notes.lacks_undo (codes "undo") ∷
    lack_line notes.lacks_score (codes "final_score") ∷ [])

-- the ending of what is counted
abbrev pub plural : ℕ → List ℕ
plural number = if number == 1 then [] else codes "s"

-- a number and what it counts
abbrev pub counted_text : ℕ → List ℕ → List ℕ
counted_text number what = concat (decimal number ∷ what ∷ plural number ∷ [])

-- how many moves in a row the engine had taken back where it first refused an `undo`
abbrev pub undos_line : Option ℕ → List ℕ
undos_line None = []
undos_line (Some most) =
    concat (codes "check: it first refused an undo after " ∷ counted_text most (codes " undo") ∷ codes " in a row\n" ∷ [])

-- a size after a space
abbrev pub spaced_size : ℕ → List ℕ
spaced_size size = space ∷ decimal size

-- a line of refused sizes
abbrev pub sizes_line : List ℕ → List ℕ
sizes_line sizes = concat (codes "check: it refuses the sizes" ∷ concat (map spaced_size sizes) ∷ codes "\n" ∷ [])

-- the sizes that the engine refused, in the order in which it first did, where there are any
abbrev pub refused_line : List ℕ → List ℕ
refused_line sizes = if length sizes == 0 then [] else sizes_line sizes

-- how many moves that a `genmove` chose weren't judged
abbrev pub unjudged_text : ℕ → List ℕ
unjudged_text unjudged = concat (
    codes "check: " ∷ counted_text unjudged (codes " move") ∷
    codes " by genmove, not judged, as the options say\n" ∷ [])

-- the same, where there are any
abbrev pub unjudged_line : ℕ → List ℕ
unjudged_line unjudged = if unjudged == 0 then [] else unjudged_text unjudged

-- the last line: how many commands, starts and complaints
abbrev pub counts_line : ℕ → ℕ → ℕ → List ℕ
counts_line commands starts complaints = concat (
    codes "check: " ∷ counted_text commands (codes " command") ∷
    codes ", " ∷ counted_text starts (codes " start") ∷
    codes ", " ∷ counted_text complaints (codes " complaint") ∷ codes "\n" ∷ [])

-- The last lines: complaints that aren't shown, lessons that weren't asked, those in which no move was answered, what the
-- engine lacks, how far it takes back, what it refuses, the moves that weren't judged, and the counts.
abbrev pub last_lines : Plan → Notes → Ending → List ℕ
last_lines plan notes ending = concat (
    hidden_lines ending.hidden.now ∷
    lessons_line (codes "not asked, as the options say:") plan.left_out.items ∷
    missed_lines ending.over.now ending.missed.now ∷
    unplayed_lines plan.lessons.items ending.missed.now notes.answered.items ∷
    lack_lines notes ∷ undos_line notes.most_undos ∷ refused_line notes.refused.items ∷
    unjudged_line ending.unjudged ∷ counts_line notes.commands ending.starts ending.complaints ∷ [])
