-- The text of a complaint. (Own.)
use Rattle.std.specs.Prelude.{ℕ, Bool, true, false, not, List, [], ◌∷◌, codes, length, take}
use Rattle.std.specs.Prelude.{◌++◌, ◌==◌, nat_lt, slice_get, unwrap_or, Option, None, Some}
use Rattle.std.specs.Borrow.{Bor}
use Rattle.std.specs.Fmt.{decimal}
use Rattle.std.specs.List.{concat, list_any}
use Rattle.std.specs.Prelude.{option_map}
use Rattle.gtp_check_course.specs.Lessons.{is_in_pieces, name_of}
use Rattle.go_base.specs.Bytes.{space}
use Rattle.gtp_process.specs.Shown.{ending_text, late_text, quoted}
use Rattle.gtp_process.specs.declared.starter.Ending.{Ending}
use Rattle.gtp_process.specs.declared.starter.Ending.TheVariants.{Late}
use Rattle.gtp_wire.specs.Replies.{most_shown}
use Rattle.gtp_check_texts.specs.reasons.Kinds.{fault_text}
use Rattle.gtp_check_judge.specs.declared.asking.CheckCommand.{CheckCommand}
use Rattle.gtp_check_texts.specs.reasons.Answers.{before_rule, id_due, right_answer}
use Rattle.gtp_check_texts.specs.reasons.Colours.{spelling_line, with_letter}
use Rattle.gtp_check_texts.specs.reasons.Hints.{hint_line}
use Rattle.gtp_check_texts.specs.reasons.Rules.{rule_text}
use Rattle.gtp_check_texts.specs.Board.{drawn_board}
use Rattle.gtp_check_texts.specs.Texts.{text_if}
use Rattle.gtp_check_texts.specs.reasons.RunOn.{run_on_line, runs_on}
use Rattle.gtp_check_texts.specs.reasons.Reasons.{reason}
use Rattle.go_board.specs.Game.{GameRecord}
use Rattle.gtp_check_talk.specs.declared.said.Said.{Said}
use Rattle.gtp_check_texts.specs.Conversation.{after_lines, asked_line, faulty_line}
use Rattle.gtp_check_texts.specs.LastGame.{last_game_lines, whole_lines}
use Rattle.gtp_check_texts.specs.reasons.Reasons.{in_a_row_line}
use Rattle.gtp_check_texts.specs.declared.complaint.Complaint.{Complaint}
use Rattle.gtp_check_texts.specs.declared.last_game.Shown.{Shown}
use Rattle.gtp_check_texts.specs.declared.last_game.Shown.TheVariants.{LastGame, Whole}
use Rattle.gtp_check_talk.specs.declared.fault.Fault.{Fault}
use Rattle.gtp_check_talk.specs.declared.fault.Fault.TheVariants.{Wrote, CutOff}
use Rattle.gtp_process.specs.declared.causes.PipeCause.TheVariants.{Ended}

-- ---- the lines

-- Its output ended within a reply: that is what was wrong, and since its last whole reply it had written something that
-- isn't blank. (Blanks and empty lines before a reply belong to none.)
abbrev pub is_within : Fault → List ℕ → Bool
is_within (CutOff Ended) wrote = list_any (λ byte. nat_lt space byte) wrote
is_within _ wrote = false

-- that it was within a reply
abbrev pub within_text : Bool → List ℕ
within_text true = codes " within a reply"
within_text false = []

-- how the process ended, where that is what was wrong
abbrev pub ended_text : Fault → Ending → List ℕ
ended_text (Wrote kind) ending = []
ended_text (CutOff cause) ending = ending_text ending

-- what was wrong: of a late answer that it was late, and else the fault, and how the process ended where it was lost
abbrev pub wrong_by : Fault → Ending → Bool → List ℕ
wrong_by (CutOff cause) (Late seconds) within = concat (codes "\": " ∷ late_text seconds ∷ codes "\n" ∷ [])
wrong_by fault ending within =
    concat (codes "\": " ∷ fault_text fault ∷ within_text within ∷ ended_text fault ending ∷ codes "\n" ∷ [])

abbrev pub wrong_text : Complaint → List ℕ
wrong_text complaint =
    wrong_by complaint.fault complaint.ending (is_within complaint.fault complaint.wrote.now)

-- the number, the lesson, the faulty command and what was wrong
abbrev pub head_line : Complaint → List ℕ
head_line complaint =
    concat (codes "# " ∷ decimal complaint.number ∷ codes " " ∷ name_of complaint.lesson ∷ codes ": \"" ∷ [])
    ++ (faulty_line complaint ++ wrong_text complaint)

-- the beginning of what the engine wrote
abbrev pub wrote_line : List ℕ → List ℕ
wrote_line bytes = concat (codes "# it wrote: " ∷ quoted (take most_shown bytes) ∷ codes "\n" ∷ [])

abbrev pub faulty_said : Complaint → Option Said
faulty_said complaint = slice_get complaint.talk.now complaint.answered

-- The command for which it is said what is right, if there is one: the faulty one, with the colour's letter.
abbrev pub explained : Complaint → Option CheckCommand
explained complaint = option_map (λ said. with_letter said.command) (faulty_said complaint)

-- What is right: of a reply without an end how it ends, and else what decides on the board before the command, where
-- that is known and something was written, or the rule.
abbrev pub decided : Option (Bor GameRecord) → Fault → Option CheckCommand → Option (List ℕ)
decided (Some game) (Wrote kind) (Some command) = Some (reason game.now command kind None)
decided _ _ _ = None

abbrev pub rule_of : Complaint → Bool → List ℕ
rule_of complaint true = codes "an answer ends with an empty line: two newlines"
rule_of complaint false =
    unwrap_or (decided complaint.game complaint.fault (explained complaint))
    (rule_text complaint.fault complaint.ending (explained complaint))

-- what a right engine answers, where that is shown
abbrev pub answer_of : Complaint → List ℕ
answer_of complaint = right_answer complaint.fault (faulty_said complaint)

-- that moves of one colour in a row are legal, where such a one was refused in a known game
abbrev pub in_a_row : Option (Bor GameRecord) → Fault → Option CheckCommand → List ℕ
in_a_row (Some game) (Wrote kind) (Some command) = in_a_row_line game.now command kind
in_a_row _ _ _ = []

-- what was asked and answered rightly before the faulty command
abbrev pub said_before : Complaint → List Said
said_before complaint = take complaint.answered complaint.talk.now

-- that the colour in full may be the cause, of a command that was refused
abbrev pub spelling : List Said → Fault → Option Said → List ℕ
spelling before (Wrote kind) (Some said) = spelling_line before said.command kind
spelling before fault said = []

-- the id that is due, where another one came: that of the faulty command
abbrev pub due_id : Complaint → List ℕ
due_id complaint = id_due complaint.fault (faulty_line complaint)

-- the end of that line, and further lines on the colour of a move
abbrev pub rule_end : Complaint → List ℕ
rule_end complaint =
    due_id complaint ++ (codes "\n" ++ (in_a_row complaint.game complaint.fault (explained complaint)
    ++ spelling (said_before complaint) complaint.fault (faulty_said complaint)))

-- what is right, and further lines on the colour of a move
abbrev pub rule_line : Complaint → List ℕ
rule_line complaint =
    codes "# right: " ++ (before_rule (answer_of complaint)
    ++ (rule_of complaint (is_within complaint.fault complaint.wrote.now) ++ rule_end complaint))

-- the board before the command, where it is known
abbrev pub board_lines : Option (Bor GameRecord) → List ℕ
board_lines None = []
board_lines (Some game) = drawn_board game.now

-- what was sent after the faulty command, before that was answered
abbrev pub ahead_lines : List ℕ → List ℕ
ahead_lines lines = text_if (not (length lines == 0)) (codes "# asked before this answer was read:\n") ++ lines

-- that the line of the command came in two chunks, which is not to be seen in the block
abbrev pub pieces_line : Option Said → List ℕ
pieces_line None = []
pieces_line (Some said) =
    text_if (is_in_pieces said.purpose.lesson said.purpose.part)
    (codes "# that line came in two pieces: a right engine waits for its newline\n")

-- whether an answer may have run on into the next one
abbrev pub may_run_on : Complaint → Bool
may_run_on complaint =
    runs_on complaint.fault complaint.answered (length complaint.talk.now) complaint.wrote.now

-- what to try
abbrev pub hint_of : Complaint → List ℕ
hint_of complaint = hint_line complaint.is_positional complaint.fault (explained complaint)

-- the lines before the command, or of these the last game alone
abbrev pub shown_before : Complaint → Shown → List ℕ
shown_before complaint Whole = whole_lines complaint
shown_before complaint LastGame = last_game_lines complaint

-- what the engine was asked: the lines before the command, the board, the command, and that it came in chunks
abbrev pub asked_lines : Complaint → List ℕ
asked_lines complaint =
    shown_before complaint complaint.shown
    ++ (board_lines complaint.game ++ (asked_line complaint ++ pieces_line (faulty_said complaint)))

-- The block of a complaint: its head, what the engine was asked, what it wrote then, what is right, a hint of how answers
-- end, what was on its way, what to try, and an empty line.
abbrev pub complaint_lines : Complaint → List ℕ
complaint_lines complaint = concat (
    head_line complaint ∷ asked_lines complaint ∷ wrote_line complaint.wrote.now ∷ rule_line complaint ∷
    run_on_line (may_run_on complaint) ∷ ahead_lines (after_lines complaint) ∷ hint_of complaint ∷ codes "\n" ∷ [])
