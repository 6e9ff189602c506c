-- What is reported of a turn: that a refused `play` is retaken, and why a side failed. (Own.)
use Rattle.std.specs.Prelude.{ℕ, ◌==◌, if◌then◌else◌, List, [], ◌∷◌, ◌++◌, codes, Option, None, Some, IfSome}
use Rattle.std.specs.Fmt.{decimal}
use Rattle.std.specs.List.{concat, join_with_byte}
use Rattle.go_base.specs.Bytes.{newline, space}
use Rattle.go_base.specs.declared.colours.Colour.{Colour}
use Rattle.go_board.specs.declared.faults.PlayFault.{PlayFault}
use Rattle.go_board.specs.declared.faults.PlayFault.TheVariants.{Full, OffBoard, Occupied, Suicide, Ko}
use Rattle.gtp_wire.specs.Commands.{words_of}
use Rattle.gtp_match.specs.Losing.{CanBeShown}
use Rattle.gtp_match.specs.ResultLine.{side_name}
use Rattle.gtp_match.specs.declared.losses.LossCause.{LossCause}
use Rattle.gtp_match.specs.declared.losses.LossCause.TheVariants.{Shows, Unfit, RefusesPlay, KeepsMove, NoMove}
use Rattle.gtp_match.specs.declared.losses.LossCause.TheVariants.{NoVertex, Illegal}
use Rattle.gtp_match.specs.declared.losses.Owed.{Owed}
use Rattle.gtp_match.specs.declared.reports.Retake.{Retake}
use Rattle.gtp_match.specs.declared.unanswered.SentCommand.{SentCommand}
use Rattle.gtp_match.specs.declared.verdicts.SideFault.TheVariants.{NoStatus, Overlong, WrongId, Unasked}
use Rattle.gtp_process.specs.declared.starter.Ending.{Ending}
use Rattle.twogtp_app.specs.declared.why.TurnLoss.{TurnLoss}
use Rattle.twogtp_app.specs.declared.why.TurnLoss.TheVariants.{NotStarted, CutOff, Wrote}
use Rattle.gtp_process.specs.declared.causes.PipeCause.{PipeCause}
use Rattle.gtp_process.specs.declared.causes.PipeCause.TheVariants.{Ended}
use Rattle.twogtp_app.specs.declared.why.TurnReport.{TurnReport}
use Rattle.gtp_process.specs.Shown.{ending_text, pipe_text, quoted, unstarted_text}

-- ---- causes

-- the rule that a move breaks
abbrev pub rule_text : PlayFault → List ℕ
rule_text Full = codes "an illegal move: the record is full"
rule_text OffBoard = codes "an illegal move: off the board"
rule_text Occupied = codes "an illegal move: the point is occupied"
rule_text Suicide = codes "an illegal move: suicide"
rule_text Ko = codes "an illegal move: ko"

-- what was wrong with what a side wrote
abbrev pub wrong_text : LossCause → List ℕ
wrong_text (Shows NoStatus) = codes "not a GTP reply (it begins with neither = nor ?)"
wrong_text (Shows Overlong) = codes "no end of a reply in 8192 bytes"
wrong_text (Shows WrongId) = codes "a reply without the awaited id"
wrong_text (Shows Unasked) = codes "a reply to nothing that was asked"
wrong_text Unfit = codes "unfit: the command failed, or was answered wrongly"
wrong_text RefusesPlay = codes "the play was refused"
wrong_text KeepsMove = codes "the refused move was not taken back: the other side forfeits"
wrong_text NoMove = codes "no move: the genmove failed"
wrong_text NoVertex = codes "neither a vertex nor resign"
wrong_text (Illegal fault) = rule_text fault

-- ---- what a side owed

-- a command as it was sent, without its newline
abbrev pub sent_text : SentCommand → List ℕ
sent_text entry = decimal entry.id ++ space ∷ join_with_byte space (words_of entry.command)

-- what is before the oldest unanswered command, of this number of them
abbrev pub before_oldest : ℕ → List ℕ
before_oldest number = if number == 1 then codes ", \"" else codes ", the first \""

-- the oldest unanswered command, of this number of them, if any
abbrev pub oldest_text : ℕ → Option SentCommand → List ℕ
oldest_text number None = []
oldest_text number (Some entry) = concat (before_oldest number ∷ sent_text entry ∷ codes "\"" ∷ [])

-- how many commands a side hasn't answered, and the oldest of them
abbrev pub owed_text : Owed → List ℕ
owed_text owed =
    concat (decimal owed.unanswered ∷ codes " unanswered" ∷ oldest_text owed.unanswered owed.oldest ∷ codes ": " ∷ [])

-- the beginning of what it wrote since its last whole reply
abbrev pub wrote_text : List ℕ → List ℕ
wrote_text bytes = codes "; it wrote " ++ quoted bytes

-- What is written of that where a pipe cut a side off. After a call that failed nothing more is read, so no byte means
-- only that none was read. Where its output ended it wrote none.
abbrev pub read_text : PipeCause → List ℕ → List ℕ
read_text Ended bytes = wrote_text bytes
read_text cause [] = codes "; nothing of it was read"
read_text cause (byte ∷ bytes) = wrote_text (byte ∷ bytes)

-- ---- what is reported of a turn

-- the side failed for this, if at all, and nothing is retaken
abbrev pub only_loss : Option TurnLoss → TurnReport
only_loss loss = record { retake = None; loss = loss }

-- what a side owed when it failed can be shown
abbrev pub LossCanBeShown : TurnLoss → Type 0
LossCanBeShown (NotStarted start) = Unit {0}
LossCanBeShown (CutOff cause owed) = CanBeShown owed
LossCanBeShown (Wrote loss) = CanBeShown loss.owed

-- what is reported of a turn can be shown
abbrev pub ReportCanBeShown : TurnReport → Type 0
ReportCanBeShown report =
    IfSome report.retake (λ retake. CanBeShown retake.owed) × IfSome report.loss LossCanBeShown

-- ---- lines

-- that a refused `play` is retaken
abbrev pub retake_text : Retake → List ℕ
retake_text retake =
    owed_text retake.owed
    ++ (codes "the play was refused (retake " ++ (decimal retake.count ++ (codes " of 3)"
    ++ wrote_text retake.owed.bytes.items)))

-- why a side failed, whose process ended so
abbrev pub loss_text : TurnLoss → Ending → List ℕ
loss_text (NotStarted start) ending = unstarted_text start
loss_text (CutOff cause owed) ending =
    owed_text owed ++ (pipe_text cause ++ (ending_text ending ++ read_text cause owed.bytes.items))
loss_text (Wrote loss) ending =
    owed_text loss.owed ++ (wrong_text loss.cause ++ wrote_text loss.owed.bytes.items)

-- the beginning of a line of a game's side: `twogtp: game N: SIDE: `
abbrev pub line_head : ℕ → Colour → List ℕ
line_head number side =
    concat (codes "twogtp: game " ∷ decimal number ∷ codes ": " ∷ side_name side ∷ codes ": " ∷ [])

-- the line of the side that refused a `play` which is retaken
abbrev pub retake_line : ℕ → Colour → Retake → List ℕ
retake_line number side retake = line_head number side ++ (retake_text retake ++ newline ∷ [])

-- the line of the side that failed in its turn
abbrev pub loss_line : ℕ → Colour → TurnLoss → Ending → List ℕ
loss_line number side loss ending = line_head number side ++ (loss_text loss ending ++ newline ∷ [])

-- both lines, where there are any
abbrev pub retake_lines : ℕ → Colour → Option Retake → List (List ℕ)
retake_lines number side None = []
retake_lines number side (Some retake) = retake_line number side retake ∷ []

abbrev pub loss_lines : ℕ → Colour → Option TurnLoss → Ending → List (List ℕ)
loss_lines number side None ending = []
loss_lines number side (Some loss) ending = loss_line number side loss ending ∷ []
