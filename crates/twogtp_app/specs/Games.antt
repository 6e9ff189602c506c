-- What the program writes of its games.
use Rattle.std.specs.Prelude.{◌≡◌, ◌≤◌, ◌⊎◌, ℕ, ◌+◌, Bool, true, false, List, [], ◌∷◌, ◌++◌, Option, None, Some}
use Rattle.std.specs.Prelude.{Result, Ok, Err}
use Rattle.go_base.specs.Bytes.{newline}
use Rattle.clap.specs.Words.{Text}
use Rattle.clap.specs.declared.error.kind.ErrorKind.{ErrorKind}
use Rattle.go_board.specs.Show.{board_text}
use Rattle.gtp_match.specs.declared.controller.Controller.{Controller}
use Rattle.gtp_match.specs.declared.verdicts.Verdict.{Verdict}
use Rattle.gtp_match.specs.ResultLine.{result_text, record_text}
use Rattle.cli.specs.declared.failure.Failure.{Failure}
use Rattle.cli.specs.declared.failure.Failure.TheVariants.{Write}
use Rattle.twogtp_app.specs.declared.failure.Mistake.{Mistake}
use Rattle.twogtp_app.specs.declared.options.Options.{Options}
use Rattle.byte_streams.specs.declared.calls.WriteOnce.{Ghosts as WriterGhosts}
use Rattle.twogtp_app.specs.declared.plan.Plan.{Plan}
use Rattle.gtp_process.specs.declared.starter.Process.{Ghosts}
use Rattle.twogtp_app.specs.declared.task.Task.{Task}
use Rattle.twogtp_app.specs.Closing.{AreClosed}
use Rattle.twogtp_app.specs.Options.{AsksFor, AsksForText, HasFault}
use Rattle.twogtp_app.specs.Processes.{AreEnded}
use Rattle.gtp_process.specs.Starts.{Attempts}
use Rattle.cli.specs.Status.{IsRequest, done, own_failure}
use Rattle.twogtp_app.specs.Mistakes.{ReportsMistake}
use Rattle.twogtp_app.specs.Status.{ReportsFailure, status_with}
use Rattle.twogtp_app.specs.Tasks.{IsMistake, IsPlanOf}
use Rattle.twogtp_app.specs.Turns.{Engines, GameState, HasStopped, IsPlayed, Reporting, Stage, engines_of, opening}
use Rattle.twogtp_app.specs.Turns.{reporting, stage}
use Rattle.byte_streams.specs.Writing.{BreaksAt, IsFlushed, WritesOrBreaks}

-- ---- the text of a game

-- the record's line, where it is asked for
abbrev pub record_part : Bool → Controller → List ℕ
record_part false c = []
record_part true c = record_text c.game ++ newline ∷ []

-- the board and an empty line, where they are asked for
abbrev pub board_part : Bool → Controller → List ℕ
board_part false c = []
board_part true c = board_text c.game ++ newline ∷ newline ∷ []

-- the result line of a match that is over
abbrev pub result_part : ℕ → Controller → Option Verdict → List ℕ
result_part number c None = []
result_part number c (Some verdict) = result_text number c verdict ++ newline ∷ []

-- what is written of a game: its result line, and then the record and the board where they are asked for
abbrev pub game_lines : Task → ℕ → Controller → List ℕ
game_lines task number c =
    result_part number c c.verdict ++ (record_part task.details.record c ++ board_part task.details.show c)

-- ---- the games of a run

-- a run between two games: its output, the stream on which turns are reported, and the starts that were asked for so
-- far, where they are known
pub record RunState (P O E : Type 0) : Type 0 where
  pub output : O
  pub errors : E
  pub asked : Attempts P

abbrev pub run_state : {P O E : Type 0} → O → E → Attempts P → RunState P O E
run_state output errors asked = record { output = output; errors = errors; asked = asked }

-- what is known of the processes of engines, of the output and of standard error
pub record Known (P O E : Type 0) : Type 1 where
  pub processes : Ghosts P
  pub output : WriterGhosts O
  pub errors : WriterGhosts E

abbrev pub known_of : {P O E : Type 0} → Ghosts P → WriterGhosts O → WriterGhosts E → Known P O E
known_of processes output errors = record { processes = processes; output = output; errors = errors }

-- a run: its plan, and what is known of its processes and its streams
pub record Run (P O E : Type 0) : Type 1 where
  pub plan : Plan
  pub known : Known P O E

abbrev pub run_of : {P O E : Type 0} → Plan → Known P O E → Run P O E
run_of plan known = record { plan = plan; known = known }

-- the engines of a run
abbrev pub run_engines : {P O E : Type 0} → Run P O E → Engines P
run_engines run = engines_of run.plan.commands run.known.processes

-- how the turns of its game of this number are reported
abbrev pub run_reporting : {P O E : Type 0} → Run P O E → ℕ → Reporting E
run_reporting run number = reporting run.known.errors run.plan.task.details.why number

-- where its next game begins: at a new match, without processes
abbrev pub next_game : {P O E : Type 0} → Run P O E → RunState P O E → Stage P E
next_game run before = stage (opening run.plan.task.setup before.asked) before.errors

module _ {P O E : Type 0} (run : Run P O E) where
  -- A game was played to its end, from its beginning without processes, and its text under this number was flushed.
  -- After that its processes were closed.
  pub record GameIsWritten (number : ℕ) (before after : RunState P O E) (verdict : Verdict) : Type 0 where
    pub last : GameState P
    pub played : IsPlayed (run_engines run) (run_reporting run number) (next_game run before) (stage last after.errors)
        verdict
    pub asked : last.asked ≡ after.asked
    pub out : IsFlushed run.known.output (game_lines run.plan.task number last.game) before.output after.output
    pub closed : AreClosed run.known.processes last.game last.processes

  -- Why the text of a game isn't written whole. The game stopped before its end, and the output stayed as it was. Or it
  -- was played to its end, and the output broke at its text. Its processes were ended.
  pub data GameIsNotWritten (number : ℕ) (before after : RunState P O E) : Failure → Type 0 where
    stopped : {last : GameState P} {failure : Failure}
        → HasStopped (run_engines run) (run_reporting run number) (next_game run before) (stage last after.errors)
        failure
        → last.asked ≡ after.asked → AreEnded run.known.processes last.processes → after.output ≡ before.output
        → GameIsNotWritten number before after failure
    broke : {last : GameState P} {verdict : Verdict}
        → IsPlayed (run_engines run) (run_reporting run number) (next_game run before) (stage last after.errors) verdict
        → last.asked ≡ after.asked → AreEnded run.known.processes last.processes
        → BreaksAt run.known.output (game_lines run.plan.task number last.game) before.output after.output
        → GameIsNotWritten number before after Write

  -- so a game ends: its text is written, or not
  abbrev pub GameEnds : ℕ → RunState P O E → RunState P O E → Result Verdict Failure → Type 0
  GameEnds number before after (Ok verdict) = GameIsWritten number before after verdict
  GameEnds number before after (Err failure) = GameIsNotWritten number before after failure

  -- This number of games was played with this status, one after another. The text of each was flushed in its turn.
  pub data GamesAreWritten (first : RunState P O E) : ℕ → ℕ → RunState P O E → Type 0 where
    no_game : GamesAreWritten first 0 done first
    game : {number status : ℕ} {before after : RunState P O E} {verdict : Verdict}
        → GamesAreWritten first number status before
        → GameIsWritten (number + 1) before after verdict
        → GamesAreWritten first (number + 1) (status_with status verdict) after

  -- Some games were played and written. The next one isn't written whole: it stopped before its end, or it was played
  -- to its end and the output broke at it. The failure says which, and nothing else was asked for.
  pub record GamesHaveStopped (before after : RunState P O E) (failure : Failure) : Type 0 where
    pub number : ℕ
    pub status : ℕ
    pub within : number + 1 ≤ run.plan.task.games
    pub between : RunState P O E
    pub written : GamesAreWritten before number status between
    pub next : GameIsNotWritten (number + 1) between after failure

  -- so the games of a run end: all of them were played and written, with this status, or some failure stopped them
  abbrev pub GamesEnd : RunState P O E → RunState P O E → Result ℕ Failure → Type 0
  GamesEnd before after (Ok status) = GamesAreWritten before run.plan.task.games status after
  GamesEnd before after (Err failure) = GamesHaveStopped before after failure

-- ---- what the words ask for was done

-- the words have no mistake, and ask for this plan
pub record AsksForPlan (words : List Text) (plan : Plan) : Type 0 where
  pub options : Options
  pub asked : AsksFor words options
  pub come_to : IsPlanOf options plan

module _ {P O E : Type 0} (known : Known P O E) (words : List Text) where
  -- all games that the words ask for were played and written, with this status
  pub record HasDone (status : ℕ) (before after : RunState P O E) : Type 0 where
    pub plan : Plan
    pub asks : AsksForPlan words plan
    pub written : GamesAreWritten (run_of plan known) before plan.task.games status after

  -- Some games that the words ask for were played and written, until a failure. The failure is reported after the lines
  -- of the turns.
  pub record HasBegun (before after : RunState P O E) : Type 0 where
    pub plan : Plan
    pub asks : AsksForPlan words plan
    pub lines : E
    pub failure : Failure
    pub stopped : GamesHaveStopped (run_of plan known) before (record after { errors = lines }) failure
    pub reported : ReportsFailure known.errors failure lines after.errors

-- ---- texts that were asked for, and mistakes

-- a text that was asked for was flushed with status 0, or the output broke at it with status 3
abbrev pub IsShown : {O : Type 0} → WriterGhosts O → List ℕ → ℕ → O → O → Type 0
IsShown outs text status before after =
    ((status ≡ done) × IsFlushed outs text before after) ⊎ ((status ≡ own_failure) × BreaksAt outs text before after)

-- the words ask for the help or the version, and a text was flushed with status 0, or the output broke at it with 3
pub record HasShown {O : Type 0} (outs : WriterGhosts O) (words : List Text) (status : ℕ) (before after : O)
    : Type 0 where
  pub asked : AsksForText words
  pub text : List ℕ
  pub shown : IsShown outs text status before after

-- The options that the words ask for have a mistake. The first one is reported. With `--why` a second line says which
-- komis or handicaps are allowed, where one is wrong.
pub record AsksWrongly {E : Type 0} (errs : WriterGhosts E) (words : List Text) (before after : E) : Type 0 where
  pub options : Options
  pub asked : AsksFor words options
  pub what : Mistake
  pub mistake : IsMistake options what
  pub reported : ReportsMistake errs options what before after

-- The words have a mistake. One text is written.
pub record IsRefusedByClap {E : Type 0} (errs : WriterGhosts E) (words : List Text) (before after : E) : Type 0 where
  pub kind : ErrorKind
  pub mistake : ¬ IsRequest kind
  pub has : HasFault words kind
  pub text : List ℕ
  pub written : WritesOrBreaks errs text before after

-- the words have a mistake, or what they ask for has one
abbrev pub HasMistake : {E : Type 0} → WriterGhosts E → List Text → E → E → Type 0
HasMistake errs words before after = IsRefusedByClap errs words before after ⊎ AsksWrongly errs words before after
