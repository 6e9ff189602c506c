-- What the program does between its streams: the conversation that the words of the command line ask for, and what is
-- reported. (Own.)
use Rattle.std.specs.Prelude.{◌≡◌, ◌⊎◌, ℕ, List, Result}
use Rattle.clap.specs.Words.{Text}
use Rattle.clap.specs.declared.error.kind.ErrorKind.{ErrorKind}
use Rattle.go_board.specs.declared.rules.KoRule.{KoRule}
use Rattle.gtp_session.specs.declared.book.Entry.{Entry}
use Rattle.gtp_session.specs.declared.fault.Fault.{Fault}
use Rattle.gtp_session.specs.declared.first.First.{First as FirstPolicy}
use Rattle.gtp_session.specs.declared.serve.Served.{Served}
use Rattle.gtp_session.specs.declared.serve.ServeFault.{ServeFault}
use Rattle.gtp_session.specs.declared.serve.ServeFault.TheVariants.{Write}
use Rattle.gtp_session.specs.Policy.{May}
use Rattle.gtp_session.specs.Policies.{first_may, random_may, book_may}
use Rattle.gtp_session.specs.Random.{generator_of}
use Rattle.gtp_session.specs.Counts.{most_reads}
use Rattle.gtp_session.specs.Engine.{Engine, fresh_under}
use Rattle.byte_streams.specs.declared.calls.WriteOnce.{Ghosts}
use Rattle.byte_streams.specs.Streams.{Source, Sink, TookWhole, TookPart}
use Rattle.byte_streams.specs.Writing.{WritesOrBreaks}
use Rattle.gtp_session.specs.Serving.{CameOut}
use Rattle.gtp_engine_app.specs.declared.failure.Failure.{Failure}
use Rattle.gtp_engine_app.specs.declared.failure.Failure.TheVariants.{OutOfMemory, Serve}
use Rattle.gtp_engine_app.specs.declared.options.Options.{Options}
use Rattle.gtp_engine_app.specs.declared.options.PolicyName.{PolicyName}
use Rattle.gtp_engine_app.specs.declared.options.PolicyName.TheVariants.{First, Random, Book}
use Rattle.gtp_engine_app.specs.Options.{AsksFor, AsksForText, HasFault, IsMistake, Spells}
use Rattle.gtp_engine_app.specs.Status.{status_after, ReportsFailure, ReportsEnd}
use Rattle.cli.specs.Status.{done, own_failure, IsRequest}

-- what a conversation goes over: what its input and its output show
pub record Ends : Type 0 where
  pub input : Source
  pub output : Sink

abbrev pub ends : Source → Sink → Ends
ends input output = record { input = input; output = output }

-- the program's streams: those of its conversation, and its standard error
pub record Streams (E : Type 0) : Type 0 where
  pub ends : Ends
  pub errors : E

abbrev pub streams : {E : Type 0} → Ends → E → Streams E
streams ends errors = record { ends = ends; errors = errors }

-- ---- conversations

-- An engine with this policy and this ko rule, which was given nothing before, held a conversation under the fault, of
-- as many reads as there may be, which came out so.
pub data FreshCameOut {P : Type 0} (may : May P) (rule : KoRule) (fault : Fault) (policy : P)
    : Result Served ServeFault → Ends → Ends → Type 0 where
  held : {engine : Engine P} {served : Result Served ServeFault} {before after : Ends}
      → CameOut may fault most_reads (fresh_under rule policy) engine before.input after.input
      before.output after.output served
      → FreshCameOut may rule fault policy served before after

-- what the words ask for: the options, with the book and the fault that their texts spell
pub record Task : Type 0 where
  pub options : Options
  pub entries : List Entry
  pub fault : Fault

abbrev pub task : Options → List Entry → Fault → Task
task options entries fault = record { options = options; entries = entries; fault = fault }

-- the conversation of the policy of this name, for a task
abbrev pub PolicyCameOut : PolicyName → Task → Result Served ServeFault → Ends → Ends → Type 0
PolicyCameOut First task served before after =
    (policy : FirstPolicy) × FreshCameOut first_may task.options.rule task.fault policy served before after
PolicyCameOut Random task served before after =
    FreshCameOut random_may task.options.rule task.fault (generator_of task.options.seed) served before after
PolicyCameOut Book task served before after =
    FreshCameOut book_may task.options.rule task.fault task.entries served before after

-- The options have a book and a fault. The conversation that they ask for was held, its end has this status, and why it
-- stopped is reported where it stopped before its end.
pub record HasConversed {E : Type 0} (errs : Ghosts E) (options : Options) (status : ℕ) (before after : Streams E)
    : Type 0 where
  pub entries : List Entry
  pub fault : Fault
  pub spells : Spells options entries fault
  pub served : Result Served ServeFault
  pub came_out : PolicyCameOut options.policy (task options entries fault) served before.ends after.ends
  pub status_is : status ≡ status_after served
  pub reported : ReportsEnd errs served before.errors after.errors

-- the words ask for such options
pub record HasServed {E : Type 0} (errs : Ghosts E) (words : List Text) (status : ℕ) (before after : Streams E)
    : Type 0 where
  pub options : Options
  pub asked : AsksFor words options
  pub conversed : HasConversed errs options status before after

-- ---- texts that were asked for

-- With status 0 the output took the text, and nothing is reported. With 3 the output failed in it, which is reported.
pub data IsShown {E : Type 0} (errs : Ghosts E) (text : List ℕ) (output : Sink) (errors : E)
    : ℕ → Sink → E → Type 0 where
  flushed : {written : Sink} → TookWhole text output written → IsShown errs text output errors done written errors
  broke : {written : Sink} {reported : E} → TookPart text output written
      → ReportsFailure errs (Serve Write) errors reported
      → IsShown errs text output errors own_failure written reported

-- the words ask for the help or the version, and one text was written, or the writer failed in it
pub record HasHelped {E : Type 0} (errs : Ghosts E) (words : List Text) (status : ℕ) (before after : Streams E)
    : Type 0 where
  pub asked : AsksForText words
  pub text : List ℕ
  pub shown : IsShown errs text before.ends.output before.errors status after.ends.output after.errors

-- ---- what else may end a run

-- The program could not go on, and reports that memory was refused.
pub record IsOutOfMemory {E : Type 0} (errs : Ghosts E) (status : ℕ) (before after : E) : Type 0 where
  pub status_is : status ≡ own_failure
  pub reported : ReportsFailure errs OutOfMemory before after

-- The words ask for options whose texts have a mistake. The first one is reported.
pub record AsksWrongly {E : Type 0} (errs : Ghosts E) (words : List Text) (before after : E) : Type 0 where
  pub options : Options
  pub asked : AsksFor words options
  pub failure : Failure
  pub mistake : IsMistake options failure
  pub reported : ReportsFailure errs failure before after

-- The words have a mistake. One text is written.
pub record IsRefusedByClap {E : Type 0} (errs : Ghosts E) (words : List Text) (before after : E) : Type 0 where
  pub kind : ErrorKind
  pub mistake : ¬ IsRequest kind
  pub has : HasFault words kind
  pub text : List ℕ
  pub written : WritesOrBreaks errs text before after

-- the words have a mistake, or the texts that they give as a book and as a fault do
abbrev pub HasMistake : {E : Type 0} → Ghosts E → List Text → E → E → Type 0
HasMistake errs words before after = IsRefusedByClap errs words before after ⊎ AsksWrongly errs words before after
