-- What the options of a run come to: the engines' commands, and the task. (Own.)
use Rattle.std.specs.Prelude.{◌≡◌, ◌≢◌, ℤ, List, [], None, Some, map}
use Rattle.std.specs.Borrow.{Bor}
use Rattle.clap.specs.Words.{Text}
use Rattle.go_base.specs.Komi.{komi_of}
use Rattle.gtp_wire.specs.Words.{words}
use Rattle.gtp_match.specs.Setup.{setup_of, IsSetup}
use Rattle.twogtp_app.specs.declared.failure.Mistake.{Mistake}
use Rattle.twogtp_app.specs.declared.failure.Mistake.TheVariants.{NoBlackCommand, NoWhiteCommand, BadKomi, BadHandicap}
use Rattle.cli.specs.declared.failure.PlanError.{PlanError}
use Rattle.cli.specs.declared.failure.PlanError.TheVariants.{BadWords, OutOfMemory}
use Rattle.twogtp_app.specs.declared.options.Options.{Options}
use Rattle.twogtp_app.specs.declared.plan.Plan.{Plan}
use Rattle.twogtp_app.specs.declared.task.Commands.{Commands}
use Rattle.twogtp_app.specs.declared.task.Task.{Task}

-- the command of an engine: the words of its text, which is split at spaces
abbrev pub IsCommand : Text → List (Bor Text) → Type 0
IsCommand text command = map (λ word. word.now) command ≡ words text

-- both commands have a word
pub record HaveWords (options : Options) : Type 0 where
  pub black : words options.black.now ≢ []
  pub white : words options.white.now ≢ []

-- the commands of both engines, which have a word each
pub record AreCommandsOf (options : Options) (commands : Commands) : Type 0 where
  pub black : IsCommand options.black.now commands.black.items
  pub white : IsCommand options.white.now commands.white.items
  pub have_words : HaveWords options

-- the task of the options: their numbers as they are, and the komi that their text spells
pub record IsTaskOf (options : Options) (task : Task) : Type 0 where
  pub size : task.setup.size ≡ options.size
  pub komi : komi_of options.komi.now ≡ Some task.setup.komi
  pub handicap : task.setup.handicap ≡ options.handicap
  pub max_moves : task.setup.max_moves ≡ options.max_moves
  pub max_restarts : task.setup.max_restarts ≡ options.restarts
  pub games : task.games ≡ options.games
  pub details : task.details ≡ options.details

-- what the options come to
pub record IsPlanOf (options : Options) (plan : Plan) : Type 0 where
  pub engines : AreCommandsOf options plan.commands
  pub games : IsTaskOf options plan.task

-- ---- mistakes in the options

-- the text of komi is one, and with it the numbers are no setup: the size doesn't allow the handicap, as the command
-- line takes no other number that is past its limits
pub record IsNoSetup (options : Options) : Type 0 where
  pub komi : ℤ
  pub spells : komi_of options.komi.now ≡ Some komi
  pub no_setup : ¬ IsSetup (setup_of options.size komi options.handicap options.max_moves options.restarts)

-- the first mistake in the options, in this order: Black's command, White's, komi, the handicap
abbrev pub IsMistake : Options → Mistake → Type 0
IsMistake options NoBlackCommand = words options.black.now ≡ []
IsMistake options NoWhiteCommand = (words options.black.now ≢ []) × (words options.white.now ≡ [])
IsMistake options BadKomi = HaveWords options × (komi_of options.komi.now ≡ None)
IsMistake options BadHandicap = HaveWords options × IsNoSetup options

-- why the options come to no plan: their first mistake, or memory was refused
abbrev pub HasNoPlan : Options → PlanError Mistake → Type 0
HasNoPlan options (BadWords mistake) = IsMistake options mistake
HasNoPlan options OutOfMemory = Unit {0}
