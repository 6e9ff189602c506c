-- The program's command line, in the words of the crate `clap`, and what it asks for. (Own.)
use Rattle.std.specs.Prelude.{◌≡◌, pos, false, List, [], ◌∷◌, codes}
use Rattle.clap.specs.Words.{App, IsAmong, Row, Rule, Text, fault_of, matches_of}
use Rattle.clap.specs.declared.error.kind.ErrorKind.{ErrorKind}
use Rattle.cli.specs.Options.{HasFlag, HasNumber, flag_rule, number_rule, option_text, program, required_rule}
use Rattle.cli.specs.Options.{text_rule, with_rules}
use Rattle.cli.specs.Status.{IsRequest}
use Rattle.twogtp_app.specs.declared.options.Options.{Options}

-- ---- the options that there are

-- in the order of the help
abbrev pub options : List Rule
options =
    required_rule (codes "black")
    ∷ required_rule (codes "white")
    ∷ number_rule (codes "size") (pos 1) (pos 25) (codes "19")
    ∷ text_rule (codes "komi") (codes "6.5")
    ∷ number_rule (codes "handicap") (pos 0) (pos 9) (codes "0")
    ∷ number_rule (codes "games") (pos 1) (pos 1000) (codes "1")
    ∷ number_rule (codes "max-moves") (pos 1) (pos 2000) (codes "1000")
    ∷ number_rule (codes "restarts") (pos 0) (pos 1000) (codes "2")
    ∷ flag_rule (codes "record")
    ∷ flag_rule (codes "show")
    ∷ flag_rule (codes "why")
    ∷ []

-- the program with its options
abbrev pub command_line : App
command_line = with_rules (program (codes "twogtp")) options

-- ---- what the words ask for

-- the matches of a command line ask for these options
pub record Ask (rows : List Row) (options : Options) : Type 0 where
  pub black : options.black.now ≡ option_text (codes "black") rows
  pub white : options.white.now ≡ option_text (codes "white") rows
  pub size : HasNumber (codes "size") rows options.size
  pub komi : options.komi.now ≡ option_text (codes "komi") rows
  pub handicap : HasNumber (codes "handicap") rows options.handicap
  pub games : HasNumber (codes "games") rows options.games
  pub max_moves : HasNumber (codes "max-moves") rows options.max_moves
  pub restarts : HasNumber (codes "restarts") rows options.restarts
  pub record_flag : HasFlag (codes "record") rows options.details.record
  pub show_flag : HasFlag (codes "show") rows options.details.show
  pub why_flag : HasFlag (codes "why") rows options.details.why

-- the words of a command line have no mistake, and ask for these options
pub record AsksFor (words : List Text) (options : Options) : Type 0 where
  pub no_fault : fault_of command_line words ≡ []
  pub asked : Ask (matches_of command_line words) options

-- whatever options the words ask for, `--why` is not among them
abbrev pub IsWithoutWhy : List Text → Type 0
IsWithoutWhy words = (options : Options) → AsksFor words options → options.details.why ≡ false

-- the words have a mistake of this kind, or ask for the help or the version
abbrev pub HasFault : List Text → ErrorKind → Type 0
HasFault words kind = IsAmong kind (fault_of command_line words)

-- the words ask for the help or the version
abbrev pub AsksForText : List Text → Type 0
AsksForText words = (kind : ErrorKind) × IsRequest kind × HasFault words kind
