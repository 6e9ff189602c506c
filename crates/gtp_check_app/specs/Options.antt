-- The program's command line, in the words of the crate `clap`, and what it asks for. (Own.)
use Rattle.std.specs.Prelude.{◌≡◌, pos, Bool, List, [], ◌∷◌, filter, map, codes, if◌then◌else◌}
use Rattle.std.specs.Borrow.{Bor}
use Rattle.std.specs.List.{list_any}
use Rattle.std.specs.Str.{bytes_eq}
use Rattle.clap.specs.Words.{App, IsAmong, Row, Rule, Text, fault_of, matches_of, new_rule, with_rule}
use Rattle.clap.specs.declared.error.kind.ErrorKind.{ErrorKind}
use Rattle.cli.specs.Options.{AreNames, HasFlag, HasNumber, flag_rule, maybe_number_rule, name_rule, names_rule}
use Rattle.cli.specs.Options.{number_rule, option_text, option_texts, with_rules}
use Rattle.cli.specs.Options.{program as program_named}
use Rattle.cli.specs.Status.{IsRequest}
use Rattle.go_board.specs.declared.rules.KoRule.{KoRule}
use Rattle.go_board.specs.declared.rules.KoRule.TheVariants.{Simple, Positional}
use Rattle.gtp_check_course.specs.Lessons.{all_lessons, name_of}
use Rattle.gtp_check_course.specs.declared.lessons.Lesson.{Lesson}
use Rattle.gtp_check_course.specs.declared.unasked.Unasked.{Unasked}
use Rattle.gtp_check_app.specs.declared.options.Options.{Options}

-- ---- the options that there are

-- the program keeps these lists of names: those of `--ko`, `--suicide` and `--score`, and the lessons of `--only` and of
-- `--skip`
pub record KeptNames : Type 0 where
  pub rules : Bor (List (Bor Text))
  pub suicides : Bor (List (Bor Text))
  pub scores : Bor (List (Bor Text))
  pub only : Bor (List (Bor Text))
  pub skip : Bor (List (Bor Text))

pub record AreKept (names : KeptNames) : Type 0 where
  pub rules : AreNames (codes "simple" ∷ codes "positional" ∷ codes "unasked" ∷ []) names.rules
  pub suicides : AreNames (codes "forbidden" ∷ codes "unasked" ∷ []) names.suicides
  pub scores : AreNames (codes "asked" ∷ codes "unasked" ∷ []) names.scores
  pub only : AreNames (map name_of all_lessons) names.only
  pub skip : AreNames (map name_of all_lessons) names.skip

-- the engine's command, which has no name before it
abbrev pub word_rule : Text → Rule
word_rule name = record (new_rule name) { value_names = 1 }

-- `[CMD]`, of a program that has a version
abbrev pub program : App
program = with_rule (program_named (codes "gtp_check")) (word_rule (codes "CMD"))

-- `[--size N] [--ko simple|positional|unasked] [--suicide forbidden|unasked] [--score asked|unasked] [--seed N]`, and
-- `[--quick] [--only LESSON].. [--skip LESSON].. [--list] [--singly] [--stop-at-first] [--restarts N] [--trials N]`, and
-- `[--timeout SECONDS] [--start-timeout SECONDS]`
abbrev pub options : KeptNames → List Rule
options names =
    maybe_number_rule (codes "size") (pos 5) (pos 25)
    ∷ name_rule (codes "ko") names.rules (codes "simple")
    ∷ name_rule (codes "suicide") names.suicides (codes "forbidden")
    ∷ name_rule (codes "score") names.scores (codes "asked")
    ∷ number_rule (codes "seed") (pos 0) (pos 4294967295) (codes "1")
    ∷ flag_rule (codes "quick")
    ∷ names_rule (codes "only") names.only
    ∷ names_rule (codes "skip") names.skip
    ∷ flag_rule (codes "list")
    ∷ flag_rule (codes "singly")
    ∷ flag_rule (codes "stop-at-first")
    ∷ number_rule (codes "restarts") (pos 0) (pos 1000) (codes "200")
    ∷ number_rule (codes "trials") (pos 0) (pos 1000) (codes "60")
    ∷ maybe_number_rule (codes "timeout") (pos 1) (pos 86400)
    ∷ maybe_number_rule (codes "start-timeout") (pos 1) (pos 86400)
    ∷ []

-- the engine's command, and all options in the order of the help
abbrev pub command_line : KeptNames → App
command_line names = with_rules program (options names)

-- ---- what the words ask for

-- The ko rule of the game, by this name: where ko isn't asked it is the strictest one.
abbrev pub ko_rule_named : Text → KoRule
ko_rule_named name = if bytes_eq name (codes "simple") then Simple else Positional

-- the name of a rule says that this isn't asked
abbrev pub is_unasked : Text → Bool
is_unasked name = bytes_eq name (codes "unasked")

-- what isn't asked, as the options say
abbrev pub unasked_in : List Row → Unasked
unasked_in rows = record {
  suicide = is_unasked (option_text (codes "suicide") rows);
  ko = is_unasked (option_text (codes "ko") rows);
  score = is_unasked (option_text (codes "score") rows);
}

-- the lesson's name is among these
abbrev pub is_named : List Text → Lesson → Bool
is_named names lesson = list_any (λ name. bytes_eq name (name_of lesson)) names

-- the lessons that these names name, in the order of a course
abbrev pub lessons_named : List Text → List Lesson
lessons_named names = filter (is_named names) all_lessons

-- the matches of a command line ask for these options
pub record Ask (rows : List Row) (options : Options) : Type 0 where
  pub command : options.command.now ≡ option_text (codes "CMD") rows
  pub size : HasNumber (codes "size") rows options.size
  pub rule : options.rule ≡ ko_rule_named (option_text (codes "ko") rows)
  pub unasked : options.unasked ≡ unasked_in rows
  pub seed : HasNumber (codes "seed") rows options.seed
  pub quick : HasFlag (codes "quick") rows options.quick
  pub only : options.only.items ≡ lessons_named (option_texts (codes "only") rows)
  pub skip : options.skip.items ≡ lessons_named (option_texts (codes "skip") rows)
  pub list : HasFlag (codes "list") rows options.list
  pub singly : HasFlag (codes "singly") rows options.singly
  pub stop_at_first : HasFlag (codes "stop-at-first") rows options.stop_at_first
  pub restarts : HasNumber (codes "restarts") rows options.restarts
  pub trials : HasNumber (codes "trials") rows options.trials
  pub timeout : HasNumber (codes "timeout") rows options.timeout
  pub start_timeout : HasNumber (codes "start-timeout") rows options.start_timeout

-- the words of a command line have no mistake, and ask for these options
pub record AsksFor (words : List Text) (options : Options) : Type 0 where
  pub names : KeptNames
  pub are_kept : AreKept names
  pub no_fault : fault_of (command_line names) words ≡ []
  pub asked : Ask (matches_of (command_line names) words) options

-- the words have a mistake of this kind, or ask for the help or the version
pub record HasFault (words : List Text) (kind : ErrorKind) : Type 0 where
  pub names : KeptNames
  pub are_kept : AreKept names
  pub among : IsAmong kind (fault_of (command_line names) words)

-- the words ask for the help or the version
abbrev pub AsksForText : List Text → Type 0
AsksForText words = (kind : ErrorKind) × IsRequest kind × HasFault words kind
