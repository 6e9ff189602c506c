-- The program's command line, in the words of the crate `clap`, and what it asks for. (Own.)
use Rattle.std.specs.Prelude.{◌≡◌, ◌⊎◌, ℕ, pos, List, [], ◌∷◌, Some, None, codes, if◌then◌else◌}
use Rattle.std.specs.Borrow.{Bor}
use Rattle.std.specs.Str.{bytes_eq}
use Rattle.clap.specs.Words.{App, IsAmong, Row, Rule, Text, fault_of, matches_of}
use Rattle.clap.specs.declared.error.kind.ErrorKind.{ErrorKind}
use Rattle.cli.specs.Options.{AreNames, HasNumber, name_rule, number_rule, option_text, program, text_rule, with_rules}
use Rattle.cli.specs.Status.{IsRequest}
use Rattle.go_board.specs.declared.rules.KoRule.{KoRule}
use Rattle.go_board.specs.declared.rules.KoRule.TheVariants.{Simple, Positional}
use Rattle.gtp_session.specs.Book.{book_of}
use Rattle.gtp_session.specs.FaultTexts.{fault_spelled}
use Rattle.gtp_session.specs.declared.book.Entry.{Entry}
use Rattle.gtp_session.specs.declared.fault.Fault.{Fault}
use Rattle.gtp_engine_app.specs.declared.failure.Failure.{Failure}
use Rattle.gtp_engine_app.specs.declared.failure.Failure.TheVariants.{BadBook, BadFault}
use Rattle.gtp_engine_app.specs.declared.options.Options.{Options}
use Rattle.gtp_engine_app.specs.declared.options.PolicyName.{PolicyName}
use Rattle.gtp_engine_app.specs.declared.options.PolicyName.TheVariants.{First, Random, Book}

-- ---- the options that there are

-- the program keeps these lists of names: the policies, and the ko rules
pub record KeptNames : Type 0 where
  pub policies : Bor (List (Bor Text))
  pub rules : Bor (List (Bor Text))

pub record AreKept (names : KeptNames) : Type 0 where
  pub policies : AreNames (codes "first" ∷ codes "random" ∷ codes "book" ∷ []) names.policies
  pub rules : AreNames (codes "simple" ∷ codes "positional" ∷ []) names.rules

-- `[--policy first|random|book] [--seed N] [--ko simple|positional] [--book TEXT] [--fault TEXT]`
abbrev pub options : KeptNames → List Rule
options names =
    name_rule (codes "policy") names.policies (codes "first")
    ∷ number_rule (codes "seed") (pos 0) (pos 4294967295) (codes "1")
    ∷ name_rule (codes "ko") names.rules (codes "simple")
    ∷ text_rule (codes "book") []
    ∷ text_rule (codes "fault") (codes "none")
    ∷ []

-- the program, and all options in the order of the help
abbrev pub command_line : KeptNames → App
command_line names = with_rules (program (codes "gtp_engine")) (options names)

-- ---- what the words ask for

-- the policy of this name
abbrev pub policy_named : Text → PolicyName
policy_named name =
    if bytes_eq name (codes "random") then Random else (if bytes_eq name (codes "book") then Book else First)

-- the ko rule of this name
abbrev pub ko_rule_named : Text → KoRule
ko_rule_named name = if bytes_eq name (codes "positional") then Positional else Simple

-- the matches of a command line ask for these options
pub record Ask (rows : List Row) (options : Options) : Type 0 where
  pub policy : options.policy ≡ policy_named (option_text (codes "policy") rows)
  pub seed : HasNumber (codes "seed") rows options.seed
  pub rule : options.rule ≡ ko_rule_named (option_text (codes "ko") rows)
  pub book : options.book.now ≡ option_text (codes "book") rows
  pub fault : options.fault.now ≡ option_text (codes "fault") rows

-- the words of a command line have no mistake, and ask for these options
pub record AsksFor (words : List Text) (options : Options) : Type 0 where
  pub names : KeptNames
  pub are_kept : AreKept names
  pub no_fault : fault_of (command_line names) words ≡ []
  pub asked : Ask (matches_of (command_line names) words) options

-- the words have a mistake of this kind, or ask for help
pub record HasFault (words : List Text) (kind : ErrorKind) : Type 0 where
  pub names : KeptNames
  pub are_kept : AreKept names
  pub among : IsAmong kind (fault_of (command_line names) words)

-- the words ask for the help or for the version
abbrev pub AsksForText : List Text → Type 0
AsksForText words = (kind : ErrorKind) × IsRequest kind × HasFault words kind

-- ---- mistakes in the options

-- the text is a book
pub record IsBook (text : List ℕ) : Type 0 where
  pub entries : List Entry
  pub spells : book_of text ≡ Some entries

-- the texts of the options are this book and this fault
abbrev pub Spells : Options → List Entry → Fault → Type 0
Spells options entries fault =
    (book_of options.book.now ≡ Some entries) × (fault_spelled options.fault.now ≡ Some fault)

-- the text of the book is none
abbrev pub HasNoBook : Options → Type 0
HasNoBook options = book_of options.book.now ≡ None

-- there is a book, and the text of the fault is none
abbrev pub HasNoFault : Options → Type 0
HasNoFault options = IsBook options.book.now × (fault_spelled options.fault.now ≡ None)

-- the first mistake in the texts of the options, the book's before the fault's
abbrev pub IsMistake : Options → Failure → Type 0
IsMistake options failure =
    ((failure ≡ BadBook) × HasNoBook options) ⊎ ((failure ≡ BadFault) × HasNoFault options)
