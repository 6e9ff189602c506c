-- The program's command line.
use Rattle.std.proofs.Common.{◌≡◌, ◌∙◌, true, List, ap, inl, inr, map, refl}
use Rattle.std.specs.Prelude.{◌⊎◌}
use Rattle.clap.specs.Kinds.{HasKind}
use Rattle.clap.specs.declared.error.Error.{Error}
use Rattle.clap.specs.declared.error.kind.ErrorKind.TheVariants.{OutOfMemory}
use Rattle.clap.specs.Words.{App, Rule, Text, fault_of, is_simple, is_simple_and_free, kind_of}
use Rattle.clap.proofs.OnLiterals.{clap_on_literals}
use Rattle.cli.specs.Options.{rule_of_row, with_rules}
use Rattle.cli.specs.declared.options.OptionRow.{OptionRow}
use Rattle.gtp_check_app.specs.Options.{AreKept, HasFault, KeptNames, command_line, options, program}
use Rattle.gtp_check_app.specs.private.CommandLine.{IsCommandLine}

-- the command line uses nothing that changes how words are read
pub is_simple-command_line : (names : KeptNames) → is_simple (command_line names) ≡ true
unfolding clap_on_literals
is_simple-command_line names = refl

-- and no option has a rule on another
pub is_simple_and_free-command_line : (names : KeptNames) → is_simple_and_free (command_line names) ≡ true
unfolding clap_on_literals
is_simple_and_free-command_line names = refl

-- the rows are those of the program's options
pub record AreOptions (rows : List OptionRow) : Type 0 where
  pub names : KeptNames
  pub are_kept : AreKept names
  pub are : map rule_of_row rows ≡ options names

-- a command line with these options and no other is the program's
pub command_line-from_rows : (app start : App) (rows : List OptionRow) → AreOptions rows → start ≡ program
    → app ≡ with_rules start (map rule_of_row rows) → IsCommandLine app
command_line-from_rows app start rows rows_are begun is = record {
  names = rows_are.names;
  are_kept = rows_are.are_kept;
  is = is
      ∙ (ap (λ (it : App). with_rules it (map rule_of_row rows)) begun
      ∙ ap (λ (rules : List Rule). with_rules program rules) rows_are.are);
}

-- an error of a kind that the command line may give is a fault of the words
pub fault_from_kind : (names : KeptNames) (words : List Text) (e : Error) → AreKept names
    → HasKind (fault_of (command_line names) words) e → (kind_of e ≡ OutOfMemory) ⊎ HasFault words (kind_of e)
fault_from_kind names words e are has = elim has [
  | inl is ↦ inl is
  | inr among ↦ inr (record { names = names; are_kept = are; among = among })
]
