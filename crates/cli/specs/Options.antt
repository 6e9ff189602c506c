-- The options of a command line, in the words of the crate `clap`, and what was found of one. (Own.)
use Rattle.std.specs.Prelude.{◌≡◌, ◌<◌, ◌^◌, ℕ, ℤ, Bool, true, false, List, [], ◌∷◌, map}
use Rattle.std.specs.Prelude.{Some, None, codes, unwrap_or}
use Rattle.std.specs.Borrow.{Bor}
use Rattle.std.specs.Str.Parse.{IsNumeral, digits_value, without_leading_plus}
use Rattle.clap.specs.Words.{App, Row, Rule, Text, all_of, first_of, new_app, new_rule, one_of, with_rule}
use Rattle.clap.specs.declared.builder.action.ArgAction.TheVariants.{Append, SetTrue}
use Rattle.clap.specs.declared.builder.value_parser.ValueParser.TheVariants as parser
use Rattle.cli.specs.declared.options.OptionRow.{OptionRow}
use Rattle.cli.specs.declared.options.Takes.{Takes}
use Rattle.cli.specs.declared.options.Takes.TheVariants.{Nothing, Required, Text as AnyText, HiddenText}
use Rattle.cli.specs.declared.options.Takes.TheVariants.{Number, MaybeNumber, Name, Names}

-- ---- the options that there are

-- a program of this name, which has a version, with no option yet
abbrev pub program : Text → App
program name = record (new_app name) { top = record (new_app name).top { has_version = true } }

-- an option that the words name so
abbrev pub named_rule : Text → Rule
named_rule name = record (new_rule name) { long = Some name }

-- an option that takes no value
abbrev pub flag_rule : Text → Rule
flag_rule name = record (named_rule name) { action = Some SetTrue }

-- an option that takes one value
abbrev pub value_rule : Text → Rule
value_rule name = record (named_rule name) { value_names = 1 }

-- an option that takes one value and has to be there
abbrev pub required_rule : Text → Rule
required_rule name = record (value_rule name) { required = true }

-- an option that takes any text, with the one that it has where it isn't used
abbrev pub text_rule : Text → Text → Rule
text_rule name default = record (value_rule name) { defaults = default ∷ [] }

-- an option that takes a whole number within limits, or isn't used
abbrev pub maybe_number_rule : Text → ℤ → ℤ → Rule
maybe_number_rule name least most = record (value_rule name) { parser = Some (parser.Signed least most) }

-- an option that takes a whole number within limits, with the text of the one that it has where it isn't used
abbrev pub number_rule : Text → ℤ → ℤ → Text → Rule
number_rule name least most default = record (maybe_number_rule name least most) { defaults = default ∷ [] }

-- an option that takes one of these names
abbrev pub among_rule : Text → Bor (List (Bor Text)) → Rule
among_rule name names = record (value_rule name) { parser = Some (parser.Names names) }

-- the same, with the name that it has where it isn't used
abbrev pub name_rule : Text → Bor (List (Bor Text)) → Text → Rule
name_rule name names default = record (among_rule name names) { defaults = default ∷ [] }

-- an option that takes one of these names, and can be used any number of times
abbrev pub names_rule : Text → Bor (List (Bor Text)) → Rule
names_rule name names = record (among_rule name names) { action = Some Append }

-- a command line, and these options after its own, one by one
abbrev pub with_rules : App → List Rule → App
with_rules app [] = app
with_rules app (rule ∷ rest) = with_rules (with_rule app rule) rest

-- these are the names, as a program keeps them
abbrev pub AreNames : List Text → Bor (List (Bor Text)) → Type 0
AreNames names kept = map (λ name. name.now) kept.now ≡ names

-- ---- the options of a table

-- the rule of an option of this name that takes this
abbrev pub rule_taking : Text → Takes → Rule
rule_taking name Nothing = flag_rule name
rule_taking name (Required called) = required_rule name
rule_taking name (AnyText called default) = text_rule name default.now
rule_taking name (HiddenText called default) = text_rule name default.now
rule_taking name (Number called least most default) = number_rule name least most default.now
rule_taking name (MaybeNumber called least most) = maybe_number_rule name least most
rule_taking name (Name called names default) = name_rule name names default.now
rule_taking name (Names called names) = names_rule name names

-- the rule of a row's option
abbrev pub rule_of_row : OptionRow → Rule
rule_of_row row = rule_taking row.name.now row.takes

-- ---- what was found of an option in the words

-- the text that an option has, and the empty one where it has none; a default counts too
abbrev pub option_text : Text → List Row → Text
option_text name rows = unwrap_or (first_of name rows) []

-- the texts that an option has, and none where it has none
abbrev pub option_texts : Text → List Row → List Text
option_texts name rows = unwrap_or (all_of name rows) []

-- The number that an option has: what its text spells, where that is a number of 32 bits, and 0 where it has none. A
-- default counts too.
pub record HasNumber (name : Text) (rows : List Row) (number : ℕ) : Type 0 where
  pub spelled : (text : Text) → one_of name rows ≡ Some text
      → IsNumeral 10 (without_leading_plus text) → digits_value 10 (without_leading_plus text) < 2 ^ 32
      → number ≡ digits_value 10 (without_leading_plus text)
  pub missing : one_of name rows ≡ None → number ≡ 0

-- whether a flag is used
pub record HasFlag (name : Text) (rows : List Row) (flag : Bool) : Type 0 where
  pub used : one_of name rows ≡ Some (codes "true") → flag ≡ true
  pub unused : one_of name rows ≡ Some (codes "false") → flag ≡ false
