-- The options of a command line, and what the getters of its matches give.
use Rattle.std.proofs.Common.{◌≡◌, ◌∙◌, ℕ, false, List, [], ◌∷◌, ◌++◌, Option, Some, None, ap, map, refl, sym}
use Rattle.std.proofs.Common.{take, length, slice_index_or, ◌+◌}
use Rattle.std.proofs.lemmas.List.{take_more}
use Rattle.std.specs.Borrow.{Bor}
use Rattle.std.specs.Prelude.{◌<◌, ◌^◌, Ok, Err, Result, option_map, unwrap_or}
use Rattle.std.specs.Str.Parse.{IsNumeral, ParsesUnsigned, digits_value, without_leading_plus}
use Rattle.clap.specs.Matches.{ReadsOne}
use Rattle.clap.specs.Words.{AddsArg, App, Rule, Text, app_of, rule_of, with_rule}
use Rattle.clap.specs.declared.builder.arg.Arg.{Arg}
use Rattle.clap.specs.declared.builder.command.Command.{Command}
use Rattle.cli.specs.declared.options.OptionRow.{OptionRow}
use Rattle.cli.specs.declared.options.Takes.TheVariants.{Nothing}
use Rattle.cli.specs.Options.{rule_of_row, with_rules}

-- an option that is added to a command adds its rule to the command line
with_rule-from_added : (old new : Command) (option : Arg) (app : App) (rule : Rule) → AddsArg old option new
    → option.global ≡ false → app_of old ≡ app → rule_of option ≡ rule → app_of new ≡ with_rule app rule
with_rule-from_added old new option app rule adds local is is_rule =
    adds.shape local ∙ (ap (λ it. with_rule it (rule_of option)) is ∙ ap (with_rule app) is_rule)

-- a command line with the options of rows and of one row more has that row's option after theirs
with_rules-more : (app : App) (rows : List OptionRow) (row : OptionRow)
    → with_rules app (map rule_of_row (rows ++ row ∷ []))
    ≡ with_rule (with_rules app (map rule_of_row rows)) (rule_of_row row)
with_rules-more app [] row = refl
with_rules-more app (first ∷ rest) row = with_rules-more (with_rule app (rule_of_row first)) rest row

-- the row that the checker takes past the end of a list
abbrev pub some_row : OptionRow
some_row = record {
  name = record { ref_ptr = (0, 0); now = [] };
  takes = Nothing;
  help = record { ref_ptr = (0, 0); now = [] };
}

-- a command line with the options of the first k rows has, with the next row's option, those of the first k + 1
pub with_rules-step : (app : App) (rows : List OptionRow) (k : ℕ) (d : OptionRow) (old new : Command) (option : Arg)
    → k < length rows → AddsArg old option new → option.global ≡ false
    → app_of old ≡ with_rules app (map rule_of_row (take k rows))
    → rule_of option ≡ rule_of_row (slice_index_or rows k d)
    → app_of new ≡ with_rules app (map rule_of_row (take (k + 1) rows))
with_rules-step app rows k d old new option fits adds local is is_rule =
    let row = slice_index_or rows k d in
    let before = with_rules app (map rule_of_row (take k rows)) in
    with_rule-from_added old new option before (rule_of_row row) adds local is is_rule
    ∙ (sym (with_rules-more app (take k rows) row)
    ∙ ap (λ (some : List OptionRow). with_rules app (map rule_of_row some)) (sym (take_more rows k d fits)))

-- a text, or the empty text where there is none
pub now-unwrap_or : (o : Option (Bor Text)) (d : Bor Text) → d.now ≡ []
    → (unwrap_or o d).now ≡ unwrap_or (option_map (λ s. s.now) o) []
now-unwrap_or None d e = e
now-unwrap_or (Some s) d e = refl

-- what a getter of numbers of 32 bits read of a text is what the text spells
pub ReadsOne-spells : (E : Type 0) (G : List ℕ → Result ℕ E → Type 0) (text : Text) (read : Option ℕ) (default : ℕ)
    → ReadsOne G text read → ((x : Result ℕ E) → G text x → ParsesUnsigned 32 10 text x)
    → IsNumeral 10 (without_leading_plus text) → digits_value 10 (without_leading_plus text) < 2 ^ 32
    → unwrap_or read default ≡ digits_value 10 (without_leading_plus text)
ReadsOne-spells E G text (Some n) default reads parses = λ numeral fits. (parses (Ok n) reads).1
ReadsOne-spells E G text None default reads parses = λ numeral fits.
    absurd (parses (Err reads.0) reads.1 (numeral, fits))
