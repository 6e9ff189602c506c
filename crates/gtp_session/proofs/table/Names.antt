-- Each command has a name of its own, and only `genmove` asks a policy.
use Rattle.std.proofs.Common.{◌≡◌, ℕ, List, true, Option, Some, None, refl, sym, ap, ◌∙◌, Decides}
use Rattle.std.specs.Prelude.{codes}
use Rattle.std.proofs.lemmas.Slice.Eq.{bytes_eq-Decides}
use Rattle.go_base.specs.declared.colours.Colour.{Colour}
use Rattle.go_board.specs.Game.{GameRecord}
use Rattle.gtp_session.specs.declared.commands.CommandName.{CommandName}
use Rattle.gtp_session.specs.declared.commands.CommandName.TheVariants as command
use Rattle.gtp_session.specs.Commands.{spelled, command_named, has_name, row_of, asked_by_command, asked_by_named}
use Rattle.gtp_session.proofs.table.Rows.{asks_policy, asked_asks}

pub named_by_name : (c : CommandName) → command_named (spelled c) ≡ Some c
named_by_name command.Name = refl
named_by_name c = refl

same_name : (c d : CommandName) → spelled c ≡ spelled d → c ≡ d
same_name c d e = let both : Some c ≡ Some d = sym (named_by_name c) ∙ ap command_named e ∙ named_by_name d in cc

-- a command has the name of one command exactly where it is that one
pub has_name-Decides : (named : Option CommandName) (d : CommandName)
    → Decides (has_name (spelled d) named) (named ≡ Some d)
has_name-Decides None d = (λ e. cc, λ e. cc)
has_name-Decides (Some c) d =
    let test = bytes_eq-Decides (spelled c) (spelled d) in (
      λ e. ap (λ (x : CommandName). Some x) (same_name c d (test.0 e)),
      λ e. let same : c ≡ d = cc in test.1 (ap spelled same),
    )

pub is_genmove : (c : CommandName) → has_name (codes "genmove") (Some c) ≡ true → c ≡ command.Genmove
is_genmove c e = let same : Some c ≡ Some command.Genmove = (has_name-Decides (Some c) command.Genmove).0 e in cc

-- `genmove` alone asks the policy
pub row_asks : (c : CommandName) → asks_policy (row_of c).effect ≡ has_name (codes "genmove") (Some c)
row_asks command.Name = refl
row_asks c = refl

-- a command that asks for a colour is `genmove`
pub asks_genmove : (game : GameRecord) (c : CommandName) (words : List (List ℕ)) (colour : Colour)
    → asked_by_command game c words ≡ Some colour → c ≡ command.Genmove
asks_genmove game c words colour e =
    is_genmove c (sym (row_asks c) ∙ asked_asks (row_of c).effect ((row_of c).refusal game) _ colour e)

-- no other command asks it
pub unasked : (game : GameRecord) (named : Option CommandName) (words : List (List ℕ))
    → ¬ (named ≡ Some command.Genmove) → asked_by_named game named words ≡ None
unasked game None words other = refl
unasked game (Some c) words other = by_asked (asked_by_command game c words) refl
  where
    by_asked : (o : Option Colour) → asked_by_command game c words ≡ o → o ≡ None
    by_asked None e = refl
    by_asked (Some colour) e =
        absurd (other (ap (λ (x : CommandName). Some x) (asks_genmove game c words colour e)))
