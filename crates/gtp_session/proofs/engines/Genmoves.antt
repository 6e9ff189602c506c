-- Which lines ask the policy for a move, and what their replies count for.
use Rattle.std.proofs.Common.{◌≡◌, ℕ, List, true, Option, Some, None, refl, sym, subst, ap, ◌∙◌}
use Rattle.std.specs.Prelude.{◌↔◌, is_some, MatchOption}
use Rattle.go_base.specs.Colour.{colour_of, SpellsColour}
use Rattle.go_base.specs.declared.choices.Choice.{Choice}
use Rattle.go_base.specs.declared.choices.Choice.TheVariants as choice
use Rattle.go_base.specs.declared.colours.Colour.{Colour}
use Rattle.go_board.specs.Game.{GameRecord}
use Rattle.gtp_wire.specs.Replies.{written_reply}
use Rattle.gtp_wire.specs.declared.lines.Line.{Line}
use Rattle.gtp_wire.specs.declared.lines.Line.TheVariants as line
use Rattle.gtp_session.specs.Policy.{May}
use Rattle.gtp_session.specs.declared.commands.CommandName.{CommandName}
use Rattle.gtp_session.specs.declared.commands.CommandName.TheVariants.{Genmove}
use Rattle.gtp_session.specs.Commands.{Answer, answer_choice, argument, asked, asked_by, asked_by_command}
use Rattle.gtp_session.specs.Commands.{asked_by_named, asked_unless, full_refusal, id_of, named_command, row_of}
use Rattle.gtp_session.specs.Engine.{State, WrittenReply, Step}
use Rattle.gtp_session.specs.TableLaws.{IsArgument, TakesMove, AsksForMove, IsMade, GenmovesAloneCount}
use Rattle.gtp_session.proofs.table.Asking.{answer-asked}
use Rattle.gtp_session.proofs.engines.Replying.{succeeds_where_asked}
use Rattle.gtp_session.proofs.table.Causes.{fact, unrefused, full_settles}
use Rattle.gtp_session.proofs.table.LinesOfWords.{argument_of, of_argument, names_of, of_names}
use Rattle.gtp_session.proofs.table.Names.{asks_genmove}

asked_colour : (game : GameRecord) (words : List (List ℕ)) (o : Option Colour) (colour : Colour)
    → argument colour_of words 1 ≡ o → asked_by (row_of Genmove) game o ≡ Some colour
    → IsArgument SpellsColour words 1 colour × TakesMove game
asked_colour game words None colour is e = absurd (cc e)
asked_colour game words (Some c) colour is e = by_cause (full_refusal game) refl e
  where
    by_cause : (cause : Option (List ℕ)) → full_refusal game ≡ cause → asked_unless cause c ≡ Some colour
        → IsArgument SpellsColour words 1 colour × TakesMove game
    by_cause (Some cause) why f = absurd (cc f)
    by_cause None none f = (argument_of words 1 colour (is ∙ f), fact (full_settles game) none)

-- a line for which the policy is asked
asks_for : (game : GameRecord) (l : Line) (colour : Colour) → asked game l ≡ Some colour → AsksForMove game l colour
asks_for game line.TooLong colour e = absurd (cc e)
asks_for game (line.Command cl) colour e = by_name (named_command cl.words) refl e
  where
    by_name : (o : Option CommandName) → named_command cl.words ≡ o → asked_by_named game o cl.words ≡ Some colour
        → AsksForMove game (line.Command cl) colour
    by_name None is e = absurd (cc e)
    by_name (Some c) is e =
        let same : c ≡ Genmove = asks_genmove game c cl.words colour e in
        let asks : asked_by_command game Genmove cl.words ≡ Some colour =
        subst (λ (x : CommandName). asked_by_command game x cl.words ≡ Some colour) same e in
        let both = asked_colour game cl.words (argument colour_of cl.words 1) colour refl asks in
        (names_of cl.words Genmove (is ∙ ap (λ (x : CommandName). Some x) same), both.0, both.1)

asked_for : (game : GameRecord) (l : Line) (colour : Colour) → AsksForMove game l colour → asked game l ≡ Some colour
asked_for game line.TooLong colour h = absurd h
asked_for game (line.Command cl) colour h =
    ap (λ (o : Option CommandName). asked_by_named game o cl.words) (of_names cl.words Genmove h.0)
    ∙ ap (asked_by (row_of Genmove) game) (of_argument cl.words 1 colour h.1)
    ∙ ap (λ (cause : Option (List ℕ)). asked_unless cause colour) (unrefused (full_settles game) h.2)

is_made : (game after : GameRecord) (reply : WrittenReply) (l : Line) (colour : Colour) (ch : Choice)
    → after ≡ (answer_choice game colour ch).game
    → reply.text ≡ written_reply (answer_choice game colour ch).ok (id_of l) (answer_choice game colour ch).text
    → IsMade game l colour ch after reply
is_made game after reply l colour choice.Resign g t = (g, t)
is_made game after reply l colour (choice.Play v) g t = (g, t)

module _ {P : Type 0} (may : May P) where
  is_counted : (old new : State P) (l : Line) (reply : WrittenReply) → Step may old l reply new
      → (reply.genmove ≡ true) ↔ ((colour : Colour) × AsksForMove old.game l colour)
  is_counted old new l reply step =
      let same : reply.genmove ≡ is_some (asked old.game l) =
      step.genmove ∙ succeeds_where_asked old.game l step.choice in (
        λ e. by_asked (asked old.game l) refl (sym same ∙ e),
        λ h. same ∙ ap is_some (asked_for old.game l h.0 h.1),
      )
    where
      by_asked : (o : Option Colour) → asked old.game l ≡ o → is_some o ≡ true
          → (colour : Colour) × AsksForMove old.game l colour
      by_asked None is e = absurd (cc e)
      by_asked (Some colour) is e = (colour, asks_for old.game l colour is)

  is_chosen : (old new : State P) (l : Line) (reply : WrittenReply) (colour : Colour) → Step may old l reply new
      → AsksForMove old.game l colour
      → (ch : Choice) × may old.policy old.game colour ch new.policy × IsMade old.game l colour ch new.game reply
  is_chosen old new l reply colour step h =
      let asks = asked_for old.game l colour h in
      let given = answer-asked old.game l step.choice colour asks in (
        step.choice,
        rw asks at step.policy,
        is_made old.game new.game reply l colour step.choice (step.game ∙ ap (λ (a : Answer). a.game) given)
            (step.text ∙ ap (λ (a : Answer). written_reply a.ok (id_of l) a.text) given),
      )

  policy_stays : (old new : State P) (l : Line) (reply : WrittenReply) → Step may old l reply new
      → ((colour : Colour) → ¬ AsksForMove old.game l colour) → new.policy ≡ old.policy
  policy_stays old new l reply step none = by_asked (asked old.game l) refl step.policy
    where
      by_asked : (o : Option Colour) → asked old.game l ≡ o
          → MatchOption o (new.policy ≡ old.policy) (λ colour. may old.policy old.game colour step.choice new.policy)
          → new.policy ≡ old.policy
      by_asked None is e = e
      by_asked (Some colour) is e = absurd (none colour (asks_for old.game l colour is))

  pub genmoves_alone : GenmovesAloneCount may
  genmoves_alone = record { counted = is_counted; chosen = is_chosen; others = policy_stays }
