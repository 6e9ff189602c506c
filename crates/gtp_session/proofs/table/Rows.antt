-- What holds of every row of the table of the commands.
use Rattle.std.proofs.Common.{◌≡◌, ℕ, List, Bool, true, false, Option, Some, None, refl, sym, ap, ◌∙◌}
use Rattle.std.specs.Prelude.{◌&&◌, is_some}
use Rattle.go_base.specs.declared.choices.Choice.{Choice}
use Rattle.go_base.specs.declared.choices.Choice.TheVariants as choice
use Rattle.go_base.specs.declared.colours.Colour.{Colour}
use Rattle.go_board.specs.Game.{GameRecord}
use Rattle.gtp_session.specs.Commands.{Effect, leaves, asks, Row, answer_choice, answer_of_effect, answer_unless}
use Rattle.gtp_session.specs.Commands.{answer_by, asked_by_effect, asked_by, fails}

-- whether it asks the policy
abbrev pub asks_policy : {A : Type 0} → Effect A → Bool
asks_policy (leaves after text) = false
asks_policy (asks colour) = true

module _ {A : Type 0} where
  -- ---- what is not refused succeeds

  pub effect_ok : (effect : Effect A) (game : GameRecord) (a : A) (ch : Choice)
      → (answer_of_effect effect game a ch).ok ≡ true
  effect_ok (leaves after text) game a ch = refl
  effect_ok (asks colour) game a choice.Resign = refl
  effect_ok (asks colour) game a (choice.Play v) = refl

  pub row_done : (row : Row A) (game : GameRecord) (o : Option A) (a : A) (ch : Choice) → o ≡ Some a
      → row.refusal game a ≡ None → answer_by row game o ch ≡ answer_of_effect row.effect game a ch
  row_done row game o a ch is none =
      ap (λ (x : Option A). answer_by row game x ch) is
      ∙ ap (λ (r : Option (List ℕ)). answer_unless r row.effect game a ch) none

  pub row_refused : (row : Row A) (game : GameRecord) (o : Option A) (a : A) (ch : Choice) (cause : List ℕ)
      → o ≡ Some a → row.refusal game a ≡ Some cause → answer_by row game o ch ≡ fails game cause
  row_refused row game o a ch cause is why =
      ap (λ (x : Option A). answer_by row game x ch) is
      ∙ ap (λ (r : Option (List ℕ)). answer_unless r row.effect game a ch) why

  -- ---- what fails keeps the game

  unless_keeps : (cause : Option (List ℕ)) (effect : Effect A) (game : GameRecord) (a : A) (ch : Choice)
      → (answer_unless cause effect game a ch).ok ≡ false → (answer_unless cause effect game a ch).game ≡ game
  unless_keeps None effect game a ch e = absurd (cc (e, effect_ok effect game a ch))
  unless_keeps (Some cause) effect game a ch e = refl

  pub row_keeps : (row : Row A) (game : GameRecord) (o : Option A) (ch : Choice)
      → (answer_by row game o ch).ok ≡ false → (answer_by row game o ch).game ≡ game
  row_keeps row game None ch e = refl
  row_keeps row game (Some a) ch e = unless_keeps (row.refusal game a) row.effect game a ch e

  -- ---- who asks the policy

  pub asked_where : (effect : Effect A) (refusal : A → Option (List ℕ)) (a : A)
      → asked_by_effect effect refusal (Some a) ≡ asked_by_effect effect (λ b. refusal a) (Some a)
  asked_where (leaves after text) refusal a = refl
  asked_where (asks colour) refusal a = refl

  pub asked_asks : (effect : Effect A) (refusal : A → Option (List ℕ)) (o : Option A) (colour : Colour)
      → asked_by_effect effect refusal o ≡ Some colour → asks_policy effect ≡ true
  asked_asks (leaves after text) refusal o colour e = absurd (cc e)
  asked_asks (asks c) refusal o colour e = refl

  unless_same : (cause : Option (List ℕ)) (effect : Effect A) (game : GameRecord) (a : A) (ch other : Choice)
      → asked_by_effect effect (λ b. cause) (Some a) ≡ None
      → answer_unless cause effect game a ch ≡ answer_unless cause effect game a other
  unless_same (Some cause) effect game a ch other e = refl
  unless_same None (leaves after text) game a ch other e = refl
  unless_same None (asks colour) game a ch other e = absurd (cc e)

  -- where it doesn't ask, no choice counts
  pub row_same : (row : Row A) (game : GameRecord) (o : Option A) (ch other : Choice) → asked_by row game o ≡ None
      → answer_by row game o ch ≡ answer_by row game o other
  row_same row game None ch other e = refl
  row_same row game (Some a) ch other e =
      unless_same (row.refusal game a) row.effect game a ch other (rw asked_where at e)

  unless_asked : (cause : Option (List ℕ)) (effect : Effect A) (game : GameRecord) (a : A) (ch : Choice)
      (colour : Colour) → asked_by_effect effect (λ b. cause) (Some a) ≡ Some colour
      → answer_unless cause effect game a ch ≡ answer_choice game colour ch
  unless_asked cause (leaves after text) game a ch colour e = absurd (cc e)
  unless_asked (Some cause) (asks c) game a ch colour e = absurd (cc e)
  unless_asked None (asks c) game a ch colour e =
      let same : c a ≡ colour = cc in ap (λ (d : Colour). answer_choice game d ch) same

  -- where it asks, the choice is answered
  pub row_asked : (row : Row A) (game : GameRecord) (o : Option A) (ch : Choice) (colour : Colour)
      → asked_by row game o ≡ Some colour → answer_by row game o ch ≡ answer_choice game colour ch
  row_asked row game None ch colour e = unread row.effect e
    where
      unread : (effect : Effect A) → asked_by_effect effect (row.refusal game) None ≡ Some colour
          → answer_by row game None ch ≡ answer_choice game colour ch
      unread (leaves after text) f = absurd (cc f)
      unread (asks c) f = absurd (cc f)
  row_asked row game (Some a) ch colour e =
      unless_asked (row.refusal game a) row.effect game a ch colour (rw asked_where at e)

  unless_counts : (cause : Option (List ℕ)) (effect : Effect A) (game : GameRecord) (a : A) (ch : Choice)
      → (asks_policy effect && (answer_unless cause effect game a ch).ok)
      ≡ is_some (asked_by_effect effect (λ b. cause) (Some a))
  unless_counts cause (leaves after text) game a ch = refl
  unless_counts (Some cause) (asks c) game a ch = refl
  unless_counts None (asks c) game a ch = effect_ok (asks c) game a ch

  -- it asks exactly where it may ask and succeeds
  pub row_counts : (row : Row A) (game : GameRecord) (o : Option A) (ch : Choice)
      → (asks_policy row.effect && (answer_by row game o ch).ok) ≡ is_some (asked_by row game o)
  row_counts row game None ch = unread row.effect
    where
      unread : (effect : Effect A)
          → (asks_policy effect && false) ≡ is_some (asked_by_effect effect (row.refusal game) None)
      unread (leaves after text) = refl
      unread (asks c) = refl
  row_counts row game (Some a) ch =
      unless_counts (row.refusal game a) row.effect game a ch
      ∙ ap is_some (sym (asked_where row.effect (row.refusal game) a))
