-- What comes next is due.
use Rattle.std.proofs.Common.{◌≡◌, ℕ, zero, suc, ◌+◌, ◌≤◌, List, [], ◌∷◌, length, Option, Some, None, refl, sym, ◌∙◌}
use Rattle.std.proofs.Common.{Bool, true, false, ap, subst, cond, not, ◌&&◌, inl, inr, arith}
use Rattle.std.specs.Prelude.{◌||◌, ◌≢◌, ◌⊎◌, MatchOption, nat_lt, slice_get}
use Rattle.std.proofs.lemmas.Bool.Decides.{nat_tests}
use Rattle.go_base.specs.Colour.{other}
use Rattle.go_base.specs.declared.colours.Colour.{Colour}
use Rattle.go_base.specs.declared.colours.Colour.TheVariants.{Black, White}
use Rattle.go_board.specs.Game.{GameRecord}
use Rattle.gtp_wire.specs.declared.commands.Command.{Command}
use Rattle.gtp_wire.specs.declared.commands.Command.TheVariants as command
use Rattle.gtp_match.specs.Controller.{to_move}
use Rattle.gtp_match.specs.Going.{HasToAnswer, IsDue}
use Rattle.gtp_match.specs.Next.{has_unanswered, must_answer, is_down, has_script_left, next_of_idle, next_of_free}
use Rattle.gtp_match.specs.Next.{next_of, next}
use Rattle.gtp_match.specs.Replying.{IsGenmove}
use Rattle.gtp_match.specs.Script.{script}
use Rattle.gtp_match.specs.Sides.{side_of}
use Rattle.gtp_match.specs.Sound.{IsSound}
use Rattle.gtp_match.specs.Unanswered.{none_unanswered, is_full, is_genmove, has_genmove}
use Rattle.gtp_match.specs.declared.controller.Controller.{Controller}
use Rattle.gtp_match.specs.declared.sides.EngineRun.{EngineRun}
use Rattle.gtp_match.specs.declared.unanswered.SentCommand.{SentCommand}
use Rattle.gtp_match.specs.declared.verdicts.Action.{Action}
use Rattle.gtp_match.specs.declared.verdicts.Action.TheVariants.{Start, Send, Wait}
use Rattle.gtp_match.specs.declared.verdicts.Verdict.{Verdict}
use Rattle.gtp_match.proofs.actions.Tests.{next_live, next_done}
use Rattle.gtp_match.proofs.actions.Conditions.{down_is_none, idle_if, MayBeSent, may_be_sent}
use Rattle.gtp_match.proofs.soundness.Calls.{maker_is_up}

-- ---- who has to answer

or_true : (a b : Bool) → (a || b) ≡ true → (a ≡ true) ⊎ (b ≡ true)
or_true true b e = inl refl
or_true false b e = inr e

-- a `genmove` is among the commands
record Asked (entries : List SentCommand) : Type 0 where
  place : ℕ
  entry : SentCommand
  there : slice_get entries place ≡ Some entry
  genmove : IsGenmove entry.command

is_asked : (k : Command) → is_genmove k ≡ true → IsGenmove k
is_asked (command.Genmove colour) e = (colour, refl)
is_asked (command.Boardsize size) e = absurd (cc)
is_asked (command.Komi komi) e = absurd (cc)
is_asked command.ClearBoard e = absurd (cc)
is_asked (command.FixedHandicap stones) e = absurd (cc)
is_asked (command.Play move) e = absurd (cc)
is_asked command.Undo e = absurd (cc)
is_asked command.Quit e = absurd (cc)

asked : (entries : List SentCommand) → has_genmove entries ≡ true → Asked entries
asked [] e = absurd (cc)
asked (o ∷ os) e =
    elim (or_true (is_genmove o.command) (has_genmove os) e) [
      | inl h ↦ record { place = zero; entry = o; there = refl; genmove = is_asked o.command h }
      | inr h ↦
          let r = asked os h in
          record { place = suc r.place; entry = r.entry; there = r.there; genmove = r.genmove }
    ]

module _ (game : GameRecord) where
  has_to : (engine : EngineRun) → must_answer game (Some engine) ≡ true → HasToAnswer game engine
  has_to engine e =
      elim (or_true (is_full engine.unanswered) _ e) [
        | inl h ↦ HasToAnswer.eight (full engine.unanswered h)
        | inr h ↦ elim (or_true (has_genmove engine.unanswered) _ h) [
          | inl k ↦
              let a = asked engine.unanswered k in HasToAnswer.move a.place a.entry a.there a.genmove
          | inr k ↦ let r = whole engine.unanswered k in HasToAnswer.whole r.0 r.1
        ]
      ]
    where
      full : (entries : List SentCommand) → is_full entries ≡ true → 8 ≤ length entries
      full entries h = grind (arith, nat_tests)

      whole : (entries : List SentCommand)
          → (not (none_unanswered entries)
          && not (nat_lt (engine.confirmed + length entries) (length (script game)))) ≡ true
          → (entries ≢ []) × (length (script game) ≤ engine.confirmed + length entries)
      whole [] h = absurd (cc)
      whole (o ∷ os) h = (λ none. cc, grind (arith, nat_tests))

  or_left : (a b : Bool) → a ≡ true → (a || b) ≡ true
  or_left true b e = refl
  or_left false b e = absurd (cc)

  or_right : (a b : Bool) → b ≡ true → (a || b) ≡ true
  or_right true b e = refl
  or_right false b e = e

  asks_if : (entries : List SentCommand) (place : ℕ) (entry : SentCommand) → slice_get entries place ≡ Some entry
      → IsGenmove entry.command → has_genmove entries ≡ true
  asks_if [] place entry there g = absurd (cc)
  asks_if (o ∷ os) zero entry there g =
      let same : o ≡ entry = cc in
      or_left (is_genmove o.command) (has_genmove os)
      (ap (λ (x : SentCommand). is_genmove x.command) same ∙ ap is_genmove g.1)
  asks_if (o ∷ os) (suc place) entry there g =
      or_right (is_genmove o.command) (has_genmove os) (asks_if os place entry there g)

  some_if : (entries : List SentCommand) → entries ≢ [] → not (none_unanswered entries) ≡ true
  some_if [] some = absurd (some refl)
  some_if (o ∷ os) some = refl

  has_not : (engine : EngineRun) → MayBeSent game engine → ¬ HasToAnswer game engine
  has_not engine may (HasToAnswer.eight many) = omega (arith, may.room)
  has_not engine may (HasToAnswer.move place entry there g) =
      let clash : true ≡ false = sym (asks_if engine.unanswered place entry there g) ∙ may.no_genmove in cc
  has_not engine may (HasToAnswer.whole some all) =
      omega (arith, may.more (some_if engine.unanswered some), all)

  waits : (up : Option EngineRun) → must_answer game up ≡ true → MatchOption up ⊥ (HasToAnswer game)
  waits None e = absurd (cc)
  waits (Some engine) e = has_to engine e

  sends : (up : Option EngineRun) → is_down up ≡ false → must_answer game up ≡ false
      → MatchOption up ⊥ (λ engine. ¬ HasToAnswer game engine)
  sends None is_up free = absurd (cc)
  sends (Some engine) is_up free = has_not engine (may_be_sent game engine free)

-- ---- each line is due

up_if : (up : Option EngineRun) → has_unanswered up ≡ true → is_down up ≡ false
up_if None e = absurd (cc)
up_if (Some engine) e = refl

up_is : (up : Option EngineRun) (engine : EngineRun) → up ≡ Some engine → is_down up ≡ false
up_is up engine e = ap is_down e

module _ (c : Controller) where
  line : (t : Bool) (x y : Action) → (t ≡ true → IsDue c x) → (t ≡ false → IsDue c y) → IsDue c (cond t x y)
  line true x y this that = this refl
  line false x y this that = that refl

  -- neither side has to answer, before a verdict
  record Nobody : Type 0 where
    verdict : c.verdict ≡ None
    black : must_answer c.game c.sides.black.up ≡ false
    white : must_answer c.game c.sides.white.up ≡ false

  sends_to : Nobody → (s : Colour) → is_down (side_of c.sides s).up ≡ false → IsDue c (Send s)
  sends_to n Black e = (n.verdict, sends c.game c.sides.black.up e n.black)
  sends_to n White e = (n.verdict, sends c.game c.sides.white.up e n.white)

  starts : Nobody → c.pending ≡ None → (s : Colour) → is_down (side_of c.sides s).up ≡ true
      → has_unanswered (side_of c.sides (other s)).up ≡ false → IsDue c (Start s)
  starts n free s e idle = record {
    verdict = n.verdict;
    down = down_is_none (side_of c.sides s).up e;
    other_idle = idle_if (side_of c.sides (other s)).up idle;
    none_taken_back = free;
  }

  turn : Nobody → is_down c.sides.black.up ≡ false → is_down c.sides.white.up ≡ false → (s : Colour) → IsDue c (Send s)
  turn n black white Black = sends_to n Black black
  turn n black white White = sends_to n White white

  module _ (n : Nobody) (black_idle : has_unanswered c.sides.black.up ≡ false)
      (white_idle : has_unanswered c.sides.white.up ≡ false) where
    idle_due : c.pending ≡ None → IsDue c (next_of_idle c.game c.sides.black.up c.sides.white.up)
    idle_due free =
        line (is_down c.sides.black.up) (Start Black) _ (λ e. starts n free Black e white_idle)
        (λ b. line (is_down c.sides.white.up) (Start White) _ (λ e. starts n free White e black_idle)
        (λ w. line (has_script_left c.game c.sides.black.up) (Send Black) _ (λ e. sends_to n Black b)
        (λ x. line (has_script_left c.game c.sides.white.up) (Send White) (Send (to_move c.game))
        (λ e. sends_to n White w) (λ y. turn n b w (to_move c.game)))))

    free_due : IsSound c → (p : Option Colour) → c.pending ≡ p
        → IsDue c (next_of_free p c.game c.sides.black.up c.sides.white.up)
    free_due h None e = idle_due e
    free_due h (Some maker) e =
        let up = maker_is_up c h maker n.verdict e in
        sends_to n maker (up_is (side_of c.sides maker).up up.0 up.1)

  live_due : IsSound c → c.verdict ≡ None → IsDue c (next_of c.pending c.game c.sides.black.up c.sides.white.up)
  live_due h none =
      line (must_answer c.game c.sides.black.up) (Wait Black) _ (λ e. (none, waits c.game c.sides.black.up e))
      (λ b. line (must_answer c.game c.sides.white.up) (Wait White) _ (λ e. (none, waits c.game c.sides.white.up e))
      (λ w. let n : Nobody = record { verdict = none; black = b; white = w } in
      line (has_unanswered c.sides.black.up) (Send Black) _ (λ e. sends_to n Black (up_if c.sides.black.up e))
      (λ x. line (has_unanswered c.sides.white.up) (Send White)
      (next_of_free c.pending c.game c.sides.black.up c.sides.white.up)
      (λ e. sends_to n White (up_if c.sides.white.up e)) (λ y. free_due n x y h c.pending refl))))

pub next_is_due : (c : Controller) → IsSound c → IsDue c (next c)
next_is_due c h = by_verdict c.verdict refl
  where
    by_verdict : (v : Option Verdict) → c.verdict ≡ v → IsDue c (next c)
    by_verdict None none = subst (IsDue c) (sym (next_live c none)) (live_due c h none)
    by_verdict (Some v) some = subst (IsDue c) (sym (next_done c v some)) some
