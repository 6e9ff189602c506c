-- A turn has a line of a loss exactly where it loses a side, and one of a retake exactly where one more is counted.
use Rattle.std.proofs.Common.{◌≡◌, ◌∙◌, ◌+◌, ◌≤◌, ℕ, zero, suc, List, [], length, true, false, Option, Some}
use Rattle.std.proofs.Common.{None, refl, sym, ap, subst, arith}
use Rattle.std.specs.Prelude.{◌≢◌, ◌↔◌, IsSome, is_some, option_map, All, slice_get}
use Rattle.std.specs.Option.{option_to_list}
use Rattle.go_base.specs.Colour.{other}
use Rattle.go_base.specs.declared.colours.Colour.{Colour}
use Rattle.go_base.specs.declared.colours.Colour.TheVariants.{Black, White}
use Rattle.gtp_match.specs.declared.controller.Controller.{Controller}
use Rattle.gtp_match.specs.declared.losses.Loss.{Loss}
use Rattle.gtp_match.specs.declared.reports.Retake.{Retake}
use Rattle.gtp_match.specs.declared.sides.EngineRun.{EngineRun}
use Rattle.gtp_match.specs.declared.sides.SideState.{SideState}
use Rattle.gtp_match.specs.declared.verdicts.Action.{Action}
use Rattle.gtp_match.specs.declared.verdicts.Action.TheVariants.{Start, Send, Wait, Done}
use Rattle.gtp_match.specs.declared.verdicts.Verdict.{Verdict}
use Rattle.gtp_match.specs.Controller.{started, sent, sent_to, downed, lost, lost_engine}
use Rattle.gtp_match.specs.Losing.{GoesDown, LosesSide, goes_down, forfeits, is_unfit, owed_where}
use Rattle.gtp_match.specs.Next.{next, next_where}
use Rattle.gtp_match.specs.Retakes.{total_of}
use Rattle.gtp_match.specs.Retaking.{AreReported, IsOfLastMove}
use Rattle.gtp_match.specs.Sides.{side_of}
use Rattle.gtp_match.specs.Sound.{IsSound}
use Rattle.gtp_match.proofs.endings.Causes.{others_leave_the_retakes}
use Rattle.gtp_match.proofs.reporting.RetakeReports.{all_reported}
use Rattle.gtp_match.proofs.reporting.LossReports.{all_losses_reported}
use Rattle.gtp_process.specs.declared.starter.Ending.{Ending}
use Rattle.gtp_process.specs.declared.starter.Process.{Ghosts}
use Rattle.twogtp_app.specs.declared.why.SideTurn.{SideTurn}
use Rattle.twogtp_app.specs.declared.why.TurnLoss.{TurnLoss}
use Rattle.twogtp_app.specs.declared.why.TurnLoss.TheVariants.{CutOff, Wrote}
use Rattle.gtp_process.specs.declared.causes.PipeCause.{PipeCause}
use Rattle.gtp_process.specs.declared.causes.PipeCause.TheVariants.{Writing, Reading, Ended}
use Rattle.twogtp_app.specs.declared.why.TurnReport.{TurnReport}
use Rattle.twogtp_app.specs.Losses.{IsLossLine, IsRetakeLine, LossesHaveLines, TurnLosesSide, is_lost, is_not_started}
use Rattle.twogtp_app.specs.Losses.{turn_side}
use Rattle.twogtp_app.specs.Processes.{process_of}
use Rattle.twogtp_app.specs.Speaking.{AreSent, HearsFromSide, IsHeard, SendsToSide, TakesCommands, cut_off, in_turn}
use Rattle.twogtp_app.specs.Turns.{Begins, Engines, GameState, Turn, engines_of}
use Rattle.twogtp_app.specs.Why.{loss_lines, retake_lines}

-- ---- what a turn keeps

unfoldable pub up_in : Controller → Colour → Option EngineRun
up_in c s = (side_of c.sides s).up

-- the verdict stays, and the same sides are up
record KeepsSides (c m : Controller) : Type 0 where
  verdict : m.verdict ≡ c.verdict
  up : (s : Colour) → is_some (up_in m s) ≡ is_some (up_in c s)

keeps_itself : (c : Controller) → KeepsSides c c
keeps_itself c = record { verdict = refl; up = λ s. refl }

sent_up : (c : Controller) (side s : Colour) (u : Option EngineRun) → up_in c side ≡ u
    → is_some (up_in (sent_to c side u) s) ≡ is_some (up_in c s)
unfolding up_in
sent_up c side s None is = refl
sent_up c Black Black (Some engine) is = rw is refl
sent_up c Black White (Some engine) is = refl
sent_up c White Black (Some engine) is = refl
sent_up c White White (Some engine) is = rw is refl

sent_verdict : (c : Controller) (side : Colour) (u : Option EngineRun) → (sent_to c side u).verdict ≡ c.verdict
sent_verdict c side None = refl
sent_verdict c side (Some engine) = refl

sent_keeps : (c : Controller) (side : Colour) → KeepsSides c (sent c side)
unfolding up_in
sent_keeps c side = record {
  verdict = sent_verdict c side (up_in c side);
  up = λ s. sent_up c side s (up_in c side) refl;
}

takes_keep : (c : Controller) (side : Colour) (new : Controller) (number : ℕ) (text : List ℕ)
    → TakesCommands c side number text new → KeepsSides c new
takes_keep c side _ _ _ TakesCommands.none = keeps_itself c
takes_keep c side _ _ _ (TakesCommands.one_more {number = n} {text = text} {mid = mid} takes more) =
    let before = takes_keep c side mid n text takes in
    let then = sent_keeps mid side in
    record { verdict = then.verdict ∙ before.verdict; up = λ s. then.up s ∙ before.up s }

-- ---- what loses nobody

loses_none : (c m : Controller) → KeepsSides c m → LosesSide c m → ⊥
unfolding up_in
loses_none c m keeps (goes_down s down) =
    let still : is_some (up_in m s) ≡ true = keeps.up s ∙ down.0 in
    let gone : is_some (up_in m s) ≡ false = ap (λ (u : Option EngineRun). is_some u) down.1 in absurd (cc)
loses_none c m keeps (forfeits was is) = let same = keeps.verdict in absurd (cc)
loses_none c m keeps (is_unfit was is) = let same = keeps.verdict in absurd (cc)

neither : (why : Option TurnLoss) (X : Type 0) → why ≡ None → (X → ⊥) → IsSome why ↔ X
neither why X none never = (
  (λ some. absurd (let no : is_some why ≡ false = ap (λ (w : Option TurnLoss). is_some w) none in cc)),
  (λ x. absurd (never x)),
)

-- ---- a side that is cut off

downed_up : (c : Controller) (side : Colour) → up_in (downed c side) side ≡ None
unfolding up_in
downed_up c Black = refl
downed_up c White = refl

cut_cases : (c m : Controller) (side : Colour) (cause : PipeCause) (u : Option EngineRun) → KeepsSides c m
    → up_in m side ≡ u
    → IsSome (option_map (CutOff cause) (owed_where None u)) ↔ LosesSide c (lost_engine m side u)
unfolding up_in
cut_cases c m side cause None keeps is = neither None _ refl (loses_none c m keeps)
cut_cases c m side cause (Some engine) keeps is =
    let was : is_some (up_in c side) ≡ true = sym (keeps.up side) ∙ ap (λ (u : Option EngineRun). is_some u) is in
    ((λ some. goes_down side (was, downed_up m side)), (λ loses. refl))

cut_is_loss : (c m : Controller) (side : Colour) (cause : PipeCause) → KeepsSides c m → c.verdict ≡ None
    → IsSome (cut_off cause m side) ↔ LosesSide c (lost m side)
unfolding up_in
cut_is_loss c m side cause keeps live =
    subst (λ (v : Option Verdict).
    IsSome (option_map (CutOff cause) (owed_where v (up_in m side))) ↔ LosesSide c (lost m side))
    (sym (keeps.verdict ∙ live)) (cut_cases c m side cause (up_in m side) keeps refl)

-- ---- what comes next

goes_on : (c : Controller) (a : Action) → next c ≡ a → ((v : Verdict) → a ≢ Done v) → c.verdict ≡ None
unfolding next
goes_on c a e on = by_verdict c.verdict refl e
  where
    by_verdict : (v : Option Verdict) → c.verdict ≡ v → next_where c v ≡ a → c.verdict ≡ None
    by_verdict None is e = is
    by_verdict (Some v) is e = absurd (on v (sym e))

-- where nothing is to be started, a turn loses a side as the match does
not_start : (c new : Controller) (why : Option TurnLoss) → ((s : Colour) → next c ≢ Start s)
    → IsSome why ↔ LosesSide c new → IsSome why ↔ TurnLosesSide c new
not_start c new why never is_given = ((λ some. is_lost (is_given.0 some)), back)
  where
    back : TurnLosesSide c new → IsSome why
    back (is_not_started starts down) = absurd (never _ starts)
    back (is_lost loses) = is_given.1 loses

-- ---- turns

started_keeps : (c : Controller) (side : Colour) (s : Colour) → is_some (up_in c s) ≡ true
    → is_some (up_in (started c side) s) ≡ true
unfolding up_in
started_keeps c Black Black up = refl
started_keeps c Black White up = up
started_keeps c White Black up = up
started_keeps c White White up = refl

pub started_up : (c : Controller) (side : Colour) → is_some (up_in (started c side) side) ≡ true
unfolding up_in
started_up c Black = refl
started_up c White = refl

pub failed_down : (c : Controller) (side : Colour) → up_in (lost (started c side) side) side ≡ None
unfolding up_in
failed_down c Black = refl
failed_down c White = refl

starts_loses_none : (c : Controller) (side : Colour) → next c ≡ Start side → TurnLosesSide c (started c side) → ⊥
unfolding up_in
starts_loses_none c side next_is (is_not_started {side = s} starts down) =
    let same : s ≡ side = cc in
    let up = started_up c side in
    let none : is_some (up_in (started c side) side) ≡ false =
    subst (λ (t : Colour). is_some (up_in (started c side) t) ≡ false) same
    (ap (λ (u : Option EngineRun). is_some u) down) in
    absurd (cc)
starts_loses_none c side next_is (is_lost (goes_down s down)) =
    let still = started_keeps c side s down.0 in
    let gone : is_some (up_in (started c side) s) ≡ false = ap (λ (u : Option EngineRun). is_some u) down.1 in
    absurd (cc)
starts_loses_none c side next_is (is_lost (forfeits was is)) = absurd (cc)
starts_loses_none c side next_is (is_lost (is_unfit was is)) = absurd (cc)

module _ {P : Type 0} (engines : Engines P) where
  begin_given : (side : Colour) (before after : GameState P) (why : Option TurnLoss) → next before.game ≡ Start side
      → Begins engines side before after why → IsSome why ↔ TurnLosesSide before.game after.game
  unfolding up_in
  begin_given side before after _ e (Begins.starts process tried is ended game) =
      rw game (neither None _ refl (starts_loses_none before.game side e))
  begin_given side before after _ e (Begins.fails_to_start reason tried is game) =
      rw game ((λ some. is_not_started {side = side} e (failed_down before.game side)), (λ loses. refl))

module _ {P : Type 0} (known : Ghosts P) where
  sends_given : (c new : Controller) (side : Colour) (old now : P) (why : Option TurnLoss) → c.verdict ≡ None
      → AreSent known c side old now new why → IsSome why ↔ LosesSide c new
  sends_given c new side old now _ live (AreSent.taken all taken unbroken flushed given) =
      neither None _ refl (loses_none c new (takes_keep c side new all.number _ all.takes))
  sends_given c _ side old now _ live (AreSent.failed {new = new} all part cut given) =
      cut_is_loss c new side Writing (takes_keep c side new all.number _ all.takes) live

  hears_given : (c new : Controller) (side : Colour) (old now : P) (report : TurnReport) → c.verdict ≡ None
      → IsHeard known c side old now new report → IsSome report.loss ↔ LosesSide c new
  hears_given c new side old now report live (IsHeard.heard bytes some given reported unbroken taken) =
      let is_given = (all_losses_reported _ _ _ _ _ _ _ reported.1.1).exact in
      subst (λ (w : Option TurnLoss). IsSome w ↔ LosesSide c new) (sym reported.2) (wrote reported.0 is_given)
    where
      wrote : (loss : Option Loss) → IsSome loss ↔ LosesSide c new → IsSome (option_map Wrote loss) ↔ LosesSide c new
      wrote None is_given = is_given
      wrote (Some loss) is_given = is_given
  hears_given c _ side old now _ live (IsHeard.ended over given taken) = cut_is_loss c c side Ended (keeps_itself c) live
  hears_given c _ side old now _ live (IsHeard.broke cut given taken) =
      cut_is_loss c c side Reading (keeps_itself c) live

  send_given : (c new : Controller) (side : Colour) (before after : Option P) (why : Option TurnLoss) → c.verdict ≡ None
      → SendsToSide known side (in_turn c before) (in_turn new after) why → IsSome why ↔ LosesSide c new
  send_given c new side None None why live done =
      rw (done.0, done.1) (cut_is_loss c (sent c side) side Writing (sent_keeps c side) live)
  send_given c new side (Some old) (Some now) why live done = sends_given c new side old now why live done
  send_given c new side None (Some now) why live done = absurd done
  send_given c new side (Some old) None why live done = absurd done

  wait_given : (c new : Controller) (side : Colour) (before after : Option P) (report : TurnReport) → c.verdict ≡ None
      → HearsFromSide known side (in_turn c before) (in_turn new after) report → IsSome report.loss ↔ LosesSide c new
  wait_given c new side None None report live done =
      rw (done.0, done.1) (cut_is_loss c c side Reading (keeps_itself c) live)
  wait_given c new side (Some old) (Some now) report live done = hears_given c new side old now report live done
  wait_given c new side None (Some now) report live done = absurd done
  wait_given c new side (Some old) None report live done = absurd done

module _ {P : Type 0} (engines : Engines P) where
  -- why a side failed is known exactly where one did
  pub turn_given : (before after : GameState P) (a : Action) (turn : SideTurn) → next before.game ≡ a
      → Turn engines a before after turn → IsSome turn.report.loss ↔ TurnLosesSide before.game after.game
  turn_given before after (Start side) turn e does = begin_given engines side before after turn.report.loss e does.1
  turn_given before after (Send side) turn e does =
      not_start before.game after.game turn.report.loss (λ s starts. cc)
      (send_given engines.known before.game after.game side (process_of before.processes side)
      (process_of after.processes side) turn.report.loss (goes_on before.game (Send side) e (λ v is. cc)) does.1)
  turn_given before after (Wait side) turn e does =
      not_start before.game after.game turn.report.loss (λ s starts. cc)
      (wait_given engines.known before.game after.game side (process_of before.processes side)
      (process_of after.processes side) turn.report (goes_on before.game (Wait side) e (λ v is. cc)) does.1)
  turn_given before after (Done verdict) turn e does = absurd does

-- ---- which side goes down

-- of the other side the same is up as before
abbrev pub OtherStaysUp : Controller → Controller → Colour → Type 0
OtherStaysUp c new side = is_some (up_in new (other side)) ≡ is_some (up_in c (other side))

pub down_is : (c new : Controller) (side s : Colour) → OtherStaysUp c new side → GoesDown c new s → s ≡ side
unfolding up_in
down_is c new Black Black stays down = refl
down_is c new White White stays down = refl
down_is c new Black White stays down =
    let gone : is_some (up_in new White) ≡ false = ap (λ (u : Option EngineRun). is_some u) down.1 in
    let was = down.0 in absurd (cc)
down_is c new White Black stays down =
    let gone : is_some (up_in new Black) ≡ false = ap (λ (u : Option EngineRun). is_some u) down.1 in
    let was = down.0 in absurd (cc)

lost_leaves : (m : Controller) (side : Colour) (u : Option EngineRun)
    → is_some (up_in (lost_engine m side u) (other side)) ≡ is_some (up_in m (other side))
unfolding up_in
lost_leaves m side None = refl
lost_leaves m Black (Some engine) = refl
lost_leaves m White (Some engine) = refl

pub started_leaves : (c : Controller) (side : Colour) → OtherStaysUp c (started c side) side
unfolding up_in
started_leaves c Black = refl
started_leaves c White = refl

cut_leaves : (c m : Controller) (side : Colour) → KeepsSides c m → OtherStaysUp c (lost m side) side
unfolding up_in
cut_leaves c m side keeps = lost_leaves m side (up_in m side) ∙ keeps.up (other side)

module _ {P : Type 0} (engines : Engines P) where
  pub begin_leaves : (side : Colour) (before after : GameState P) (why : Option TurnLoss)
      → Begins engines side before after why → OtherStaysUp before.game after.game side
  unfolding up_in
  begin_leaves side before after _ (Begins.starts process tried is ended game) =
      rw game (started_leaves before.game side)
  begin_leaves side before after _ (Begins.fails_to_start reason tried is game) =
      let c = before.game in
      rw game (lost_leaves (started c side) side (up_in (started c side) side) ∙ started_leaves c side)

module _ {P : Type 0} (known : Ghosts P) where
  sent_leaves : (c new : Controller) (side : Colour) (old now : P) (why : Option TurnLoss)
      → AreSent known c side old now new why → OtherStaysUp c new side
  sent_leaves c new side old now _ (AreSent.taken all taken unbroken flushed given) =
      (takes_keep c side new all.number _ all.takes).up (other side)
  sent_leaves c _ side old now _ (AreSent.failed {new = mid} all part cut given) =
      cut_leaves c mid side (takes_keep c side mid all.number _ all.takes)

  heard_leaves : (c new : Controller) (side : Colour) (old now : P) (report : TurnReport)
      → IsHeard known c side old now new report → OtherStaysUp c new side
  unfolding up_in
  heard_leaves c new side old now report (IsHeard.heard bytes some given reported unbroken taken) =
      ap (λ (s : SideState). is_some s.up) (all_losses_reported _ _ _ _ _ _ _ reported.1.1).other_stays
  heard_leaves c _ side old now _ (IsHeard.ended over given taken) = cut_leaves c c side (keeps_itself c)
  heard_leaves c _ side old now _ (IsHeard.broke cut given taken) = cut_leaves c c side (keeps_itself c)

  pub send_leaves : (c new : Controller) (side : Colour) (before after : Option P) (why : Option TurnLoss)
      → SendsToSide known side (in_turn c before) (in_turn new after) why → OtherStaysUp c new side
  send_leaves c new side None None why done = rw done.0 (cut_leaves c (sent c side) side (sent_keeps c side))
  send_leaves c new side (Some old) (Some now) why done = sent_leaves c new side old now why done
  send_leaves c new side None (Some now) why done = absurd done
  send_leaves c new side (Some old) None why done = absurd done

  pub wait_leaves : (c new : Controller) (side : Colour) (before after : Option P) (report : TurnReport)
      → HearsFromSide known side (in_turn c before) (in_turn new after) report → OtherStaysUp c new side
  wait_leaves c new side None None report done = rw done.0 (cut_leaves c c side (keeps_itself c))
  wait_leaves c new side (Some old) (Some now) report done = heard_leaves c new side old now report done
  wait_leaves c new side None (Some now) report done = absurd done
  wait_leaves c new side (Some old) None report done = absurd done

module _ {P : Type 0} (engines : Engines P) where
  -- whose turn it was
  pub whose_turn : (before after : GameState P) (a : Action) (turn : SideTurn) → Turn engines a before after turn
      → turn_side a ≡ Some turn.side
  whose_turn before after (Start side) turn does = ap (λ (t : Colour). Some t) (sym does.0)
  whose_turn before after (Send side) turn does = ap (λ (t : Colour). Some t) (sym does.0)
  whose_turn before after (Wait side) turn does = ap (λ (t : Colour). Some t) (sym does.0)
  whose_turn before after (Done verdict) turn does = absurd does

  -- the other side stays up or down
  pub turn_leaves : (before after : GameState P) (a : Action) (turn : SideTurn) → Turn engines a before after turn
      → OtherStaysUp before.game after.game turn.side
  turn_leaves before after (Start side) turn does =
      rw does.0 (begin_leaves engines side before after turn.report.loss does.1)
  turn_leaves before after (Send side) turn does =
      rw does.0
      (send_leaves engines.known before.game after.game side (process_of before.processes side)
      (process_of after.processes side) turn.report.loss does.1)
  turn_leaves before after (Wait side) turn does =
      rw does.0
      (wait_leaves engines.known before.game after.game side (process_of before.processes side)
      (process_of after.processes side) turn.report does.1)
  turn_leaves before after (Done verdict) turn does = absurd does

-- ---- retakes

-- of a turn's side: one more is counted where one is reported, and that is of the last move
record CountsReported (c new : Controller) (a : Action) (retake : Option Retake) : Type 0 where
  counted : total_of new.retakes ≡ total_of c.retakes + length (option_to_list retake)
  each : (r : Retake) → retake ≡ Some r → (side : Colour) × (turn_side a ≡ Some side) × IsOfLastMove c new side r

-- nothing is retaken
none_counted : (c new : Controller) (a : Action) (retake : Option Retake) → new.retakes ≡ c.retakes → retake ≡ None
    → CountsReported c new a retake
none_counted c new a retake same none = record {
  counted = omega (arith, ap total_of same, ap (λ (o : Option Retake). length (option_to_list o)) none);
  each = λ r is. absurd (let no : None ≡ Some r = sym none ∙ is in cc);
}

pub lost_retakes : (c : Controller) (side : Colour) → (lost c side).retakes ≡ c.retakes
lost_retakes c side = (others_leave_the_retakes c side).2

pub sent_retakes : (c : Controller) (side : Colour) → (sent c side).retakes ≡ c.retakes
sent_retakes c side = (others_leave_the_retakes c side).1

pub takes_retakes : (c : Controller) (side : Colour) (new : Controller) (number : ℕ) (text : List ℕ)
    → TakesCommands c side number text new → new.retakes ≡ c.retakes
takes_retakes c side _ _ _ TakesCommands.none = refl
takes_retakes c side _ _ _ (TakesCommands.one_more {number = n} {text = text} {mid = mid} takes more) =
    sent_retakes mid side ∙ takes_retakes c side mid n text takes

reported_of : (c new : Controller) (side : Colour) (retake : Option Retake)
    → AreReported side c new (option_to_list retake) → CountsReported c new (Wait side) retake
reported_of c new side retake are = record {
  counted = are.counted;
  each = λ r is. (side, refl, are.each 0 r (ap (λ (o : Option Retake). slice_get (option_to_list o) 0) is));
}

module _ {P : Type 0} (engines : Engines P) where
  pub begin_retakes : (side : Colour) (before after : GameState P) (why : Option TurnLoss)
      → Begins engines side before after why → after.game.retakes ≡ before.game.retakes
  begin_retakes side before after _ (Begins.starts process tried is ended game) = rw game refl
  begin_retakes side before after _ (Begins.fails_to_start reason tried is game) =
      rw game (lost_retakes (started before.game side) side)

module _ {P : Type 0} (known : Ghosts P) where
  pub send_retakes : (c new : Controller) (side : Colour) (before after : Option P) (why : Option TurnLoss)
      → SendsToSide known side (in_turn c before) (in_turn new after) why → new.retakes ≡ c.retakes
  send_retakes c new side None None why done = rw done.0 (lost_retakes (sent c side) side ∙ sent_retakes c side)
  send_retakes c new side (Some old) (Some now) why done = by_way new why done
    where
      by_way : (new : Controller) (why : Option TurnLoss) → AreSent known c side old now new why → new.retakes ≡ c.retakes
      by_way new _ (AreSent.taken all taken unbroken flushed given) =
          takes_retakes c side new all.number _ all.takes
      by_way _ _ (AreSent.failed {new = mid} all part cut given) =
          lost_retakes mid side ∙ takes_retakes c side mid all.number _ all.takes
  send_retakes c new side None (Some now) why done = absurd done
  send_retakes c new side (Some old) None why done = absurd done

  heard_retakes : (c new : Controller) (side : Colour) (old now : P) (report : TurnReport) → IsSound c
      → IsHeard known c side old now new report → CountsReported c new (Wait side) report.retake
  heard_retakes c new side old now report sound
      (IsHeard.heard bytes some given reported unbroken taken) =
      reported_of c new side report.retake
      (all_reported _ _ _ _ _ _ _ sound reported.1.1)
  heard_retakes c _ side old now _ sound (IsHeard.ended over given taken) =
      none_counted c (lost c side) (Wait side) None (lost_retakes c side) refl
  heard_retakes c _ side old now _ sound (IsHeard.broke cut given taken) =
      none_counted c (lost c side) (Wait side) None (lost_retakes c side) refl

  wait_retakes : (c new : Controller) (side : Colour) (before after : Option P) (report : TurnReport) → IsSound c
      → HearsFromSide known side (in_turn c before) (in_turn new after) report
      → CountsReported c new (Wait side) report.retake
  wait_retakes c new side None None report sound done =
      rw (done.0, done.1) (none_counted c (lost c side) (Wait side) None (lost_retakes c side) refl)
  wait_retakes c new side (Some old) (Some now) report sound done = heard_retakes c new side old now report sound done
  wait_retakes c new side None (Some now) report sound done = absurd done
  wait_retakes c new side (Some old) None report sound done = absurd done

module _ {P : Type 0} (engines : Engines P) where
  -- a retake is reported exactly where one more is counted
  turn_retakes : (before after : GameState P) (a : Action) (turn : SideTurn) → IsSound before.game
      → Turn engines a before after turn → CountsReported before.game after.game a turn.report.retake
  turn_retakes before after (Start side) turn sound does =
      none_counted before.game after.game (Start side) turn.report.retake
      (begin_retakes engines side before after turn.report.loss does.1) does.2
  turn_retakes before after (Send side) turn sound does =
      none_counted before.game after.game (Send side) turn.report.retake
      (send_retakes engines.known before.game after.game side (process_of before.processes side)
      (process_of after.processes side) turn.report.loss does.1) does.2
  turn_retakes before after (Wait side) turn sound does =
      wait_retakes engines.known before.game after.game side (process_of before.processes side)
      (process_of after.processes side) turn.report sound does.1
  turn_retakes before after (Done verdict) turn sound does = absurd does

-- ---- lines

-- the lines of a turn of this side
module _ (number : ℕ) (c new : Controller) (side : Colour) (is : turn_side (next c) ≡ Some side) where
  one_of_loss : (loss : Option TurnLoss) (ending : Ending) → length (loss_lines number side loss ending) ≤ 1
  one_of_loss None ending = omega arith
  one_of_loss (Some loss) ending = omega arith

  exact_loss : (loss : Option TurnLoss) (ending : Ending) (X : Type 0) → IsSome loss ↔ X
      → (loss_lines number side loss ending ≢ []) ↔ X
  exact_loss None ending X is_given =
      ((λ some. absurd (some refl)), (λ x. absurd (let none : false ≡ true = is_given.1 x in cc)))
  exact_loss (Some loss) ending X is_given = ((λ some. is_given.0 refl), (λ x e. cc))

  each_of_loss : (loss : Option TurnLoss) (ending : Ending) → All (IsLossLine number c) (loss_lines number side loss ending)
  each_of_loss None ending k d inside = absurd (omega (arith, inside))
  each_of_loss (Some loss) ending zero d inside =
      record { side = side; loss = loss; ending = ending; is = refl; of_turn = is }
  each_of_loss (Some loss) ending (suc k) d inside = absurd (omega (arith, inside))

  one_of_retake : (retake : Option Retake) → length (retake_lines number side retake) ≤ 1
  one_of_retake None = omega arith
  one_of_retake (Some retake) = omega arith

  as_many : (retake : Option Retake) → length (retake_lines number side retake) ≡ length (option_to_list retake)
  as_many None = refl
  as_many (Some retake) = refl

  each_of_retake : (retake : Option Retake) → CountsReported c new (next c) retake
      → All (IsRetakeLine number c new) (retake_lines number side retake)
  each_of_retake None counts k d inside = absurd (omega (arith, inside))
  each_of_retake (Some retake) counts zero d inside =
      let is_given = counts.each retake refl in
      let same : is_given.0 ≡ side = let both : Some is_given.0 ≡ Some side = sym is_given.1 ∙ is in cc in
      record {
        side = side;
        retake = retake;
        is = refl;
        of_turn = is;
        of_last = subst (λ (s : Colour). IsOfLastMove c new s retake) same is_given.2;
      }
  each_of_retake (Some retake) counts (suc k) d inside = absurd (omega (arith, inside))

pub losses_have_lines : {P : Type 0} (known : Ghosts P) → LossesHaveLines known
losses_have_lines {P} known commands number before after turn is =
    record {
      retakes = retake_lines number turn.side turn.report.retake;
      losses = loss_lines number turn.side turn.report.loss turn.ending;
      joined = refl;
      one_retake = one_of_retake number before.game after.game turn.side whose turn.report.retake;
      one_loss = one_of_loss number before.game after.game turn.side whose turn.report.loss turn.ending;
      counted = λ sound.
          let more = (counts sound).counted in
          omega (arith, more, as_many number before.game after.game turn.side whose turn.report.retake);
      each_retake = λ sound.
          each_of_retake number before.game after.game turn.side whose turn.report.retake (counts sound);
      exact = exact_loss number before.game after.game turn.side whose turn.report.loss turn.ending _ is_given;
      each_loss = each_of_loss number before.game after.game turn.side whose turn.report.loss turn.ending;
      named = λ s down. whose ∙ ap (λ (t : Colour). Some t) (sym (down_is before.game after.game turn.side s leaves down));
    }
  where
    mid : GameState P
    mid = record after { processes = is.left }

    whose : turn_side (next before.game) ≡ Some turn.side
    whose = whose_turn (engines_of commands known) before mid (next before.game) turn is.done

    leaves : OtherStaysUp before.game after.game turn.side
    leaves = turn_leaves (engines_of commands known) before mid (next before.game) turn is.done

    is_given : IsSome turn.report.loss ↔ TurnLosesSide before.game after.game
    is_given = turn_given (engines_of commands known) before mid (next before.game) turn refl is.done

    counts : IsSound before.game → CountsReported before.game after.game (next before.game) turn.report.retake
    counts sound = turn_retakes (engines_of commands known) before mid (next before.game) turn sound is.done
