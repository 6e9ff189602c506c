-- Calls on a match with a referee, as calls on the match in it.
use Rattle.std.proofs.Common.{◌≡◌, List, [], ◌++◌, Option, Some, None, refl, sym, ap, subst, ◌∙◌}
use Rattle.gtp_match.specs.Calls.{Call, CallsBy, CallsExactly}
use Rattle.gtp_match.specs.Next as going
use Rattle.gtp_match.specs.declared.controller.Controller.{Controller}
use Rattle.gtp_match.specs.declared.verdicts.Action.{Action}
use Rattle.gtp_match.proofs.refereeing.Staying.{one_leaves, all_leave}
use Rattle.gtp_match.proofs.reporting.Exact.{chunk_exact}
use Rattle.gtp_match.specs.referee.Calls.{RefereedCall, Does, Leads, in_match, all_in_match, IsPlayed}
use Rattle.gtp_match.specs.referee.Calls.{RefereedArePlayed}
use Rattle.gtp_match.specs.referee.Refereed.{Refereed, next_where, lost_where, HearsWhere}
use Rattle.gtp_match.specs.declared.referee.rulings.Ruled.{Ruled}

-- ---- one call

module _ (r : Refereed) (free : r.ruled ≡ None) where
  due_in_match : {due : Action} → next_where r.controller r.ruled ≡ Some due → going.next r.controller ≡ due
  due_in_match {due} e =
      let same : Some (going.next r.controller) ≡ Some due = sym (ap (next_where r.controller) free) ∙ e in cc

  same_controller : (c : Controller) (calls : List Call) (last : Controller) → c ≡ r.controller
      → CallsExactly c calls last → CallsExactly r.controller calls last
  same_controller c calls last e = subst (λ (x : Controller). CallsExactly x calls last) e

  one_in_match : {call : RefereedCall} {mid : Refereed} {calls : List Call} {last : Controller} → Does r call mid
      → CallsExactly mid.controller calls last → CallsExactly r.controller (in_match call ++ calls) last
  one_in_match (Does.start e) rest = CallsBy.start (due_in_match e) rest
  one_in_match (Does.send e) rest = CallsBy.send (due_in_match e) rest
  one_in_match (Does.hear {new = new} {s = s} {bytes = bytes} loss retake heard) rest =
      let on = subst (HearsWhere s r bytes loss retake new) free heard in
      CallsBy.hear_all on.in_match.0 (chunk_exact _ _ _ _ _ _ _ on.in_match.1) rest
  one_in_match {calls = calls} {last = last} (Does.lose {s = s}) rest =
      CallsBy.lose
      (subst (λ (c : Controller). CallsExactly c calls last)
      (ap (λ (o : Option Ruled). (lost_where r s o).controller) free) rest)
  one_in_match {mid = mid} {calls = calls} {last = last} (Does.rule did) rest =
      same_controller mid.controller calls last (ap (λ (m : Refereed). m.controller) did.ruled.new_is) rest
  one_in_match {mid = mid} {calls = calls} {last = last} (Does.refuse why did) rest =
      same_controller mid.controller calls last (ap (λ (m : Refereed). m.controller) did.kept) rest

-- ---- all calls

open_where : (m last : Refereed) {calls : List RefereedCall} (ruled : Option Ruled) → m.ruled ≡ ruled
    → last.ruled ≡ None → Leads m calls last → m.ruled ≡ None
open_where m last None e free leads = e
open_where m last (Some given) e free leads =
    let wrong : Some given ≡ None = sym e ∙ sym (ap (λ (x : Refereed). x.ruled) (all_leave m e leads)) ∙ free in cc

-- a match that has no ruling in the end never had one
open_before : (m last : Refereed) {calls : List RefereedCall} → last.ruled ≡ None → Leads m calls last
    → m.ruled ≡ None
open_before m last free leads = open_where m last m.ruled refl free leads

without : (r last : Refereed) (calls : List RefereedCall) → last.ruled ≡ None → Leads r calls last
    → CallsExactly r.controller (all_in_match calls) last.controller
without r last calls free Leads.none = CallsBy.none
without r last calls free (Leads.more {mid = mid} {calls = later} does leads) =
    one_in_match r (open_before r last free (Leads.more does leads)) does (without mid last later free leads)

always_where : (r mid : Refereed) (last : Controller) {call : RefereedCall} (ruled : Option Ruled) → r.ruled ≡ ruled
    → Does r call mid → IsPlayed mid.controller last → IsPlayed r.controller last
always_where r mid last None e does played = record { calls = _; lead = one_in_match r e does played.lead }
always_where r mid last (Some given) e does played =
    subst (λ (m : Refereed). IsPlayed m.controller last) (one_leaves r e does) played

always : (r last : Refereed) (calls : List RefereedCall) → Leads r calls last → IsPlayed r.controller last.controller
always r last calls Leads.none = record { calls = []; lead = CallsBy.none }
always r last calls (Leads.more {mid = mid} {calls = later} does leads) =
    always_where r mid last.controller r.ruled refl does (always mid last later leads)

pub refereed_are_played : RefereedArePlayed
refereed_are_played = record { without = without; always = always }
