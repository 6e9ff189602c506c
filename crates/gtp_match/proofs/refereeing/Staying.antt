-- After a ruling every call leaves the match as it is.
use Rattle.std.proofs.Common.{◌≡◌, List, Some, None, refl, sym, ap, subst, ◌∙◌}
use Rattle.gtp_match.specs.declared.verdicts.Action.{Action}
use Rattle.gtp_match.specs.referee.Calls.{RefereedCall, Does, Leads, RulingsStay}
use Rattle.gtp_match.specs.referee.Refereed.{Refereed, next_where, lost_where, owed_where, HearsWhere}
use Rattle.gtp_match.specs.declared.referee.rulings.Ruled.{Ruled}

module _ (r : Refereed) {given : Ruled} (ruled : r.ruled ≡ Some given) where
  nothing_next : {due : Action} → next_where r.controller r.ruled ≡ Some due → ⊥
  nothing_next e = let wrong : None ≡ Some _ = sym (ap (next_where r.controller) ruled) ∙ e in cc

  pub one_leaves : {call : RefereedCall} {new : Refereed} → Does r call new → new ≡ r
  one_leaves (Does.start e) = absurd (nothing_next e)
  one_leaves (Does.send e) = absurd (nothing_next e)
  one_leaves (Does.hear {new = new} {s = s} {bytes = bytes} loss retake heard) =
      (subst (HearsWhere s r bytes loss retake new) ruled heard).same
  one_leaves (Does.lose {s = s}) = ap (lost_where r s) ruled
  one_leaves (Does.rule did) = let wrong : Some given ≡ None = sym ruled ∙ did.ruled.goes_on.no_ruling in cc
  one_leaves (Does.refuse why did) = did.kept

pub all_leave : (r : Refereed) {last : Refereed} {calls : List RefereedCall} {given : Ruled} → r.ruled ≡ Some given
    → Leads r calls last → last ≡ r
all_leave r ruled Leads.none = refl
all_leave r ruled (Leads.more {mid = mid} does leads) =
    let same = one_leaves r ruled does in
    all_leave mid (ap (λ (m : Refereed). m.ruled) same ∙ ruled) leads ∙ same

pub rulings_stay : RulingsStay
rulings_stay = record {
  same = λ r last calls given ruled leads. all_leave r ruled leads;
  over = λ r given ruled. ap (next_where r.controller) ruled;
  owes_nothing = λ r side given ruled. ap (owed_where r.controller side) ruled;
}
