use Rattle.std.proofs.Common.{ap, sym, subst, ◌∙◌, ◌≡◌, ◌≤◌, ℕ, List, length, Option, true}
use Rattle.gtp_wire.specs.Replies.{IsReplyText, most_text_bytes, written_reply}
use Rattle.gtp_session.specs.declared.events.Wait.TheVariants as wait
use Rattle.gtp_session.specs.private.StepsFields.{state_in}
use Rattle.gtp_session.specs.Steps.{IsStepsState, StepsState}
use Rattle.gtp_session.proofs.stepping.Kept.{texted_kept, truth_fits}
use Rattle.gtp_session.proofs.stepping.OwnNames.{names_fit}
use Rattle.gtp_session.proofs.steps.Steps.reply_set.Goals as goal
use Rattle.gtp_session.proofs.steps.Steps.reply_set.Goals.{in-Name, in-Version, in-Known, in-Commands}

pub invariant_of-self : goal.invariant_of-self
invariant_of-self c =
    let s = state_in c.self.inside in
    let idle : s.wait ≡ wait.Nothing = ap (λ (x : StepsState). x.wait) c.self.view_is ∙ c.requires.waits_not in
    let kept : (text reply : List ℕ) → IsReplyText text
    → (length text ≤ most_text_bytes → reply ≡ written_reply true c.id_of-id.result text)
    → IsStepsState (record s { wait = s.wait; reply = reply }) =
    λ text reply fits written.
    texted_kept s true text s.wait reply c.self.invariant fits idle
    (written fits.fits ∙ ap (λ (id : Option ℕ). written_reply true id text) c.id_of-id.ensures.value) in
    elim c.match-text.branch [
      | in-Name w ↦
          let fits = subst (λ (t : List ℕ). IsReplyText t) (sym w.deref.ensures.0) c.self.invariant.name.fits in
          rw w.self-inside-is
          (kept w.deref.result.now w.write_reply_into.new.out.items fits w.write_reply_into.ensures.bytes)
      | in-Version w ↦
          let fits = subst (λ (t : List ℕ). IsReplyText t) (sym w.deref-in-Version.ensures.0)
          c.self.invariant.version.fits in
          rw w.self-inside-is
          (kept w.deref-in-Version.result.now w.write_reply_into-in-Version.new.out.items fits
          w.write_reply_into-in-Version.ensures.bytes)
      | in-Known w ↦
          rw w.self-inside-is
          (kept w.truth.result.now w.write_reply_into-in-Known.new.out.items
          (truth_fits w.truth.result.now _ w.truth.ensures) w.write_reply_into-in-Known.ensures.bytes)
      | in-Commands w ↦
          let fits = subst (λ (t : List ℕ). IsReplyText t) (sym (w.deref-in-Commands.ensures.0 ∙ w.listed.ensures))
          (names_fit c.self.inside.commands c.self.invariant.commands) in
          rw w.self-inside-is
          (kept w.deref-in-Commands.result.now w.write_reply_into-in-Commands.new.out.items fits
          w.write_reply_into-in-Commands.ensures.bytes)
    ]
