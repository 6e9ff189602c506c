use Rattle.std.proofs.Common.{refl, ap, ◌∙◌, ℕ, Option}
use Rattle.gtp_wire.specs.Replies.{written_reply}
use Rattle.gtp_session.specs.declared.events.Wait.TheVariants as wait
use Rattle.gtp_session.specs.private.StepsFields.{state_in}
use Rattle.gtp_session.proofs.stepping.Kept.{texted_kept}
use Rattle.gtp_session.proofs.steps.Steps.reply_text.Goals as goal

pub invariant_of-self : goal.invariant_of-self
invariant_of-self c =
    texted_kept (state_in c.self.inside) c.args.ok c.args.text.now wait.Nothing c.write_reply_into.new.out.items
    c.self.invariant c.requires refl
    (c.write_reply_into.ensures.bytes c.requires.fits
    ∙ ap (λ (id : Option ℕ). written_reply c.args.ok id c.args.text.now) c.id_of.ensures.value)
