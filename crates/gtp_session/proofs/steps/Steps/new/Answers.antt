use Rattle.std.proofs.Common.{◌∙◌, ap, refl, sym, subst, List, ℕ}
use Rattle.gtp_wire.specs.Lines.{lines}
use Rattle.gtp_session.specs.Steps.{IsTitle}
use Rattle.gtp_session.proofs.engines.Replying.{lines-nothing}
use Rattle.gtp_session.proofs.stepping.OwnNames.{no_commands}
use Rattle.gtp_session.proofs.stepping.Titles.{stepgo_title, first_title}
use Rattle.gtp_session.proofs.steps.Steps.new.Goals as goal

pub invariant_of-result : goal.invariant_of-result
invariant_of-result c =
    record {
      unread = ap lines c.new.ensures ∙ lines-nothing;
      waits = λ n. absurd (n refl);
      goes_on = λ n. absurd (n refl);
      id = tt;
      spoken = λ n. absurd (n c.new-2.ensures);
      name = subst (λ (t : List ℕ). IsTitle t) (sym c.copy_of-name.ensures) stepgo_title;
      version = subst (λ (t : List ℕ). IsTitle t) (sym c.copy_of-version.ensures) first_title;
      commands = no_commands c.new-3.result c.new-3.ensures;
    }
