use Rattle.std.proofs.Common.{rules, ◌≢◌, refl, sym, ◌∙◌}
use Rattle.gtp_session.specs.Policy.{IsLawful}
use Rattle.gtp_session.specs.declared.events.Wait.TheVariants as wait
use Rattle.gtp_session.specs.private.StepsFields.{state_in}
use Rattle.gtp_session.proofs.stepping.Kept.{answered_kept}
use Rattle.gtp_session.proofs.stepping.Waits.{by-choice, lawful_at}
use Rattle.gtp_session.proofs.steps.Steps.choose.Goals as goal

pub answer-self-inside-requires-clause-lawful : goal.answer-self-inside-requires-clause-lawful
answer-self-inside-requires-clause-lawful c =
    let s = c.self.inside in
    let waits : s.wait ≢ wait.Nothing = λ n. cc in
    let lawful : IsLawful s.game c.in-Choice.colour c.args.choice = search rules in
    lawful_at s.game s.line c.in-Choice.colour c.args.choice
    (by-choice _ _ _ (sym (c.self.invariant.waits waits) ∙ c.in-Choice.is)) lawful

pub invariant_of-self : goal.invariant_of-self
invariant_of-self c =
    let s = c.self.inside in
    let made = c.answer-self-inside in
    let waits : s.wait ≢ wait.Nothing = λ n. cc in
    let lawful : IsLawful s.game c.in-Choice.colour c.args.choice = search rules in
    answered_kept (state_in s) c.args.choice wait.Nothing made.new.game made.result made.new.reply.items
    c.self.invariant made.ensures.size
    (lawful_at s.game s.line c.in-Choice.colour c.args.choice
    (by-choice _ _ _ (sym (c.self.invariant.waits waits) ∙ c.in-Choice.is)) lawful)
    refl made.ensures.reply

pub returns-clause-made : goal.returns-clause-made
returns-clause-made c =
    let made = c.answer-self-inside in
    rw (← c.self.view_is)
    (record {
      colour = c.in-Choice.colour;
      asked = c.in-Choice.is;
      lawful = c.in_default-refusal.ensures.lawful;
      new_is = rw (made.ensures.game, made.ensures.reply, made.ensures.ends) refl;
    })
