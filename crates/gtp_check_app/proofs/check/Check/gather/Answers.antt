use Rattle.std.proofs.Common.{◌∙◌, arith, refl}
use Rattle.gtp_check_course.specs.declared.actions.Action.TheVariants.{Ask, Skip, Wait}
use Rattle.gtp_check_app.specs.Turns.{IsNext, asks, nothing, passes}
use Rattle.gtp_check_app.proofs.Gathering.{next_up}
use Rattle.gtp_check_app.proofs.check.Check.gather.Goals as goal
use Rattle.gtp_check_app.proofs.check.Check.gather.Goals.{in-Ask+in_ok-ask-in-Ask, in-Skip}

pub loop-step-init : goal.loop-step-init
loop-step-init g c = record {
  asks = nothing;
  paired = c.requires.paired;
  process = refl;
  there = λ some. absurd (omega (arith, some));
}

pub returns-in-Wait-clause-gathers : goal.returns-in-Wait-clause-gathers
returns-in-Wait-clause-gathers g c =
    let next : IsNext c.loop-step.self.course c.loop-step.self.examiner.exam Wait c.next.new.self = record {
      goes = c.in-Wait.ensures.goes;
      over = c.in-Wait.ensures.over;
      starts = c.in-Wait.ensures.starts;
      rests = c.in-Wait.ensures.rests;
      turns = c.in-Wait.ensures.turns;
    } in
    let up = next_up c.loop-step.self.course c.loop-step.self.examiner.exam Wait c.next.new.self next (λ e. cc e)
    (λ e. cc e) in
    (rw c.in-Wait.ensures.goes.1 c.loop-step.invariant.asks, c.loop-step.invariant.paired up)

pub loop-step-preserved : goal.loop-step-preserved
loop-step-preserved g c =
    let before = c.loop-step.invariant in
    elim c.match-next.branch [
      | in-Ask+in_ok-ask-in-Ask w ↦
          let next : IsNext c.loop-step.self.course c.loop-step.self.examiner.exam (Ask w.in-Ask.command)
          c.next.new.self = record {
            goes = w.in-Ask.ensures.goes;
            over = w.in-Ask.ensures.over;
            starts = w.in-Ask.ensures.starts;
            rests = w.in-Ask.ensures.rests;
            turns = w.in-Ask.ensures.turns;
          } in
          rw w.self-is
          (record {
            asks = asks w.in-Ask.command c.next.new.self before.asks next
                (c.if-not-has_room.ensures.alone refl (before.paired w.in-Ask.ensures.goes.0.up))
                (rw c.purpose-purpose.ensures at w.in_ok-ask-in-Ask.ensures.asks);
            paired = λ up. w.ask.ensures.there;
            process = w.ask.ensures.process ∙ before.process;
            there = λ some. w.ask.ensures.there;
          })
      | in-Skip w ↦
          let next : IsNext c.loop-step.self.course c.loop-step.self.examiner.exam Skip c.next.new.self = record {
            goes = w.in-Skip.ensures.goes;
            over = w.in-Skip.ensures.over;
            starts = w.in-Skip.ensures.starts;
            rests = w.in-Skip.ensures.rests;
            turns = w.in-Skip.ensures.turns;
          } in
          let up = next_up c.loop-step.self.course c.loop-step.self.examiner.exam Skip c.next.new.self next
          (λ e. cc e) (λ e. cc e) in
          rw w.self-is
          (record {
            asks = passes c.next.new.self before.asks next;
            paired = before.paired;
            process = before.process;
            there = λ some. before.paired up;
          })
    ]
