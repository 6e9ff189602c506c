use Rattle.std.proofs.Common.{List, subst, sym, ap, ◌++◌, [], ◌∷◌, take, ◌∙◌}
use Rattle.std.proofs.lemmas.List.{take_more}
use Rattle.gtp_world.specs.declared.steps_events.StepsEvent.{StepsEvent}
use Rattle.gtp_world.specs.StepsWorlds.{RuledRuns}
use Rattle.gtp_world.proofs.joined.ReachedLemmas.{made_push, made_nothing}
use Rattle.gtp_world.proofs.steps_world.StepsWorld.run.Goals as goal

pub loop-event-init : goal.loop-event-init
loop-event-init c = made_nothing _ _ _ c.args.self.now

pub loop-event-preserved : goal.loop-event-preserved
loop-event-preserved c =
    let before : List StepsEvent = take c.loop-event.event-index c.args.events.now in
    subst (λ (es : List StepsEvent). RuledRuns c.args.self.now es c.step.new.self)
    (sym (take_more c.args.events.now c.loop-event.event-index c.event-item.result c.loop-event-test.true
    ∙ ap (λ (e : StepsEvent). before ++ e ∷ []) (sym c.event-item.is)))
    (made_push _ _ _ c.args.self.now before c.loop-event.self c.event-item.result c.step.new.self
    c.loop-event.invariant c.step.ensures)
