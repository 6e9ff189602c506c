use Rattle.std.proofs.Common.{take}
use Rattle.gtp_world.specs.StepsWorlds.{RuledRuns}
use Rattle.gtp_world.proofs.steps_world.StepsWorld.run.Given as goal

abbrev pub invariant-loop-event : goal.invariant-loop-event
invariant-loop-event l = RuledRuns l.fn.self (take l.event-index l.events) l.self
