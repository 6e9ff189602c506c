use Rattle.twogtp_app.specs.Turns.{Plays, engines_of, reporting, stage, state}
use Rattle.twogtp_app.proofs.game.GameInPlay.take_turns.Given as goal

-- this number of turns was taken
abbrev pub invariant-loop-turn : goal.invariant-loop-turn
invariant-loop-turn g l =
    Plays (engines_of l.plan.commands g.S.Process.Process)
    (reporting g.E.WriteOnce l.plan.task.details.why l.number)
    (stage (state l.fn.self.game l.fn.self.processes (g.S.Starter.asked l.fn.starter)) l.fn.errors) l._turn
    (stage (state l.self.game l.self.processes (g.S.Starter.asked l.starter)) l.errors)
