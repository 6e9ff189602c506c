use Rattle.gtp_check_app.specs.Sequence.{Turns, known_of, point}
use Rattle.gtp_check_app.specs.Turns.{state_of}
use Rattle.gtp_check_app.specs.private.Steps.{IsPaired}
use Rattle.gtp_check_app.proofs.check.Check.take_turns.Given as goal

-- this number of turns was taken
abbrev pub invariant-loop-turn : goal.invariant-loop-turn
invariant-loop-turn g l = record {
  turns : Turns (known_of g.S.Process.Process g.O.WriteOnce g.E.WriteOnce) l.plan
      (point (state_of l.fn.self) (g.S.Starter.asked l.fn.starter) l.fn.streams) l._turn
      (point (state_of l.self) (g.S.Starter.asked l.starter) l.streams);
  paired : IsPaired (state_of l.self);
}
