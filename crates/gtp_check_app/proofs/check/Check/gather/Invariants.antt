use Rattle.std.proofs.Common.{◌≡◌, ◌<◌}
use Rattle.std.specs.Prelude.{IsSome}
use Rattle.gtp_check_app.specs.Turns.{Asks, process_of, state}
use Rattle.gtp_check_app.specs.private.Steps.{IsPaired}
use Rattle.gtp_check_app.proofs.check.Check.gather.Given as goal

-- steps of the course were taken, and after the first the engine is there
abbrev pub invariant-loop-step : goal.invariant-loop-step
invariant-loop-step g l = record {
  asks : Asks l.singly
      (state l.fn.self.examiner l.fn.self.course l.fn.self.engine l.fn.self.tally l.fn.self.notes)
      (state l.self.examiner l.self.course l.self.engine l.self.tally l.self.notes);
  paired : IsPaired (state l.self.examiner l.self.course l.self.engine l.self.tally l.self.notes);
  process : process_of l.self.engine ≡ process_of l.fn.self.engine;
  there : 0 < l._step → IsSome l.self.engine;
}
