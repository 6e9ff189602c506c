use Rattle.std.proofs.Common.{ℕ, arith, subst}
use Rattle.std.proofs.lemmas.Result.{err_from_is_err_and}
use Rattle.gtp_check_app.specs.Sequence.{Turns, known_of, not_yet, point, stopped, too_many_turns, turns}
use Rattle.gtp_check_app.specs.Turns.{state_of}
use Rattle.gtp_check_app.proofs.check.Check.take_turns.Goals as goal

pub loop-turn-init : goal.loop-turn-init
loop-turn-init g c = record { turns = not_yet; paired = c.requires }

pub returns-in_err-over-clause-stopped : goal.returns-in_err-over-clause-stopped
returns-in_err-over-clause-stopped g c =
    let exit = c.from_residual in
    let failed = err_from_is_err_and exit.result exit.ensures.1 in
    rw (failed.1, failed.2) (stopped c.loop-turn.invariant.turns c.in_err-over.ensures.stops)

pub loop-turn-preserved : goal.loop-turn-preserved
loop-turn-preserved g c =
    let turn = rw c.in_default.is at c.in_ok-over.ensures.turn in
    record {
      turns = turns c.loop-turn.invariant.turns turn.2 turn.3 turn.4;
      paired = c.in_ok-over.ensures.paired;
    }

pub returns-clause-stopped : goal.returns-clause-stopped
returns-clause-stopped g c =
    too_many_turns
    (subst (λ (n : ℕ). Turns (known_of g.S.Process.Process g.O.WriteOnce g.E.WriteOnce) c.args.plan.now
    (point (state_of c.args.self.now) (g.S.Starter.asked c.args.starter.now) c.args.streams.now) n
    (point (state_of c.loop-turn.self) (g.S.Starter.asked c.loop-turn.starter) c.loop-turn.streams))
    (omega (arith, c.loop-turn.auto._turn-end, c.loop-turn-test.false)) c.loop-turn.invariant.turns)
