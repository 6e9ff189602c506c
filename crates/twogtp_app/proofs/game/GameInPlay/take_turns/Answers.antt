use Rattle.std.proofs.Common.{ℕ, arith, subst}
use Rattle.std.proofs.lemmas.Result.{err_from_is_err_and}
use Rattle.twogtp_app.specs.Turns.{Plays, engines_of, line_broke, not_yet, out_of_memory, reporting, stage, state}
use Rattle.twogtp_app.specs.Turns.{too_many_turns, turns}
use Rattle.twogtp_app.proofs.game.GameInPlay.take_turns.Goals as goal

pub loop-turn-init : goal.loop-turn-init
loop-turn-init g c = not_yet

pub returns-in_err-turn : goal.returns-in_err-turn
returns-in_err-turn g c =
    let exit = c.from_residual in
    let failed = err_from_is_err_and exit.result exit.ensures.1 in
    rw (failed.1, failed.2) (out_of_memory (c.loop-turn._turn, c.loop-turn.invariant) c.in_err-turn.ensures.refused)

pub returns-in_err-write_turn-in-Taken : goal.returns-in_err-write_turn-in-Taken
returns-in_err-write_turn-in-Taken g c =
    let exit = c.from_residual-in_err-write_turn-in-Taken in
    let failed = err_from_is_err_and exit.result exit.ensures.1 in
    let step = rw c.in-Taken.is at c.in_ok-turn.ensures.step in
    rw (failed.1, failed.2) (line_broke c.in-Taken.turn (c.loop-turn._turn, c.loop-turn.invariant) step.0
    c.in_err-write_turn-in-Taken.ensures.broke)

pub loop-turn-preserved : goal.loop-turn-preserved
loop-turn-preserved g c =
    let step = rw c.in-Taken.is at c.in_ok-turn.ensures.step in
    turns c.in-Taken.turn c.loop-turn.invariant step.0 c.in_ok-write_turn-in-Taken.ensures.whole

pub returns : goal.returns
returns g c =
    too_many_turns (subst (λ (n : ℕ). Plays (engines_of c.args.plan.now.commands g.S.Process.Process)
    (reporting g.E.WriteOnce c.args.plan.now.task.details.why c.args.number)
    (stage (state c.args.self.now.game c.args.self.now.processes (g.S.Starter.asked c.args.starter.now))
    c.args.errors.now) n
    (stage (state c.loop-turn.self.game c.loop-turn.self.processes (g.S.Starter.asked c.loop-turn.starter))
    c.loop-turn.errors))
    (omega (arith, c.loop-turn.auto._turn-end, c.loop-turn-test.false)) c.loop-turn.invariant)
