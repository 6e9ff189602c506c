use Rattle.std.proofs.Common.{◌≡◌, ◌∙◌, ap, arith, false, length, refl, sym, List, None}
use Rattle.std.proofs.lemmas.Result.{err_from_is_err_and}
use Rattle.gtp_process.specs.Starts.{program_line}
use Rattle.gtp_check_judge.specs.declared.asking.CheckCommand.{CheckCommand}
use Rattle.gtp_check_talk.specs.declared.said.Said.{Said}
use Rattle.gtp_check_talk.specs.Dialogues.{none, wrong_of, wrong_talk}
use Rattle.gtp_check_app.specs.Trials.{left_by, shortenings_of}
use Rattle.gtp_check_app.specs.Turns.{moment, state_of}
use Rattle.gtp_check_app.proofs.Shortening.{Missed, all_missed, found_here, missed_asks, one_asks, one_missed}
use Rattle.gtp_check_app.proofs.Shortening.{then_more}
use Rattle.gtp_check_app.proofs.check.Check.last_games.Goals as goal

pub returns-in_err-all-clause-refused : goal.returns-in_err-all-clause-refused
returns-in_err-all-clause-refused g c =
    let exit = c.from_residual in
    let failed = err_from_is_err_and exit.result exit.ensures.1 in
    rw failed.1 (failed.2, none)

pub loop-shortening-init : goal.loop-shortening-init
loop-shortening-init g c = record { missed = Missed.nothing; tried = refl; engine = refl }

pub overflow_add-tried : goal.overflow_add-tried
overflow_add-tried g c =
    let count : length c.deref-shortening-items.result.now ≡ length c.in_ok-all.all.items =
    ap length c.deref-shortening-items.ensures.value in
    omega (arith, count, c.in_ok-all.ensures.few, c.loop-shortening.invariant.tried)

pub returns-in_err-commands-clause-refused : goal.returns-in_err-commands-clause-refused
returns-in_err-commands-clause-refused g c =
    let exit = c.from_residual-in_err-commands in
    let failed = err_from_is_err_and exit.result exit.ensures.1 in
    rw failed.1 (
      failed.2,
      missed_asks g.S.Process.Process c.args.plan.now (wrong_of c.args.found.now) _ c.loop-shortening.invariant.missed,
    )

pub returns-in_err-ended-clause-refused : goal.returns-in_err-ended-clause-refused
returns-in_err-ended-clause-refused g c =
    let exit = c.from_residual-in_err-ended in
    let failed = err_from_is_err_and exit.result exit.ensures.1 in
    let refused = c.in_err-ended.ensures.refused in
    rw (failed.1, failed.2) (
      refused.0,
      then_more (program_line c.args.plan.now.words.items) _ _
          (missed_asks g.S.Process.Process c.args.plan.now (wrong_of c.args.found.now) _
          c.loop-shortening.invariant.missed)
          refused.1,
    )

pub returns-in_err-left-clause-refused : goal.returns-in_err-left-clause-refused
returns-in_err-left-clause-refused g c =
    let exit = c.from_residual-in_err-left in
    let failed = err_from_is_err_and exit.result exit.ensures.1 in
    rw failed.1 (
      failed.2,
      then_more (program_line c.args.plan.now.words.items) _ _
          (missed_asks g.S.Process.Process c.args.plan.now (wrong_of c.args.found.now) _
          c.loop-shortening.invariant.missed)
          (one_asks g.S.Process.Process c.args.plan.now (wrong_of c.args.found.now) _ _ c.in_ok-ended.ensures.tries),
    )

pub returns-in_err-left-2-clause-refused : goal.returns-in_err-left-2-clause-refused
returns-in_err-left-2-clause-refused g c =
    let exit = c.from_residual-in_err-left-2 in
    let failed = err_from_is_err_and exit.result exit.ensures.1 in
    rw failed.1 (
      failed.2,
      missed_asks g.S.Process.Process c.args.plan.now (wrong_of c.args.found.now) _ c.loop-shortening.invariant.missed,
    )

pub returns-in-Some-clause-shortens : goal.returns-in-Some-clause-shortens
returns-in-Some-clause-shortens g c =
    found_here
    g.S.Process.Process c.args.plan.now (wrong_of c.args.found.now)
    (moment (state_of c.args.self.now) (g.S.Starter.asked c.args.starter.now))
    (shortenings_of c.args.plan.now.trials (wrong_talk (wrong_of c.args.found.now)))
    c.deref-shortening-items.result.now c.conversation-talk.result.now c.loop-shortening.shortening-index
    c.loop-shortening.tried (moment (state_of c.loop-shortening.self) (g.S.Starter.asked c.loop-shortening.starter))
    (c.deref-shortening-items.ensures.value ∙ c.in_ok-all.ensures.those
    ∙ ap (λ (talk : List Said). shortenings_of c.args.plan.now.trials talk) c.conversation-talk.ensures)
    c.conversation-talk.ensures c.loop-shortening.invariant.tried c.loop-shortening.invariant.missed
    (record { games = 0; is_whole = false; kept = None }) c.as_slice.result.now
    c.in_ok-left.left.items (c.as_slice.ensures.value ∙ c.in_ok-commands.ensures) c.loop-shortening-test.true
    (c.in_ok-left.ensures
    ∙ ap (λ (these : List CheckCommand). left_by (wrong_of c.args.found.now) these (wrong_of c.in-Some.ended))
    (c.as_slice-in-Some.ensures.value ∙ sym c.as_slice.ensures.value))
    (rw c.in-Some.is at c.in_ok-ended.ensures.tries)

pub loop-shortening-preserved : goal.loop-shortening-preserved
loop-shortening-preserved g c = record {
  missed = one_missed
      g.S.Process.Process c.args.plan.now (wrong_of c.args.found.now)
      (moment (state_of c.args.self.now) (g.S.Starter.asked c.args.starter.now))
      (shortenings_of c.args.plan.now.trials (wrong_talk (wrong_of c.args.found.now)))
      c.deref-shortening-items.result.now c.conversation-talk.result.now c.loop-shortening.shortening-index
      c.loop-shortening.tried (moment (state_of c.loop-shortening.self) (g.S.Starter.asked c.loop-shortening.starter))
      (c.deref-shortening-items.ensures.value ∙ c.in_ok-all.ensures.those
      ∙ ap (λ (talk : List Said). shortenings_of c.args.plan.now.trials talk) c.conversation-talk.ensures)
      c.conversation-talk.ensures c.loop-shortening.invariant.tried c.loop-shortening.invariant.missed
      (record { games = 0; is_whole = false; kept = None }) c.as_slice.result.now
      (c.as_slice.ensures.value ∙ c.in_ok-commands.ensures) c.loop-shortening-test.true
      (rw c.in_default.is at c.in_ok-ended.ensures.tries);
  tried = omega (arith, c.loop-shortening.invariant.tried);
  engine = c.try_one.ensures.engine ∙ c.loop-shortening.invariant.engine;
}

pub returns-clause-shortens : goal.returns-clause-shortens
returns-clause-shortens g c =
    all_missed
    g.S.Process.Process c.args.plan.now (wrong_of c.args.found.now)
    (moment (state_of c.args.self.now) (g.S.Starter.asked c.args.starter.now))
    (shortenings_of c.args.plan.now.trials (wrong_talk (wrong_of c.args.found.now)))
    c.deref-shortening-items.result.now c.conversation-talk.result.now c.loop-shortening.shortening-index
    c.loop-shortening.tried (moment (state_of c.loop-shortening.self) (g.S.Starter.asked c.loop-shortening.starter))
    (c.deref-shortening-items.ensures.value ∙ c.in_ok-all.ensures.those
    ∙ ap (λ (talk : List Said). shortenings_of c.args.plan.now.trials talk) c.conversation-talk.ensures)
    c.conversation-talk.ensures c.loop-shortening.invariant.tried c.loop-shortening.invariant.missed
    c.in_ok-left-2.left.items c.in_ok-left-2.ensures
    c.loop-shortening-test.false c.loop-shortening.auto.shortening-index-end
