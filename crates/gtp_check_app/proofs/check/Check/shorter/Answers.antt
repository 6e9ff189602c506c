use Rattle.std.proofs.lemmas.Result.{err_from_is_err_and}
use Rattle.gtp_process.specs.Starts.{program_line}
use Rattle.gtp_check_talk.specs.Dialogues.{wrong_of, wrong_talk}
use Rattle.gtp_check_app.specs.Trials.{shortenings_of}
use Rattle.gtp_check_app.specs.Turns.{both_ways}
use Rattle.gtp_check_app.proofs.Shortening.{shortens_asks, then_more}
use Rattle.gtp_check_app.proofs.check.Check.shorter.Goals as goal

pub returns-in_err-reduced-clause-refused : goal.returns-in_err-reduced-clause-refused
returns-in_err-reduced-clause-refused g c =
    let exit = c.from_residual-in_err-reduced in
    let failed = err_from_is_err_and exit.result exit.ensures.1 in
    let refused = c.in_err-reduced.ensures.refused in
    rw (failed.1, failed.2) (
      refused.0,
      then_more (program_line c.args.plan.now.words.items) _ _
          (shortens_asks g.S.Process.Process c.args.plan.now (wrong_of c.args.found.now)
          (shortenings_of c.args.plan.now.trials (wrong_talk (wrong_of c.args.found.now)))
          c.in_ok-games.ensures.shortens)
          refused.1,
    )

pub returns-in-Some-clause-shortens : goal.returns-in-Some-clause-shortens
returns-in-Some-clause-shortens g c =
    both_ways c.in_ok-games.ensures.shortens (rw c.in-Some.is at c.in_ok-reduced.ensures.reduced)

pub returns-in-None-clause-shortens : goal.returns-in-None-clause-shortens
returns-in-None-clause-shortens g c =
    both_ways c.in_ok-games.ensures.shortens (rw c.in-None.is at c.in_ok-reduced.ensures.reduced)
