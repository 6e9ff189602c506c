use Rattle.std.proofs.Common.{rules}
use Rattle.std.proofs.lemmas.Result.{err_from_is_err_and}
use Rattle.twogtp_app.specs.Games.{game, no_game, run_state}
use Rattle.twogtp_app.proofs.run.play_games.Goals as goal

pub loop-index-init : goal.loop-index-init
loop-index-init g c = no_game

pub returns-in_err-verdict : goal.returns-in_err-verdict
returns-in_err-verdict g c =
    let exit = c.from_residual in
    let failed = err_from_is_err_and exit.result exit.ensures.1 in
    rw (failed.1, failed.2)
    (record {
      number = c.loop-index.index;
      status = c.loop-index.status;
      within = search rules;
      between = run_state c.loop-index.output c.loop-index.errors (g.S.Starter.asked c.loop-index.starter);
      written = c.loop-index.invariant;
      next = c.in_err-verdict.ensures;
    })

pub loop-index-preserved : goal.loop-index-preserved
loop-index-preserved g c = rw c.with_verdict-status.ensures (game c.loop-index.invariant c.in_ok-verdict.ensures)
