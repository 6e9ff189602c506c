use Rattle.std.proofs.Common.{refl}
use Rattle.std.proofs.lemmas.Result.{err_from_is_err_and}
use Rattle.twogtp_app.specs.Games.{broke, stopped}
use Rattle.twogtp_app.proofs.game.play_game.Goals as goal

pub returns-in_err-written-in-Ok : goal.returns-in_err-written-in-Ok
returns-in_err-written-in-Ok g c =
    let exit = c.from_residual in
    let failed = err_from_is_err_and exit.result exit.ensures.1 in
    rw (failed.1, failed.2)
    (broke (rw (c.new.ensures, c.none.ensures) at c.in-Ok.ensures) refl
    c.in_err-written-in-Ok.ensures.ended c.in_err-written-in-Ok.ensures.broke)

pub returns-in-Err : goal.returns-in-Err
returns-in-Err g c =
    stopped (rw (c.new.ensures, c.none.ensures) at c.in-Err.ensures) refl c.end.ensures refl
