use Rattle.std.proofs.Common.{refl}
use Rattle.std.proofs.lemmas.Result.{IfOk-weaker}
use Rattle.gtp_check_app.proofs.CommandLine.{AreOptions, command_line-from_rows}
use Rattle.gtp_check_app.proofs.options.command.Goals as goal

pub returns : goal.returns
returns c =
    let are : AreOptions c.as_slice.result.now = rw c.as_slice.ensures (record {
      names = record { rules = _; suicides = _; scores = _; only = _; skip = _ };
      are_kept = record { rules = refl; suicides = refl; scores = refl; only = refl; skip = refl };
      are = refl;
    }) in
    IfOk-weaker c.with_options.result _ _
    (λ with made. command_line-from_rows _ _ c.as_slice.result.now are c.in_ok-program.ensures made)
    c.with_options.ensures
