use Rattle.std.proofs.Common.{refl}
use Rattle.std.proofs.lemmas.List.{take_rest}
use Rattle.gtp_check_app.proofs.check.missed_from.Goals as goal

pub returns : goal.returns
returns c = rw (
  take_rest c.deref.result.now c.min-done.result,
  c.deref.ensures.0,
  c.min-done.ensures,
  c.len.ensures.value,
) refl
