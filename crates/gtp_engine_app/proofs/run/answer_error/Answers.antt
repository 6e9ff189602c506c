use Rattle.std.proofs.Common.{inl, inr, refl}
use Rattle.gtp_engine_app.proofs.run.answer_error.Goals as goal

pub returns-in-Ok : goal.returns-in-Ok
returns-in-Ok g c =
    let asked = c.in-Ok.ensures.request in
    inr (asked.0, rw asked.1 (rw (c.as_bytes.ensures.value, asked.2) at c.show.ensures))

pub returns-in-Err : goal.returns-in-Err
returns-in-Err g c = inl (c.in-Err.ensures.refused, refl)
