use Rattle.std.proofs.lemmas.Result.{err_from_is_err_and}
use Rattle.gtp_check_app.proofs.check.Check.write.Goals as goal

pub returns-in_err-write_text-clause-broke : goal.returns-in_err-write_text-clause-broke
returns-in_err-write_text-clause-broke g c =
    let exit = c.from_residual-in_err-write_text in
    rw ((err_from_is_err_and exit.result exit.ensures.1).1)
    (λ is. (
      c.complaint_of-complaint.result,
      c.complaint_of-complaint.ensures,
      rw (c.as_slice.ensures.value, c.in_ok-text.ensures) at c.in_err-write_text.ensures.broke,
      c.clear.ensures,
    ))

pub returns-clause-flushed : goal.returns-clause-flushed
returns-clause-flushed g c = (
  c.complaint_of-complaint.result,
  c.complaint_of-complaint.ensures,
  rw (c.as_slice.ensures.value, c.in_ok-text.ensures) at c.in_ok-write_text.ensures.whole,
  c.clear.ensures,
)
