use Rattle.std.proofs.Common.{inl, inr, refl, rules}
use Rattle.cli.specs.Requests.{mistake, no_memory}
use Rattle.cli.proofs.requests.requested_text.Goals as goal

pub returns-in_default-clause-refused : goal.returns-in_default-clause-refused
returns-in_default-clause-refused g c =
    rw c.report.ensures.status (no_memory (inr (search rules)) c.report.ensures.written)

pub returns-then-eq-clause-refused : goal.returns-then-eq-clause-refused
returns-then-eq-clause-refused g c =
    rw c.report-then-eq.ensures.status (no_memory (inl (search rules)) c.report-then-eq.ensures.written)

pub returns-then-not-is_request-clause-refused : goal.returns-then-not-is_request-clause-refused
returns-then-not-is_request-clause-refused g c =
    mistake (c.if-not-is_request.ensures.no refl) (search rules) c.in-Ok.is
    (rw c.as_bytes.ensures.value at c.write_or_break.ensures)
