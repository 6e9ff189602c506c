use Rattle.std.proofs.Common.{◌∙◌, List, ℕ, subst}
use Rattle.std.specs.Prelude.{OnErr, OnOk}
use Rattle.std.proofs.lemmas.Result.{err_from_is_err_and}
use Rattle.byte_streams.specs.Writing.{BreaksAt, IsFlushed, AreFlushed, at_line, line_flushed, no_line}
use Rattle.byte_streams.proofs.WrittenTexts.{more_breaks, more_out, one_breaks, one_out}
use Rattle.twogtp_app.specs.Why.{retake_lines}
use Rattle.twogtp_app.proofs.why_writing.write_turn.Goals as goal
use Rattle.twogtp_app.proofs.why_writing.write_turn.Goals.{in-Some+in_ok-write_text, in_default}

pub returns-then-not-why-clause-whole : goal.returns-then-not-why-clause-whole
returns-then-not-why-clause-whole g c = rw c.if-not-why.true no_line

pub returns-in_err-write_text-clause-broke : goal.returns-in_err-write_text-clause-broke
returns-in_err-write_text-clause-broke g c =
    let exit = c.from_residual in
    rw ((err_from_is_err_and exit.result exit.ensures.1).1, c.if-not-why.false, c.in-Some.is)
    (at_line (subst (λ (line : List ℕ). BreaksAt g.E.WriteOnce line c.args.errors.now c.write_text.new.writer)
    (c.as_slice.ensures.value ∙ c.retake_line.ensures) c.in_err-write_text.ensures.broke))

pub returns-in-Some-loss : goal.returns-in-Some-loss
returns-in-Some-loss g c =
    let turn = c.args.turn.now in
    let mid = c.match-turn.errors in
    let last = c.write_text-in-Some-loss in
    let line = c.as_slice-in-Some-loss.ensures.value ∙ c.loss_line.ensures in
    let first
    : AreFlushed g.E.WriteOnce (retake_lines c.args.number turn.side turn.report.retake) c.args.errors.now mid =
    elim c.match-turn.branch [
      | in-Some+in_ok-write_text w ↦ rw (w.in-Some.is, w.errors-is)
          (line_flushed (subst
          (λ (line : List ℕ). IsFlushed g.E.WriteOnce line c.args.errors.now w.write_text.new.writer)
          (w.as_slice.ensures.value ∙ w.retake_line.ensures) w.in_ok-write_text.ensures.whole) no_line)
      | in_default w ↦ rw (w.in_default.is, w.errors-is) no_line
    ] in
    rw (c.if-not-why.false, c.in-Some-loss.is) (record {
      whole = more_out g.E.WriteOnce last.result _ _ _ _ _ first (one_out g.E.WriteOnce last.result _ _ _
          (subst (λ (line : List ℕ). OnOk last.result (IsFlushed g.E.WriteOnce line mid last.new.writer)) line
          last.ensures.whole));
      broke = more_breaks g.E.WriteOnce last.result _ _ _ _ _ first (one_breaks g.E.WriteOnce last.result _ _ _
          (subst (λ (line : List ℕ). OnErr last.result (BreaksAt g.E.WriteOnce line mid last.new.writer)) line
          last.ensures.broke));
    })

pub returns-in-None-clause-whole : goal.returns-in-None-clause-whole
returns-in-None-clause-whole g c =
    rw (c.if-not-why.false, c.in-None.is) (elim c.match-turn.branch [
      | in-Some+in_ok-write_text w ↦ rw (w.in-Some.is, w.errors-is)
          (line_flushed (subst
          (λ (line : List ℕ). IsFlushed g.E.WriteOnce line c.args.errors.now w.write_text.new.writer)
          (w.as_slice.ensures.value ∙ w.retake_line.ensures) w.in_ok-write_text.ensures.whole) no_line)
      | in_default w ↦ rw (w.in_default.is, w.errors-is) no_line
    ])
