use Rattle.std.proofs.Common.{inl, inr, refl, sym}
use Rattle.std.specs.Prelude.{string_bytes}
use Rattle.gtp_engine_app.proofs.Answering.{never_both, refused_loud, refused_own, refused_status, refused_usage}
use Rattle.gtp_engine_app.proofs.Answering.{shown_no_mistake, shown_quiet, shown_status, value_of}
use Rattle.gtp_engine_app.proofs.run.run.Goals as goal
use Rattle.gtp_engine_app.proofs.run.run.Goals.{in-First, in-Random, in-Book}

pub returns-clause-served : goal.returns-clause-served
returns-clause-served g c = λ other.
    inl (record {
      options = c.in-Ok.options;
      asked = c.in-Ok.ensures.asked;
      conversed = record {
        entries = c.in-Ok-read_texts.texts.0;
        fault = c.in-Ok-read_texts.texts.1;
        spells = c.in-Ok-read_texts.ensures.texts;
        served = c.match-options.served;
        came_out = elim c.match-options.branch [
          | in-First w ↦
              rw (w.in-First.is, w.served-is, w.input-is, w.output-is) (_, w.converse-served.ensures)
          | in-Random w ↦
              rw (w.in-Random.is, w.served-is, w.input-is, w.output-is, ← w.new.ensures)
              w.converse-served-in-Random.ensures
          | in-Book w ↦
              rw (w.in-Book.is, w.served-is, w.input-is, w.output-is) w.converse-served-in-Book.ensures
        ];
        status_is = c.end.ensures.status;
        reported = c.end.ensures.reported;
      };
    })

pub returns-in-Err-clause-status : goal.returns-in-Err-clause-status
returns-in-Err-clause-status g c = elim c.answer_error.ensures [
  | inl refused ↦ refused_status g.E.WriteOnce _ _ _ _ _ refused.0
  | inr asked ↦
      let said = value_of c.to_string.result _ asked.1 in
      shown_status g.E.WriteOnce _ _ _ _ _ _ said.1
]

pub returns-in-Err-clause-usage : goal.returns-in-Err-clause-usage
returns-in-Err-clause-usage g c = λ two. elim c.answer_error.ensures [
  | inl refused ↦ (
    refused_usage g.E.WriteOnce _ _ _ _ (rw (sym c.kind.ensures) at c.in-Err.ensures.fault) _ _ refused.0 two,
    refl,
    refused.1,
  )
  | inr asked ↦
      let said = value_of c.to_string.result _ asked.1 in
      absurd (shown_no_mistake g.E.WriteOnce _ _ _ _ _ _ said.1 two)
]

pub returns-in-Err-clause-served : goal.returns-in-Err-clause-served
returns-in-Err-clause-served g c = λ other. elim c.answer_error.ensures [
  | inl refused ↦ inr (inr (refused_own g.E.WriteOnce _ _ _ _ _ refused.0 other, refl, refused.1))
  | inr asked ↦
      let said = value_of c.to_string.result _ asked.1 in
      let has = rw (sym c.kind.ensures) at c.in-Err.ensures.fault in
      inr (inl (
        refl,
        record {
          asked = (c.kind.result, asked.0, has (never_both c.kind.result asked.0));
          text = string_bytes said.0;
          shown = said.1;
        },
      ))
]

pub returns-in-Err-clause-quiet : goal.returns-in-Err-clause-quiet
returns-in-Err-clause-quiet g c = λ quiet. elim c.answer_error.ensures [
  | inl refused ↦ absurd (refused_loud g.E.WriteOnce _ _ _ _ _ refused.0 quiet)
  | inr asked ↦
      let said = value_of c.to_string.result _ asked.1 in
      shown_quiet g.E.WriteOnce _ _ _ _ _ _ said.1 quiet
]
