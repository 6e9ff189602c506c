use Rattle.std.proofs.Common.{◌∙◌, refl, sym}
use Rattle.gtp_check_app.proofs.check.Check.close.Goals as goal

pub returns-clause-closes : goal.returns-clause-closes
returns-clause-closes g c =
    let said = c.end.ensures.said in
    record {
      engine = c.in_ok-engine.engine;
      had = sym c.take.ensures.value ∙ c.in_ok-engine.was;
      ending = c.end.result.ending;
      ended = c.end.ensures.ended;
      is = rw (c.answered-answered.ensures, said.0, said.1, said.2, c.end.ensures.out) refl;
      course = c.note_finding.new.course;
      notes = rw (c.purpose.ensures, c.is_loss.ensures) at c.note_finding.ensures;
      leads = rw (c.lost.ensures, c.take.ensures.after) refl;
    }
