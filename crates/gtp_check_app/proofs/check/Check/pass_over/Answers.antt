use Rattle.std.proofs.Common.{◌∙◌, refl, sym}
use Rattle.gtp_check_app.proofs.check.Check.pass_over.Goals as goal

pub returns-clause-passes : goal.returns-clause-passes
returns-clause-passes g c = record {
  engine = c.in-Some.engine;
  had = sym c.take.ensures.value ∙ c.in-Some.is;
  ending = c.end.result.ending;
  ended = c.end.ensures.ended;
  course = c.leave_part.new.course;
  left = rw c.owed_purpose-purpose.ensures at c.leave_part.ensures;
  leads = rw (c.lost.ensures, c.take.ensures.after, c.count_unjudged.ensures) refl;
}
