use Rattle.std.proofs.Common.{Some, ap}
use Rattle.gtp_check_judge.specs.Check.{Check}
use Rattle.gtp_check_app.specs.Turns.{state}
use Rattle.gtp_check_app.proofs.check.Check.exchange.Goals as goal

pub returns-in-Some-clause-heard : goal.returns-in-Some-clause-heard
returns-in-Some-clause-heard g c = record {
  engine = c.in-Some.engine;
  had = c.in-Some.is;
  exam = c.exchange.new.examiner.exam;
  heard = c.exchange.new.self;
  notes = c.exchange.new.notes;
  exchanged = c.exchange.ensures.exchanged;
  leads = ap (λ (check : Check). state check c.args.self.now.course (Some c.exchange.new.self) c.args.self.now.tally
      c.exchange.new.notes) c.exchange.ensures.check;
}
