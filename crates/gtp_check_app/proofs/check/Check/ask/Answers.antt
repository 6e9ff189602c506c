use Rattle.std.proofs.Common.{Some, ap}
use Rattle.gtp_check_judge.specs.Check.{Check}
use Rattle.gtp_check_app.specs.Turns.{state}
use Rattle.gtp_check_app.proofs.Gathering.{where_ok}
use Rattle.gtp_check_app.proofs.check.Check.ask.Goals as goal

pub returns-in-Some-clause-asks : goal.returns-in-Some-clause-asks
returns-in-Some-clause-asks g c =
    where_ok c.ask.result c.ask.ensures.asked (λ asked. record {
      engine = c.in-Some.engine;
      had = c.in-Some.is;
      exam = c.ask.new.examiner.exam;
      now = c.ask.new.self;
      notes = c.ask.new.notes;
      asked = asked;
      leads = ap (λ (check : Check). state check c.args.self.now.course (Some c.ask.new.self) c.args.self.now.tally
          c.ask.new.notes) c.ask.ensures.check;
    })
