use Rattle.std.proofs.Common.{◌++◌, take, subst, Ok, Err}
use Rattle.gtp_wire.specs.private.ReplyReading.{EndsInStep}
use Rattle.gtp_wire.specs.declared.reply_reader.Step.{Step}
use Rattle.gtp_wire.proofs.first_answers.OneAnswer.{first_at}
use Rattle.gtp_wire.proofs.first_answers.OneByteMore.{given_in_piece}
use Rattle.gtp_wire.proofs.reply_reader.ReplyReader.feed_into.Goals as goal

pub returns-in-End-clause-reads : goal.returns-in-End-clause-reads
returns-in-End-clause-reads c =
    record {
      first = given_in_piece c.args.self.now c.args.input.now c.scan-used.result.used (Ok c.take_reply.new.reply)
          c.scan-used.ensures.within (first_at _ c.take_reply.new.reply c.take_reply.ensures.reply);
      nothing = tt;
      all = tt;
      within = c.scan-used.ensures.within;
      rest = c.take_reply.ensures.new;
    }

pub returns-in-Fault-clause-reads : goal.returns-in-Fault-clause-reads
returns-in-Fault-clause-reads c =
    let P : Step → Type 0 = λ s. EndsInStep (c.args.self.now ++ take c.scan-used.result.used c.args.input.now) s in
    let faulty = subst P c.in-Fault.is c.scan-used.ensures.reached in
    record {
      first = given_in_piece c.args.self.now c.args.input.now c.scan-used.result.used (Err c.in-Fault.fault)
          c.scan-used.ensures.within faulty;
      nothing = tt;
      all = tt;
      within = c.scan-used.ensures.within;
      rest = c.fail.ensures;
    }
