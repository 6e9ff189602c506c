use Rattle.std.proofs.Common.{rules}
use Rattle.gtp_check_talk.specs.Dialogues.{held, owes_nothing, reads}
use Rattle.gtp_check_talk.proofs.engine.Engine.exchange.Goals as goal

pub returns-then-unanswered-eq0-clause-exchanged : goal.returns-then-unanswered-eq0-clause-exchanged
returns-then-unanswered-eq0-clause-exchanged g c =
    rw (c.send_waiting.ensures.rest c.args.examiner.now.exam c.args.notes.now)
    (owes_nothing c.send_waiting.new.self.process (search rules) c.send_waiting.ensures.sent)

pub returns-then-not-is_empty-clause-exchanged : goal.returns-then-not-is_empty-clause-exchanged
returns-then-not-is_empty-clause-exchanged g c = held (search rules) (search rules) c.hear_held.ensures.heard

pub returns-clause-exchanged : goal.returns-clause-exchanged
returns-clause-exchanged g c =
    reads c.send_waiting-2.new.self.process (search rules) (search rules) c.send_waiting-2.ensures.sent
    (rw (c.send_waiting-2.ensures.rest c.args.examiner.now.exam c.args.notes.now) at c.read.ensures.read)
