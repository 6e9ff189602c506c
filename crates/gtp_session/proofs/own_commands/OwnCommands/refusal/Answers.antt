use Rattle.gtp_session.proofs.own_commands.OwnCommands.refusal.Goals as goal

pub returns-in-Some : goal.returns-in-Some
returns-in-Some c = (rw c.in-Some.is at c.word_fault.ensures.some) c.args.self.now
