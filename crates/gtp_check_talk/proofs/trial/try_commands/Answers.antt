use Rattle.std.proofs.Common.{Err, Ok, refl}
use Rattle.std.proofs.lemmas.Result.{err_from_is_err_and}
use Rattle.gtp_process.specs.declared.starter.StartFault.TheVariants as start_fault
use Rattle.gtp_check_talk.specs.Dialogues.{dialogue, none, one_more, standing, trial_of, unstarted, wrong_with}
use Rattle.gtp_check_talk.proofs.Conversations.{trial_right, trial_wrong}
use Rattle.gtp_check_talk.proofs.Trials.{asked_nothing}
use Rattle.gtp_check_talk.proofs.trial.try_commands.Goals as goal

pub returns-in-Err-OutOfMemory-clause-refused : goal.returns-in-Err-OutOfMemory-clause-refused
returns-in-Err-OutOfMemory-clause-refused g c =
    one_more (Err start_fault.OutOfMemory) none
    (rw c.in-Err-OutOfMemory.field-0-is at c.in-Err-OutOfMemory.ensures.asked)

pub returns-in-Err-NotStarted-clause-tried : goal.returns-in-Err-NotStarted-clause-tried
returns-in-Err-NotStarted-clause-tried g c =
    unstarted c.in-Err-NotStarted.field-0-0 (rw c.in-Err-NotStarted.field-0-is at c.in-Err-NotStarted.ensures.asked)

pub returns-in_err-fault-clause-refused : goal.returns-in_err-fault-clause-refused
returns-in_err-fault-clause-refused g c =
    let exit = c.from_residual in
    rw ((err_from_is_err_and exit.result exit.ensures.1).1) (one_more (Ok c.in-Ok.process) none c.in-Ok.ensures.asked)

pub returns-in-Some-clause-tried : goal.returns-in-Some-clause-tried
returns-in-Some-clause-tried g c =
    let said = c.end-said.ensures.said in
    rw c.lost.ensures
    (trial_wrong g.S.Process.Process (trial_of c.args.trial.now)
    (standing c.args.examiner.now (g.S.Starter.asked c.args.starter.now) c.args.notes.now) c.started.new.self
    c.ask_all-found.new.examiner _ c.in-Ok.process
    (dialogue c.new-engine.result c.started.new.self.exam c.args.notes.now)
    (dialogue c.ask_all-found.new.engine c.ask_all-found.new.examiner.exam c.ask_all-found.new.notes)
    c.end-said.result.ending c.in-Some.fault _ c.started.ensures
    (c.new-engine.ensures c.started.new.self.exam c.args.notes.now) c.ask_all-found.ensures.check
    c.in-Ok.ensures.asked (rw c.in-Some.is at c.in_ok-fault.ensures.ends)
    (c.in_ok-fault.ensures.first (asked_nothing c.new-engine.result c.started.new.self.exam c.args.notes.now
    c.in-Ok.process (c.new-engine.ensures c.started.new.self.exam c.args.notes.now))) c.end-said.ensures.ended
    (rw (c.answered-answered.ensures, said.0, said.1, said.2, c.end-said.ensures.out)
    (refl {a = wrong_with c.in-Some.fault
    (dialogue c.ask_all-found.new.engine c.ask_all-found.new.examiner.exam c.ask_all-found.new.notes)
    c.end-said.result.ending})))

pub returns-in-None-clause-tried : goal.returns-in-None-clause-tried
returns-in-None-clause-tried g c =
    rw c.lost.ensures
    (trial_right g.S.Process.Process (trial_of c.args.trial.now)
    (standing c.args.examiner.now (g.S.Starter.asked c.args.starter.now) c.args.notes.now) c.started.new.self
    c.ask_all-found.new.examiner _ c.in-Ok.process
    (dialogue c.new-engine.result c.started.new.self.exam c.args.notes.now)
    (dialogue c.ask_all-found.new.engine c.ask_all-found.new.examiner.exam c.ask_all-found.new.notes)
    c.end-said.result.ending c.started.ensures
    (c.new-engine.ensures c.started.new.self.exam c.args.notes.now) c.ask_all-found.ensures.check
    c.in-Ok.ensures.asked (rw c.in-None.is at c.in_ok-fault.ensures.ends)
    (rw c.in-None.is at (c.in_ok-fault.ensures.all (asked_nothing c.new-engine.result c.started.new.self.exam
    c.args.notes.now c.in-Ok.process (c.new-engine.ensures c.started.new.self.exam c.args.notes.now))))
    c.end-said.ensures.ended)
