use Rattle.twogtp_app.proofs.mistakes.report_no_plan.Goals as goal

pub returns-in-OutOfMemory-clause-written : goal.returns-in-OutOfMemory-clause-written
returns-in-OutOfMemory-clause-written g c = rw c.in-OutOfMemory.is c.report.ensures.written
