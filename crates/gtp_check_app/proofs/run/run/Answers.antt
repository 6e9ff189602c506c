use Rattle.std.proofs.Common.{◌∙◌, sym}
use Rattle.gtp_check_app.specs.Checks.{checked, outputs_of, stopped}
use Rattle.gtp_check_app.specs.Sequence.{beginning, known_of}
use Rattle.gtp_check_app.proofs.Running.{answered_status, clap_ran, held_status, list_ran, listed_status}
use Rattle.gtp_check_app.proofs.Running.{misplaced_ran, misplaced_status, no_plan_ran}
use Rattle.gtp_check_app.proofs.run.run.Goals as goal

pub returns-in-Err-clause-ran : goal.returns-in-Err-clause-ran
returns-in-Err-clause-ran g c =
    clap_ran (known_of g.S.Process.Process g.O.WriteOnce g.E.WriteOnce) _ c.args.shows_progress
    (g.S.Starter.asked c.args.starter.now) c.args.streams.now c.kind.result _
    (rw (sym c.kind.ensures) at c.in-Err.ensures.fault) _ (outputs_of c.answer.new.streams) c.answer.ensures

pub returns-in-Err-clause-status : goal.returns-in-Err-clause-status
returns-in-Err-clause-status g c = answered_status _ (outputs_of c.answer.new.streams) c.answer.ensures

pub returns-then-has_words_after-clause-ran : goal.returns-then-has_words_after-clause-ran
returns-then-has_words_after-clause-ran g c =
    misplaced_ran (known_of g.S.Process.Process g.O.WriteOnce g.E.WriteOnce) _ c.args.shows_progress
    (g.S.Starter.asked c.args.starter.now) c.args.streams.now c.in-Ok.options c.in-Ok.ensures.asked
    (sym c.has_words_after.ensures ∙ c.if-has_words_after.true) c.report_misplaced.result
    c.report_misplaced.new.errors c.report_misplaced.ensures

pub returns-then-has_words_after-clause-status : goal.returns-then-has_words_after-clause-status
returns-then-has_words_after-clause-status g c =
    misplaced_status c.report_misplaced.result c.report_misplaced.new.errors c.report_misplaced.ensures

pub returns-then-options-clause-ran : goal.returns-then-options-clause-ran
returns-then-options-clause-ran g c =
    list_ran (known_of g.S.Process.Process g.O.WriteOnce g.E.WriteOnce) _ c.args.shows_progress
    (g.S.Starter.asked c.args.starter.now) c.args.streams.now
    (record { options = c.in-Ok.options; asked = c.in-Ok.ensures.asked; list = c.if-options.true }) _
    (outputs_of c.list.new.streams) c.list.ensures

pub returns-in-Err-plan_of-clause-ran : goal.returns-in-Err-plan_of-clause-ran
returns-in-Err-plan_of-clause-ran g c =
    no_plan_ran (known_of g.S.Process.Process g.O.WriteOnce g.E.WriteOnce) _ c.args.shows_progress
    (g.S.Starter.asked c.args.starter.now) c.args.streams.now c.in-Ok.options c.in-Ok.ensures.asked
    c.in-Err-plan_of.error c.in-Err-plan_of.ensures.no_plan c.report.result c.report.new.errors
    c.report.ensures.status c.report.ensures.written

pub returns-in-Ok-check-clause-ran : goal.returns-in-Ok-check-clause-ran
returns-in-Ok-check-clause-ran g c =
    checked c.in-Ok-plan_of.plan
    (record {
      options = c.in-Ok.options;
      asked = c.in-Ok.ensures.asked;
      no_list = c.if-options.false;
      come_to = c.in-Ok-plan_of.ensures.plan;
    })
    (rw c.limit.ensures at c.in-Ok-check.ensures)

pub returns-clause-ran : goal.returns-clause-ran
returns-clause-ran g c =
    rw c.report-in-Err-check.ensures.status
    (stopped c.in-Ok-plan_of.plan c.in-Err-check.failure
    (record {
      options = c.in-Ok.options;
      asked = c.in-Ok.ensures.asked;
      no_list = c.if-options.false;
      come_to = c.in-Ok-plan_of.ensures.plan;
    })
    (rw c.limit.ensures at c.in-Err-check.ensures) c.report-in-Err-check.ensures.written)

pub returns-then-options-clause-status : goal.returns-then-options-clause-status
returns-then-options-clause-status g c = listed_status _ (outputs_of c.list.new.streams) c.list.ensures

pub returns-in-Ok-check-clause-status : goal.returns-in-Ok-check-clause-status
returns-in-Ok-check-clause-status g c =
    held_status (beginning c.in-Ok-plan_of.plan (g.S.Starter.asked c.args.starter.now) c.args.streams.now)
    c.in-Ok-check.status (rw c.limit.ensures at c.in-Ok-check.ensures)
