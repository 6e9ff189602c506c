use Rattle.std.proofs.Common.{◌∙◌, ap, inl, inr, arith, map, refl, sym}
use Rattle.cli.specs.Requests.{writers}
use Rattle.twogtp_app.specs.declared.task.Details.{Details}
use Rattle.twogtp_app.specs.Games.{known_of, run_of}
use Rattle.twogtp_app.proofs.command_line.Answering.{answered_played, answered_quiet, answered_status}
use Rattle.twogtp_app.proofs.command_line.Answering.{answered_stopped, answered_usage, plan_error_stopped}
use Rattle.twogtp_app.proofs.matches.Statuses.{games_are_quiet, status_range}
use Rattle.twogtp_app.proofs.run.run.Goals as goal

pub returns-in-Err-clause-status : goal.returns-in-Err-clause-status
returns-in-Err-clause-status g c =
    answered_status (writers g.O.WriteOnce g.E.WriteOnce) _ _ _ _ _ c.answer_error.ensures

pub returns-in-Err-clause-quiet : goal.returns-in-Err-clause-quiet
returns-in-Err-clause-quiet g c = λ range none.
    answered_quiet (writers g.O.WriteOnce g.E.WriteOnce) _ _ _ _ _ c.answer_error.ensures range

pub returns-in-Err-clause-usage : goal.returns-in-Err-clause-usage
returns-in-Err-clause-usage g c = λ two.
    let has = rw (sym c.kind.ensures) at c.in-Err.ensures.fault in
    let words = map g.A.AsStr.text c.args.words.now in
    let usage = answered_usage (writers g.O.WriteOnce g.E.WriteOnce) _ _ _ words has _ _ c.answer_error.ensures two in
    (usage.0, usage.1, refl)

pub returns-in-Err-clause-played : goal.returns-in-Err-clause-played
returns-in-Err-clause-played g c = λ range.
    let has = rw (sym c.kind.ensures) at c.in-Err.ensures.fault in
    let words = map g.A.AsStr.text c.args.words.now in
    inl (refl, answered_played (writers g.O.WriteOnce g.E.WriteOnce) _ _ _ words has _ _ c.answer_error.ensures range)

pub returns-in-Err-clause-stopped : goal.returns-in-Err-clause-stopped
returns-in-Err-clause-stopped g c = λ three.
    let has = rw (sym c.kind.ensures) at c.in-Err.ensures.fault in
    let words = map g.A.AsStr.text c.args.words.now in
    elim (answered_stopped (writers g.O.WriteOnce g.E.WriteOnce) _ _ _ words has _ _ c.answer_error.ensures three) [
      | inl same ↦ inl (refl, same.0, same.1)
      | inr broke ↦ inr (inl (refl, broke.0, broke.1))
    ]

-- Where the options come to no plan with status 3, memory was refused.
pub returns-in-Err-plan_of-clause-stopped : goal.returns-in-Err-plan_of-clause-stopped
returns-in-Err-plan_of-clause-stopped g c = λ three.
    let why = plan_error_stopped g.E.WriteOnce c.in-Ok.options c.in-Err-plan_of.error c.report_no_plan.result _ _
    c.report_no_plan.ensures.status c.report_no_plan.ensures.written three in
    inl (refl, refl, why)

-- The status of games is 0 or 1.
pub returns-in-Ok-play_games-clause-status : goal.returns-in-Ok-play_games-clause-status
returns-in-Ok-play_games-clause-status g c =
    elim (status_range (run_of c.in-Ok-plan_of.plan (known_of g.S.Process.Process g.O.WriteOnce g.E.WriteOnce)) _ _ _ _
    c.in-Ok-play_games.ensures)
    [ inl e ↦ inl e | inr e ↦ inr (inl e) ]

pub returns-in-Ok-play_games-clause-usage : goal.returns-in-Ok-play_games-clause-usage
returns-in-Ok-play_games-clause-usage g c = λ two. absurd
    (elim (status_range (run_of c.in-Ok-plan_of.plan (known_of g.S.Process.Process g.O.WriteOnce g.E.WriteOnce)) _ _ _ _
    c.in-Ok-play_games.ensures)
    [ inl e ↦ omega (arith, e, two) | inr e ↦ omega (arith, e, two) ])

pub returns-in-Ok-play_games-clause-stopped : goal.returns-in-Ok-play_games-clause-stopped
returns-in-Ok-play_games-clause-stopped g c = λ three. absurd
    (elim (status_range (run_of c.in-Ok-plan_of.plan (known_of g.S.Process.Process g.O.WriteOnce g.E.WriteOnce)) _ _ _ _
    c.in-Ok-play_games.ensures)
    [ inl e ↦ omega (arith, e, three) | inr e ↦ omega (arith, e, three) ])

pub returns-in-Ok-play_games-clause-quiet : goal.returns-in-Ok-play_games-clause-quiet
returns-in-Ok-play_games-clause-quiet g c = λ range none.
    games_are_quiet (run_of c.in-Ok-plan_of.plan (known_of g.S.Process.Process g.O.WriteOnce g.E.WriteOnce))
    (ap (λ (details : Details). details.why) c.in-Ok-plan_of.ensures.plan.games.details
    ∙ none c.in-Ok.options c.in-Ok.ensures.asked)
    _ _ _ _ c.in-Ok-play_games.ensures

pub returns-in-Ok-play_games-clause-played : goal.returns-in-Ok-play_games-clause-played
returns-in-Ok-play_games-clause-played g c = λ range. inr (record {
  plan = c.in-Ok-plan_of.plan;
  asks = record {
    options = c.in-Ok.options;
    asked = c.in-Ok.ensures.asked;
    come_to = c.in-Ok-plan_of.ensures.plan;
  };
  written = c.in-Ok-play_games.ensures;
})

pub returns-clause-stopped : goal.returns-clause-stopped
returns-clause-stopped g c = λ three. inr (inr (record {
  plan = c.in-Ok-plan_of.plan;
  asks = record {
    options = c.in-Ok.options;
    asked = c.in-Ok.ensures.asked;
    come_to = c.in-Ok-plan_of.ensures.plan;
  };
  lines = c.play_games.new.errors;
  failure = c.in-Err-play_games.failure;
  stopped = c.in-Err-play_games.ensures;
  reported = c.report.ensures.written;
}))
