use Rattle.std.proofs.Common.{◌++◌}
use Rattle.std.proofs.lemmas.Result.{err_from_is_err_and}
use Rattle.gtp_check_app.specs.Progress.{clearing, looking}
use Rattle.gtp_check_app.specs.Sequence.{known_of, no_memory_to_ask, point}
use Rattle.gtp_check_app.specs.Turns.{exchanges, moment, state_of, waiting}
use Rattle.gtp_check_app.proofs.Gathering.{where_failed, where_value}
use Rattle.gtp_check_app.proofs.Progressing.{both_shown}
use Rattle.gtp_check_app.proofs.Settling.{stopped_in}
use Rattle.gtp_check_app.proofs.Turning.{begun_turn, ended_turn, killed_turn, over_turn, refused_turn}
use Rattle.gtp_check_app.proofs.check.Check.take_turn.Goals as goal

pub returns-in_err-gather-clause-stops : goal.returns-in_err-gather-clause-stops
returns-in_err-gather-clause-stops g c =
    let exit = c.from_residual in
    let failed = err_from_is_err_and exit.result exit.ensures.1 in
    rw (failed.1, failed.2, c.gather.ensures.process) no_memory_to_ask

pub returns-in-Start-clause-turn : goal.returns-in-Start-clause-turn
returns-in-Start-clause-turn g c =
    let goes = rw c.in-Start.is at c.in_ok-gather.ensures.gathers in
    where_value c.start.result c.start.ensures.begins (λ why begins.
    begun_turn (known_of g.S.Process.Process g.O.WriteOnce g.E.WriteOnce) c.args.plan.now
    (point _ (g.S.Starter.asked c.args.starter.now) c.args.streams.now)
    (state_of c.gather.new.self) (moment (state_of c.start.new.self) (g.S.Starter.asked c.start.new.starter)) why goes
    begins)

pub returns-in-Start-clause-stops : goal.returns-in-Start-clause-stops
returns-in-Start-clause-stops g c =
    let goes = rw c.in-Start.is at c.in_ok-gather.ensures.gathers in
    where_failed c.start.result c.start.ensures.refused (λ why refused.
    refused_turn (known_of g.S.Process.Process g.O.WriteOnce g.E.WriteOnce) c.args.plan.now
    (point _ (g.S.Starter.asked c.args.starter.now) c.args.streams.now)
    (state_of c.gather.new.self) (moment (state_of c.start.new.self) (g.S.Starter.asked c.start.new.starter)) why goes
    refused)

pub returns-in-Restart-clause-turn : goal.returns-in-Restart-clause-turn
returns-in-Restart-clause-turn g c =
    ended_turn (known_of g.S.Process.Process g.O.WriteOnce g.E.WriteOnce) c.args.plan.now
    (point _ (g.S.Starter.asked c.args.starter.now) c.args.streams.now)
    (state_of c.gather.new.self) (state_of c.restart.new.self)
    (rw c.in-Restart.is at c.in_ok-gather.ensures.gathers) c.restart.ensures.quits c.restart.ensures.leads

pub returns-in-Kill-clause-turn : goal.returns-in-Kill-clause-turn
returns-in-Kill-clause-turn g c =
    killed_turn (known_of g.S.Process.Process g.O.WriteOnce g.E.WriteOnce) c.args.plan.now
    (point _ (g.S.Starter.asked c.args.starter.now) c.args.streams.now)
    (state_of c.gather.new.self) (state_of c.kill.new.self)
    (rw c.in-Kill.is at c.in_ok-gather.ensures.gathers) c.kill.ensures.ends c.kill.ensures.leads

pub returns-in-Over-clause-turn : goal.returns-in-Over-clause-turn
returns-in-Over-clause-turn g c =
    let gathers = rw c.in-Over.is at c.in_ok-gather.ensures.gathers in
    over_turn (known_of g.S.Process.Process g.O.WriteOnce g.E.WriteOnce) c.args.plan.now
    (point _ (g.S.Starter.asked c.args.starter.now) c.args.streams.now)
    (state_of c.gather.new.self) gathers.0 gathers.1

pub returns-in_err-settle-in-Exchange-clause-stops : goal.returns-in_err-settle-in-Exchange-clause-stops
returns-in_err-settle-in-Exchange-clause-stops g c =
    let exit = c.from_residual-in_err-settle-in-Exchange in
    let failed = err_from_is_err_and exit.result exit.ensures.1 in
    let gathers = rw c.in-Exchange.is at c.in_ok-gather.ensures.gathers in
    rw (failed.1, failed.2)
    (stopped_in (known_of g.S.Process.Process g.O.WriteOnce g.E.WriteOnce) c.args.plan.now
    c.in_err-settle-in-Exchange.ensures.stops _ c.args.streams.now.errors
    (record {
      mid = state_of c.gather.new.self;
      asks = gathers.0;
      heard = c.exchange-fault.ensures.heard;
    })
    c.show_waiting.ensures)

pub returns-in_ok-settle-in-Exchange-clause-turn : goal.returns-in_ok-settle-in-Exchange-clause-turn
returns-in_ok-settle-in-Exchange-clause-turn g c =
    let gathers = rw c.in-Exchange.is at c.in_ok-gather.ensures.gathers in
    let settles = c.in_ok-settle-in-Exchange.ensures.flushed in (
      settles.line ++ settles.said,
      waiting c.args.plan.now (state_of c.gather.new.self)
          ++ (clearing settles.line ++ looking settles.said),
      exchanges
          (record {
            mid = state_of c.gather.new.self;
            asks = gathers.0;
            heard = c.exchange-fault.ensures.heard;
          })
          settles.first settles.complains,
      settles.flushed,
      both_shown g.E.WriteOnce c.args.plan.now.shows_progress
          (waiting c.args.plan.now (state_of c.gather.new.self))
          (clearing settles.line ++ looking settles.said) _ _ _ c.show_waiting.ensures settles.shown,
    )
