use Rattle.twogtp_app.specs.Games.{GamesAreWritten, known_of, run_of, run_state}
use Rattle.twogtp_app.proofs.run.play_games.Given as goal

-- the games so far are written
abbrev pub invariant-loop-index : goal.invariant-loop-index
invariant-loop-index g l =
    GamesAreWritten (run_of l.plan (known_of g.S.Process.Process g.O.WriteOnce g.E.WriteOnce))
    (run_state l.fn.output l.fn.errors (g.S.Starter.asked l.fn.starter)) l.index l.status
    (run_state l.output l.errors (g.S.Starter.asked l.starter))
