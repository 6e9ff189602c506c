use Rattle.std.proofs.Common.{◌≡◌, option_map}
use Rattle.std.specs.Prelude.{unwrap_or}
use Rattle.gtp_check_talk.specs.Dialogues.{wrong_of}
use Rattle.gtp_check_shortening.specs.Reduction.{begun}
use Rattle.gtp_check_app.specs.private.LastGames.{games_of}
use Rattle.gtp_check_app.specs.Trials.{limits_of}
use Rattle.gtp_check_app.specs.Turns.{Reduces, moment, state_of}
use Rattle.gtp_check_app.proofs.check.Check.reduced.Given as goal

-- how many trials are left
abbrev pub decreases-loop-best : goal.decreases-loop-best
decreases-loop-best g l = l.reduction.left.trials

-- what was tried so far
abbrev pub invariant-loop-best : goal.invariant-loop-best
invariant-loop-best g l = record {
  reduces : Reduces g.S.Process.Process l.fn.plan (wrong_of l.fn.found)
      (begun (games_of l.fn.games).left
      (limits_of l.fn.plan (wrong_of l.fn.found) (unwrap_or (games_of l.fn.games).ended (wrong_of l.fn.found))
      l.fn.games.tried))
      (moment (state_of l.fn.self) (g.S.Starter.asked l.fn.starter)) l.reduction (option_map wrong_of l.best)
      (moment (state_of l.self) (g.S.Starter.asked l.starter));
  engine : l.self.engine ≡ l.fn.self.engine;
}
