use Rattle.std.proofs.Common.{◌≡◌, take}
use Rattle.gtp_check_talk.specs.Dialogues.{wrong_of}
use Rattle.gtp_check_app.specs.Turns.{moment, state_of}
use Rattle.gtp_check_app.proofs.Shortening.{Missed}
use Rattle.gtp_check_app.proofs.check.Check.last_games.Given as goal

-- none of those that were tried ended like the one that was found
abbrev pub invariant-loop-shortening : goal.invariant-loop-shortening
invariant-loop-shortening g l = record {
  missed : Missed g.S.Process.Process l.plan (wrong_of l.found)
      (moment (state_of l.fn.self) (g.S.Starter.asked l.fn.starter)) (take l.shortening-index l.shortening-items)
      (moment (state_of l.self) (g.S.Starter.asked l.starter));
  tried : l.tried ≡ l.shortening-index;
  engine : l.self.engine ≡ l.fn.self.engine;
}
