use Rattle.twogtp_app.proofs.matches.Closed.{closed_where}
use Rattle.twogtp_app.proofs.closing.WrittenGame.close.Goals as goal

pub returns-clause-closed : goal.returns-clause-closed
returns-clause-closed g c = record {
  black = closed_where g.S.Process.Process _ _ _ c.end_unless_answered-black.ensures c.quit_and_end.ensures;
  white = closed_where g.S.Process.Process _ _ _ c.end_unless_answered-white.ensures c.quit_and_end-2.ensures;
}
