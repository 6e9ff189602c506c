use Rattle.gtp_check_talk.proofs.Pieces.{one_piece}
use Rattle.gtp_check_talk.proofs.engine.send_at_once.Goals as goal

pub returns : goal.returns
returns g c =
    one_piece g.P.Process c.args.piece.now c.args.process.now c.is_written_whole.new.process c.is_written_whole.result
    c.is_written_whole.ensures.whole c.is_written_whole.ensures.part
