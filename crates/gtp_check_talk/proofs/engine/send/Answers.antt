use Rattle.std.proofs.Common.{rules}
use Rattle.gtp_check_talk.proofs.Pieces.{none_sent}
use Rattle.gtp_check_talk.proofs.engine.send.Goals as goal

pub returns-then-is_empty : goal.returns-then-is_empty
returns-then-is_empty g c =
    none_sent g.P.Process c.args.in_pieces c.args.lines.now c.args.process.now (search rules)
