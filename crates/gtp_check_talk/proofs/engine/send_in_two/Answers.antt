use Rattle.std.proofs.Common.{rules}
use Rattle.gtp_check_talk.proofs.Pieces.{both_sent, cut_in_first}
use Rattle.gtp_check_talk.proofs.engine.send_in_two.Goals as goal

pub returns-then-not-is_written_whole : goal.returns-then-not-is_written_whole
returns-then-not-is_written_whole g c =
    cut_in_first g.P.Process c.args.lines.now c.split_at.result.0.now c.split_at.result.1.now c.saturating_sub.result
    c.saturating_sub.ensures c.split_at.ensures.front c.args.process.now c.is_written_whole.new.process
    (c.is_written_whole.ensures.part (search rules))

pub returns : goal.returns
returns g c =
    both_sent g.P.Process c.args.lines.now c.split_at.result.0.now c.split_at.result.1.now c.saturating_sub.result
    c.saturating_sub.ensures c.split_at.ensures.front c.args.process.now c.is_written_whole.new.process
    c.send_at_once.new.process c.split_at.ensures.back (c.is_written_whole.ensures.whole (search rules))
    c.send_at_once.ensures
