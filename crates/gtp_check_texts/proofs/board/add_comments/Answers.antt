use Rattle.gtp_check_texts.proofs.DrawnLines.{drawn-step}
use Rattle.gtp_check_texts.proofs.board.add_comments.Goals as goal

pub loop-line-preserved : goal.loop-line-preserved
loop-line-preserved c =
    drawn-step c.loop-line.text.items c.add_all.new.text.items c.loop-line.left.now c.in-Some.line.now
    c.in-Some.more.now _ c.in-Some.ensures.lines c.loop-line.invariant c.in_ok-add_all.ensures
