use Rattle.std.proofs.Common.{◌≡◌, ◌++◌, length}
use Rattle.gtp_check_texts.proofs.DrawnLines.{drawn}
use Rattle.gtp_check_texts.proofs.board.add_comments.Given as goal

-- with the lines that are left the whole is drawn
abbrev pub invariant-loop-line : goal.invariant-loop-line
invariant-loop-line l = l.text.items ++ drawn l.left ≡ l.initial.text.items ++ drawn l.initial.shown

abbrev pub decreases-loop-line : goal.decreases-loop-line
decreases-loop-line l = length l.left
