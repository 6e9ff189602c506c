use Rattle.std.proofs.Common.{◌≡◌, length}
use Rattle.gtp_wire.specs.Replies.{has_two_newlines}
use Rattle.gtp_wire.proofs.reply_texts.has_two_newlines.Given as goal

abbrev pub invariant-loop-rest : goal.invariant-loop-rest
invariant-loop-rest l = has_two_newlines l.text ≡ has_two_newlines l.rest

abbrev pub decreases-loop-rest : goal.decreases-loop-rest
decreases-loop-rest l = length l.rest
