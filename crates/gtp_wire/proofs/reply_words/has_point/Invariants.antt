use Rattle.std.proofs.Common.{◌≡◌, length}
use Rattle.std.specs.List.{list_any}
use Rattle.gtp_wire.specs.Words.{reply_words}
use Rattle.gtp_wire.specs.ReplyWords.{names_point}
use Rattle.gtp_wire.proofs.reply_words.has_point.Given as goal

-- the point is among the words where it is among those that are left
abbrev pub invariant-loop-word : goal.invariant-loop-word
invariant-loop-word l = list_any (names_point l.point) (reply_words l.left)
    ≡ list_any (names_point l.point) (reply_words l.text)

abbrev pub decreases-loop-word : goal.decreases-loop-word
decreases-loop-word l = length l.left
