use Rattle.std.proofs.Common.{◌≡◌, ◌+◌, ◌≤◌, length}
use Rattle.gtp_wire.specs.Words.{reply_words}
use Rattle.gtp_wire.proofs.reply_words.count_words.Given as goal

-- the words so far and those that are left are all
abbrev pub invariant-loop-rest : goal.invariant-loop-rest
invariant-loop-rest l = record {
  all : l.count + length (reply_words l.left) ≡ length (reply_words l.text);
  fits : l.count + length l.left ≤ length l.text;
}

abbrev pub decreases-loop-rest : goal.decreases-loop-rest
decreases-loop-rest l = length l.left
