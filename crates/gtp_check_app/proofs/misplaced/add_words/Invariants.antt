use Rattle.std.proofs.Common.{◌≡◌, ◌++◌, map, take}
use Rattle.gtp_check_app.specs.Misplaced.{spaced}
use Rattle.gtp_check_app.proofs.misplaced.add_words.Given as goal

-- the words so far are appended
abbrev pub invariant-loop-word : goal.invariant-loop-word
invariant-loop-word g l = l.line.items ≡ l.initial.line.items ++ spaced (map g.A.AsStr.text (take l.word-index l.words))
