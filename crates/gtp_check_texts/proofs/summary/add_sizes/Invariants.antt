use Rattle.std.proofs.Common.{◌≡◌, ◌++◌, map, take}
use Rattle.std.specs.List.{concat}
use Rattle.gtp_check_texts.specs.Summary.{spaced_size}
use Rattle.gtp_check_texts.proofs.summary.add_sizes.Given as goal

-- the sizes so far
abbrev pub invariant-loop-size : goal.invariant-loop-size
invariant-loop-size l =
    l.text.items ≡ l.initial.text.items ++ concat (map spaced_size (take l.size-index l.sizes))
