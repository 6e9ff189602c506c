use Rattle.std.proofs.Common.{◌≡◌, ◌++◌, map, take}
use Rattle.std.specs.List.{concat}
use Rattle.gtp_check_texts.specs.Summary.{spaced_name}
use Rattle.gtp_check_texts.proofs.summary.add_names.Given as goal

-- the names so far
abbrev pub invariant-loop-lesson : goal.invariant-loop-lesson
invariant-loop-lesson l =
    l.text.items ≡ l.initial.text.items ++ concat (map spaced_name (take l.lesson-index l.lessons))
