use Rattle.std.proofs.Common.{◌≡◌, ◌++◌, take}
use Rattle.gtp_check_app.specs.Progress.{most_columns}
use Rattle.gtp_check_texts.specs.Texts.{joined}
use Rattle.gtp_check_app.proofs.progress.cut.Given as goal

-- as much as fits of the texts so far
abbrev pub invariant-loop-part : goal.invariant-loop-part
invariant-loop-part l = l.text.items ≡ take most_columns ((l.before ++ l.line) ++ joined (take l.part-index l.parts))
