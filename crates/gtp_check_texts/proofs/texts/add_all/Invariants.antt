use Rattle.std.proofs.Common.{◌≡◌, ◌++◌, take}
use Rattle.gtp_check_texts.specs.Texts.{joined}
use Rattle.gtp_check_texts.proofs.texts.add_all.Given as goal

-- the parts so far are appended
abbrev pub invariant-loop-part : goal.invariant-loop-part
invariant-loop-part l = l.text.items ≡ l.initial.text.items ++ joined (take l.part-index l.parts)
