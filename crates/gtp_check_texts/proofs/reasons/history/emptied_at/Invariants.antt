use Rattle.std.proofs.Common.{◌≡◌, ◌-◌, length}
use Rattle.gtp_check_texts.specs.reasons.History.{emptied_at, emptied_in}
use Rattle.gtp_check_texts.proofs.reasons.history.emptied_at.Given as goal

-- the moves that are left say what all say
abbrev pub invariant-loop-ago : goal.invariant-loop-ago
invariant-loop-ago l =
    emptied_at l.game l.point ≡ emptied_in (length l.game.moves - l._ago) l.earlier l.point
