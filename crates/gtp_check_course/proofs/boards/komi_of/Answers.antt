use Rattle.std.proofs.Common.{ℕ, ◌%◌, ◌<◌, pos, slice_index_or, w32, of_z, to_z, arith, rules}
use Rattle.go_base.specs.Komi.{IsKomi}
use Rattle.gtp_check_course.specs.declared.boards.TheConstants.{KOMIS}
use Rattle.gtp_check_course.proofs.boards.komi_of.Goals as goal

entry : (number : ℕ) → number < 16 → IsKomi (to_z w32 (of_z w32 (slice_index_or KOMIS number (pos 0))))
entry number few = search (arith, rules)

pub unreachable-requires : goal.unreachable-requires
unreachable-requires c = cc (c.in-None.ensures.limits.1 (entry (c.args.number % 16) (omega arith)))
