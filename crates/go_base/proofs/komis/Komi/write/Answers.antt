use Rattle.std.proofs.Common.{◌∙◌, arith, ap, length, lit<}
use Rattle.std.proofs.lemmas.Int.{ints}
use Rattle.go_base.proofs.numbers.Komis.{length-written_points}
use Rattle.go_base.proofs.komis.Komi.write.Goals as goal

pub push-requires-2 : goal.push-requires-2
push-requires-2 c = (
  lit< tt,
  omega (
    arith,
    length-written_points c.unsigned_abs.result (grind (arith, ints)),
    ap length (c.deref.ensures.0 ∙ c.write_half_points-points.ensures),
    ap length c.new-text.ensures,
    c.push.ensures.len,
  ),
)
