use Rattle.std.proofs.Common.{◌∙◌, arith, ap, length, lit<}
use Rattle.std.proofs.lemmas.Fmt.{length-decimal-le}
use Rattle.go_base.proofs.vertices.write_point.Goals as goal

pub push-requires-2 : goal.push-requires-2
push-requires-2 c = (
  lit< tt,
  omega (
    arith,
    length-decimal-le 2 c.row.result (omega arith) (omega (arith, c.row.ensures)) (omega (arith, c.row.ensures)),
    ap length (c.deref.ensures.0 ∙ c.write_int.ensures),
    ap length c.new-text.ensures,
    c.push.ensures.len,
  ),
)
