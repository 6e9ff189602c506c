use Rattle.std.proofs.Common.{rules, arith, ◌∙◌, ap, List, ℕ}
use Rattle.go_base.proofs.general.Joined.{joined-take, written_vertex-some}
use Rattle.go_base.specs.Text.{joined}
use Rattle.go_base.specs.Vertex.{written_vertex}
use Rattle.go_base.specs.declared.vertices.Vertex.TheVariants.{At}
use Rattle.go_base.proofs.texts.write_vertices.Goals as goal

pub loop-point-preserved : goal.loop-point-preserved
loop-point-preserved c = record {
  few = c.loop-point.invariant.few;
  short = omega (arith, c.push_vertex.ensures.len, c.loop-point.invariant.short);
  written =
      c.push_vertex.ensures.bytes
      ∙ ap (λ (t : List ℕ). joined 32 t (written_vertex (At c.point-item.result))) c.loop-point.invariant.written
      ∙ joined-take 32 (λ (p : ℕ). written_vertex (At p)) (λ p. written_vertex-some (At p))
      c.as_slice-point-items.result.now c.loop-point.point-index c.point-item.result _ (search rules) c.point-item.is;
}
