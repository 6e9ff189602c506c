use Rattle.std.proofs.Common.{◌≡◌, ◌*◌, ◌≤◌, length, take}
use Rattle.go_base.specs.Vertex.{written_vertices}
use Rattle.go_base.proofs.texts.write_vertices.Given as goal

-- the first points are written, by five bytes each at most
abbrev pub invariant-loop-point : goal.invariant-loop-point
invariant-loop-point l = record {
  few : length l.point-items ≤ 9;
  short : length l.text.items ≤ 5 * l.point-index;
  written : l.text.items ≡ written_vertices (take l.point-index l.point-items);
}
