use Rattle.std.proofs.Common.{subst, sym, ◌∙◌, ap, List, ℕ}
use Rattle.std.proofs.Math.ListN.{set}
use Rattle.go_base.specs.declared.vertices.Vertex.{Vertex}
use Rattle.go_board.specs.Board.{at}
use Rattle.go_board.specs.Game.{after_vertex}
use Rattle.go_board.specs.private.TakenStack.{ArePoints, AreTakenBy, IsVacant, cleared}
use Rattle.go_board.specs.declared.board.Cell.{Cell}
use Rattle.go_board.proofs.boards.Cells.{stone-point, empty-point}
use Rattle.go_board.proofs.ko_rules.ReplayedBoards.{points-kept, again-pass, again-play}
use Rattle.go_board.proofs.board.Board.make.Goals as goal
use Rattle.go_board.proofs.board.Board.make.Goals.{in-Pass, in-At}

pub clear_taken-requires : goal.clear_taken-requires
clear_taken-requires c = elim c.match-vertex.branch [
  | in-Pass w ↦
      subst (λ (b : List Cell). ArePoints b c.args.stones.now) (sym w.self-is) c.requires.points
  | in-At w ↦
      subst (λ (b : List Cell). ArePoints b c.args.stones.now) (sym (w.self-is ∙ w.set.ensures))
      (points-kept c.args.self.now w.place_of.result w.stone.result c.args.stones.now
      (λ e. stone-point c.args.colour (sym w.stone.ensures ∙ e))
      (empty-point c.args.self.now w.place_of.result (ap (at c.args.self.now) w.place_of.ensures.value
      ∙ subst (λ (v : Vertex). IsVacant c.args.self.now v) w.in-At.is c.requires.open))
      c.requires.points)
]

pub returns-clause-board : goal.returns-clause-board
returns-clause-board c = elim c.match-vertex.branch [
  | in-Pass w ↦ λ h.
      c.clear_taken.ensures.board ∙ ap (λ (b : List Cell). cleared b c.args.number c.args.stones.now) w.self-is
      ∙ again-pass c.args.self.now c.args.colour c.args.number c.args.stones.now
      (subst (λ (v : Vertex). AreTakenBy c.args.self.now c.args.colour v c.args.number c.args.stones.now)
      w.in-Pass.is h)
      ∙ ap (after_vertex c.args.self.now c.args.colour) (sym w.in-Pass.is)
  | in-At w ↦ λ h.
      c.clear_taken.ensures.board
      ∙ ap (λ (b : List Cell). cleared b c.args.number c.args.stones.now)
      (w.self-is ∙ w.set.ensures ∙ ap (λ (q : ℕ). set c.args.self.now q w.stone.result) w.place_of.ensures.value
      ∙ ap (λ (x : Cell). set c.args.self.now w.in-At.point x) w.stone.ensures)
      ∙ again-play c.args.self.now c.args.colour w.in-At.point c.args.number c.args.stones.now
      (subst (λ (v : Vertex). AreTakenBy c.args.self.now c.args.colour v c.args.number c.args.stones.now) w.in-At.is h)
      ∙ ap (after_vertex c.args.self.now c.args.colour) (sym w.in-At.is)
]
