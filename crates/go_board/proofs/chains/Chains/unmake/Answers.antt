use Rattle.std.proofs.Common.{◌≡◌, ◌∙◌, sym, ap, subst}
use Rattle.go_base.specs.declared.vertices.Vertex.{Vertex}
use Rattle.go_base.specs.declared.vertices.Vertex.TheVariants.{At}
use Rattle.go_board.specs.Board.{stone}
use Rattle.go_board.specs.private.TakenStack.{IsAfterMove, IsUnmade}
use Rattle.go_board.proofs.undo.UnmadePlays.{new-stone, last-points, IsUnmade-play}
use Rattle.go_board.proofs.chains.Chains.unmake.Goals as goal

pub remove_stone-requires : goal.remove_stone-requires
remove_stone-requires c =
    let is : At c.place_of.result ≡ c.args.vertex = ap At c.place_of.ensures.value ∙ sym c.in-At.is in (
      c.args.colour,
      new-stone c.args.self.now c.args.stack.now c.args.colour c.place_of.result c.args.number
          (subst (λ (v : Vertex). IsAfterMove c.args.self.now c.args.stack.now
          (record { colour = c.args.colour; vertex = v }) c.args.number) (sym is) c.requires),
    )

pub restore-requires : goal.restore-requires
restore-requires c =
    let is : At c.place_of.result ≡ c.args.vertex = ap At c.place_of.ensures.value ∙ sym c.in-At.is in
    last-points c.args.self.now c.remove_stone.new.self c.args.stack.now c.args.colour c.place_of.result c.args.number
    (subst (λ (v : Vertex). IsAfterMove c.args.self.now c.args.stack.now
    (record { colour = c.args.colour; vertex = v }) c.args.number) (sym is) c.requires) c.remove_stone.ensures

pub returns-in-At : goal.returns-in-At
returns-in-At c =
    subst (λ (v : Vertex). IsUnmade c.args.self.now c.args.stack.now
    (record { colour = c.args.colour; vertex = v }) c.args.number c.restore.new.self c.restore.new.stack
    c.restore.result) (ap At c.place_of.ensures.value ∙ sym c.in-At.is)
    (IsUnmade-play c.args.self.now c.remove_stone.new.self c.restore.new.self c.args.stack.now
    c.restore.new.stack c.args.colour c.place_of.result c.args.number
    c.restore.result (stone c.other.result) c.remove_stone.ensures (ap stone c.other.ensures) c.restore.ensures)
