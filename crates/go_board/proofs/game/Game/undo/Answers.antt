use Rattle.std.proofs.Common.{ℕ, List, sym, subst}
use Rattle.go_base.specs.declared.colours.Colour.TheVariants.{Black, White}
use Rattle.go_base.specs.declared.moves.Move.{Move}
use Rattle.go_board.specs.private.Ko.{IsKoAfter}
use Rattle.go_board.specs.private.TakenStack.{IsAfterMove, IsUnmade}
use Rattle.go_board.proofs.records.GameFields.{after-last, enough-taken, IsKept-undo}
use Rattle.go_board.proofs.game.Game.undo.Goals as goal

pub unmake-taken-requires : goal.unmake-taken-requires
unmake-taken-requires c =
    subst (λ (n : ℕ). IsAfterMove c.self.inside.chains c.self.inside.stack
    (record { colour = c.in-Some.last.colour; vertex = c.in-Some.last.vertex }) n) (sym c.len-number.ensures.value)
    (after-last c.self.inside c.pop.new.self.items c.in-Some.last.colour c.in-Some.last.vertex c.self.invariant
    c.in-Some.ensures.items)

pub without_taken-self-inside-requires : goal.without_taken-self-inside-requires
without_taken-self-inside-requires c =
    enough-taken c.self.inside c.pop.new.self.items c.in-Some.last.colour c.in-Some.last.vertex
    c.unmake-taken.new.self c.unmake-taken.new.stack c.unmake-taken.result
    c.self.inside.taken_by_black Black c.self.invariant c.in-Some.ensures.items
    (subst (λ (n : ℕ). IsUnmade c.self.inside.chains c.self.inside.stack
    (record { colour = c.in-Some.last.colour; vertex = c.in-Some.last.vertex }) n c.unmake-taken.new.self
    c.unmake-taken.new.stack c.unmake-taken.result) c.len-number.ensures.value c.unmake-taken.ensures)
    c.self.invariant.black_is

pub without_taken-self-inside-requires-2 : goal.without_taken-self-inside-requires-2
without_taken-self-inside-requires-2 c =
    enough-taken c.self.inside c.pop.new.self.items c.in-Some.last.colour c.in-Some.last.vertex
    c.unmake-taken.new.self c.unmake-taken.new.stack c.unmake-taken.result
    c.self.inside.taken_by_white White c.self.invariant c.in-Some.ensures.items
    (subst (λ (n : ℕ). IsUnmade c.self.inside.chains c.self.inside.stack
    (record { colour = c.in-Some.last.colour; vertex = c.in-Some.last.vertex }) n c.unmake-taken.new.self
    c.unmake-taken.new.stack c.unmake-taken.result) c.len-number.ensures.value c.unmake-taken.ensures)
    c.self.invariant.white_is

pub invariant_of-self-2 : goal.invariant_of-self-2
invariant_of-self-2 c =
    IsKept-undo c.self.inside c.in-Some.last.colour c.in-Some.last.vertex c.unmake-taken.new.self
    c.ko_after-self-inside.result c.unmake-taken.new.stack c.unmake-taken.result
    c.without_taken-self-inside.result c.without_taken-self-inside-2.result c.pop.new.self c.drop_last.new.self c.self.invariant
    c.in-Some.ensures.items
    (subst (λ (n : ℕ). IsUnmade c.self.inside.chains c.self.inside.stack
    (record { colour = c.in-Some.last.colour; vertex = c.in-Some.last.vertex }) n c.unmake-taken.new.self
    c.unmake-taken.new.stack c.unmake-taken.result) c.len-number.ensures.value c.unmake-taken.ensures)
    c.without_taken-self-inside.ensures c.without_taken-self-inside-2.ensures
    (subst (λ (ms : List Move). IsKoAfter ms c.unmake-taken.new.stack c.ko_after-self-inside.result)
    (c.deref.ensures).0 c.ko_after-self-inside.ensures)
    c.drop_last.ensures
