use Rattle.std.proofs.Common.{◌++◌, ◌∙◌, ap, subst, sym, List, arith}
use Rattle.go_board.specs.Play.{without_captured, captured_count}
use Rattle.go_board.specs.private.TakenStack.{captured_places}
use Rattle.go_board.specs.private.NamedIds.{AreCapturedBeside}
use Rattle.go_board.specs.declared.board.Cell.{Cell}
use Rattle.go_board.proofs.playouts.CapturedSets.{AreChains-removed, without-removed}
use Rattle.go_board.proofs.playouts.RisingPlaces.{inserted-captured, captured-length}
use Rattle.go_board.proofs.chains.Chains.take.Goals as goal

pub captured_into-requires-clause-beside : goal.captured_into-requires-clause-beside
captured_into-requires-clause-beside c =
    subst (λ (b : List Cell). AreCapturedBeside b c.args.colour c.args.place) (sym c.self.view_is) c.requires.beside

pub remove_all-requires : goal.remove_all-requires
remove_all-requires c p h = (c.args.colour, ((c.captured_into.ensures p).0 h).0)

pub add_rising-requires : goal.add_rising-requires
add_rising-requires c =
    let long = captured-length c.self.inside.stones.board c.args.colour c.captured_into.new.found
    c.len-count.ensures.once c.captured_into.ensures in
    let same = ap (λ (b : List Cell). captured_count b c.args.colour) c.self.view_is in
    let room = c.requires.room in
    omega (arith, long, same, room)

pub invariant_of-self : goal.invariant_of-self
invariant_of-self c =
    AreChains-removed c.self.inside.stones c.remove_all.new.self c.args.colour c.captured_into.new.found
    c.captured_into.ensures c.remove_all.ensures c.self.invariant

pub returns-clause-board : goal.returns-clause-board
returns-clause-board c =
    without-removed c.self.inside.stones c.remove_all.new.self c.args.colour c.captured_into.new.found
    c.captured_into.ensures c.remove_all.ensures
    ∙ ap (λ (b : List Cell). without_captured b c.args.colour) c.self.view_is

pub returns-clause-points : goal.returns-clause-points
returns-clause-points c =
    inserted-captured c.self.inside.stones.board c.args.colour c.args.points.now c.captured_into.new.found
    c.add_rising.new.self c.captured_into.ensures c.add_rising.ensures
    ∙ ap (λ (b : List Cell). c.args.points.now ++ captured_places b c.args.colour) c.self.view_is

pub returns-clause-taken : goal.returns-clause-taken
returns-clause-taken c =
    c.len-count.ensures.value
    ∙ captured-length c.self.inside.stones.board c.args.colour c.captured_into.new.found c.len-count.ensures.once
    c.captured_into.ensures
    ∙ ap (λ (b : List Cell). captured_count b c.args.colour) c.self.view_is
