use Rattle.std.proofs.Common.{◌≡◌, ℕ, ◌<◌, ◌≤◌, List, length, Contains, sym, subst, arith}
use Rattle.std.specs.Prelude.{◌≢◌, slice_index}
use Rattle.std.proofs.lemmas.List.Elements.{Contains-get_or}
use Rattle.go_board.specs.Board.{at}
use Rattle.go_board.specs.private.Frame.{IsFramed}
use Rattle.go_board.specs.declared.board.Cell.{Cell}
use Rattle.go_board.specs.declared.board.Cell.TheVariants.{Edge}
use Rattle.go_board.proofs.boards.Neighbours.{IsInside, IsOn-inside}
use Rattle.go_board.proofs.floods.Liberties.{AreFoundBeside-start, AreFoundBeside-more, AreFoundBeside-done}
use Rattle.go_board.proofs.board.Board.empty_beside_all.Goals as goal

pub loop-index-init : goal.loop-index-init
loop-index-init c = AreFoundBeside-start c.args.self.now c.args.places.now c.new-found.result c.new-found.ensures

pub loop-index-preserved : goal.loop-index-preserved
loop-index-preserved c =
    let in_range : c.loop-index.index < length c.args.places.now = omega arith in
    AreFoundBeside-more c.args.self.now c.args.places.now c.loop-index.index c.get.result c.loop-index.found
    c.spread_round.new.found in_range c.get.ensures.value c.loop-index.invariant c.spread_round.ensures

pub returns : goal.returns
returns c =
    let past : length c.args.places.now ≤ c.loop-index.index = omega arith in
    AreFoundBeside-done c.args.self.now c.args.places.now c.loop-index.index c.loop-index.found past
    c.loop-index.invariant

point : (board : List Cell) (places : List ℕ) (index place : ℕ) → IsFramed board
    → ((p : ℕ) → Contains places p → at board p ≢ Edge) → index < length places → place ≡ slice_index places index
    → IsInside place
point board places index place framed points below is =
    IsOn-inside place (framed.inside place (points place
    (subst (Contains places) (sym is) (Contains-get_or places index 0 below))))

pub spread_round-requires-clause-low : goal.spread_round-requires-clause-low
spread_round-requires-clause-low c =
    let in_range : c.loop-index.index < length c.args.places.now = omega arith in
    let low = (point c.args.self.now c.args.places.now c.loop-index.index c.get.result
    (rw c.self.view_is at c.self.invariant) c.requires in_range c.get.ensures.value).low in
    omega (arith, low)

pub spread_round-requires-clause-high : goal.spread_round-requires-clause-high
spread_round-requires-clause-high c =
    let in_range : c.loop-index.index < length c.args.places.now = omega arith in
    let high = (point c.args.self.now c.args.places.now c.loop-index.index c.get.result
    (rw c.self.view_is at c.self.invariant) c.requires in_range c.get.ensures.value).high in
    omega (arith, high)
