use Rattle.std.proofs.Common.{◌≡◌, ◌≢◌, ◌<◌, ℕ, List, length, sym, subst, arith, Contains}
use Rattle.std.specs.Prelude.{slice_index}
use Rattle.std.proofs.lemmas.List.Elements.{Contains-get_or}
use Rattle.go_base.specs.Point.{IsOn}
use Rattle.go_base.specs.Size.{most_size}
use Rattle.go_board.specs.Board.{at}
use Rattle.go_board.specs.declared.board.Cell.{Cell}
use Rattle.go_board.specs.declared.board.Cell.TheVariants.{Edge, Black, White}
use Rattle.go_board.specs.private.Frame.{IsFramed}
use Rattle.go_board.proofs.floods.Beside.{below-none, below-more, below-all}
use Rattle.go_board.proofs.board.Board.beside_all.Goals as goal

point : (board : List Cell) (places : List ℕ) (index place : ℕ) → IsFramed board
    → ((p : ℕ) → Contains places p → at board p ≢ Edge) → index < length places → place ≡ slice_index places index
    → IsOn most_size place
point board places index place framed points below is =
    framed.inside place (points place (subst (Contains places) (sym is) (Contains-get_or places index 0 below)))

pub beside-beside-requires : goal.beside-beside-requires
beside-beside-requires c =
    let in_range : c.loop-index.index < length c.args.places.now = omega arith in
    point c.args.self.now c.args.places.now c.loop-index.index c.get.result
    c.look.ensures c.requires in_range c.get.ensures.value

pub loop-index-init : goal.loop-index-init
loop-index-init c = record {
  black = below-none c.args.self.now c.args.places.now Black;
  white = below-none c.args.self.now c.args.places.now White;
}

pub loop-index-preserved : goal.loop-index-preserved
loop-index-preserved c = record {
  black =
      below-more c.args.self.now c.args.places.now Black c.loop-index.index c.get.result c.loop-index.black
      c.beside-beside.result.black c.either-black.result c.either-black.ensures c.loop-index.invariant.black
      c.beside-beside.ensures.black c.get.ensures.value;
  white =
      below-more c.args.self.now c.args.places.now White c.loop-index.index c.get.result c.loop-index.white
      c.beside-beside.result.white c.either-white.result c.either-white.ensures c.loop-index.invariant.white
      c.beside-beside.ensures.white c.get.ensures.value;
}

pub returns : goal.returns
returns c =
    let end : c.loop-index.index ≡ length c.args.places.now = omega arith in record {
      black = below-all c.args.self.now c.args.places.now Black c.loop-index.index c.loop-index.black end
          c.loop-index.invariant.black;
      white = below-all c.args.self.now c.args.places.now White c.loop-index.index c.loop-index.white end
          c.loop-index.invariant.white;
    }
