use Rattle.std.proofs.Common.{◌≡◌, ℕ, subst}
use Rattle.std.specs.Prelude.{Option}
use Rattle.go_base.specs.declared.colours.Colour.{Colour}
use Rattle.go_board.specs.Board.{stone_at}
use Rattle.go_board.specs.Game.{board_of}
use Rattle.go_board.specs.Index.{IsIndex}
use Rattle.go_board.proofs.records.Tables.{table-more}
use Rattle.go_board.proofs.game.Game.board_into.Goals as goal

pub loop-index-preserved : goal.loop-index-preserved
loop-index-preserved c =
    table-more {A = Option Colour} (λ p stone. stone ≡ stone_at (board_of c.args.self.now) p) c.args.self.now.size
    c.loop-index.index c.place_at.result c.loop-index.stones.items c.push.new.self.items c.colour_at.result
    c.loop-index.invariant
    (subst (λ (s : ℕ). IsIndex s c.place_at.result c.loop-index.index) c.size-size.ensures.size
    c.place_at.ensures.number)
    c.colour_at.ensures c.push.ensures.items
