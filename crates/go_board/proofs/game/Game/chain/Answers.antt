use Rattle.std.proofs.Common.{◌∙◌, ap, sym}
use Rattle.go_board.specs.Game.{board_of}
use Rattle.go_board.proofs.floods.Liberties.{chain-at, chain-points}
use Rattle.go_board.proofs.game.Game.chain.Goals as goal

pub empty_beside_all-liberties-requires : goal.empty_beside_all-liberties-requires
empty_beside_all-liberties-requires c =
    chain-points c.board-board.result.now c.place_of.result c.chain_into.new.found c.chain_into.ensures

pub returns : goal.returns
returns c =
    chain-at c.board-board.result.now (board_of c.args.self.now) c.place_of.result c.args.point
    c.in_ok-colour.colour c.len.result c.len-2.result c.chain_into.new.found c.empty_beside_all-liberties.result
    (c.board-board.ensures ∙ c.self.invariant.board_is ∙ ap board_of c.self.view_is) c.place_of.ensures.value
    (sym c.at.ensures ∙ c.in_ok-colour.was) c.chain_into.ensures c.len.ensures.once c.len.ensures.value
    c.empty_beside_all-liberties.ensures c.len-2.ensures.once c.len-2.ensures.value
