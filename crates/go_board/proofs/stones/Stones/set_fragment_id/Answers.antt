use Rattle.std.proofs.Common.{inl, subst, sym}
use Rattle.go_board.specs.Board.{at, IsStone}
use Rattle.go_board.specs.private.ChainId.{BoardWithIds, IsChainOf}
use Rattle.go_board.proofs.ids.FindingIds.{HasFragmentId-given}
use Rattle.go_board.proofs.ids.Paths.{IsStone-joined}
use Rattle.go_board.proofs.liberties.StonesFields.{not_zero}
use Rattle.go_board.proofs.stones.Stones.set_fragment_id.Goals as goal

pub change_ids-requires-clause-stones : goal.change_ids-requires-clause-stones
change_ids-requires-clause-stones c p h =
    let board = c.args.self.now.board in
    let stone : IsStone (at board c.args.place) =
    subst IsStone c.at.ensures (c.is_stone.ensures.fact.0 c.if-is_stone.true) in
    let chain : IsChainOf board c.args.place c.chain_into.new.found =
    subst (λ (s : BoardWithIds). IsChainOf s.board c.args.place c.chain_into.new.found) c.self.view_is
    c.chain_into.ensures in
    IsStone-joined board c.args.place p ((chain p).0 h) stone

pub change_ids-requires-clause-named : goal.change_ids-requires-clause-named
change_ids-requires-clause-named c =
    let stone : IsStone (at c.args.self.now.board c.args.place) =
    subst IsStone c.at.ensures (c.is_stone.ensures.fact.0 c.if-is_stone.true) in
    not_zero c.self.inside c.args.place c.self.invariant
    (subst (λ (s : BoardWithIds). IsStone (at s.board c.args.place)) (sym c.self.view_is) stone)

pub returns-then-id : goal.returns-then-id
returns-then-id c =
    let board = c.args.self.now.board in
    let stone : IsStone (at board c.args.place) =
    subst IsStone c.at.ensures (c.is_stone.ensures.fact.0 c.if-is_stone.true) in
    let chain : IsChainOf board c.args.place c.chain_into.new.found =
    subst (λ (s : BoardWithIds). IsChainOf s.board c.args.place c.chain_into.new.found) c.self.view_is
    c.chain_into.ensures in
    record {
      board_is = c.change_ids.ensures.board_is;
      length_is = c.change_ids.ensures.length_is;
      named = inl (
        stone,
        HasFragmentId-given board c.args.place c.chain_into.new.found c.args.self.now.ids
            c.change_ids.new.self.ids chain c.change_ids.ensures.given c.change_ids.ensures.others,
      );
    }
