use Rattle.std.proofs.Common.{arith}
use Rattle.go_board.proofs.ids.FindingIds.{given-all}
use Rattle.go_board.proofs.chain_ids.ChainIds.set_all.Goals as goal

pub returns-clause-given : goal.returns-clause-given
returns-clause-given c =
    let past = c.loop-index-test.false in
    let end = c.len-index-end.ensures.value in
    given-all c.args.self.now c.args.places.now c.loop-index.self c.args.id c.loop-index.index
    (omega (arith, past, end)) c.loop-index.invariant
