use Rattle.std.proofs.Common.{◌≡◌, ◌-◌, subst, arith}
use Rattle.go_board.specs.private.ChainId.{BoardWithIds, ids_beside}
use Rattle.go_board.specs.private.NamedIds.{named_beside}
use Rattle.go_board.proofs.liberties.NamedIds.{named-beside}
use Rattle.go_board.proofs.stones.Stones.named_beside.Goals as goal

pub returns-clause-stones : goal.returns-clause-stones
returns-clause-stones c other =
    let id = c.args.id in
    let p = c.args.place in
    let right = c.named_at.ensures.value in
    let left = c.named_at-2.ensures.value in
    let above = c.named_at-3.ensures.value in
    let under = c.named_at-4.ensures.value in
    let same : named_beside c.args.self.now.ids id p ≡ ids_beside c.args.self.now.board c.args.self.now.ids id p =
    subst (λ (s : BoardWithIds). named_beside s.ids id p ≡ ids_beside s.board s.ids id p) c.self.view_is
    (named-beside c.self.inside.board c.self.inside.ids c.self.invariant.blank id p other) in
    omega (arith, right, left, above, under, same)
