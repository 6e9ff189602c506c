use Rattle.std.proofs.Common.{◌∙◌, ap, subst, sym}
use Rattle.std.specs.Prelude.{◌↔◌, IsTrue, nat_lt}
use Rattle.go_board.specs.Board.{at, IsStone}
use Rattle.go_board.specs.private.ChainId.{BoardWithIds, AreChains, HasOtherLiberty}
use Rattle.go_board.specs.private.NamedIds.{named_beside}
use Rattle.go_board.proofs.playouts.PlayoutPlays.{other_liberty-test}
use Rattle.go_board.proofs.stones.Stones.has_other_liberty.Goals as goal

pub returns : goal.returns
returns c =
    let p = c.args.point in
    let q = c.args.place in
    subst (λ (s : BoardWithIds). IsStone (at s.board q)
    → IsTrue (nat_lt c.named_beside.result c.at.result) ↔ HasOtherLiberty s.board q p) c.self.view_is
    (λ stone. other_liberty-test c.self.inside p q c.at-id.result c.named_beside.result c.at.result c.self.invariant
    (subst (λ (s : BoardWithIds). AreChains s.board s.ids) (sym c.self.view_is) c.requires.chains)
    (ap (λ (s : BoardWithIds). at s.board p) c.self.view_is ∙ c.requires.empty) stone c.at-id.ensures.value
    c.at-id.ensures.below
    (c.named_beside.ensures.named ∙ ap (λ (s : BoardWithIds). named_beside s.ids c.at-id.result p) (sym c.self.view_is))
    c.at.ensures)
