use Rattle.std.proofs.Common.{◌≡◌, ◌∙◌, ap, subst, sym, rules}
use Rattle.std.specs.Prelude.{◌↔◌, IsTrue, nat_eq}
use Rattle.go_board.specs.Board.{at, stone}
use Rattle.go_board.specs.Chain.{IsCaptured}
use Rattle.go_board.specs.private.ChainId.{BoardWithIds, AreChains}
use Rattle.go_board.proofs.playouts.PlayoutPlays.{captured-test}
use Rattle.go_board.proofs.stones.Stones.is_captured.Goals as goal

pub returns-then-eq : goal.returns-then-eq
returns-then-eq c =
    let held : at c.args.self.now.board c.args.place ≡ stone c.args.colour = search rules in
    subst (λ (s : BoardWithIds). IsTrue (nat_eq c.at-count.result 0) ↔ IsCaptured s.board c.args.colour c.args.place)
    c.self.view_is
    (captured-test c.self.inside c.args.colour c.args.place c.at.result c.at-count.result c.self.invariant
    (subst (λ (s : BoardWithIds). AreChains s.board s.ids) (sym c.self.view_is) c.requires.chains)
    (ap (λ (s : BoardWithIds). at s.board c.args.place) c.self.view_is ∙ held) c.at.ensures.value c.at.ensures.below
    c.at-count.ensures)
