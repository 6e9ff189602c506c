use Rattle.std.proofs.Common.{◌≡◌, ◌+◌, ◌-◌, ◌∙◌, subst, sym, List}
use Rattle.go_board.specs.private.ChainId.{AreChainIds}
use Rattle.go_board.specs.private.Steps.{IsFragmentSet}
use Rattle.go_board.specs.declared.board.Cell.{Cell}
use Rattle.go_board.proofs.ids.SplittingChains.{AreChainIds-split}
use Rattle.go_board.proofs.stones.Stones.split.Goals as goal

pub returns-clause-ids : goal.returns-clause-ids
returns-clause-ids c =
    let now = c.args.self.now in
    let p = c.args.place in
    let id = c.args.id in
    let b1 : c.set_fragment_id.new.self.board ≡ now.board = c.set_fragment_id.ensures.board_is in
    let b2 : c.set_fragment_id-2.new.self.board ≡ now.board = c.set_fragment_id-2.ensures.board_is ∙ b1 in
    let b3 : c.set_fragment_id-3.new.self.board ≡ now.board = c.set_fragment_id-3.ensures.board_is ∙ b2 in
    let b4 : c.set_fragment_id-4.new.self.board ≡ now.board = c.set_fragment_id-4.ensures.board_is ∙ b3 in
    subst (λ (b : List Cell). AreChainIds b c.set_fragment_id-4.new.self.ids) (sym b4)
    (AreChainIds-split now.board now.ids c.set_fragment_id.new.self.ids c.set_fragment_id-2.new.self.ids
    c.set_fragment_id-3.new.self.ids c.set_fragment_id-4.new.self.ids p id c.requires.cut
    c.set_fragment_id.ensures.named
    (subst (λ (b : List Cell). IsFragmentSet b c.set_fragment_id.new.self.ids c.set_fragment_id-2.new.self.ids (p - 1) id)
    b1 c.set_fragment_id-2.ensures.named)
    (subst (λ (b : List Cell). IsFragmentSet b c.set_fragment_id-2.new.self.ids c.set_fragment_id-3.new.self.ids
    (p + 26) id) b2 c.set_fragment_id-3.ensures.named)
    (subst (λ (b : List Cell). IsFragmentSet b c.set_fragment_id-3.new.self.ids c.set_fragment_id-4.new.self.ids
    (p - 26) id) b3 c.set_fragment_id-4.ensures.named)
    (c.set_fragment_id-4.ensures.length_is ∙ c.set_fragment_id-3.ensures.length_is
    ∙ c.set_fragment_id-2.ensures.length_is ∙ c.set_fragment_id.ensures.length_is ∙ c.requires.cut.length_is))
