use Rattle.std.proofs.Common.{◌≡◌, ℕ, ◌+◌, ◌%◌, ◌^◌, ◌<◌, List, sym, ◌∙◌, ap, subst, arith, rules}
use Rattle.go_board.specs.Board.{at}
use Rattle.go_board.specs.Hash.{key_of}
use Rattle.go_board.specs.declared.board.Cell.{Cell}
use Rattle.go_board.proofs.HashSums.{hash_below, hash_below-none, hash_below-more, hash_below-all}
use Rattle.go_board.proofs.board.Board.hash.Goals as goal

pub loop-place-init : goal.loop-place-init
loop-place-init c =
    let less : c.size_key-sum.result < 2 ^ 64 = search rules in
    c.size_key-sum.ensures
    ∙ sym (hash_below-none c.args.size c.args.self.now (subst (λ (k : ℕ). k < 2 ^ 64) c.size_key-sum.ensures less))

pub loop-place-preserved : goal.loop-place-preserved
loop-place-preserved c =
    ap (λ (key : ℕ). (c.loop-place.sum + key) % 2 ^ 64)
    (c.key_of-sum.ensures
    ∙ ap (λ (cells : List Cell). key_of (at cells c.loop-place.place) c.loop-place.place) c.self.view_is)
    ∙ ap (λ (sum : ℕ). (sum + key_of (at c.args.self.now c.loop-place.place) c.loop-place.place) % 2 ^ 64)
    c.loop-place.invariant
    ∙ hash_below-more c.args.size c.args.self.now c.loop-place.place

pub returns : goal.returns
returns c =
    let long = c.self.invariant.length_is in
    let past = c.loop-place-test.false in
    let within = c.loop-place.auto.place-end in
    let end : c.loop-place.place ≡ 702 = omega (arith, long, past, within) in
    c.loop-place.invariant ∙ ap (hash_below c.args.size c.args.self.now) end
    ∙ hash_below-all c.args.size c.args.self.now
