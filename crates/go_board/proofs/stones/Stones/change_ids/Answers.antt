use Rattle.std.proofs.Common.{◌<◌, ◌∙◌, List, ℕ, length, refl, subst, sym, ap, arith}
use Rattle.std.specs.Prelude.{Contains}
use Rattle.std.proofs.lemmas.List.Elements.{Contains-get_or}
use Rattle.go_board.specs.Board.{at, IsStone}
use Rattle.go_board.specs.declared.board.Cell.{Cell}
use Rattle.go_board.specs.private.ChainId.{BoardWithIds}
use Rattle.go_board.proofs.ids.FindingIds.{IsGiving-none, IsGiving-more, given-all}
use Rattle.go_board.proofs.stones.Stones.change_ids.Goals as goal

pub loop-index-init : goal.loop-index-init
loop-index-init c = record {
  same = refl;
  giving =
      IsGiving-none c.args.self.now.ids c.args.chain.now c.args.id
      (ap (λ (s : BoardWithIds). length s.ids) (sym c.self.view_is) ∙ c.self.invariant.length_is);
}

pub change_id-requires-clause-stone : goal.change_id-requires-clause-stone
change_id-requires-clause-stone c =
    let test = c.loop-index-test.true in
    let end = c.len-index-end.ensures.value in
    let in_range : c.loop-index.index < length c.args.chain.now = omega (arith, test, end) in
    subst (λ (b : List Cell). IsStone (at b c.get.result)) (sym c.loop-index.invariant.same)
    (c.requires.stones c.get.result
    (subst (λ (p : ℕ). Contains c.args.chain.now p) (sym c.get.ensures.value)
    (Contains-get_or c.args.chain.now c.loop-index.index 0 in_range)))

pub loop-index-preserved : goal.loop-index-preserved
loop-index-preserved c =
    let test = c.loop-index-test.true in
    let end = c.len-index-end.ensures.value in
    let in_range : c.loop-index.index < length c.args.chain.now = omega (arith, test, end) in
    record {
      same = ap (λ (s : BoardWithIds). s.board) c.change_id.ensures ∙ c.loop-index.invariant.same;
      giving =
          IsGiving-more c.args.self.now.ids c.args.chain.now c.loop-index.self.ids c.change_id.new.self.ids
          c.args.id c.loop-index.index c.get.result in_range c.get.ensures.value c.get.ensures.below
          (ap (λ (s : BoardWithIds). s.ids) c.change_id.ensures) c.loop-index.invariant.giving;
    }

pub returns : goal.returns
returns c =
    let past = c.loop-index-test.false in
    let end = c.len-index-end.ensures.value in
    record {
      board_is = c.loop-index.invariant.same;
      length_is =
          c.loop-index.invariant.giving.length_is
          ∙ sym (ap (λ (s : BoardWithIds). length s.ids) (sym c.self.view_is) ∙ c.self.invariant.length_is);
      given =
          given-all c.args.self.now.ids c.args.chain.now c.loop-index.self.ids c.args.id c.loop-index.index
          (omega (arith, past, end)) c.loop-index.invariant.giving;
      others = c.loop-index.invariant.giving.others;
    }
