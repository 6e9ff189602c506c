use Rattle.std.proofs.Common.{rules, ap, sym, ◌∙◌}
use Rattle.std.specs.Slice.Iter.{split_rest, split_done, split_callee}
use Rattle.std.proofs.lemmas.Iterator.Splits.{YieldsList-from_slice_split}
use Rattle.gtp_wire.specs.Bytes.{is_newline}
use Rattle.gtp_check_judge.specs.Listings.{rows}
use Rattle.gtp_check_judge.proofs.answers.Rows.{HasLeft-all, HasLeft-more, HasLeft-none, HasLeft-one}
use Rattle.gtp_check_judge.proofs.listings.is_listed.Goals as goal

pub loop-row-init : goal.loop-row-init
unfolding rows
loop-row-init c =
    let same = c.into_iter-row-iterator.ensures.into_iter_gives in
    HasLeft-all _ _ _ _
    (YieldsList-from_slice_split _ is_newline c.args.text.now
    (ap split_rest same ∙ c.split-row-items.ensures.rest) (ap split_done same ∙ c.split-row-items.ensures.done)
    (ap split_callee same ∙ c.split-row-items.ensures.closure)
    (λ x b q k. search rules)).runs

pub loop-row-preserved : goal.loop-row-preserved
loop-row-preserved c =
    HasLeft-more _ _ c.next.new.self _ _ c.in-Some.row c.loop-row.invariant c.in-Some.ensures.steps
    (sym c.is_row_of.ensures ∙ c.if-is_row_of.false)

pub returns-then-is_row_of : goal.returns-then-is_row_of
returns-then-is_row_of c =
    sym (HasLeft-one _ _ c.next.new.self _ _ c.in-Some.row c.loop-row.invariant c.in-Some.ensures.steps
    (sym c.is_row_of.ensures ∙ c.if-is_row_of.true))

pub returns : goal.returns
returns c = sym (HasLeft-none _ _ _ _ _ c.loop-row.invariant c.in-None.ensures.steps)
