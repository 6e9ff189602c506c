use Rattle.std.proofs.Common.{rules, ap, sym, ◌∙◌}
use Rattle.std.specs.Prelude.{◌==◌}
use Rattle.std.specs.Slice.Iter.{split_rest, split_done, split_callee}
use Rattle.std.proofs.lemmas.Iterator.Splits.{YieldsList-from_slice_split}
use Rattle.gtp_session.proofs.choosing.Books.{HasRead-none, HasRead-more, HasRead-bad, HasRead-full, HasRead-all}
use Rattle.gtp_session.proofs.choosing.Books.{full, has_room}
use Rattle.gtp_session.proofs.book.Book.read.Goals as goal

pub loop-part-init : goal.loop-part-init
loop-part-init c =
    let same = c.into_iter-part-iterator.ensures.into_iter_gives in
    HasRead-none _ _ _ _
    (YieldsList-from_slice_split _ (λ b. b == 44) c.args.text.now
    (ap split_rest same ∙ c.split-part-items.ensures.rest) (ap split_done same ∙ c.split-part-items.ensures.done)
    (ap split_callee same ∙ c.split-part-items.ensures.closure)
    (λ x b q k. search rules)).runs
    c.new-entries.ensures

pub returns-in_err-entry : goal.returns-in_err-entry
returns-in_err-entry c =
    c.from_residual.ensures
    ∙ sym (HasRead-bad _ _ c.next.new.self _ _ c.in-Some.part c.loop-part.invariant c.in-Some.ensures.steps
    (sym c.in_err-entry.was ∙ c.read.ensures))

pub returns-then-is_full : goal.returns-then-is_full
returns-then-is_full c =
    sym (HasRead-full _ _ c.next.new.self _ _ c.in-Some.part c.in_ok-entry.entry c.loop-part.invariant
    c.in-Some.ensures.steps (sym c.in_ok-entry.was ∙ c.read.ensures)
    (full _ c.is_full.result c.is_full.ensures.value c.if-is_full.true))

pub loop-part-preserved : goal.loop-part-preserved
loop-part-preserved c =
    HasRead-more _ _ c.next.new.self _ _ _ c.in-Some.part c.in_ok-entry.entry c.loop-part.invariant
    c.in-Some.ensures.steps (sym c.in_ok-entry.was ∙ c.read.ensures) c.push.ensures.items
    (has_room _ c.is_full.result c.is_full.ensures.value c.is_full.ensures.fits c.if-is_full.false)

pub returns : goal.returns
returns c = HasRead-all _ _ _ _ _ c.loop-part.invariant c.in-None.ensures.steps
