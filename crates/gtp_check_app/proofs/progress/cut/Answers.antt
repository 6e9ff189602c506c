use Rattle.std.proofs.Common.{◌∙◌, ◌++◌, ap, List, ℕ, refl, sym, take}
use Rattle.std.proofs.lemmas.List.{append-nil}
use Rattle.gtp_check_texts.specs.Texts.{joined}
use Rattle.gtp_check_texts.proofs.Joining.{appended-step, cut_front}
use Rattle.gtp_check_app.proofs.progress.cut.Goals as goal

pub loop-part-init : goal.loop-part-init
loop-part-init c =
    (rw (c.add.ensures, c.new-text.ensures) at c.add-2.ensures)
    ∙ cut_front 79 c.args.before.now c.args.line.now
    ∙ sym (ap (λ (t : List ℕ). take 79 t) (append-nil (c.args.before.now ++ c.args.line.now)))

pub loop-part-preserved : goal.loop-part-preserved
loop-part-preserved c =
    let known = (c.args.before.now ++ c.args.line.now) ++ joined (take c.loop-part.part-index c.args.parts.now) in
    (rw c.loop-part.invariant at c.add-in-loop-part.ensures)
    ∙ cut_front 79 known _
    ∙ ap (λ (t : List ℕ). take 79 t)
    (appended-step (λ part. part.now) c.args.parts.now c.loop-part.part-index _
    (c.args.before.now ++ c.args.line.now) known
    c.loop-part-test.true refl)
