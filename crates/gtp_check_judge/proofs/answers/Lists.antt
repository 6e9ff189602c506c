-- Where a list is due: what is judged right is a right answer.
use Rattle.std.proofs.Common.{◌≡◌, Bool, true, false, Some, refl, sym, ◌∙◌, ap, subst}
use Rattle.go_base.specs.declared.choices.Choice.{Choice}
use Rattle.go_base.specs.declared.choices.Choice.TheVariants as choice
use Rattle.gtp_wire.specs.declared.replies.Reply.{Reply}
use Rattle.gtp_session.specs.Commands.{answer}
use Rattle.gtp_check_judge.specs.declared.asking.CheckCommand.{CheckCommand}
use Rattle.gtp_check_judge.specs.declared.dues.Due.TheVariants.{Lists}
use Rattle.gtp_check_judge.specs.declared.judging.Judgement.{Judgement}
use Rattle.gtp_check_judge.specs.declared.unanswered.Asked.{Asked}
use Rattle.gtp_check_judge.specs.Listings.{lists_required, rows}
use Rattle.gtp_check_judge.specs.RightEngine.{RightEngine}
use Rattle.gtp_check_judge.specs.Dues.{IsDue}
use Rattle.gtp_check_judge.specs.Judging.{list_judged}
use Rattle.gtp_check_judge.specs.Laws.{line_of_asked, Says, IsRight}
use Rattle.gtp_check_judge.proofs.answers.Statuses.{HoldsOf, as_due, by_table, opinion_kept, plain_known, undone_still}
use Rattle.gtp_check_judge.proofs.answers.Statuses.{wrong_status}
use Rattle.gtp_check_judge.proofs.answers.Table.{AnswersSo}
use Rattle.gtp_check_judge.proofs.answers.Texts.{free_fails, lists_list}

unlisted : (before : RightEngine) (entry : Asked) (reply : Reply) → IsDue before entry.command Lists → reply.ok ≡ true
    → lists_required (rows reply.text.items) ≡ false
    → (after : RightEngine) → IsRight before entry reply after → ⊥
unlisted before entry reply due ok lacks after right =
    let tabled = by_table before entry reply after Lists due (λ f. f) right in
    let says = subst (λ (b : Bool). Says before entry.command tabled.choice b reply.text.items) ok tabled.says in
    let lists : lists_required (rows reply.text.items) ≡ true =
    subst (λ (c : CheckCommand). Says before c tabled.choice true reply.text.items)
    (lists_list before entry.command due) says in
    let e : true ≡ false = sym lists ∙ lacks in cc e

pub list_holds : (before : RightEngine) (entry : Asked) (reply : Reply) (has_all ok : Bool) (got : Judgement)
    → IsDue before entry.command Lists → entry.due ≡ Lists
    → ((ch : Choice) → AnswersSo before.game entry.command Lists (answer before.game (line_of_asked entry) ch))
    → reply.id ≡ Some entry.id → reply.ok ≡ ok → lists_required (rows reply.text.items) ≡ has_all
    → got ≡ list_judged has_all ok → HoldsOf before entry reply got
list_holds before entry reply true true got due is so id ok lists j =
    subst (HoldsOf before entry reply) (sym j)
    (as_due before entry reply Lists is
    (plain_known before entry reply true before.game before.undone before.opinion
    (undone_still before entry.command Lists reply due tt)
    (opinion_kept before entry.command Lists reply due tt) id ok (so choice.Resign).0 (so choice.Resign).1
    (subst (λ (c : CheckCommand). Says before c choice.Resign true reply.text.items)
    (sym (lists_list before entry.command due)) lists)))
list_holds before entry reply false true got due is so id ok lacks j =
    subst (HoldsOf before entry reply) (sym j) (unlisted before entry reply due ok lacks, (ok, is, lacks))
list_holds before entry reply has_all false got due is so id ok lists j =
    subst (HoldsOf before entry reply) (sym j) (
      wrong_status before entry reply Lists false true due (λ f. f) ok (λ ch. (so ch).0) (λ e. cc e),
      (ok, (λ ch. (so ch).0), λ may. free_fails before entry.command Lists may due),
    )
