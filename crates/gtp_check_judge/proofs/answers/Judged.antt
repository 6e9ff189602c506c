-- What is judged of a reply holds of it.
use Rattle.std.proofs.Common.{◌≡◌, Some, refl, subst}
use Rattle.go_base.specs.Size.{IsSize}
use Rattle.gtp_wire.specs.declared.replies.Reply.{Reply}
use Rattle.gtp_check_judge.specs.declared.dues.Due.{Due}
use Rattle.gtp_check_judge.specs.declared.dues.Due.TheVariants.{Succeeds, Fails, Places, Resizes, Scores, AnyReply}
use Rattle.gtp_check_judge.specs.declared.dues.Due.TheVariants.{Chooses, MayUndo, Lists}
use Rattle.gtp_check_judge.specs.declared.judging.Judgement.{Judgement}
use Rattle.gtp_check_judge.specs.declared.unanswered.Asked.{Asked}
use Rattle.gtp_check_judge.specs.RightEngine.{RightEngine}
use Rattle.gtp_check_judge.specs.Dues.{IsDue}
use Rattle.gtp_check_judge.specs.Judging.{Judged}
use Rattle.gtp_check_judge.specs.Judging.{are_points}
use Rattle.gtp_check_judge.specs.Listings.{lists_required, rows}
use Rattle.gtp_check_judge.specs.Laws.{IsAsked}
use Rattle.gtp_check_judge.proofs.answers.Choices.{asks_of, choice_holds}
use Rattle.gtp_check_judge.proofs.answers.Lists.{list_holds}
use Rattle.gtp_check_judge.proofs.answers.Numbers.{any_holds, score_holds}
use Rattle.gtp_check_judge.proofs.answers.Statuses.{HoldsOf, failure_holds, points_hold, size_holds, success_holds}
use Rattle.gtp_check_judge.proofs.answers.Statuses.{undo_holds}
use Rattle.gtp_check_judge.proofs.answers.Table.{due_answered}

-- what is judged of a reply to a command holds of it, where it was asked in this game
pub judged_holds : (before : RightEngine) (entry : Asked) (due : Due) (reply : Reply) (got : Judgement)
    → entry.due ≡ due → IsSize before.game.size → IsAsked before entry
    → reply.id ≡ Some entry.id → Judged before.game before.opinion due reply got → HoldsOf before entry reply got
judged_holds before entry Succeeds reply got is size a id j =
    let due = subst (IsDue before entry.command) is a.is_due in
    success_holds before entry reply reply.ok got due is
    (λ ch. due_answered before entry.id entry.command Succeeds ch size a.writable a.limits due) id refl j
judged_holds before entry (Fails cause) reply got is size a id j =
    let due = subst (IsDue before entry.command) is a.is_due in
    failure_holds before entry reply cause reply.ok got due is
    (λ ch. due_answered before entry.id entry.command (Fails cause) ch size a.writable a.limits due) id refl j
judged_holds before entry (Resizes s) reply got is size a id j =
    let due = subst (IsDue before entry.command) is a.is_due in
    size_holds before entry reply s reply.ok got due is
    (λ ch. due_answered before entry.id entry.command (Resizes s) ch size a.writable a.limits due) id refl j
judged_holds before entry (Scores s k) reply got is size a id j =
    let due = subst (IsDue before entry.command) is a.is_due in
    score_holds before entry reply s k reply.ok got due is
    (λ ch. due_answered before entry.id entry.command (Scores s k) ch size a.writable a.limits due) id refl j
judged_holds before entry AnyReply reply got is size a id j =
    let due = subst (IsDue before entry.command) is a.is_due in
    any_holds before entry reply reply.ok got due is
    (λ ch. due_answered before entry.id entry.command AnyReply ch size a.writable a.limits due) id refl j
judged_holds before entry MayUndo reply got is size a id j =
    let due = subst (IsDue before entry.command) is a.is_due in
    undo_holds before entry reply reply.ok got due is
    (λ ch. due_answered before entry.id entry.command MayUndo ch size a.writable a.limits due) id refl j
judged_holds before entry Lists reply got is size a id j =
    let due = subst (IsDue before entry.command) is a.is_due in
    list_holds before entry reply (lists_required (rows reply.text.items)) reply.ok got due is
    (λ ch. due_answered before entry.id entry.command Lists ch size a.writable a.limits due) id refl refl j
judged_holds before entry (Places s n) reply got is size a id j =
    let due = subst (IsDue before entry.command) is a.is_due in
    points_hold before entry reply s n reply.ok (are_points s n reply) got due is
    (λ ch. due_answered before entry.id entry.command (Places s n) ch size a.writable a.limits due)
    id refl refl j
judged_holds before entry (Chooses colour) reply got is size a id j =
    choice_holds before entry reply colour reply.ok got
    (asks_of before entry colour is (subst (IsDue before entry.command) is a.is_due)) id refl j
