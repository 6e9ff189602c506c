-- Where a score or any text is due: what is judged right is a right answer.
use Rattle.std.proofs.Common.{◌≡◌, ℕ, ◌<◌, Bool, true, false, List, Option, Some, None, refl, sym, ◌∙◌, ap, subst}
use Rattle.std.proofs.Common.{arith}
use Rattle.std.specs.Prelude.{◌==◌, ◌&&◌, nat_le, ℤ, pos, ◌+ℤ◌, ◌*ℤ◌, if◌then◌else◌}
use Rattle.std.proofs.lemmas.Bool.Decides.{nat_tests}
use Rattle.go_base.specs.declared.choices.Choice.{Choice}
use Rattle.go_board.specs.Game.{GameRecord}
use Rattle.gtp_check_judge.specs.declared.asking.CheckCommand.{CheckCommand}
use Rattle.gtp_check_judge.specs.declared.asking.CheckCommand.TheVariants.{FinalScore}
use Rattle.gtp_wire.specs.declared.replies.Reply.{Reply}
use Rattle.gtp_session.specs.Commands.{answer}
use Rattle.gtp_check_judge.specs.declared.dues.Due.TheVariants.{Scores, AnyReply}
use Rattle.gtp_check_judge.specs.declared.judging.Judgement.{Judgement}
use Rattle.gtp_check_judge.specs.declared.judging.Judgement.TheVariants.{Right, Opines, Wrong}
use Rattle.gtp_check_judge.specs.declared.judging.Kind.TheVariants.{OtherScore}
use Rattle.gtp_check_judge.specs.declared.opinions.Opinion.{Opinion}
use Rattle.gtp_check_judge.specs.declared.opinions.Opinion.TheVariants.{Unheard, Once, Twice, Thrice}
use Rattle.gtp_check_judge.specs.declared.opinions.View.{View}
use Rattle.gtp_check_judge.specs.declared.scores.Score.{Score}
use Rattle.gtp_check_judge.specs.declared.scores.SaidScore.{SaidScore}
use Rattle.gtp_check_judge.specs.declared.scores.SaidScore.TheVariants.{Number, Long}
use Rattle.gtp_check_judge.specs.declared.unanswered.Asked.{Asked}
use Rattle.gtp_check_judge.specs.Komis.{is_near_komi}
use Rattle.gtp_check_judge.specs.Scores.{score_of_text}
use Rattle.gtp_check_judge.specs.Opinions.{agrees, agrees_with, allowed, distance, differ_as_komis, opinion_said, opinion_with}
use Rattle.gtp_check_judge.specs.Opinions.{view_of}
use Rattle.gtp_check_judge.specs.RightEngine.{RightEngine, is_empty, none_made, opinion_after, view_in, view_read}
use Rattle.gtp_check_judge.specs.Dues.{IsDue, IsFresh, after_check, engine_after}
use Rattle.gtp_check_judge.specs.Judging.{said_score_judged, score_judged, view_judged}
use Rattle.gtp_check_judge.specs.Laws.{line_of_asked, Says, SaysScore, MayRefuse, after_refusal, IsRight}
use Rattle.gtp_check_judge.specs.Laws.{DiffersFromOpinion}
use Rattle.go_base.specs.declared.choices.Choice.TheVariants as choice
use Rattle.gtp_check_judge.proofs.answers.Statuses.{HoldsOf, as_due, by_success, opined, opinion_kept, plain_known}
use Rattle.gtp_check_judge.proofs.answers.Statuses.{refusal_right, undone_still}
use Rattle.gtp_check_judge.proofs.answers.Table.{AnswersSo}
use Rattle.gtp_check_judge.proofs.answers.Texts.{IsScored, any_free, any_refused, says_anything, scores_final}

-- what a success to a `final_score` has to say
said_of_right : (before : RightEngine) (entry : Asked) (reply : Reply) → entry.command ≡ FinalScore → reply.ok ≡ true
    → (after : RightEngine) → IsRight before entry reply after → SaysScore before (score_of_text reply.text.items)
said_of_right before entry reply is ok after right =
    let tabled = by_success before entry reply after ok right in
    subst (λ (c : CheckCommand). Says before c tabled.choice true reply.text.items) is
    (subst (λ (b : Bool). Says before entry.command tabled.choice b reply.text.items) ok tabled.says)

-- ---- the empty board

pub empty_is : (game : GameRecord) → IsFresh game → is_empty game ≡ true
empty_is game fresh =
    ap (λ (b : Bool). b && game.handicap == 0) (ap none_made fresh.no_moves)
    ∙ ap (λ (n : ℕ). n == 0) fresh.no_handicap

pub if_so : {A : Type 0} (b : Bool) (x y : A) → b ≡ true → (if b then x else y) ≡ x
if_so true x y e = refl
if_so false x y e = absurd (cc e)

view_here : (before : RightEngine) (command : CheckCommand) (s : ℕ) (k : ℤ) (said : SaidScore)
    → IsScored before command s k → view_in before.game said ≡ view_of s k said
view_here before command s k said is =
    if_so (is_empty before.game) (view_of before.game.size before.game.komi said) None
    (empty_is before.game is.fresh)
    ∙ ap (λ (n : ℕ). view_of n before.game.komi said) (sym is.size_is)
    ∙ ap (λ (z : ℤ). view_of s z said) (sym is.komi_is)

-- what the engine thinks once it has said a score
thinks_then : (before : RightEngine) (entry : Asked) (reply : Reply) (said : SaidScore) → entry.command ≡ FinalScore
    → reply.ok ≡ true → score_of_text reply.text.items ≡ Some said
    → opinion_after before entry.command reply ≡ opinion_said before.opinion (view_in before.game said)
thinks_then before entry reply said is ok is_said =
    ap (λ (c : CheckCommand). opinion_after before c reply) is
    ∙ if_so reply.ok (opinion_said before.opinion (view_read before.game (score_of_text reply.text.items)))
    before.opinion ok
    ∙ ap (λ (o : Option SaidScore). opinion_said before.opinion (view_read before.game o)) is_said

-- a view, and the score that it is of
pub record IsViewOf (s : ℕ) (k : ℤ) (said : SaidScore) (new : View) : Type 0 where
  pub score : Score
  pub said_is : said ≡ Number score
  pub near : is_near_komi k ≡ true
  pub new_is : new
      ≡ record { size = s; komi = k; lead = score.millionths +ℤ (pos 500000 *ℤ k); unit = score.unit }

pub view_is : (s : ℕ) (k : ℤ) (said : SaidScore) (new : View) → view_of s k said ≡ Some new → IsViewOf s k said new
view_is s k Long new e = absurd (cc e)
view_is s k (Number score) new e = by (is_near_komi k) refl e
  where
    by : (b : Bool) → is_near_komi k ≡ b
        → (if b then Some (record {
          size = s;
          komi = k;
          lead = score.millionths +ℤ (pos 500000 *ℤ k);
          unit = score.unit;
        }) else None) ≡ Some new
        → IsViewOf s k (Number score) new
    by true near e = record { score = score; said_is = refl; near = near; new_is = cc e }
    by false near e = absurd (cc e)

-- ---- a score that differs

pub record Differs (opinion : Opinion) (new : View) : Type 0 where
  pub old : View
  pub stands : opinion ≡ Thrice old
  pub size : old.size ≡ new.size
  pub far : allowed old.unit new.unit < distance old.lead new.lead

same_number : (a b : ℕ) → (a == b) ≡ true → a ≡ b
same_number a b e = grind (arith, nat_tests)

less_far : (a b : ℕ) → nat_le a b ≡ false → b < a
less_far a b e = grind (arith, nat_tests)

pub differs_so : (opinion : Opinion) (new : View) → agrees opinion new ≡ false → Differs opinion new
differs_so Unheard new e = absurd (cc e)
differs_so (Once old) new e = absurd (cc e)
differs_so (Twice old) new e = absurd (cc e)
differs_so (Thrice old) new e = by (old.size == new.size) (differ_as_komis old new) refl refl e
  where
    by : (same near : Bool) → (old.size == new.size) ≡ same → differ_as_komis old new ≡ near
        → (if same then near else true) ≡ false → Differs (Thrice old) new
    by false near size far e = absurd (cc e)
    by true true size far e = absurd (cc e)
    by true false size far e = record {
      old = old;
      stands = refl;
      size = same_number old.size new.size size;
      far = less_far (distance old.lead new.lead) (allowed old.unit new.unit) far;
    }

differs_from : (before : RightEngine) (command : CheckCommand) (text : List ℕ) (s : ℕ) (k : ℤ) (said : SaidScore)
    (new : View)
    → IsScored before command s k → score_of_text text ≡ Some said → view_of s k said ≡ Some new
    → agrees before.opinion new ≡ false → DiffersFromOpinion before text
differs_from before command text s k said new is is_said view e =
    let v = view_is s k said new view in
    let d = differs_so before.opinion new e in
    record {
      old = d.old;
      stands = d.stands;
      size = d.size ∙ ap (λ (w : View). w.size) v.new_is ∙ is.size_is;
      score = v.score;
      said = is_said ∙ ap Some v.said_is;
      far =
          subst (λ (z : ℤ). allowed d.old.unit v.score.unit < distance d.old.lead (v.score.millionths +ℤ (pos 500000 *ℤ z)))
          is.komi_is
          (subst (λ (w : View). allowed d.old.unit w.unit < distance d.old.lead w.lead) v.new_is d.far);
    }

-- ---- what is judged of a score

-- what is known of a success to a `final_score`
record Said (before : RightEngine) (entry : Asked) (reply : Reply) (s : ℕ) (k : ℤ) : Type 0 where
  due : IsDue before entry.command (Scores s k)
  is : entry.due ≡ Scores s k
  so : (ch : Choice) → AnswersSo before.game entry.command (Scores s k) (answer before.game (line_of_asked entry) ch)
  id : reply.id ≡ Some entry.id
  ok : reply.ok ≡ true

-- it is right where it agrees
said_right : (before : RightEngine) (entry : Asked) (reply : Reply) (s : ℕ) (k : ℤ) (said : SaidScore) (v : Option View)
    → Said before entry reply s k → score_of_text reply.text.items ≡ Some said → view_of s k said ≡ v
    → agrees_with before.opinion v ≡ true
    → IsRight before entry reply (opined before (opinion_said before.opinion v))
said_right before entry reply s k said v h is_said view agreed =
    let final = scores_final before entry.command s k h.due in
    let here : view_in before.game said ≡ v = view_here before entry.command s k said final ∙ view in
    plain_known before entry reply true before.game before.undone (opinion_said before.opinion v)
    (undone_still before entry.command (Scores s k) reply h.due tt)
    (thinks_then before entry reply said final.command_is h.ok is_said ∙ ap (opinion_said before.opinion) here)
    h.id h.ok (h.so choice.Resign).0 (h.so choice.Resign).1
    (subst (λ (c : CheckCommand). Says before c choice.Resign true reply.text.items) (sym final.command_is)
    (subst (SaysScore before) (sym is_said)
    (ap (agrees_with before.opinion) here ∙ agreed)))

view_holds : (before : RightEngine) (entry : Asked) (reply : Reply) (s : ℕ) (k : ℤ) (said : SaidScore)
    (v : Option View) (got : Judgement) → Said before entry reply s k
    → score_of_text reply.text.items ≡ Some said → view_of s k said ≡ v
    → got ≡ view_judged before.opinion v → HoldsOf before entry reply got
view_holds before entry reply s k said None got h is_said view j =
    subst (HoldsOf before entry reply) (sym j)
    (as_due before entry reply (Scores s k) h.is (said_right before entry reply s k said None h is_said view refl))
view_holds before entry reply s k said (Some new) got h is_said view j = by (agrees before.opinion new) refl j
  where
    by : (b : Bool) → agrees before.opinion new ≡ b
        → got ≡ (if b then Opines (opinion_with before.opinion new) else Wrong OtherScore)
        → HoldsOf before entry reply got
    by true agreed j =
        subst (HoldsOf before entry reply) (sym j)
        (said_right before entry reply s k said (Some new) h is_said view agreed)
    by false agreed j =
        let final = scores_final before entry.command s k h.due in
        let here : view_in before.game said ≡ Some new = view_here before entry.command s k said final ∙ view in
        subst (HoldsOf before entry reply) (sym j) (
          λ after right.
              let says : agrees_with before.opinion (view_in before.game said) ≡ true =
              subst (SaysScore before) is_said
              (said_of_right before entry reply final.command_is h.ok after right) in
              let e : true ≡ false = sym says ∙ ap (agrees_with before.opinion) here ∙ agreed in cc e,
          (
            h.ok,
            h.is ∙ ap (λ (n : ℕ). Scores n k) final.size_is ∙ ap (Scores before.game.size) final.komi_is,
            differs_from before entry.command reply.text.items s k said new final is_said view agreed,
          ),
        )

said_holds : (before : RightEngine) (entry : Asked) (reply : Reply) (s : ℕ) (k : ℤ) (said : Option SaidScore)
    (got : Judgement)
    → IsDue before entry.command (Scores s k) → entry.due ≡ Scores s k
    → ((ch : Choice) → AnswersSo before.game entry.command (Scores s k) (answer before.game (line_of_asked entry) ch))
    → reply.id ≡ Some entry.id → reply.ok ≡ true → score_of_text reply.text.items ≡ said
    → got ≡ said_score_judged before.opinion s k said → HoldsOf before entry reply got
said_holds before entry reply s k (Some said) got due is so id ok is_said j =
    view_holds before entry reply s k said (view_of s k said) got
    (record { due = due; is = is; so = so; id = id; ok = ok }) is_said refl j
said_holds before entry reply s k None got due is so id ok is_said j =
    let final = scores_final before entry.command s k due in
    subst (HoldsOf before entry reply) (sym j) (
      λ after right.
          subst (SaysScore before) is_said (said_of_right before entry reply final.command_is ok after right),
      (
        ok,
        is ∙ ap (λ (n : ℕ). Scores n k) final.size_is ∙ ap (Scores before.game.size) final.komi_is,
        is_said,
      ),
    )

pub score_holds : (before : RightEngine) (entry : Asked) (reply : Reply) (s : ℕ) (k : ℤ) (ok : Bool) (got : Judgement)
    → IsDue before entry.command (Scores s k) → entry.due ≡ Scores s k
    → ((ch : Choice) → AnswersSo before.game entry.command (Scores s k) (answer before.game (line_of_asked entry) ch))
    → reply.id ≡ Some entry.id → reply.ok ≡ ok
    → got ≡ score_judged before.opinion s k ok (score_of_text reply.text.items)
    → HoldsOf before entry reply got
score_holds before entry reply s k true got due is so id ok j =
    said_holds before entry reply s k (score_of_text reply.text.items) got due is so id ok refl j
score_holds before entry reply s k false got due is so id ok j =
    let final = scores_final before entry.command s k due in
    subst (HoldsOf before entry reply) (sym j)
    (as_due before entry reply (Scores s k) is
    (refusal_right before entry reply before
    (subst (MayRefuse before) (sym final.command_is) tt)
    (sym (ap (after_refusal before) final.command_is)) id ok))

-- ---- any text

pub any_holds : (before : RightEngine) (entry : Asked) (reply : Reply) (ok : Bool) (got : Judgement)
    → IsDue before entry.command AnyReply → entry.due ≡ AnyReply
    → ((ch : Choice) → AnswersSo before.game entry.command AnyReply (answer before.game (line_of_asked entry) ch))
    → reply.id ≡ Some entry.id → reply.ok ≡ ok → got ≡ Right → HoldsOf before entry reply got
any_holds before entry reply true got due is so id ok j =
    subst (HoldsOf before entry reply) (sym j)
    (as_due before entry reply AnyReply is
    (plain_known before entry reply true (after_check before.game entry.command) before.undone before.opinion
    (undone_still before entry.command AnyReply reply due tt)
    (opinion_kept before entry.command AnyReply reply due tt) id ok (so choice.Resign).0 (so choice.Resign).1
    (says_anything before entry.command choice.Resign true reply.text.items due)))
any_holds before entry reply false got due is so id ok j =
    subst (HoldsOf before entry reply) (sym j)
    (as_due before entry reply AnyReply is
    (refusal_right before entry reply (engine_after before entry.command AnyReply)
    (any_free before entry.command due) (any_refused before entry.command due) id ok))
