-- Where a choice is due: what is judged right is a right answer.
use Rattle.std.proofs.Common.{◌≡◌, Bool, true, false, Option, Some, None, refl, sym, ◌∙◌, ap, subst}
use Rattle.std.specs.Prelude.{IfSome}
use Rattle.go_base.specs.declared.colours.Colour.{Colour}
use Rattle.go_base.specs.declared.choices.Choice.{Choice}
use Rattle.go_base.specs.declared.vertices.Vertex.{Vertex}
use Rattle.go_board.specs.Game.{GameRecord}
use Rattle.go_board.specs.Refusals.{RefusesVertex}
use Rattle.go_board.specs.declared.faults.PlayFault.{PlayFault}
use Rattle.gtp_check_judge.specs.declared.asking.CheckCommand.{CheckCommand}
use Rattle.gtp_wire.specs.declared.commands.Command.TheVariants.{Genmove}
use Rattle.gtp_wire.specs.declared.replies.Reply.{Reply}
use Rattle.gtp_session.specs.Policy.{IsLawful}
use Rattle.gtp_session.specs.Commands.{Answer, answer, asked, answer_choice}
use Rattle.gtp_check_judge.specs.declared.dues.Due.TheVariants.{Chooses}
use Rattle.gtp_check_judge.specs.declared.judging.Judgement.{Judgement}
use Rattle.gtp_check_judge.specs.declared.judging.Judgement.TheVariants.{Right, Plays, Resized, Undone, Opines, Wrong}
use Rattle.gtp_check_judge.specs.declared.judging.Kind.TheVariants.{Refused, Took, OtherPoints, NoMove, NoVertex}
use Rattle.gtp_check_judge.specs.declared.judging.Kind.TheVariants.{Unlawful, NoScore, OtherScore, WrongId, Unasked}
use Rattle.gtp_check_judge.specs.declared.judging.Kind.TheVariants.{NoStatus, Overlong, Unlisted}
use Rattle.gtp_check_judge.specs.declared.opinions.Opinion.{Opinion}
use Rattle.gtp_check_judge.specs.declared.unanswered.Asked.{Asked}
use Rattle.gtp_wire.specs.ReplyWords.{choice_of_text}
use Rattle.gtp_check_judge.specs.Asking.{IsGenmoveOf}
use Rattle.gtp_check_judge.specs.RightEngine.{RightEngine, undone_after, undone_by, opinion_after}
use Rattle.gtp_check_judge.specs.Dues.{IsDue}
use Rattle.gtp_check_judge.specs.Judging.{ChoiceJudged, SaidJudged, VertexJudged}
use Rattle.gtp_check_judge.specs.Laws.{line_of_asked, Says, IsByTable, IsRight}
use Rattle.go_base.specs.declared.choices.Choice.TheVariants as choice
use Rattle.gtp_check_judge.proofs.answers.Statuses.{HoldsOf, as_due, by_table, engine_with, if_true, moved}
use Rattle.gtp_check_judge.proofs.answers.Statuses.{opinion_kept}
use Rattle.gtp_check_judge.proofs.answers.Statuses.{wrong_status}
use Rattle.gtp_check_judge.proofs.answers.Table.{vertex_unlawful}
use Rattle.gtp_check_judge.proofs.answers.Texts.{chooses_genmove}
use Rattle.gtp_check_judge.proofs.commands.InFull.{genmove_asked, genmove_given, genmove_said, genmove_says}
use Rattle.gtp_check_judge.proofs.commands.InFull.{genmove_undone}

-- what is known of a `genmove`
pub record IsGenmove (before : RightEngine) (entry : Asked) (colour : Colour) : Type 0 where
  pub due : entry.due ≡ Chooses colour
  pub command : IsGenmoveOf colour entry.command
  pub given : (ch : Choice) → answer before.game (line_of_asked entry) ch ≡ answer_choice before.game colour ch
  pub asks : asked before.game (line_of_asked entry) ≡ Some colour
  pub is_due : IsDue before entry.command (Chooses colour)

pub asks_of : (before : RightEngine) (entry : Asked) (colour : Colour) → entry.due ≡ Chooses colour
    → IsDue before entry.command (Chooses colour) → IsGenmove before entry colour
asks_of before entry colour is due =
    let e = chooses_genmove before entry.command colour due in
    record {
      due = is;
      command = e.0;
      given = λ ch. genmove_given before.game entry.id entry.command colour ch e.0 e.1;
      asks = genmove_asked before.game entry.id entry.command colour e.0 e.1;
      is_due = due;
    }

-- a right answer to a `genmove` is one by the table
tabled : (before : RightEngine) (entry : Asked) (reply : Reply) (colour : Colour) (after : RightEngine)
    → IsGenmove before entry colour → IsRight before entry reply after → IsByTable before entry reply after
tabled before entry reply colour after a right =
    by_table before entry reply after (Chooses colour) a.is_due (λ f. f) right

choice_ok : (game : GameRecord) (colour : Colour) (ch : Choice) → (answer_choice game colour ch).ok ≡ true
choice_ok game colour choice.Resign = refl
choice_ok game colour (choice.Play v) = refl

-- the choice that a right answer makes is the one that is said
right_choice : (before : RightEngine) (entry : Asked) (reply : Reply) (colour : Colour) (after : RightEngine)
    → IsGenmove before entry colour → reply.ok ≡ true → (right : IsByTable before entry reply after)
    → choice_of_text reply.text.items ≡ Some right.choice
right_choice before entry reply colour after a ok right =
    genmove_said before entry.command colour right.choice reply.text.items a.command
    (subst (λ (b : Bool). Says before entry.command right.choice b reply.text.items) ok right.says)

right_lawful : (before : RightEngine) (entry : Asked) (reply : Reply) (colour : Colour) (after : RightEngine)
    → IsGenmove before entry colour → (right : IsByTable before entry reply after)
    → IsLawful before.game colour right.choice
right_lawful before entry reply colour after a right =
    subst (λ (o : Option Colour). IfSome o (λ c. IsLawful before.game c right.choice)) a.asks right.lawful

-- whether an `undo` has succeeded since the last move, once this was chosen
undone_chosen : (undone : Bool) (command : CheckCommand) (reply : Reply) (colour : Colour) (ch : Choice)
    → IsGenmoveOf colour command → reply.ok ≡ true → choice_of_text reply.text.items ≡ Some ch
    → undone_after undone command reply ≡ undone_by undone (Genmove colour) (Some ch)
undone_chosen undone command reply colour ch is ok said =
    genmove_undone undone command colour reply is
    ∙ if_true reply.ok (undone_by undone (Genmove colour) (choice_of_text reply.text.items)) undone ok
    ∙ ap (undone_by undone (Genmove colour)) said

chosen_right : (before : RightEngine) (entry : Asked) (reply : Reply) (colour : Colour) (ch : Choice)
    → IsGenmove before entry colour → reply.id ≡ Some entry.id → reply.ok ≡ true
    → choice_of_text reply.text.items ≡ Some ch → IsLawful before.game colour ch
    → IsRight before entry reply
    (engine_with (answer_choice before.game colour ch).game (undone_by before.undone (Genmove colour) (Some ch))
    before.opinion)
chosen_right before entry reply colour ch a id ok said lawful =
    subst (λ (u : Bool). IsRight before entry reply
    (engine_with (answer_choice before.game colour ch).game u before.opinion))
    (undone_chosen before.undone entry.command reply colour ch a.command ok said)
    (subst (λ (o : Opinion). IsRight before entry reply
    (engine_with (answer_choice before.game colour ch).game (undone_after before.undone entry.command reply) o))
    (opinion_kept before entry.command (Chooses colour) reply a.is_due tt)
    (IsRight.by_table (record {
      id = id;
      choice = ch;
      lawful = subst (λ (o : Option Colour). IfSome o (λ c. IsLawful before.game c ch)) (sym a.asks) lawful;
      status = ok ∙ sym (ap (λ (x : Answer). x.ok) (a.given ch) ∙ choice_ok before.game colour ch);
      says =
          subst (λ (b : Bool). Says before entry.command ch b reply.text.items) (sym ok)
          (genmove_says before entry.command colour ch reply.text.items a.command said);
      leaves =
          ap (λ (x : Answer). engine_with x.game (undone_after before.undone entry.command reply)
          (opinion_after before entry.command reply)) (sym (a.given ch));
    })))

unlawful_choice : (before : RightEngine) (entry : Asked) (reply : Reply) (colour : Colour) (v : Vertex)
    (fault : PlayFault)
    → IsGenmove before entry colour → reply.ok ≡ true → choice_of_text reply.text.items ≡ Some (choice.Play v)
    → RefusesVertex before.game colour v fault → (after : RightEngine) → IsRight before entry reply after → ⊥
unlawful_choice before entry reply colour v fault a ok said j after given =
    let right = tabled before entry reply colour after a given in
    let same : Some right.choice ≡ Some (choice.Play v) =
    sym (right_choice before entry reply colour after a ok right) ∙ said in
    let is : right.choice ≡ choice.Play v = cc same in
    vertex_unlawful before.game colour v fault j
    (subst (IsLawful before.game colour) is (right_lawful before entry reply colour after a right))

vertex_holds : (before : RightEngine) (entry : Asked) (reply : Reply) (colour : Colour) (v : Vertex) (got : Judgement)
    → IsGenmove before entry colour → reply.id ≡ Some entry.id → reply.ok ≡ true
    → choice_of_text reply.text.items ≡ Some (choice.Play v) → VertexJudged before.game colour v got
    → HoldsOf before entry reply got
vertex_holds before entry reply colour v Right a id ok said j = absurd j
vertex_holds before entry reply colour v (Plays by at) a id ok said j =
    subst (λ (c : Colour). IsRight before entry reply (moved before c at)) (sym j.0)
    (subst (λ (w : Vertex). IsRight before entry reply (moved before colour w)) (sym j.1)
    (chosen_right before entry reply colour (choice.Play v) a id ok said j.2))
vertex_holds before entry reply colour v (Wrong (Unlawful fault)) a id ok said j =
    (unlawful_choice before entry reply colour v fault a ok said j, (ok, (colour, v, a.due, said, j)))
vertex_holds before entry reply colour v (Resized s) a id ok said j = absurd j
vertex_holds before entry reply colour v Undone a id ok said j = absurd j
vertex_holds before entry reply colour v (Opines opinion) a id ok said j = absurd j
vertex_holds before entry reply colour v (Wrong Refused) a id ok said j = absurd j
vertex_holds before entry reply colour v (Wrong (Took cause)) a id ok said j = absurd j
vertex_holds before entry reply colour v (Wrong OtherPoints) a id ok said j = absurd j
vertex_holds before entry reply colour v (Wrong NoMove) a id ok said j = absurd j
vertex_holds before entry reply colour v (Wrong NoVertex) a id ok said j = absurd j
vertex_holds before entry reply colour v (Wrong NoScore) a id ok said j = absurd j
vertex_holds before entry reply colour v (Wrong OtherScore) a id ok said j = absurd j
vertex_holds before entry reply colour v (Wrong WrongId) a id ok said j = absurd j
vertex_holds before entry reply colour v (Wrong Unasked) a id ok said j = absurd j
vertex_holds before entry reply colour v (Wrong NoStatus) a id ok said j = absurd j
vertex_holds before entry reply colour v (Wrong Overlong) a id ok said j = absurd j
vertex_holds before entry reply colour v (Wrong Unlisted) a id ok said j = absurd j

no_choice : (before : RightEngine) (entry : Asked) (reply : Reply) (colour : Colour)
    → IsGenmove before entry colour → reply.ok ≡ true → choice_of_text reply.text.items ≡ None
    → (after : RightEngine) → IsRight before entry reply after → ⊥
no_choice before entry reply colour a ok said after given =
    let right = tabled before entry reply colour after a given in
    let e : Some right.choice ≡ None = sym (right_choice before entry reply colour after a ok right) ∙ said in cc e

said_holds : (before : RightEngine) (entry : Asked) (reply : Reply) (colour : Colour) (said : Option Choice)
    (got : Judgement) → IsGenmove before entry colour → reply.id ≡ Some entry.id → reply.ok ≡ true
    → choice_of_text reply.text.items ≡ said → SaidJudged before.game colour said got
    → HoldsOf before entry reply got
said_holds before entry reply colour None got a id ok said j =
    subst (HoldsOf before entry reply) (sym j) (
      no_choice before entry reply colour a ok said,
      (
        ok,
        (
          colour,
          a.due,
        ),
        said,
      ),
    )
said_holds before entry reply colour (Some choice.Resign) got a id ok said j =
    subst (HoldsOf before entry reply) (sym j)
    (as_due before entry reply (Chooses colour) a.due
    (chosen_right before entry reply colour choice.Resign a id ok said tt))
said_holds before entry reply colour (Some (choice.Play v)) got a id ok said j =
    vertex_holds before entry reply colour v got a id ok said j

pub choice_holds : (before : RightEngine) (entry : Asked) (reply : Reply) (colour : Colour) (ok : Bool)
    (got : Judgement) → IsGenmove before entry colour → reply.id ≡ Some entry.id → reply.ok ≡ ok
    → ChoiceJudged before.game colour ok (choice_of_text reply.text.items) got
    → HoldsOf before entry reply got
choice_holds before entry reply colour false got a id ok j =
    subst (HoldsOf before entry reply) (sym j) (
      wrong_status before entry reply (Chooses colour) false true a.is_due (λ f. f) ok
          (λ ch. ap (λ (x : Answer). x.ok) (a.given ch) ∙ choice_ok before.game colour ch) (λ e. cc e),
      (ok, (colour, a.due)),
    )
choice_holds before entry reply colour true got a id ok j =
    said_holds before entry reply colour (choice_of_text reply.text.items) got a id ok refl j
