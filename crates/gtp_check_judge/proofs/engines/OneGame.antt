-- A right answer leaves one engine.
use Rattle.std.proofs.Common.{◌≡◌, Bool, true, false, List, [], ◌∷◌, ◌++◌, Option, Some}
use Rattle.std.proofs.Common.{None, refl, sym, ◌∙◌, ap, subst}
use Rattle.go_base.specs.declared.colours.Colour.{Colour}
use Rattle.go_base.specs.declared.choices.Choice.{Choice}
use Rattle.go_board.specs.Game.{GameRecord}
use Rattle.gtp_check_judge.specs.declared.asking.CheckCommand.{CheckCommand}
use Rattle.gtp_wire.specs.declared.replies.Reply.{Reply}
use Rattle.gtp_check_judge.specs.Asking.{IsCheckInLimits}
use Rattle.gtp_session.specs.Commands.{Answer, answer, asked}
use Rattle.gtp_session.proofs.table.Asking.{answer-same, answer-asked}
use Rattle.gtp_check_judge.specs.declared.unanswered.Asked.{Asked}
use Rattle.gtp_wire.specs.ReplyWords.{choice_of_text}
use Rattle.gtp_check_judge.specs.Laws.{line_of_asked, Says, IsByTable, IsRefusal, IsRight}
use Rattle.gtp_check_judge.specs.RightEngine.{RightEngine, undone_after, opinion_after}
use Rattle.gtp_check_judge.specs.Laws.{Exchange, AllRight}
use Rattle.gtp_check_judge.proofs.answers.Statuses.{engine_with}
use Rattle.gtp_check_judge.proofs.commands.InFull.{genmove_said}
use Rattle.gtp_check_judge.proofs.engines.Says.{asked_genmove, choice_succeeds, never_refused}

-- ---- right answers, from the first on

abbrev pub RightsFrom : RightEngine → List Exchange → RightEngine → Type 0
RightsFrom game [] after = after ≡ game
RightsFrom game (x ∷ xs) after = (mid : RightEngine) × IsRight game x.entry x.reply mid × RightsFrom mid xs after

rights_more : (game : RightEngine) (xs : List Exchange) (mid : RightEngine) (entry : Asked) (reply : Reply)
    (after : RightEngine) → RightsFrom game xs mid → IsRight mid entry reply after
    → RightsFrom game (xs ++ record { entry = entry; reply = reply } ∷ []) after
rights_more game [] mid entry reply after h right =
    (after, subst (λ (g : RightEngine). IsRight g entry reply after) h right, refl)
rights_more game (x ∷ xs) mid entry reply after h right = (h.0, h.1, rights_more h.0 xs mid entry reply after h.2 right)

pub rights_from : (game : RightEngine) (xs : List Exchange) (after : RightEngine) → AllRight game xs after
    → RightsFrom game xs after
rights_from game xs after AllRight.nothing = refl
rights_from game xs after (AllRight.one_more {said = said} {before = before} entry reply all right) =
    rights_more game said before entry reply after (rights_from game said before all) right

-- the game that an answer by the table leaves
tabled_game : (before : RightEngine) (entry : Asked) (reply : Reply) (a b : RightEngine)
    → (x : IsByTable before entry reply a) → (y : IsByTable before entry reply b)
    → (answer before.game (line_of_asked entry) x.choice).game ≡ (answer before.game
    (line_of_asked entry) y.choice).game
tabled_game before entry reply a b x y = by (asked before.game (line_of_asked entry)) refl
  where
    by : (o : Option Colour) → asked before.game (line_of_asked entry) ≡ o
        → (answer before.game (line_of_asked entry) x.choice).game
        ≡ (answer before.game (line_of_asked entry) y.choice).game
    by None e =
        ap (λ (given : Answer). given.game) (answer-same before.game (line_of_asked entry) x.choice y.choice e)
    by (Some colour) e =
        let command = asked_genmove before.game entry.id entry.command colour e in
        let ok : reply.ok ≡ true =
        x.status
        ∙ ap (λ (given : Answer). given.ok) (answer-asked before.game (line_of_asked entry) x.choice colour e)
        ∙ choice_succeeds before.game colour x.choice in
        let one : choice_of_text reply.text.items ≡ Some x.choice =
        genmove_said before entry.command command.0 x.choice reply.text.items command.1
        (subst (λ (s : Bool). Says before entry.command x.choice s reply.text.items) ok x.says) in
        let two : choice_of_text reply.text.items ≡ Some y.choice =
        genmove_said before entry.command command.0 y.choice reply.text.items command.1
        (subst (λ (s : Bool). Says before entry.command y.choice s reply.text.items) ok y.says) in
        let both : Some x.choice ≡ Some y.choice = sym one ∙ two in
        let same : x.choice ≡ y.choice = cc both in
        ap (λ (c : Choice). (answer before.game (line_of_asked entry) c).game) same

one_tabled : (before : RightEngine) (entry : Asked) (reply : Reply) (a b : RightEngine)
    → IsByTable before entry reply a → IsByTable before entry reply b → a ≡ b
one_tabled before entry reply a b x y =
    x.leaves
    ∙ ap (λ (g : GameRecord). engine_with g (undone_after before.undone entry.command reply)
    (opinion_after before entry.command reply))
    (tabled_game before entry reply a b x y) ∙ sym y.leaves

not_both : (before : RightEngine) (entry : Asked) (reply : Reply) (a b : RightEngine) → IsCheckInLimits entry.command
    → IsByTable before entry reply a → IsRefusal before entry reply b → ⊥
not_both before entry reply a b limits x y =
    let e : false ≡ true =
    sym y.status ∙ x.status ∙ never_refused before entry.id entry.command x.choice y.may limits in cc e

pub one_right : (before : RightEngine) (entry : Asked) (reply : Reply) (a b : RightEngine)
    → IsCheckInLimits entry.command
    → IsRight before entry reply a → IsRight before entry reply b → a ≡ b
one_right before entry reply a b limits (IsRight.by_table x) (IsRight.by_table y) =
    one_tabled before entry reply a b x y
one_right before entry reply a b limits (IsRight.by_table x) (IsRight.by_refusal y) =
    absurd (not_both before entry reply a b limits x y)
one_right before entry reply a b limits (IsRight.by_refusal x) (IsRight.by_table y) =
    absurd (not_both before entry reply b a limits y x)
one_right before entry reply a b limits (IsRight.by_refusal x) (IsRight.by_refusal y) = x.leaves ∙ sym y.leaves
