-- Of bytes that are heard once, a loss is reported exactly where they show a fault or a side is blamed.
use Rattle.std.proofs.Common.{◌≡◌, ℕ, List, length, Option, Some, None, Bool, true, false}
use Rattle.std.proofs.Common.{refl, sym, subst, cond, inl, inr, ◌∙◌}
use Rattle.std.specs.Prelude.{◌↔◌, ◌==◌, ℤ, IsSome, IfSome, option_map}
use Rattle.go_base.specs.Colour.{other}
use Rattle.go_base.specs.Decide.{holds}
use Rattle.go_base.specs.declared.choices.Choice.{Choice}
use Rattle.go_base.specs.declared.choices.Choice.TheVariants as choice
use Rattle.go_base.specs.declared.colours.Colour.{Colour}
use Rattle.go_base.specs.declared.vertices.Vertex.{Vertex}
use Rattle.go_board.specs.Area.{score}
use Rattle.go_board.specs.Game.{GameRecord, IsLegal, with_move}
use Rattle.go_board.specs.decisions.Game.{finished?, legal?}
use Rattle.gtp_wire.specs.declared.commands.Command.{Command}
use Rattle.gtp_wire.specs.declared.commands.Command.TheVariants as command
use Rattle.gtp_wire.specs.declared.replies.Reply.{Reply}
use Rattle.gtp_match.specs.Losing.{HasLossCause, BreaksRule, CauseFits, loss_of}
use Rattle.gtp_match.specs.ReplyTable.{outcome, outcome_of, genmove_outcome, choice_outcome, script_outcome}
use Rattle.gtp_match.specs.ReplyTable.{play_outcome, undo_outcome, has_id, after_outcome, fault_of, refused, retaken_at}
use Rattle.gtp_wire.specs.ReplyWords.{choice_of_text}
use Rattle.gtp_match.specs.Sides.{side_of, heard_reply}
use Rattle.gtp_match.specs.Taking.{may_retake, has_all}
use Rattle.gtp_match.specs.Unanswered.{oldest}
use Rattle.gtp_match.specs.declared.controller.Controller.{Controller}
use Rattle.gtp_match.specs.declared.losses.Loss.{Loss}
use Rattle.gtp_match.specs.declared.losses.LossCause.{LossCause}
use Rattle.gtp_match.specs.declared.losses.LossCause.TheVariants.{Shows, RefusesPlay, KeepsMove, Illegal}
use Rattle.gtp_match.specs.declared.losses.LossCause.TheVariants as why
use Rattle.gtp_match.specs.declared.sides.EngineRun.{EngineRun}
use Rattle.gtp_match.specs.declared.reply_table.Outcome.{Outcome}
use Rattle.gtp_match.specs.declared.reply_table.Outcome.TheVariants.{Down, Unfit, Forfeits, Confirms, Resigns, Moves}
use Rattle.gtp_match.specs.declared.reply_table.Outcome.TheVariants.{Refuses, TakesBack, Keeps}
use Rattle.gtp_match.specs.declared.unanswered.SentCommand.{SentCommand}
use Rattle.gtp_match.specs.declared.verdicts.ForfeitCause.{ForfeitCause}
use Rattle.gtp_match.specs.declared.verdicts.ForfeitCause.TheVariants.{RefusedPlay, NoMove, NoVertex, IllegalMove}
use Rattle.gtp_match.specs.declared.verdicts.SideFault.{SideFault}
use Rattle.gtp_match.specs.declared.verdicts.SideFault.TheVariants.{WrongId}
use Rattle.gtp_match.specs.declared.verdicts.Verdict.{Verdict}
use Rattle.gtp_match.specs.declared.verdicts.Verdict.TheVariants as verdict

-- Bytes show a fault; or there was no verdict, and by the new one a side forfeits or is unfit.
pub data LosesBy (c new : Controller) (fault : Option SideFault) : Type 0 where
  shows : IsSome fault → LosesBy c new fault
  forfeits : {loser : Colour} {cause : ForfeitCause} → c.verdict ≡ None
      → new.verdict ≡ Some (verdict.Forfeit loser cause)
      → LosesBy c new fault
  is_unfit : {loser : Colour} → c.verdict ≡ None → new.verdict ≡ Some (verdict.Unfit loser) → LosesBy c new fault

-- ---- an illegal move

-- the side chose a vertex that isn't legal for it
abbrev pub IsIllegal : GameRecord → Colour → Option Choice → Type 0
IsIllegal game side x = (v : Vertex) × (x ≡ Some (choice.Play v)) × ¬ IsLegal game side v

vertex_illegal : (game : GameRecord) (side : Colour) (v : Vertex) (d : Dec (IsLegal game side v))
    → cond (holds d) (Moves v) (Forfeits IllegalMove) ≡ Forfeits IllegalMove → ¬ IsLegal game side v
vertex_illegal game side v (yes legal) e = absurd (cc)
vertex_illegal game side v (no k) e = k

choice_illegal : (game : GameRecord) (side : Colour) (x : Option Choice)
    → choice_outcome game side x ≡ Forfeits IllegalMove → IsIllegal game side x
choice_illegal game side None e = absurd (cc)
choice_illegal game side (Some choice.Resign) e = absurd (cc)
choice_illegal game side (Some (choice.Play v)) e =
    (v, refl, vertex_illegal game side v (legal? game side v) e)

genmove_illegal : (game : GameRecord) (side : Colour) (reply : Reply)
    → genmove_outcome game side reply ≡ Forfeits IllegalMove → IsIllegal game side (choice_of_text reply.text.items)
genmove_illegal game side reply e = by_ok reply.ok refl
  where
    by_ok : (ok : Bool) → reply.ok ≡ ok → IsIllegal game side (choice_of_text reply.text.items)
    by_ok true ok = choice_illegal game side (choice_of_text reply.text.items) (rw ok at e)
    by_ok false ok = let no : Forfeits NoMove ≡ Forfeits IllegalMove = rw ok at e in absurd (cc)

script_legal : (ok : Bool) → script_outcome ok ≡ Forfeits IllegalMove → ⊥
script_legal true e = cc
script_legal false e = cc

play_legal : (ok : Bool) → play_outcome ok ≡ Forfeits IllegalMove → ⊥
play_legal true e = cc
play_legal false e = cc

undo_legal : (ok : Bool) → undo_outcome ok ≡ Forfeits IllegalMove → ⊥
undo_legal true e = cc
undo_legal false e = cc

answer_illegal : (game : GameRecord) (side : Colour) (k : Command) (reply : Reply)
    → outcome_of game side k reply ≡ Forfeits IllegalMove → IsIllegal game side (choice_of_text reply.text.items)
answer_illegal game side (command.Boardsize size) reply e = absurd (script_legal reply.ok e)
answer_illegal game side (command.Komi komi) reply e = absurd (script_legal reply.ok e)
answer_illegal game side command.ClearBoard reply e = absurd (script_legal reply.ok e)
answer_illegal game side (command.FixedHandicap stones) reply e = absurd (script_legal _ e)
answer_illegal game side (command.Play move) reply e = absurd (play_legal reply.ok e)
answer_illegal game side (command.Genmove colour) reply e = genmove_illegal game side reply e
answer_illegal game side command.Undo reply e = absurd (undo_legal reply.ok e)
answer_illegal game side command.Quit reply e = absurd (script_legal reply.ok e)

move_illegal : (game : GameRecord) (side : Colour) (o : Option SentCommand) (reply : Reply)
    → outcome game side o reply ≡ Forfeits IllegalMove → IsIllegal game side (choice_of_text reply.text.items)
move_illegal game side None reply e = absurd (cc)
move_illegal game side (Some entry) reply e = by_id (has_id reply.id entry.id) refl
  where
    by_id : (same : Bool) → has_id reply.id entry.id ≡ same → IsIllegal game side (choice_of_text reply.text.items)
    by_id true same = answer_illegal game side entry.command reply (rw same at e)
    by_id false same = let no : Down WrongId ≡ Forfeits IllegalMove = rw same at e in absurd (cc)

-- so it breaks a rule
rule_broken : (game : GameRecord) (side : Colour) (x : Option Choice) (cause : Option LossCause)
    → IsIllegal game side x → BreaksRule game side x cause → IsSome cause
rule_broken game side x cause (v, is, illegal) breaks =
    by_rule (subst (λ (y : Option Choice). BreaksRule game side y cause) is breaks)
  where
    by_rule : BreaksRule game side (Some (choice.Play v)) cause → IsSome cause
    by_rule (inl legal) = absurd (illegal legal.1)
    by_rule (inr broken) = subst (λ (y : Option LossCause). IsSome y) (sym broken.1) refl

-- ---- no side is lost

-- no verdict by which a side forfeits or is unfit
abbrev IsNoBlame : Option Verdict → Type 0
IsNoBlame given =
    ((s : Colour) (cause : ForfeitCause) → given ≡ Some (verdict.Forfeit s cause) → ⊥)
    × ((s : Colour) → given ≡ Some (verdict.Unfit s) → ⊥)

no_verdict : IsNoBlame None
no_verdict = ((λ s cause e. cc), (λ s e. cc))

resigned : (side : Colour) → IsNoBlame (Some (verdict.Resign side))
resigned side = ((λ s cause e. cc), (λ s e. cc))

end_of_moves : (passes full : Bool) (n : ℤ)
    → IsNoBlame (cond passes (Some (verdict.Score n)) (cond full (Some verdict.Limit) None))
end_of_moves true full n = ((λ s cause e. cc), (λ s e. cc))
end_of_moves false true n = ((λ s cause e. cc), (λ s e. cc))
end_of_moves false false n = ((λ s cause e. cc), (λ s e. cc))

none_lost : (c new : Controller) (fault : Option SideFault) → fault ≡ None
    → (c.verdict ≡ None → IsNoBlame new.verdict) → LosesBy c new fault → ⊥
none_lost c new fault none blame (LosesBy.shows some) =
    let no : IsSome {T = SideFault} None = subst (λ (f : Option SideFault). IsSome f) none some in absurd (cc)
none_lost c new fault none blame (LosesBy.forfeits {loser = s} {cause = cause} before given) =
    (blame before).0 s cause given
none_lost c new fault none blame (LosesBy.is_unfit {loser = s} before given) = (blame before).1 s given

-- nothing is reported, and no side fails
neither : {A : Type 0} (is_given : Option A) (c new : Controller) (fault : Option SideFault) → is_given ≡ None → fault ≡ None
    → (c.verdict ≡ None → IsNoBlame new.verdict) → IsSome is_given ↔ LosesBy c new fault
neither {A} is_given c new fault nothing none blame = (
  (λ some. let no : IsSome {T = A} None = subst (λ (o : Option A). IsSome o) nothing some in absurd (cc)),
  (λ lost. absurd (none_lost c new fault none blame lost)),
)

-- something is reported, and a side fails
both : {A : Type 0} (is_given : Option A) (c new : Controller) (fault : Option SideFault) → IsSome is_given
    → LosesBy c new fault → IsSome is_given ↔ LosesBy c new fault
both is_given c new fault some lost = ((λ x. lost), (λ x. some))

is_reported : {A : Type 0} (is_given : Option A) (x : A) → is_given ≡ Some x → IsSome is_given
is_reported {A} is_given x e = subst (λ (o : Option A). IsSome o) (sym e) refl

-- ---- a reply

abbrev CauseIsLoss : Controller → Colour → EngineRun → Outcome → Option LossCause → Type 0
CauseIsLoss c side engine o cause =
    IsSome cause ↔ LosesBy c (after_outcome c side (heard_reply engine) o) (fault_of o)

refused_is : (c : Controller) (side : Colour) (engine : EngineRun) (cause : Option LossCause) (may : Bool)
    → c.verdict ≡ None → cause ≡ cond may None (Some RefusesPlay)
    → IsSome cause ↔ LosesBy c (refused c side (heard_reply engine) may) None
refused_is c side engine cause false none e =
    both cause c _ None (is_reported cause RefusesPlay e) (LosesBy.forfeits none refl)
refused_is c side engine cause true none e = by_held (has_all c.game (side_of c.sides (other side)).up)
  where
    stays : IsNoBlame c.verdict
    stays = subst IsNoBlame (sym none) no_verdict

    by_held : (held : Bool) → IsSome cause ↔ LosesBy c (retaken_at c side (heard_reply engine) held) None
    by_held true = neither cause c _ None e refl (λ x. stays)
    by_held false = neither cause c _ None e refl (λ x. stays)

cause_is_loss : (c : Controller) (side : Colour) (engine : EngineRun) (reply : Reply) (o : Outcome)
    (cause : Option LossCause) → c.verdict ≡ None → outcome c.game side (oldest engine.unanswered) reply ≡ o
    → HasLossCause c side engine reply o cause → CauseIsLoss c side engine o cause
cause_is_loss c side engine reply (Down fault) cause none e is =
    both cause c _ (Some fault) (is_reported cause _ is) (LosesBy.shows refl)
cause_is_loss c side engine reply Unfit cause none e is =
    both cause c _ None (is_reported cause _ is) (LosesBy.is_unfit none refl)
cause_is_loss c side engine reply (Forfeits RefusedPlay) cause none e is =
    both cause c _ None (is_reported cause _ is) (LosesBy.forfeits none refl)
cause_is_loss c side engine reply (Forfeits NoMove) cause none e is =
    both cause c _ None (is_reported cause _ is) (LosesBy.forfeits none refl)
cause_is_loss c side engine reply (Forfeits NoVertex) cause none e is =
    both cause c _ None (is_reported cause _ is) (LosesBy.forfeits none refl)
cause_is_loss c side engine reply (Forfeits IllegalMove) cause none e is =
    both cause c _ None
    (rule_broken c.game side (choice_of_text reply.text.items) cause
    (move_illegal c.game side (oldest engine.unanswered) reply e) is)
    (LosesBy.forfeits none refl)
cause_is_loss c side engine reply Confirms cause none e is =
    neither cause c _ None is refl (λ x. subst IsNoBlame (sym none) no_verdict)
cause_is_loss c side engine reply Resigns cause none e is = neither cause c _ None is refl (λ x. resigned side)
cause_is_loss c side engine reply (Moves v) cause none e is =
    neither cause c _ None is refl (λ x. end_of_moves (holds (finished? (with_move c.game side v)))
    (length (with_move c.game side v).moves == c.setup.max_moves) (score (with_move c.game side v)))
cause_is_loss c side engine reply Refuses cause none e is =
    refused_is c side engine cause (may_retake c side engine) none is
cause_is_loss c side engine reply TakesBack cause none e is =
    neither cause c _ None is refl (λ x. subst IsNoBlame (sym none) no_verdict)
cause_is_loss c side engine reply Keeps cause none e is =
    both cause c _ None (is_reported cause _ is) (LosesBy.forfeits none refl)

-- ---- the cause of a reply fits what it leaves

fits_none : (P : LossCause → Type 0) (cause : Option LossCause) → cause ≡ None → IfSome cause P
fits_none P cause e = subst (λ (o : Option LossCause). IfSome o P) (sym e) tt

fits_one : (P : LossCause → Type 0) (cause : Option LossCause) (x : LossCause) → cause ≡ Some x → P x → IfSome cause P
fits_one P cause x e fits = subst (λ (o : Option LossCause). IfSome o P) (sym e) fits

abbrev Fits : Controller → Colour → EngineRun → Outcome → LossCause → Type 0
Fits c side engine o = CauseFits (after_outcome c side (heard_reply engine) o) side (fault_of o)

refused_fits : (c : Controller) (side : Colour) (engine : EngineRun) (cause : Option LossCause) (may : Bool)
    → cause ≡ cond may None (Some RefusesPlay)
    → IfSome cause (CauseFits (refused c side (heard_reply engine) may) side None)
refused_fits c side engine cause false e = fits_one _ cause RefusesPlay e refl
refused_fits c side engine cause true e = fits_none _ cause e

rule_fits : (c : Controller) (side : Colour) (engine : EngineRun) (x : Option Choice) (cause : Option LossCause)
    → BreaksRule c.game side x cause → IfSome cause (Fits c side engine (Forfeits IllegalMove))
rule_fits c side engine None cause is = fits_none _ cause is
rule_fits c side engine (Some choice.Resign) cause is = fits_none _ cause is
rule_fits c side engine (Some (choice.Play v)) cause (inl legal) = fits_none _ cause legal.0
rule_fits c side engine (Some (choice.Play v)) cause (inr (fault, is, breaks)) =
    fits_one (Fits c side engine (Forfeits IllegalMove)) cause (Illegal fault) is refl

cause_fits : (c : Controller) (side : Colour) (engine : EngineRun) (reply : Reply) (o : Outcome)
    (cause : Option LossCause) → HasLossCause c side engine reply o cause → IfSome cause (Fits c side engine o)
cause_fits c side engine reply (Down fault) cause is =
    fits_one (Fits c side engine (Down fault)) cause (Shows fault) is refl
cause_fits c side engine reply Unfit cause is =
    fits_one (Fits c side engine Unfit) cause why.Unfit is refl
cause_fits c side engine reply (Forfeits RefusedPlay) cause is =
    fits_one (Fits c side engine (Forfeits RefusedPlay)) cause RefusesPlay is refl
cause_fits c side engine reply (Forfeits NoMove) cause is =
    fits_one (Fits c side engine (Forfeits NoMove)) cause why.NoMove is refl
cause_fits c side engine reply (Forfeits NoVertex) cause is =
    fits_one (Fits c side engine (Forfeits NoVertex)) cause why.NoVertex is refl
cause_fits c side engine reply (Forfeits IllegalMove) cause is =
    rule_fits c side engine (choice_of_text reply.text.items) cause is
cause_fits c side engine reply Confirms cause is = fits_none _ cause is
cause_fits c side engine reply Resigns cause is = fits_none _ cause is
cause_fits c side engine reply (Moves v) cause is = fits_none _ cause is
cause_fits c side engine reply Refuses cause is = refused_fits c side engine cause (may_retake c side engine) is
cause_fits c side engine reply TakesBack cause is = fits_none _ cause is
cause_fits c side engine reply Keeps cause is = fits_one (Fits c side engine Keeps) cause KeepsMove is refl

-- ---- an engine that is up

-- a cause is reported where there is one
given_with : (engine : EngineRun) (text : List ℕ) (cause : Option LossCause) (X : Type 0) → IsSome cause ↔ X
    → IsSome (option_map (loss_of engine text) cause) ↔ X
given_with engine text None X h = h
given_with engine text (Some x) X h = h

fits_with : (engine : EngineRun) (text : List ℕ) (cause : Option LossCause) (P : LossCause → Type 0)
    → IfSome cause P → IfSome (option_map (loss_of engine text) cause) (λ l. P l.cause)
fits_with engine text None P fits = tt
fits_with engine text (Some x) P fits = fits

-- what is reported of bytes that are heard once: a loss exactly where one comes of them, and its cause fits
abbrev pub IsJust : Controller → Controller → Colour → Option SideFault → Option Loss → Type 0
IsJust c new side fault loss = (IsSome loss ↔ LosesBy c new fault) × IfSome loss (λ l. CauseFits new side fault l.cause)

pub reply_just : (c : Controller) (side : Colour) (engine : EngineRun) (reply : Reply) (text : List ℕ)
    (cause : Option LossCause) → c.verdict ≡ None
    → HasLossCause c side engine reply (outcome c.game side (oldest engine.unanswered) reply) cause
    → IsJust c (after_outcome c side (heard_reply engine) (outcome c.game side (oldest engine.unanswered) reply)) side
    (fault_of (outcome c.game side (oldest engine.unanswered) reply)) (option_map (loss_of engine text) cause)
reply_just c side engine reply text cause none has =
    let o = outcome c.game side (oldest engine.unanswered) reply in (
      given_with engine text cause (LosesBy c (after_outcome c side (heard_reply engine) o) (fault_of o))
          (cause_is_loss c side engine reply o cause none refl has),
      fits_with engine text cause (Fits c side engine o) (cause_fits c side engine reply o cause has),
    )

pub fault_just : (c new : Controller) (side : Colour) (loss : Loss) (shown : SideFault) → loss.cause ≡ Shows shown
    → IsJust c new side (Some shown) (Some loss)
fault_just c new side loss shown is = (
  both (Some loss) c new (Some shown) refl (LosesBy.shows refl),
  subst (λ (x : LossCause). CauseFits new side (Some shown) x) (sym is) refl,
)

pub quiet_just : (c new : Controller) (side : Colour) → c.verdict ≡ None → new.verdict ≡ c.verdict
    → IsJust c new side None None
quiet_just c new side none same =
    (neither {A = Loss} None c new None refl refl (λ x. subst IsNoBlame (sym (same ∙ none)) no_verdict), tt)
