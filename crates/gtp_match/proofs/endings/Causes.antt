-- Each move came by a reply, and each verdict has its cause.
use Rattle.std.proofs.Common.{◌≡◌, ℕ, List, length, Option, Some, None, Bool, true, false, refl, sym, ◌∙◌, ap, subst}
use Rattle.std.proofs.Common.{cond, eqb, inl, inr, arith}
use Rattle.std.specs.Prelude.{◌⊎◌, ℤ, IsSome, nat_lt}
use Rattle.std.proofs.lemmas.Bool.Decides.{nat_tests}
use Rattle.go_base.specs.Decide.{holds}
use Rattle.go_base.specs.Colour.{other}
use Rattle.go_base.specs.declared.colours.Colour.{Colour}
use Rattle.go_base.specs.declared.vertices.Vertex.{Vertex}
use Rattle.go_board.specs.Area.{score}
use Rattle.go_board.specs.decisions.Game.{finished?}
use Rattle.go_board.specs.Game.{GameRecord, with_move, without_last}
use Rattle.gtp_wire.specs.declared.replies.Reply.{Reply}
use Rattle.gtp_match.specs.Controller.{started, sent, sent_to, downed, lost, lost_engine, verdict_when_down}
use Rattle.gtp_match.specs.Hearing.{Hears}
use Rattle.gtp_match.specs.ReplyTable.{outcome, after_outcome, fault_of, refused, retaken_at}
use Rattle.gtp_match.specs.Replying.{EndsReply, HearsReply, MakesMove, PlayFails, WhyTakenBack, TakesMoveBack}
use Rattle.gtp_match.specs.Replying.{HasConfirmedAll, IsForfeit, IsForfeited, IsAnsweredOnly, HasCause}
use Rattle.gtp_match.specs.Script.{script}
use Rattle.gtp_match.specs.Sides.{side_of, heard_reply, answered}
use Rattle.gtp_match.specs.Taking.{is_maker, taking_back, takes_back, may_retake, has_all}
use Rattle.gtp_match.specs.Unanswered.{oldest}
use Rattle.gtp_match.specs.declared.controller.Controller.{Controller}
use Rattle.gtp_match.specs.declared.sides.EngineRun.{EngineRun}
use Rattle.gtp_match.specs.declared.reply_table.Outcome.{Outcome}
use Rattle.gtp_match.specs.declared.reply_table.Outcome.TheVariants.{Down, Unfit, Forfeits, Confirms, Resigns, Moves}
use Rattle.gtp_match.specs.declared.reply_table.Outcome.TheVariants.{Refuses, TakesBack, Keeps}
use Rattle.gtp_match.specs.declared.verdicts.ForfeitCause.{ForfeitCause}
use Rattle.gtp_match.specs.declared.verdicts.ForfeitCause.TheVariants.{RefusedPlay, NoMove, NoVertex, IllegalMove}
use Rattle.gtp_match.specs.declared.verdicts.SideFault.{SideFault}
use Rattle.gtp_match.specs.declared.verdicts.Verdict.{Verdict}
use Rattle.gtp_match.specs.declared.verdicts.Verdict.TheVariants as verdict
use Rattle.gtp_match.proofs.replies.Reasons.{Reason, IsNoFault, replies_to}
use Rattle.gtp_match.proofs.hearing.Changes.{Heard, heard, up_there, up_in}
use Rattle.gtp_match.proofs.scripts.WithoutLast.{same_is}

-- what is no fault was said in reply to the oldest command
pub is_given : (c : Controller) (s : Colour) (engine : EngineRun) (bytes : List ℕ) (used : ℕ) (reply : Reply)
    → EndsReply engine bytes used reply → (o : Outcome) → IsNoFault o
    → outcome c.game s (oldest engine.unanswered) reply ≡ o
    → HearsReply engine bytes used (λ k r. Reason c.game s k r o)
is_given c s engine bytes used reply ends o no_fault e =
    let r = replies_to c.game s (oldest engine.unanswered) reply o no_fault e in
    record {
      reply = reply;
      entry = r.entry;
      ends = ends;
      answers_oldest = r.asked_is;
      id = r.id;
      is = r.reason;
    }

made : (c new : Controller) (s : Colour) (engine : EngineRun) (bytes : List ℕ) (used : ℕ) (reply : Reply) (v : Vertex)
    → (side_of c.sides s).up ≡ Some engine → EndsReply engine bytes used reply
    → outcome c.game s (oldest engine.unanswered) reply ≡ Moves v
    → new ≡ after_outcome c s (heard_reply engine) (Moves v) → MakesMove c new s bytes used
made c new s engine bytes used reply v up ends e new_is =
    let r = replies_to c.game s (oldest engine.unanswered) reply (Moves v) (λ f x. cc) e in
    record {
      engine = engine;
      up = up;
      vertex = v;
      heard = record {
        reply = reply;
        entry = r.entry;
        ends = ends;
        answers_oldest = r.asked_is;
        id = r.id;
        is = r.reason.1;
      };
      game = ap (λ (x : Controller). x.game) new_is;
    }

-- ---- who has confirmed the script

not_confirmed : (game : GameRecord) (up : Option EngineRun) → has_all game up ≡ false → ¬ HasConfirmedAll game up
not_confirmed game None e absent = absent
not_confirmed game (Some engine) e as_many =
    let same : eqb engine.confirmed (length (script game)) ≡ true = grind (arith, nat_tests) in
    let clash : false ≡ true = sym e ∙ same in
    cc

-- ---- a move that leaves the game

pub maker_is : (p : Option Colour) (s : Colour) → is_maker p s ≡ true → p ≡ Some s
maker_is None s e = absurd (cc)
maker_is (Some m) s e = ap (λ (x : Colour). Some x) (same_is m s e)

-- the game where a side goes down
down_game : (c : Controller) (s : Colour)
    → ((downed c s).game ≡ c.game) ⊎ (taking_back c ≡ Some s) × ((downed c s).game ≡ without_last c.game)
down_game c s = by_test (takes_back c s) refl
  where
    by_test : (b : Bool) → takes_back c s ≡ b
        → (cond b (without_last c.game) c.game ≡ c.game)
        ⊎ (taking_back c ≡ Some s) × (cond b (without_last c.game) c.game ≡ without_last c.game)
    by_test false e = inl refl
    by_test true e = inr (maker_is (taking_back c) s e, refl)

taken_away : (c new : Controller) (s : Colour) (engine : EngineRun) (bytes : List ℕ) (used : ℕ)
    (fault : Option SideFault) → (side_of c.sides s).up ≡ Some engine → WhyTakenBack c s engine bytes used fault
    → new.game ≡ without_last c.game → TakesMoveBack c new s bytes used fault
taken_away c new s engine bytes used fault up why game_is =
    record { engine = engine; up = up; why = why; game = game_is }

abbrev MoveHasReply : Controller → Controller → Colour → List ℕ → ℕ → Option SideFault → Type 0
MoveHasReply c new s bytes used fault =
    (new.game ≡ c.game) ⊎ (MakesMove c new s bytes used ⊎ TakesMoveBack c new s bytes used fault)

-- a side goes down by a fault
down_leaves : (c new : Controller) (s : Colour) (engine : EngineRun) (bytes : List ℕ) (used : ℕ)
    (fault : Option SideFault) → (side_of c.sides s).up ≡ Some engine → IsSome fault → new ≡ downed c s
    → MoveHasReply c new s bytes used fault
down_leaves c new s engine bytes used fault up some new_is = by_game (down_game c s)
  where
    by_game : ((downed c s).game ≡ c.game) ⊎ (taking_back c ≡ Some s) × ((downed c s).game ≡ without_last c.game)
        → MoveHasReply c new s bytes used fault
    by_game (inl same) = inl (ap (λ (x : Controller). x.game) new_is ∙ same)
    by_game (inr taken) =
        inr (inr (taken_away c new s engine bytes used fault up (WhyTakenBack.put_down some taken.0)
        (ap (λ (x : Controller). x.game) new_is ∙ taken.1)))

pub moves_have_replies : (c new : Controller) (s : Colour) (bytes : List ℕ) (used : ℕ) (fault : Option SideFault)
    → Hears c s bytes used fault new → MoveHasReply c new s bytes used fault
moves_have_replies c new s bytes used fault hears = by_way (heard c s bytes used fault new hears)
  where
    stays : (x : Controller) → new ≡ x → x.game ≡ c.game → MoveHasReply c new s bytes used fault
    stays x new_is same = inl (ap (λ (y : Controller). y.game) new_is ∙ same)

    by_refusal : (engine : EngineRun) → (side_of c.sides s).up ≡ Some engine
        → HearsReply engine bytes used PlayFails → (may : Bool) → may_retake c s engine ≡ may
        → new ≡ refused c s (heard_reply engine) may → MoveHasReply c new s bytes used fault
    by_refusal engine up said false is new_is = stays _ new_is refl
    by_refusal engine up said true is new_is = by_held (has_all c.game (side_of c.sides (other s)).up) refl new_is
      where
        by_held : (b : Bool) → has_all c.game (side_of c.sides (other s)).up ≡ b
            → new ≡ retaken_at c s (heard_reply engine) b → MoveHasReply c new s bytes used fault
        by_held true held new_is = stays _ new_is refl
        by_held false unheld new_is =
            inr (inr (taken_away c new s engine bytes used fault up
            (WhyTakenBack.refused said is (not_confirmed c.game (side_of c.sides (other s)).up unheld))
            (ap (λ (x : Controller). x.game) new_is)))

    by_outcome : (engine : EngineRun) (reply : Reply) → (side_of c.sides s).up ≡ Some engine
        → EndsReply engine bytes used reply → (o : Outcome) → outcome c.game s (oldest engine.unanswered) reply ≡ o
        → fault ≡ fault_of o
        → new ≡ after_outcome c s (heard_reply engine) o → MoveHasReply c new s bytes used fault
    by_outcome engine reply up ends (Down f) e fault_is new_is =
        down_leaves c new s engine bytes used fault up (subst (λ (x : Option SideFault). IsSome x) (sym fault_is) refl)
        new_is
    by_outcome engine reply up ends Unfit e fault_is new_is = stays _ new_is refl
    by_outcome engine reply up ends (Forfeits cause) e fault_is new_is = stays _ new_is refl
    by_outcome engine reply up ends Confirms e fault_is new_is = stays _ new_is refl
    by_outcome engine reply up ends Resigns e fault_is new_is = stays _ new_is refl
    by_outcome engine reply up ends (Moves v) e fault_is new_is =
        inr (inl (made c new s engine bytes used reply v up ends e new_is))
    by_outcome engine reply up ends Refuses e fault_is new_is =
        by_refusal engine up (is_given c s engine bytes used reply ends Refuses (λ f x. cc) e)
        (may_retake c s (heard_reply engine)) refl new_is
    by_outcome engine reply up ends TakesBack e fault_is new_is =
        inr (inr (taken_away c new s engine bytes used fault up
        (WhyTakenBack.undone (is_given c s engine bytes used reply ends TakesBack (λ f x. cc) e))
        (ap (λ (x : Controller). x.game) new_is)))
    by_outcome engine reply up ends Keeps e fault_is new_is = stays _ new_is refl

    by_way : Heard c s bytes used fault new → MoveHasReply c new s bytes used fault
    by_way (Heard.replied engine reply none up ends fault_is new_is) =
        by_outcome engine reply up ends _ refl fault_is new_is
    by_way (Heard.faulted engine shown none up first fault_is new_is) =
        down_leaves c new s engine bytes used fault up (subst (λ (x : Option SideFault). IsSome x) (sym fault_is) refl)
        new_is
    by_way (Heard.quiet engine kept none up nothing fault_is new_is) = stays _ new_is refl
    by_way (Heard.down up fault_is new_is) = stays _ new_is refl
    by_way (Heard.over v e fault_is new_is) = stays _ new_is refl

-- ---- retakes

pub others_leave_the_retakes : (c : Controller) (s : Colour)
    → ((started c s).retakes ≡ c.retakes) × ((sent c s).retakes ≡ c.retakes) × ((lost c s).retakes ≡ c.retakes)
others_leave_the_retakes c s = (refl, by_sent (side_of c.sides s).up, by_lost (side_of c.sides s).up)
  where
    by_sent : (up : Option EngineRun) → (sent_to c s up).retakes ≡ c.retakes
    by_sent None = refl
    by_sent (Some engine) = refl

    by_lost : (up : Option EngineRun) → (lost_engine c s up).retakes ≡ c.retakes
    by_lost None = refl
    by_lost (Some engine) = refl

-- ---- causes

-- a side that goes down gives no verdict but that it is abandoned
given_up : (c : Controller) (s : Colour) (v : Verdict) → c.verdict ≡ None → (downed c s).verdict ≡ Some v
    → verdict.Abandoned s ≡ v
given_up c s v none e =
    by_starts (nat_lt c.setup.max_restarts (side_of c.sides s).starts)
    (sym (ap (verdict_when_down c s) none) ∙ e)
  where
    by_starts : (b : Bool) → cond b (Some (verdict.Abandoned s)) None ≡ Some v → verdict.Abandoned s ≡ v
    by_starts true is = cc
    by_starts false is = absurd (cc)

abbrev Caused : Controller → Controller → Colour → List ℕ → ℕ → Option SideFault → Verdict → Type 0
Caused c new s bytes used fault v =
    (engine : EngineRun) × ((side_of c.sides s).up ≡ Some engine) × HasCause c new s engine bytes used fault v

pub causes_are_true : (c new : Controller) (s : Colour) (bytes : List ℕ) (used : ℕ) (fault : Option SideFault)
    (v : Verdict) → Hears c s bytes used fault new → c.verdict ≡ None → new.verdict ≡ Some v
    → Caused c new s bytes used fault v
causes_are_true c new s bytes used fault v hears none given = by_way (heard c s bytes used fault new hears)
  where
    unchanged : new.verdict ≡ c.verdict → Caused c new s bytes used fault v
    unchanged e = let no : None ≡ Some v = sym none ∙ sym e ∙ given in absurd (cc)

    cause_of : (engine : EngineRun) → (side_of c.sides s).up ≡ Some engine
        → (w : Verdict) → w ≡ v → HasCause c new s engine bytes used fault w → Caused c new s bytes used fault v
    cause_of engine up w same cause = (engine, up, subst (HasCause c new s engine bytes used fault) same cause)

    by_down : (engine : EngineRun) → (side_of c.sides s).up ≡ Some engine
        → new ≡ downed c s → IsSome fault → Caused c new s bytes used fault v
    by_down engine up new_is some =
        cause_of engine up (verdict.Abandoned s)
        (given_up c s v none (sym (ap (λ (x : Controller). x.verdict) new_is) ∙ given)) (refl, some)

    by_end : (engine : EngineRun) → (side_of c.sides s).up ≡ Some engine
        → MakesMove c new s bytes used → (passes full : Bool) (n : ℤ)
        → cond passes (Some (verdict.Score n)) (cond full (Some verdict.Limit) None) ≡ Some v
        → Caused c new s bytes used fault v
    by_end engine up move true full n e = cause_of engine up (verdict.Score n) (cc) move
    by_end engine up move false true n e = cause_of engine up verdict.Limit (cc) move
    by_end engine up move false false n e = absurd (cc)

    -- a forfeit at a `genmove`
    forfeited : (cause : ForfeitCause) (engine : EngineRun)
        → HearsReply engine bytes used (λ k r. Reason c.game s k r (Forfeits cause))
        → HearsReply engine bytes used (IsForfeit c s engine cause)
    forfeited RefusedPlay engine h = absurd h.is
    forfeited NoMove engine h = h
    forfeited NoVertex engine h = h
    forfeited IllegalMove engine h = h

    by_refusal : (engine : EngineRun) → (side_of c.sides s).up ≡ Some engine
        → HearsReply engine bytes used PlayFails → (may : Bool) → may_retake c s engine ≡ may
        → new ≡ refused c s (heard_reply engine) may → Caused c new s bytes used fault v
    by_refusal engine up said true is new_is =
        by_held (has_all c.game (side_of c.sides (other s)).up) new_is
      where
        by_held : (b : Bool) → new ≡ retaken_at c s (heard_reply engine) b → Caused c new s bytes used fault v
        by_held true new_is = unchanged (ap (λ (x : Controller). x.verdict) new_is)
        by_held false new_is = unchanged (ap (λ (x : Controller). x.verdict) new_is)
    by_refusal engine up said false is new_is =
        let same : Some (verdict.Forfeit s RefusedPlay) ≡ Some v =
        sym (ap (λ (x : Controller). x.verdict) new_is) ∙ given in
        cause_of engine up (verdict.Forfeit s RefusedPlay) (cc)
        (IsForfeited.by_itself (record {
          reply = said.reply;
          entry = said.entry;
          ends = said.ends;
          answers_oldest = said.answers_oldest;
          id = said.id;
          is = (said.is, is);
        }))

    by_outcome : (engine : EngineRun) → (side_of c.sides s).up ≡ Some engine
        → (reply : Reply) → EndsReply engine bytes used reply → (o : Outcome)
        → outcome c.game s (oldest engine.unanswered) reply ≡ o → fault ≡ fault_of o
        → new ≡ after_outcome c s (heard_reply engine) o → Caused c new s bytes used fault v
    by_outcome engine up reply ends (Down f) e fault_is new_is =
        by_down engine up new_is (subst (λ (x : Option SideFault). IsSome x) (sym fault_is) refl)
    by_outcome engine up reply ends Unfit e fault_is new_is =
        let is : Some (verdict.Unfit s) ≡ Some v = sym (ap (λ (x : Controller). x.verdict) new_is) ∙ given in
        cause_of engine up (verdict.Unfit s) (cc) (refl, is_given c s engine bytes used reply ends Unfit (λ f x. cc) e)
    by_outcome engine up reply ends (Forfeits cause) e fault_is new_is =
        let is : Some (verdict.Forfeit s cause) ≡ Some v = sym (ap (λ (x : Controller). x.verdict) new_is) ∙ given in
        cause_of engine up (verdict.Forfeit s cause) (cc)
        (IsForfeited.by_itself
        (forfeited cause engine (is_given c s engine bytes used reply ends (Forfeits cause) (λ f x. cc) e)))
    by_outcome engine up reply ends Confirms e fault_is new_is = unchanged (ap (λ (x : Controller). x.verdict) new_is)
    by_outcome engine up reply ends Resigns e fault_is new_is =
        let is : Some (verdict.Resign s) ≡ Some v = sym (ap (λ (x : Controller). x.verdict) new_is) ∙ given in
        let only : IsAnsweredOnly engine new s = record {
          after = answered (heard_reply engine);
          up = ap (up_in s) new_is ∙ up_there c.sides s (answered (heard_reply engine));
          answered = refl;
          confirmed = refl;
        }
        in
        cause_of engine up (verdict.Resign s) (cc)
        (refl, is_given c s engine bytes used reply ends Resigns (λ f x. cc) e, only)
    by_outcome engine up reply ends (Moves w) e fault_is new_is =
        let game = with_move c.game s w in
        by_end engine up (made c new s engine bytes used reply w up ends e new_is) (holds (finished? game))
        (eqb (length game.moves) c.setup.max_moves) (score game)
        (sym (ap (λ (x : Controller). x.verdict) new_is) ∙ given)
    by_outcome engine up reply ends Refuses e fault_is new_is =
        by_refusal engine up (is_given c s engine bytes used reply ends Refuses (λ f x. cc) e)
        (may_retake c s (heard_reply engine)) refl new_is
    by_outcome engine up reply ends TakesBack e fault_is new_is = unchanged (ap (λ (x : Controller). x.verdict) new_is)
    by_outcome engine up reply ends Keeps e fault_is new_is =
        let is : Some (verdict.Forfeit (other s) RefusedPlay) ≡ Some v =
        sym (ap (λ (x : Controller). x.verdict) new_is) ∙ given in
        cause_of engine up (verdict.Forfeit (other s) RefusedPlay) (cc)
        (IsForfeited.by_the_other (is_given c s engine bytes used reply ends Keeps (λ f x. cc) e))

    by_way : Heard c s bytes used fault new → Caused c new s bytes used fault v
    by_way (Heard.replied engine reply none2 up ends fault_is new_is) =
        by_outcome engine up reply ends _ refl fault_is new_is
    by_way (Heard.faulted engine shown none2 up first fault_is new_is) =
        by_down engine up new_is (subst (λ (x : Option SideFault). IsSome x) (sym fault_is) refl)
    by_way (Heard.quiet engine kept none2 up nothing fault_is new_is) =
        unchanged (ap (λ (x : Controller). x.verdict) new_is)
    by_way (Heard.down up fault_is new_is) = unchanged (ap (λ (x : Controller). x.verdict) new_is)
    by_way (Heard.over w e fault_is new_is) = unchanged (ap (λ (x : Controller). x.verdict) new_is)
