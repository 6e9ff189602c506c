-- A whole reply keeps what holds of every match.
use Rattle.std.proofs.Common.{cond, ◌≡◌, ℕ, ◌+◌, ◌*◌, ◌<◌, ◌≤◌, ◌&&◌, List, [], ◌∷◌, length, drop, Option, Some, None}
use Rattle.std.proofs.Common.{Bool, true, false, refl, sym, ◌∙◌, ap, subst, arith, eqb, inl, inr, length-append}
use Rattle.std.specs.Prelude.{◌⊎◌, IfSome}
use Rattle.std.proofs.lemmas.Bool.Decides.{nat_tests}
use Rattle.go_base.specs.Colour.{other}
use Rattle.go_base.specs.declared.colours.Colour.{Colour}
use Rattle.go_base.specs.declared.colours.Colour.TheVariants.{Black, White}
use Rattle.go_base.specs.declared.vertices.Vertex.{Vertex}
use Rattle.go_base.specs.Decide.{holds}
use Rattle.go_board.specs.Area.{score}
use Rattle.go_board.specs.decisions.Game.{finished?}
use Rattle.go_board.specs.Game.{GameRecord, IsFinished, IsLegal, with_move, without_last}
use Rattle.go_board.proofs.records.Moves.{IsGame-with_move}
use Rattle.gtp_wire.specs.declared.commands.Command.{Command}
use Rattle.gtp_wire.specs.declared.commands.Command.TheVariants as command
use Rattle.gtp_wire.specs.declared.replies.Reply.{Reply}
use Rattle.gtp_wire.specs.Replies.{GivesNoAnswer}
use Rattle.gtp_match.specs.declared.controller.Controller.{Controller}
use Rattle.gtp_match.specs.declared.sides.EngineRun.{EngineRun}
use Rattle.gtp_match.specs.declared.sides.SideState.{SideState}
use Rattle.gtp_match.specs.declared.sides.Sides.{Sides}
use Rattle.gtp_match.specs.declared.reply_table.Outcome.{Outcome}
use Rattle.gtp_match.specs.declared.reply_table.Outcome.TheVariants.{Down, Unfit, Forfeits, Confirms, Resigns, Moves}
use Rattle.gtp_match.specs.declared.reply_table.Outcome.TheVariants.{Refuses, TakesBack, Keeps}
use Rattle.gtp_match.specs.declared.unanswered.SentCommand.{SentCommand}
use Rattle.gtp_match.specs.declared.verdicts.ForfeitCause.{ForfeitCause}
use Rattle.gtp_match.specs.declared.verdicts.ForfeitCause.TheVariants.{RefusedPlay, NoMove, NoVertex, IllegalMove}
use Rattle.gtp_match.specs.declared.verdicts.Verdict.{Verdict}
use Rattle.gtp_match.specs.declared.verdicts.Verdict.TheVariants.{Score, Limit, Resign, Forfeit}
use Rattle.gtp_match.specs.declared.verdicts.Verdict.TheVariants as verdict
use Rattle.gtp_match.specs.Controller.{to_move, with_side_up}
use Rattle.gtp_match.specs.ReplyTable.{outcome, after_outcome, verdict_after, retaken_at, refused}
use Rattle.gtp_match.specs.Retakes.{most_retakes, retakes_of, with_retake, retakes_within}
use Rattle.gtp_match.specs.Script.{script}
use Rattle.gtp_match.specs.Setup.{SetupRecord}
use Rattle.gtp_match.specs.Sides.{side_of, with_side, with_engine, with_engine_of, heard_reply, answered, confirmed}
use Rattle.gtp_match.specs.Sides.{taken_back}
use Rattle.gtp_match.specs.Sound.{MayGoOn, VerdictFits, InScript, IsAsked, HasPlan, IsUnderWay, IsSetupCommand, IsPlay}
use Rattle.gtp_match.specs.Sound.{IsUndo, OwesAnswer, RefusedInVain, FailedToMove, Blames, all_retakes, IsSoundEngine}
use Rattle.gtp_match.specs.Sound.{IsSoundSide, IsIdle, IsSound}
use Rattle.gtp_match.specs.Taking.{moved_last, owes_last, may_retake, has_all}
use Rattle.gtp_match.specs.Unanswered.{oldest}
use Rattle.gtp_match.proofs.taking_back.RetakeCounts.{retake_more, retaken_again}
use Rattle.gtp_match.proofs.scripts.Scripts.{script_longer, below_length}
use Rattle.gtp_match.proofs.scripts.WithoutLast.{script_shorter, shorter_is_game, shorter_turns, shorter_went_on}
use Rattle.gtp_match.proofs.scripts.WithoutLast.{turn_after}
use Rattle.gtp_match.proofs.scripts.WithoutLast.{longer_went_on}
use Rattle.gtp_match.proofs.scripts.Turns.{other_twice, has_stones, moved_turns}
use Rattle.gtp_match.proofs.soundness.Calls.{no_blame, my_side, their_side, one_idle, changed, with_verdict, kept}
use Rattle.gtp_match.proofs.soundness.Calls.{kept_game, nothing_given, my_engine, my_start, idle_plan, idle_way}
use Rattle.gtp_match.proofs.soundness.Down.{downed_sound}
use Rattle.gtp_match.proofs.soundness.Calls.{nothing_taken, taken_at, taken_theirs, nothing_pending}
use Rattle.gtp_match.proofs.soundness.Down.{went_on_before}
use Rattle.gtp_match.proofs.soundness.Down.{shorter_game_is, lacking_side, lacks_at_most}
use Rattle.gtp_match.proofs.replies.Outcomes.{first_is, Answered, answered_by}
use Rattle.gtp_match.proofs.hearing.Reading.{move_is_legal}

-- ---- the plan after a reply

confirmed_way : (game : GameRecord) (pending : Option Colour) (retaken : ℕ) (s : Colour) (engine : EngineRun)
    → IsUnderWay game pending retaken s engine
    → Answered game pending s engine Confirms → IsUnderWay game pending retaken s (confirmed (heard_reply engine))
confirmed_way game pending retaken s engine way a =
    let left : drop 1 engine.unanswered ≡ a.more = ap (drop 1) a.entries_are in
    record {
      plan = inl (subst (InScript (script game) (engine.confirmed + 1)) (sym left) (by_plan way.plan));
      few_unanswered = omega (arith, way.few_unanswered, ap length a.entries_are, ap length left);
      all_sent = omega (arith, way.all_sent, ap length a.entries_are, ap length left);
      counted = omega (arith, way.counted, ap length a.entries_are, ap length left);
    }
  where
    by_plan : HasPlan game pending s engine.confirmed engine.unanswered
        → InScript (script game) (engine.confirmed + 1) a.more
    by_plan (inl plan) =
        let all : InScript (script game) engine.confirmed (a.entry ∷ a.more) =
        subst (InScript (script game) engine.confirmed) a.entries_are plan in
        all.1
    by_plan (inr (inl asked)) =
        let same : a.entry ≡ asked.entry =
        first_is engine.unanswered a.entry a.more asked.entry a.entries_are asked.alone in
        absurd (a.fits.0 s (ap (λ (x : SentCommand). x.command) same ∙ asked.genmove))
    by_plan (inr (inr (is, undo))) =
        let same : a.entry ≡ undo.entry =
        first_is engine.unanswered a.entry a.more undo.entry a.entries_are undo.alone in
        absurd (a.fits.1 (ap (λ (x : SentCommand). x.command) same ∙ undo.undo))

moved_way : (game : GameRecord) (pending : Option Colour) (retaken : ℕ) (s : Colour) (engine : EngineRun)
    (v : Vertex) → IsUnderWay game pending retaken s engine
    → IsAsked game s engine.confirmed engine.unanswered
    → IsUnderWay (with_move game s v) pending retaken s (confirmed (heard_reply engine))
moved_way game pending retaken s engine v way asked =
    idle_way (with_move game s v) pending retaken s (confirmed (heard_reply engine)) (ap (drop 1) asked.alone)
    (omega (arith, asked.all, script_longer game s v)) (omega (arith, way.all_sent, ap length asked.alone))
    (omega (arith, way.counted, ap length asked.alone))

-- a side of which nothing is unanswered goes on with the longer script
longer_way : (game : GameRecord) (pending : Option Colour) (retaken : ℕ) (s t : Colour) (engine : EngineRun)
    (v : Vertex) → IsUnderWay game pending retaken t engine
    → engine.unanswered ≡ [] → IsUnderWay (with_move game s v) pending retaken t engine
longer_way game pending retaken s t engine v way idle =
    idle_way (with_move game s v) pending retaken t engine idle
    (omega (arith, idle_plan game pending retaken t engine way idle, script_longer game s v))
    (omega (arith, way.all_sent)) (omega (arith, way.counted, ap length idle))

-- the other side is idle where this one answered a command
other_idle : (c : Controller) (s : Colour) (engine : EngineRun) (o : Outcome) → IsSound c
    → (side_of c.sides s).up ≡ Some engine → Answered c.game c.pending s engine o
    → IsIdle (side_of c.sides (other s)).up
other_idle c s engine o h up a = by_one (one_idle c s h)
  where
    by_one : IsIdle (side_of c.sides s).up ⊎ IsIdle (side_of c.sides (other s)).up
        → IsIdle (side_of c.sides (other s)).up
    by_one (inl i) =
        let empty : a.entry ∷ a.more ≡ [] = sym a.entries_are ∙ subst IsIdle up i in absurd (cc)
    by_one (inr i) = i

-- ---- the verdict after a move

moved_ends : (c : Controller) → length c.game.moves ≤ c.setup.max_moves → VerdictFits c (verdict_after c.setup c.game)
moved_ends c few = by_end (finished? c.game)
  where
    by_limit : ¬ IsFinished c.game → (b : Bool) → eqb (length c.game.moves) c.setup.max_moves ≡ b
        → VerdictFits c (cond b (Some Limit) None)
    by_limit goes_on true e = (grind (arith, nat_tests), goes_on)
    by_limit goes_on false e = (grind (arith, nat_tests), goes_on)

    by_end : (d : Dec (IsFinished c.game)) → VerdictFits c (cond (holds d) (Some (Score (score c.game)))
        (cond (eqb (length c.game.moves) c.setup.max_moves) (Some Limit) None))
    by_end (yes ends) = (ends, refl)
    by_end (no goes_on) = by_limit goes_on (eqb (length c.game.moves) c.setup.max_moves) refl

-- after a move nobody is blamed
moved_blames : (c : Controller) (setup : SetupRecord) (game : GameRecord) → Blames c (verdict_after setup game)
moved_blames c setup game = by_passes (holds (finished? game))
  where
    by_limit : (b : Bool) → Blames c (cond b (Some Limit) None)
    by_limit true = tt
    by_limit false = tt

    by_passes : (b : Bool) → Blames c (cond b (Some (Score (score game)))
        (cond (eqb (length game.moves) setup.max_moves) (Some Limit) None))
    by_passes true = tt
    by_passes false = by_limit (eqb (length game.moves) setup.max_moves)

-- ---- a verdict that blames the side

-- what is known of the side's engine is known of the side
of_engine : (P : EngineRun → Type 0) (sides : Sides) (s : Colour) (engine : EngineRun) → P engine
    → IfSome (side_of (with_engine_of s engine sides) s).up P
of_engine P sides Black engine p = p
of_engine P sides White engine p = p

-- and where the side is named otherwise
of_that_engine : (P : EngineRun → Type 0) (sides : Sides) (s t : Colour) (engine : EngineRun) → t ≡ s → P engine
    → IfSome (side_of (with_engine_of s engine sides) t).up P
of_that_engine P sides s t engine same p =
    subst (λ x. IfSome (side_of (with_engine_of s engine sides) x).up P) (sym same) (of_engine P sides s engine p)

-- the oldest command of an engine that has these
owes : (Is : Command → Type 0) (engine : EngineRun) (entry : SentCommand) (more : List SentCommand)
    → engine.unanswered ≡ entry ∷ more → Is entry.command → OwesAnswer Is engine
owes Is engine entry more e is =
    subst (λ (es : List SentCommand). OwesAnswer Is (record engine { unanswered = es })) (sym e) is

failed : (c : Controller) (s : Colour) (engine : EngineRun) (verdict : Option Verdict)
    → IsAsked c.game s engine.confirmed engine.unanswered
    → FailedToMove (with_verdict c verdict (with_engine_of s engine c.sides)) s
failed c s engine verdict asked = record {
  turn = asked.turn;
  up = of_engine (λ e. IsAsked c.game s e.confirmed e.unanswered) c.sides s engine asked;
}

forfeit_blames : (c : Controller) (s : Colour) (engine : EngineRun) (cause : ForfeitCause)
    → Answered c.game c.pending s engine (Forfeits cause)
    → Blames (with_verdict c (Some (Forfeit s cause)) (with_engine_of s (heard_reply engine) c.sides))
    (Some (Forfeit s cause))
forfeit_blames c s engine NoMove a = failed c s (heard_reply engine) (Some (Forfeit s NoMove)) a.fits
forfeit_blames c s engine NoVertex a = failed c s (heard_reply engine) (Some (Forfeit s NoVertex)) a.fits
forfeit_blames c s engine IllegalMove a = failed c s (heard_reply engine) (Some (Forfeit s IllegalMove)) a.fits
forfeit_blames c s engine RefusedPlay a = absurd a.fits

refused_blames : (c : Controller) (s : Colour) (engine : EngineRun) → Answered c.game c.pending s engine Refuses
    → may_retake c s (heard_reply engine) ≡ false
    → Blames (with_verdict c (Some (Forfeit s RefusedPlay)) (with_engine_of s (heard_reply engine) c.sides))
    (Some (Forfeit s RefusedPlay))
refused_blames c s engine a no_retake =
    let over = with_verdict c (Some (Forfeit s RefusedPlay)) (with_engine_of s (heard_reply engine) c.sides) in
    inl (of_engine (RefusedInVain over s) c.sides s (heard_reply engine) (record {
      play = owes IsPlay (heard_reply engine) a.entry a.more a.entries_are a.fits;
      no_retake = no_retake;
    }))

kept_blames : (c : Controller) (s : Colour) (engine : EngineRun) → IsSound c → c.verdict ≡ None
    → Answered c.game c.pending s engine Keeps
    → Blames (with_verdict c (Some (Forfeit (other s) RefusedPlay)) (with_engine_of s (heard_reply engine) c.sides))
    (Some (Forfeit (other s) RefusedPlay))
kept_blames c s engine h none a =
    let is_given = a.fits in
    let t = taken_at c s h none is_given.0 in
    inr (record {
      turn = t.made;
      some = t.some;
      kept = of_that_engine (OwesAnswer IsUndo) c.sides s (other (other s)) (heard_reply engine) (other_twice s)
          (owes IsUndo (heard_reply engine) is_given.1.entry [] is_given.1.alone is_given.1.undo);
    })

unfit_blames : (c : Controller) (s : Colour) (engine : EngineRun) → Answered c.game c.pending s engine Unfit
    → IfSome (side_of (with_engine_of s (heard_reply engine) c.sides) s).up (OwesAnswer IsSetupCommand)
unfit_blames c s engine a =
    of_engine (OwesAnswer IsSetupCommand) c.sides s (heard_reply engine)
    (owes IsSetupCommand (heard_reply engine) a.entry a.more a.entries_are a.fits)

-- ---- each outcome

-- the match ends by this side's reply, and its engine has these commands left
over_sound : (c : Controller) (s : Colour) (engine next : EngineRun) (v : Verdict) → IsSound c
    → (side_of c.sides s).up ≡ Some engine → next.sent ≡ engine.sent → next.reader ≡ []
    → (engine.unanswered ≡ [] → next.unanswered ≡ [])
    → VerdictFits c (Some v)
    → Blames (with_verdict c (Some v) (with_engine_of s next c.sides)) (Some v)
    → IsSound (with_verdict c (Some v) (with_engine_of s next c.sides))
over_sound c s engine next v h up sent_is rest_is idle ends blames =
    let mine = my_side c s h in
    let e = my_engine c s engine h up in
    kept_game c (Some v) s (with_engine next (side_of c.sides s)) h (record {
      back = λ x. absurd (cc);
      ends = ends;
      blames = blames;
      mine = record {
        starts = mine.starts;
        start_left = λ x _. absurd (cc);
        started = my_start c s engine h up;
        engine = record {
          sent = omega (arith, sent_is, e.sent);
          quiet = subst GivesNoAnswer (sym rest_is) nothing_given;
          under_way = λ x. absurd (cc);
        };
      };
      one_asked = by_one (one_idle c s h);
      taking_back = λ x. absurd (cc);
    })
  where
    by_one : IsIdle (side_of c.sides s).up ⊎ IsIdle (side_of c.sides (other s)).up
        → IsIdle (Some next) ⊎ IsIdle (side_of c.sides (other s)).up
    by_one (inl i) = inl (idle (subst IsIdle up i))
    by_one (inr i) = inr i

confirms_sound : (c : Controller) (s : Colour) (engine : EngineRun) → IsSound c → c.verdict ≡ None
    → (side_of c.sides s).up ≡ Some engine → Answered c.game c.pending s engine Confirms
    → IsSound (with_side_up c s (confirmed (heard_reply engine)))
confirms_sound c s engine h none up a =
    let mine = my_side c s h in
    let e = my_engine c s engine h up in
    let way = confirmed_way c.game c.pending (all_retakes c) s engine (e.under_way none) a in
    let next = confirmed (heard_reply engine) in
    let state = with_engine next (side_of c.sides s) in
    let free = nothing_pending c s engine a.entry a.more h none up a.entries_are a.fits.1 in
    kept_game c c.verdict s state h (record {
      back = λ x. x;
      ends = h.ends;
      blames = no_blame (with_verdict c c.verdict (with_side s state c.sides)) c.verdict none;
      mine = record {
        starts = mine.starts;
        start_left = λ _ x. absurd (cc);
        started = my_start c s engine h up;
        engine = record { sent = e.sent; quiet = nothing_given; under_way = λ _. way };
      };
      one_asked = inr (other_idle c s engine Confirms h up a);
      taking_back = λ _. nothing_taken c.game (all_retakes c) (with_side s state c.sides) c.pending free;
    })

-- where a `genmove` is answered, nothing is to be taken back
asked_is_free : (c : Controller) (s : Colour) (engine : EngineRun) → IsSound c → c.verdict ≡ None
    → (side_of c.sides s).up ≡ Some engine → IsAsked c.game s engine.confirmed engine.unanswered → c.pending ≡ None
asked_is_free c s engine h none up asked =
    nothing_pending c s engine asked.entry [] h none up asked.alone
    (λ undo. let clash : command.Genmove s ≡ command.Undo = sym asked.genmove ∙ undo in cc)

moves_sound : (c : Controller) (s : Colour) (engine : EngineRun) (v : Vertex) → IsSound c → c.verdict ≡ None
    → (side_of c.sides s).up ≡ Some engine → Answered c.game c.pending s engine (Moves v) → IsLegal c.game s v
    → IsSound (after_outcome c s (heard_reply engine) (Moves v))
moves_sound c s engine v h none up a legal =
    let mine = my_side c s h in
    let e = my_engine c s engine h up in
    let asked = a.fits in
    let way = moved_way c.game c.pending (all_retakes c) s engine v (e.under_way none) asked in
    let ends : VerdictFits c None = subst (VerdictFits c) none h.ends in
    let game = with_move c.game s v in
    let longer : length game.moves ≡ length c.game.moves + 1 =
    length-append c.game.moves (record { colour = s; vertex = v } ∷ []) in
    let fits : length game.moves ≤ c.setup.max_moves = omega (arith, longer, ends.0) in
    let verdict = verdict_after c.setup game in
    let state = with_engine (confirmed (heard_reply engine)) (side_of c.sides s) in
    let sides = with_side s state c.sides in
    kept c game verdict s state c.pending c.retakes h (record {
      game_is = ap (λ (g : GameRecord). with_move g s v) h.game_is;
      legal = IsGame-with_move c.game s v h.game (omega (arith, ends.0, h.setup.moves.1)) legal;
      turns = moved_turns c.game s v (has_stones c.game h.game) h.turns asked.turn;
      few_moves = fits;
      went_on = longer_went_on c.game s v h.went_on ends.1;
      ends = moved_ends (changed c game verdict sides c.pending c.retakes) fits;
      blames = moved_blames (changed c game verdict sides c.pending c.retakes) c.setup game;
      mine = record {
        starts = mine.starts;
        start_left = λ _ x. absurd (cc);
        started = my_start c s engine h up;
        engine = record { sent = e.sent; quiet = nothing_given; under_way = λ _. way };
      };
      theirs = moved_side (side_of c.sides (other s)) (their_side c s h) (other_idle c s engine (Moves v) h up a);
      one_asked = inl (ap (drop 1) asked.alone);
      retakes = h.retakes;
      taking_back = λ _.
          nothing_taken game (all_retakes c) sides c.pending (asked_is_free c s engine h none up asked);
    })
  where
    moved_side : (state : SideState) → IsSoundSide c (other s) state → IsIdle state.up
        → IsSoundSide (after_outcome c s (heard_reply engine) (Moves v)) (other s) state
    moved_side state side idle = record {
      starts = side.starts;
      start_left = λ _. side.start_left none;
      started = side.started;
      engine = by_up state.up side.engine idle;
    }
      where
        by_up : (u : Option EngineRun) → IfSome u (IsSoundEngine c (other s)) → IsIdle u
            → IfSome u (IsSoundEngine (after_outcome c s (heard_reply engine) (Moves v)) (other s))
        by_up None x i = tt
        by_up (Some y) x i = record {
          sent = x.sent;
          quiet = x.quiet;
          under_way = λ _. longer_way c.game c.pending (all_retakes c) s (other s) y v (x.under_way none) i;
        }

-- ---- a refused move, and one that is taken back

-- what `may_retake` says
pub record MayRetake (c : Controller) (s : Colour) (engine : EngineRun) : Type 0 where
  pub last : engine.confirmed + 1 ≡ length (script c.game)
  pub some : 0 < length c.game.moves
  pub turn : to_move c.game ≡ s
  pub few : retakes_of c.retakes (length c.game.moves) < most_retakes

pub retake_is : (c : Controller) (s : Colour) (engine : EngineRun) → IsSound c → may_retake c s engine ≡ true
    → MayRetake c s engine
retake_is c s engine h e =
    let a = both (owes_last c.game engine) _ e in
    let b = both (moved_last c.game (other s)) _ a.1 in
    let turn = turn_after c.game (other s) (has_stones c.game h.game) h.turns b.0 in
    record {
      last = grind (arith, nat_tests, a.0);
      some = turn.0;
      turn = turn.1 ∙ other_twice s;
      few = grind (arith, nat_tests, b.1);
    }
  where
    both : (x y : Bool) → (x && y) ≡ true → (x ≡ true) × (y ≡ true)
    both true y e = (refl, e)
    both false y e = absurd (cc)

-- an engine that owes the script's last command owes nothing else
pub last_alone : (game : GameRecord) (pending : Option Colour) (s : Colour) (engine : EngineRun)
    → Answered game pending s engine Refuses → HasPlan game pending s engine.confirmed engine.unanswered
    → engine.confirmed + 1 ≡ length (script game) → drop 1 engine.unanswered ≡ []
last_alone game pending s engine a plan last =
    ap (drop 1) a.entries_are ∙ by_plan plan
  where
    by_more : (more : List SentCommand) → InScript (script game) (engine.confirmed + 1) more → more ≡ []
    by_more [] p = refl
    by_more (x ∷ xs) p = absurd (omega (arith, below_length (script game) (engine.confirmed + 1) x.command p.0, last))

    by_plan : HasPlan game pending s engine.confirmed engine.unanswered → a.more ≡ []
    by_plan (inl plan) =
        let all : InScript (script game) engine.confirmed (a.entry ∷ a.more) =
        subst (InScript (script game) engine.confirmed) a.entries_are plan in
        by_more a.more all.1
    by_plan (inr (inl asked)) =
        let both : a.entry ∷ a.more ≡ asked.entry ∷ [] = sym a.entries_are ∙ asked.alone in cc
    by_plan (inr (inr (is, undo))) =
        let both : a.entry ∷ a.more ≡ undo.entry ∷ [] = sym a.entries_are ∙ undo.alone in cc

-- a list without anything after its first element has at most one
pub few_left : (es : List SentCommand) → drop 1 es ≡ [] → length es ≤ 1
few_left [] e = omega arith
few_left (x ∷ es) e = omega (arith, ap length e)

-- one retake more of the last move's number, of all
all_more : (c : Controller) → IsSound c → 0 < length c.game.moves
    → retakes_within c.setup.max_moves (with_retake (length c.game.moves) c.retakes) ≡ all_retakes c + 1
all_more c h some =
    retake_more c.retakes c.setup.max_moves (length c.game.moves) some h.few_moves
    (omega (arith, h.few_moves, h.setup.moves.1, h.retakes.places))

-- the side that refused the last move, once it answered
refusing_engine : (c new : Controller) (s : Colour) (engine : EngineRun) → IsSound c → c.verdict ≡ None
    → (side_of c.sides s).up ≡ Some engine → drop 1 engine.unanswered ≡ [] → length engine.unanswered ≤ 1
    → new.setup ≡ c.setup → engine.confirmed ≤ length (script new.game) → all_retakes new ≡ all_retakes c + 1
    → IsSoundEngine new s (answered (heard_reply engine))
refusing_engine c new s engine h none up idle one setup_is within more =
    let e = my_engine c s engine h up in
    let way = e.under_way none in
    record {
      sent = omega (arith, e.sent, ap (λ (p : SetupRecord). p.max_moves) setup_is);
      quiet = nothing_given;
      under_way = λ _. idle_way new.game new.pending (all_retakes new) s (answered (heard_reply engine)) idle within
          (omega (arith, way.all_sent)) (omega (arith, way.counted, one, more));
    }

-- The move is to be taken back at its maker, which has confirmed the whole script.
held_sound : (c : Controller) (s : Colour) (engine : EngineRun) → IsSound c → c.verdict ≡ None
    → (side_of c.sides s).up ≡ Some engine → Answered c.game c.pending s engine Refuses → MayRetake c s engine
    → (maker : EngineRun) → (side_of c.sides (other s)).up ≡ Some maker
    → maker.confirmed ≡ length (script c.game)
    → IsSound (retaken_at c s (heard_reply engine) true)
held_sound c s engine h none up a may maker maker_up all =
    let mine = my_side c s h in
    let e = my_engine c s engine h up in
    let way = e.under_way none in
    let them = my_engine c (other s) maker h maker_up in
    let their_way = them.under_way none in
    let idle = last_alone c.game c.pending s engine a way.plan may.last in
    let maker_idle : maker.unanswered ≡ [] = subst IsIdle maker_up (other_idle c s engine Refuses h up a) in
    let more = all_more c h may.some in
    let next = answered (heard_reply engine) in
    let state = with_engine next (side_of c.sides s) in
    let sides = with_side s state c.sides in
    let retakes = with_retake (length c.game.moves) c.retakes in
    let new = changed c c.game c.verdict sides (Some (other s)) retakes in
    kept c c.game c.verdict s state (Some (other s)) retakes h (record {
      game_is = h.game_is;
      legal = h.game;
      turns = h.turns;
      few_moves = h.few_moves;
      went_on = h.went_on;
      ends = subst (VerdictFits new) (sym none) (subst (VerdictFits c) none h.ends);
      blames = no_blame new c.verdict none;
      mine = record {
        starts = mine.starts;
        start_left = λ _ x. absurd (cc);
        started = my_start c s engine h up;
        engine = refusing_engine c new s engine h none up idle (few_left engine.unanswered idle) refl
            (omega (arith, may.last)) more;
      };
      theirs = record {
        starts = (their_side c s h).starts;
        start_left = (their_side c s h).start_left;
        started = (their_side c s h).started;
        engine = subst (λ (u : Option EngineRun). IfSome u (IsSoundEngine new (other s))) (sym maker_up) (record {
          sent = them.sent;
          quiet = them.quiet;
          under_way = λ _. idle_way c.game (Some (other s)) (all_retakes new) (other s) maker maker_idle
              (omega (arith, all)) (omega (arith, their_way.all_sent))
              (omega (arith, their_way.counted, ap length maker_idle, more));
        });
      };
      one_asked = inl idle;
      retakes = retaken_again c.retakes (length c.game.moves) h.retakes may.some may.few;
      taking_back = λ _. taken_theirs c.game (all_retakes new) c.sides s state (record {
        some = may.some;
        made = may.turn ∙ sym (other_twice s);
        engine = maker;
        up = maker_up;
        all = all;
        undoing = inl maker_idle;
        lacks = record { idle = idle; lacks = may.last };
        counted = omega (arith, their_way.counted, ap length maker_idle, more);
      });
    })

-- The move leaves the record: its maker is down, or hasn't confirmed the whole script.
unheld_sound : (c : Controller) (s : Colour) (engine : EngineRun) → IsSound c → c.verdict ≡ None
    → (side_of c.sides s).up ≡ Some engine → Answered c.game c.pending s engine Refuses → MayRetake c s engine
    → has_all c.game (side_of c.sides (other s)).up ≡ false
    → IsSound (retaken_at c s (heard_reply engine) false)
unheld_sound c s engine h none up a may unheld =
    let mine = my_side c s h in
    let e = my_engine c s engine h up in
    let way = e.under_way none in
    let idle = last_alone c.game c.pending s engine a way.plan may.last in
    let more = all_more c h may.some in
    let next = answered (heard_reply engine) in
    let state = with_engine next (side_of c.sides s) in
    let sides = with_side s state c.sides in
    let retakes = with_retake (length c.game.moves) c.retakes in
    let new = changed c (without_last c.game) c.verdict sides c.pending retakes in
    let goes_on : MayGoOn new = went_on_before c new h may.some refl refl in
    let free = nothing_pending c s engine a.entry a.more h none up a.entries_are (no_undo a.entry.command a.fits) in
    let shorter = script_shorter c.game may.some in
    kept c (without_last c.game) c.verdict s state c.pending retakes h (record {
      game_is = shorter_game_is c h;
      legal = shorter_is_game c.game h.game;
      turns = shorter_turns c.game h.turns;
      few_moves = omega (arith, goes_on.0);
      went_on = shorter_went_on c.game h.went_on;
      ends = subst (VerdictFits new) (sym none) goes_on;
      blames = no_blame new c.verdict none;
      mine = record {
        starts = mine.starts;
        start_left = λ _ x. absurd (cc);
        started = my_start c s engine h up;
        engine = refusing_engine c new s engine h none up idle (few_left engine.unanswered idle) refl
            (omega (arith, may.last, shorter)) more;
      };
      theirs = lacking_side c new (other s) (side_of c.sides (other s)) h none may.some refl refl (omega (arith, more))
          (by_up (side_of c.sides (other s)).up refl unheld (other_idle c s engine Refuses h up a)
          (their_side c s h).engine)
          (their_side c s h);
      one_asked = inl idle;
      retakes = retaken_again c.retakes (length c.game.moves) h.retakes may.some may.few;
      taking_back = λ _. nothing_taken (without_last c.game) (all_retakes new) sides c.pending free;
    })
  where
    no_undo : (k : Command) → IsPlay k → ¬ IsUndo k
    no_undo k play undo = let clash : command.Play play.0 ≡ command.Undo = sym play.1 ∙ undo in cc

    by_up : (u : Option EngineRun) → (side_of c.sides (other s)).up ≡ u → has_all c.game u ≡ false → IsIdle u
        → IfSome u (IsSoundEngine c (other s))
        → IfSome u (λ engine. (engine.unanswered ≡ []) × (engine.confirmed + 1 ≤ length (script c.game)))
    by_up None is not_all i x = tt
    by_up (Some y) is not_all i x =
        let within = idle_plan c.game c.pending (all_retakes c) (other s) y (x.under_way none) i in
        (i, grind (arith, nat_tests, within, not_all))

-- the side took its last move back
shortened_sound : (c : Controller) (s : Colour) (engine : EngineRun) → IsSound c → c.verdict ≡ None
    → (side_of c.sides s).up ≡ Some engine → Answered c.game c.pending s engine TakesBack
    → IsSound (after_outcome c s (heard_reply engine) TakesBack)
shortened_sound c s engine h none up a =
    let mine = my_side c s h in
    let e = my_engine c s engine h up in
    let is_given = a.fits in
    let t = taken_at c s h none is_given.0 in
    let same : Some t.engine ≡ Some engine = sym t.up ∙ up in
    let is : t.engine ≡ engine = cc in
    let all : engine.confirmed ≡ length (script c.game) = sym (ap (λ (x : EngineRun). x.confirmed) is) ∙ t.all in
    let counted : engine.sent + 2 ≤ engine.confirmed + length engine.unanswered + 2 * all_retakes c =
    subst (λ (x : EngineRun). x.sent + 2 ≤ x.confirmed + length x.unanswered + 2 * all_retakes c) is t.counted in
    let idle : drop 1 engine.unanswered ≡ [] = ap (drop 1) is_given.1.alone in
    let one : length engine.unanswered ≡ 1 = ap length is_given.1.alone in
    let next = taken_back (heard_reply engine) in
    let state = with_engine next (side_of c.sides s) in
    let sides = with_side s state c.sides in
    let new = changed c (without_last c.game) c.verdict sides None c.retakes in
    let goes_on : MayGoOn new = went_on_before c new h t.some refl refl in
    let shorter = script_shorter c.game t.some in
    kept c (without_last c.game) c.verdict s state None c.retakes h (record {
      game_is = shorter_game_is c h;
      legal = shorter_is_game c.game h.game;
      turns = shorter_turns c.game h.turns;
      few_moves = omega (arith, goes_on.0);
      went_on = shorter_went_on c.game h.went_on;
      ends = subst (VerdictFits new) (sym none) goes_on;
      blames = no_blame new c.verdict none;
      mine = record {
        starts = mine.starts;
        start_left = λ _ x. absurd (cc);
        started = my_start c s engine h up;
        engine = record {
          sent = e.sent;
          quiet = nothing_given;
          under_way = λ _. idle_way (without_last c.game) None (all_retakes c) s next idle (omega (arith, all, shorter))
              (omega (arith, (e.under_way none).all_sent)) (omega (arith, counted, one));
        };
      };
      theirs = lacking_side c new (other s) (side_of c.sides (other s)) h none t.some refl refl (omega arith)
          (lacks_at_most c (side_of c.sides (other s)).up t.lacks) (their_side c s h);
      one_asked = inl idle;
      retakes = h.retakes;
      taking_back = λ _. tt;
    })

-- ---- a whole reply

pub reply_sound : (c : Controller) (s : Colour) (engine : EngineRun) (reply : Reply) → IsSound c → c.verdict ≡ None
    → (side_of c.sides s).up ≡ Some engine
    → IsSound (after_outcome c s (heard_reply engine) (outcome c.game s (oldest engine.unanswered) reply))
reply_sound c s engine reply h none up = by_outcome (outcome c.game s (oldest engine.unanswered) reply) refl
  where
    plan : HasPlan c.game c.pending s engine.confirmed engine.unanswered
    plan = let e = my_engine c s engine h up in (e.under_way none).plan

    goes_on : VerdictFits c None
    goes_on = subst (VerdictFits c) none h.ends

    by_maker : MayRetake c s engine → Answered c.game c.pending s engine Refuses
        → (u : Option EngineRun) → (side_of c.sides (other s)).up ≡ u → (b : Bool) → has_all c.game u ≡ b
        → IsSound (retaken_at c s (heard_reply engine) b)
    by_maker may a None is true all = absurd (cc)
    by_maker may a (Some maker) is true all =
        held_sound c s engine h none up a may maker is (grind (arith, nat_tests, all))
    by_maker may a u is false unheld =
        unheld_sound c s engine h none up a may (ap (has_all c.game) is ∙ unheld)

    by_retake : Answered c.game c.pending s engine Refuses → (b : Bool) → may_retake c s (heard_reply engine) ≡ b
        → IsSound (refused c s (heard_reply engine) b)
    by_retake a true may =
        by_maker (retake_is c s engine h may) a (side_of c.sides (other s)).up refl
        (has_all c.game (side_of c.sides (other s)).up) refl
    by_retake a false no_retake =
        over_sound c s engine (heard_reply engine) (Forfeit s RefusedPlay) h up refl refl (λ i. i) goes_on
        (refused_blames c s engine a no_retake)

    by_outcome : (o : Outcome) → outcome c.game s (oldest engine.unanswered) reply ≡ o
        → IsSound (after_outcome c s (heard_reply engine) o)
    by_outcome (Down fault) e = downed_sound c s h
    by_outcome Unfit e =
        over_sound c s engine (heard_reply engine) (verdict.Unfit s) h up refl refl (λ i. i) goes_on
        (unfit_blames c s engine (answered_by c.game c.pending s engine reply Unfit (λ f x. cc) plan e))
    by_outcome (Forfeits cause) e =
        over_sound c s engine (heard_reply engine) (Forfeit s cause) h up refl refl (λ i. i) goes_on
        (forfeit_blames c s engine cause
        (answered_by c.game c.pending s engine reply (Forfeits cause) (λ f x. cc) plan e))
    by_outcome Resigns e =
        let a = answered_by c.game c.pending s engine reply Resigns (λ f x. cc) plan e in
        let asked : IsAsked c.game s engine.confirmed engine.unanswered = a.fits in
        over_sound c s engine (answered (heard_reply engine)) (Resign s) h up refl refl (λ i. ap (drop 1) i) goes_on
        asked.turn
    by_outcome Confirms e =
        confirms_sound c s engine h none up (answered_by c.game c.pending s engine reply Confirms (λ f x. cc) plan e)
    by_outcome (Moves v) e =
        moves_sound c s engine v h none up (answered_by c.game c.pending s engine reply (Moves v) (λ f x. cc) plan e)
        (move_is_legal c.game s (oldest engine.unanswered) reply v e)
    by_outcome Refuses e =
        by_retake (answered_by c.game c.pending s engine reply Refuses (λ f x. cc) plan e)
        (may_retake c s (heard_reply engine)) refl
    by_outcome TakesBack e =
        shortened_sound c s engine h none up
        (answered_by c.game c.pending s engine reply TakesBack (λ f x. cc) plan e)
    by_outcome Keeps e =
        let a = answered_by c.game c.pending s engine reply Keeps (λ f x. cc) plan e in
        over_sound c s engine (heard_reply engine) (Forfeit (other s) RefusedPlay) h up refl refl (λ i. i) goes_on
        (kept_blames c s engine h none a)
