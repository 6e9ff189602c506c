-- A side that goes down keeps what holds of every match, and so does a record that loses its last move.
use Rattle.std.proofs.Common.{◌≡◌, ℕ, ◌+◌, ◌-◌, ◌<◌, ◌≤◌, [], length, Option, Some, None}
use Rattle.std.proofs.Common.{Bool, true, false, refl, sym, ◌∙◌, ap, subst, arith, cond, inl, inr}
use Rattle.std.specs.Prelude.{◌⊎◌, IfSome, nat_lt}
use Rattle.std.proofs.lemmas.Bool.Decides.{nat_tests}
use Rattle.go_base.specs.Colour.{other}
use Rattle.go_base.specs.declared.colours.Colour.{Colour}
use Rattle.go_base.specs.declared.colours.Colour.TheVariants.{Black, White}
use Rattle.go_board.specs.Game.{GameRecord, IsFinished, without_last}
use Rattle.gtp_match.specs.declared.sides.EngineRun.{EngineRun}
use Rattle.gtp_match.specs.declared.sides.SideState.{SideState}
use Rattle.gtp_match.specs.declared.sides.Sides.{Sides}
use Rattle.gtp_match.specs.declared.verdicts.ForfeitCause.TheVariants.{RefusedPlay, NoMove, NoVertex, IllegalMove}
use Rattle.gtp_match.specs.declared.verdicts.Verdict.{Verdict}
use Rattle.gtp_match.specs.declared.verdicts.Verdict.TheVariants.{Score, Resign, Limit, Forfeit, Unfit, Abandoned}
use Rattle.gtp_match.specs.declared.controller.Controller.{Controller}
use Rattle.gtp_match.specs.Setup.{SetupRecord, game_of}
use Rattle.gtp_match.specs.Script.{script}
use Rattle.gtp_match.specs.Sides.{side_of, with_side, downed_side}
use Rattle.go_board.specs.Taken.{same_colour}
use Rattle.gtp_match.specs.Taking.{is_maker, unless_over, taking_back, takes_back}
use Rattle.gtp_match.specs.Controller.{new}
use Rattle.gtp_match.specs.Controller.{downed, verdict_when_down, lost, lost_engine}
use Rattle.gtp_match.specs.Sound.{VerdictFits, MayGoOn, IsAsked}
use Rattle.gtp_match.specs.Sound.{LacksLast, IsSetupCommand, IsUndo, OwesAnswer, RefusedInVain}
use Rattle.gtp_match.specs.Sound.{RefusedForGood, FailedToMove, Blames, all_retakes, IsSoundEngine}
use Rattle.gtp_match.specs.Sound.{IsSoundSide, IsSound}
use Rattle.gtp_match.proofs.scripts.WithoutLast.{shorter_length, script_shorter, shorter_is_game, shorter_turns}
use Rattle.gtp_match.proofs.scripts.WithoutLast.{shorter_went_on, same_is}
use Rattle.gtp_match.proofs.soundness.Calls.{my_side, their_side, TakingBack, changed, kept, with_verdict, kept_game}
use Rattle.gtp_match.proofs.soundness.Calls.{taken_at, mine_or_theirs, taken_theirs, their_take_back, idle_way}

-- ---- a side goes down

-- the verdict where a side goes down
record DownAs (c : Controller) (s : Colour) (verdict : Option Verdict) : Type 0 where
  back : verdict ≡ None → c.verdict ≡ None
  start_left : verdict ≡ None → (side_of c.sides s).starts ≤ c.setup.max_restarts
  -- where it is new, the game could go on, and else it is the old one
  ends : (new : Controller) → (MayGoOn c → MayGoOn new) → (VerdictFits c c.verdict → VerdictFits new c.verdict)
      → VerdictFits new verdict

down_as : (c : Controller) (s : Colour) → VerdictFits c c.verdict → DownAs c s (verdict_when_down c s c.verdict)
down_as c s ends = by_verdict c.verdict refl
  where
    abandoned : (b : Bool) → nat_lt c.setup.max_restarts (side_of c.sides s).starts ≡ b → c.verdict ≡ None
        → DownAs c s (cond b (Some (Abandoned s)) None)
    abandoned true e none = record {
      back = λ x. absurd (cc);
      start_left = λ x. absurd (cc);
      ends = λ new goes_on _. goes_on (subst (VerdictFits c) none ends);
    }
    abandoned false e none = record {
      back = λ _. none;
      start_left = λ _. grind (arith, nat_tests);
      ends = λ new goes_on _. goes_on (subst (VerdictFits c) none ends);
    }

    by_verdict : (v : Option Verdict) → c.verdict ≡ v → DownAs c s (verdict_when_down c s v)
    by_verdict (Some v) some = record {
      back = λ x. absurd (cc);
      start_left = λ x. absurd (cc);
      ends = λ new _ same. subst (VerdictFits new) some (same ends);
    }
    by_verdict None none = abandoned (nat_lt c.setup.max_restarts (side_of c.sides s).starts) refl none

-- what is known of a side's engine, if it is up, is known where a side went down
still_up : (P : EngineRun → Type 0) (sides : Sides) (s t : Colour) → IfSome (side_of sides t).up P
    → IfSome (side_of (with_side s (downed_side (side_of sides s)) sides) t).up P
still_up P sides Black Black h = tt
still_up P sides Black White h = h
still_up P sides White Black h = h
still_up P sides White White h = tt

abbrev GivenUp : ℕ → SideState → Type 0
GivenUp most state = (state.up ≡ None) × (state.starts ≡ most + 1)

still_given_up : (most : ℕ) (sides : Sides) (s t : Colour) → GivenUp most (side_of sides t)
    → GivenUp most (side_of (with_side s (downed_side (side_of sides s)) sides) t)
still_given_up most sides Black Black h = (refl, h.1)
still_given_up most sides Black White h = h
still_given_up most sides White Black h = h
still_given_up most sides White White h = (refl, h.1)

given_up : (most : ℕ) (sides : Sides) (s : Colour) → (side_of sides s).starts ≡ most + 1
    → GivenUp most (side_of (with_side s (downed_side (side_of sides s)) sides) s)
given_up most sides Black e = (refl, e)
given_up most sides White e = (refl, e)

-- the controller where a side went down, with this verdict
abbrev down_with : Controller → Colour → Option Verdict → Controller
down_with c s verdict = with_verdict c verdict (with_side s (downed_side (side_of c.sides s)) c.sides)

still_failed : (c : Controller) (s t : Colour) (verdict : Option Verdict) → FailedToMove c t
    → FailedToMove (down_with c s verdict) t
still_failed c s t verdict h = record {
  turn = h.turn;
  up = still_up (λ engine. IsAsked c.game t engine.confirmed engine.unanswered) c.sides s t h.up;
}

-- the same of an engine's refusal: no side matters to it
same_refusal : (c : Controller) (verdict : Option Verdict) (sides : Sides) (t : Colour) (up : Option EngineRun)
    → IfSome up (RefusedInVain c t) → IfSome up (RefusedInVain (with_verdict c verdict sides) t)
same_refusal c verdict sides t None h = tt
same_refusal c verdict sides t (Some engine) h = record { play = h.play; no_retake = h.no_retake }

still_refused : (c : Controller) (s t : Colour) (verdict : Option Verdict)
    → IfSome (side_of c.sides t).up (RefusedInVain c t) ⊎ RefusedForGood c t
    → IfSome (side_of (down_with c s verdict).sides t).up (RefusedInVain (down_with c s verdict) t)
    ⊎ RefusedForGood (down_with c s verdict) t
still_refused c s t verdict (inl h) =
    inl (still_up (RefusedInVain (down_with c s verdict) t) c.sides s t
    (same_refusal c verdict (with_side s (downed_side (side_of c.sides s)) c.sides) t (side_of c.sides t).up h))
still_refused c s t verdict (inr h) =
    inr (record {
      turn = h.turn;
      some = h.some;
      kept = still_up (OwesAnswer IsUndo) c.sides s (other t) h.kept;
    })

-- who is abandoned where a side went down, whatever the game
down_blames : (c new : Controller) (s : Colour) → new.setup ≡ c.setup
    → new.sides ≡ with_side s (downed_side (side_of c.sides s)) c.sides
    → (side_of c.sides s).starts ≤ c.setup.max_restarts + 1
    → Blames new (verdict_when_down c s None)
down_blames c new s setup_is sides_are most = by_starts (nat_lt c.setup.max_restarts (side_of c.sides s).starts) refl
  where
    by_starts : (b : Bool) → nat_lt c.setup.max_restarts (side_of c.sides s).starts ≡ b
        → Blames new (cond b (Some (Abandoned s)) None)
    by_starts true e =
        let G : Sides → Type 0 = λ x. GivenUp c.setup.max_restarts (side_of x s) in
        let H : SetupRecord → Type 0 = λ x. GivenUp x.max_restarts (side_of new.sides s) in
        subst H (sym setup_is) (subst G (sym sides_are)
        (given_up c.setup.max_restarts c.sides s (grind (arith, nat_tests))))
    by_starts false e = tt

blames_down : (c : Controller) (s : Colour) (v : Option Verdict)
    → (side_of c.sides s).starts ≤ c.setup.max_restarts + 1 → Blames c v
    → Blames (down_with c s (verdict_when_down c s v)) (verdict_when_down c s v)
blames_down c s (Some (Score x)) most h = tt
blames_down c s (Some Limit) most h = tt
blames_down c s (Some (Resign t)) most h = h
blames_down c s (Some (Forfeit t NoMove)) most h = still_failed c s t (Some (Forfeit t NoMove)) h
blames_down c s (Some (Forfeit t NoVertex)) most h = still_failed c s t (Some (Forfeit t NoVertex)) h
blames_down c s (Some (Forfeit t IllegalMove)) most h = still_failed c s t (Some (Forfeit t IllegalMove)) h
blames_down c s (Some (Forfeit t RefusedPlay)) most h = still_refused c s t (Some (Forfeit t RefusedPlay)) h
blames_down c s (Some (Unfit t)) most h = still_up (OwesAnswer IsSetupCommand) c.sides s t h
blames_down c s (Some (Abandoned t)) most h = still_given_up c.setup.max_restarts c.sides s t h
blames_down c s None most h = down_blames c (down_with c s (verdict_when_down c s None)) s refl refl most

same_self : (s : Colour) → same_colour s s ≡ true
same_self Black = refl
same_self White = refl

-- a side goes down whose last move is not to be taken back
down_sound : (c : Controller) (s : Colour) → IsSound c → takes_back c s ≡ false
    → IsSound (down_with c s (verdict_when_down c s c.verdict))
down_sound c s h free =
    let side = my_side c s h in
    let down = down_as c s h.ends in
    let verdict = verdict_when_down c s c.verdict in
    let state = downed_side (side_of c.sides s) in
    kept_game c verdict s state h (record {
      back = down.back;
      ends = down.ends c (λ x. x) (λ x. x);
      blames = blames_down c s c.verdict side.starts h.blames;
      mine = record { starts = side.starts; start_left = λ none _. down.start_left none; started = tt; engine = tt };
      one_asked = inl tt;
      taking_back = λ none. still_taking (down.back none);
    })
  where
    not_mine : (m : Colour) → c.verdict ≡ None → c.pending ≡ Some m → m ≡ s → ⊥
    not_mine m none is same =
        let taking : taking_back c ≡ Some s =
        ap (λ v. unless_over v c.pending) none ∙ is ∙ ap (λ (x : Colour). Some x) same in
        let here : takes_back c s ≡ same_colour s s = ap (λ p. is_maker p s) taking in
        let clash : true ≡ false = sym (same_self s) ∙ sym here ∙ free in
        cc

    by_pending : (p : Option Colour) → c.verdict ≡ None → c.pending ≡ p
        → IfSome p (TakingBack c.game (all_retakes c) (with_side s (downed_side (side_of c.sides s)) c.sides))
    by_pending None none is = tt
    by_pending (Some m) none is = by_maker m (mine_or_theirs m s) is (taken_at c m h none is)
      where
        by_maker : (m : Colour) → (m ≡ s) ⊎ (m ≡ other s) → c.pending ≡ Some m
            → TakingBack c.game (all_retakes c) c.sides m
            → TakingBack c.game (all_retakes c) (with_side s (downed_side (side_of c.sides s)) c.sides) m
        by_maker m (inl same) is t = absurd (not_mine m none is same)
        by_maker m (inr same) is t =
            let T : Colour → Type 0 = λ y. TakingBack c.game (all_retakes c) c.sides y in
            let U : Colour → Type 0 = λ y.
            TakingBack c.game (all_retakes c) (with_side s (downed_side (side_of c.sides s)) c.sides) y in
            let x = their_take_back c.game (all_retakes c) c.sides s (subst T same t) in
            subst U (sym same)
            (taken_theirs c.game (all_retakes c) c.sides s (downed_side (side_of c.sides s)) (record {
              some = x.some;
              made = x.made;
              engine = x.engine;
              up = x.up;
              all = x.all;
              undoing = x.undoing;
              lacks = tt;
              counted = x.counted;
            }))

    still_taking : c.verdict ≡ None → IfSome c.pending
        (TakingBack c.game (all_retakes c) (with_side s (downed_side (side_of c.sides s)) c.sides))
    still_taking none = by_pending c.pending none refl

-- ---- the last move leaves the record

-- the game could go on before its last move
pub went_on_before : (c new : Controller) → IsSound c → 0 < length c.game.moves → new.setup ≡ c.setup
    → new.game ≡ without_last c.game → MayGoOn new
went_on_before c new h some setup_is game_is =
    let G : GameRecord → Type 0 = λ g. ¬ IsFinished g in (
      omega (
        arith,
        ap (λ (p : SetupRecord). p.max_moves) setup_is,
        ap (λ (g : GameRecord). length g.moves) game_is,
        shorter_length c.game,
        h.few_moves,
        some,
      ),
      subst G (sym game_is) (h.went_on (length c.game.moves - 1) (omega (arith, some))),
    )

pub shorter_game_is : (c : Controller) → IsSound c → without_last c.game ≡ game_of c.setup (without_last c.game).moves
shorter_game_is c h = ap without_last h.game_is

-- the other side of a maker lacks the last move at most: it goes on without it
pub lacking_side : (c new : Controller) (t : Colour) (state : SideState) → IsSound c → c.verdict ≡ None
    → 0 < length c.game.moves → new.setup ≡ c.setup → new.game ≡ without_last c.game
    → all_retakes c ≤ all_retakes new
    → IfSome state.up (λ engine. (engine.unanswered ≡ []) × (engine.confirmed + 1 ≤ length (script c.game)))
    → IsSoundSide c t state → IsSoundSide new t state
lacking_side c new t state h none some setup_is game_is more lacks side = record {
  starts = omega (arith, side.starts, restarts_are);
  start_left = λ _ down. omega (arith, side.start_left none down, restarts_are);
  started = side.started;
  engine = by_up state.up lacks side.engine;
}
  where
    restarts_are : new.setup.max_restarts ≡ c.setup.max_restarts
    restarts_are = ap (λ (p : SetupRecord). p.max_restarts) setup_is

    shorter : length (script new.game) + 1 ≡ length (script c.game)
    shorter = ap (λ g. length (script g) + 1) game_is ∙ script_shorter c.game some

    by_up : (up : Option EngineRun)
        → IfSome up (λ engine. (engine.unanswered ≡ []) × (engine.confirmed + 1 ≤ length (script c.game)))
        → IfSome up (IsSoundEngine c t) → IfSome up (IsSoundEngine new t)
    by_up None l e = tt
    by_up (Some engine) l e =
        let way = e.under_way none in
        record {
          sent = omega (arith, e.sent, ap (λ (p : SetupRecord). p.max_moves) setup_is);
          quiet = e.quiet;
          under_way = λ _. idle_way new.game new.pending (all_retakes new) t engine l.0 (omega (arith, l.1, shorter))
              (omega (arith, way.all_sent)) (omega (arith, way.counted, ap length l.0, more));
        }

pub lacks_at_most : (c : Controller) (up : Option EngineRun) → IfSome up (LacksLast c.game)
    → IfSome up (λ engine. (engine.unanswered ≡ []) × (engine.confirmed + 1 ≤ length (script c.game)))
lacks_at_most c None l = tt
lacks_at_most c (Some engine) l = (l.idle, omega (arith, l.lacks))

-- a side goes down at which a move was to be taken back: the move leaves the record
abbrev dropped : Controller → Colour → Controller
dropped c s =
    changed c (without_last c.game) (verdict_when_down c s c.verdict)
    (with_side s (downed_side (side_of c.sides s)) c.sides) None c.retakes

dropped_sound : (c : Controller) (s : Colour) → IsSound c → c.verdict ≡ None → c.pending ≡ Some s
    → IsSound (dropped c s)
dropped_sound c s h none is =
    let side = my_side c s h in
    let down = down_as c s h.ends in
    let verdict = verdict_when_down c s c.verdict in
    let state = downed_side (side_of c.sides s) in
    let t = taken_at c s h none is in
    let goes_on : MayGoOn (dropped c s) = went_on_before c (dropped c s) h t.some refl refl in
    kept c (without_last c.game) verdict s state None c.retakes h (record {
      game_is = shorter_game_is c h;
      legal = shorter_is_game c.game h.game;
      turns = shorter_turns c.game h.turns;
      few_moves = omega (arith, goes_on.0);
      went_on = shorter_went_on c.game h.went_on;
      ends = down.ends (dropped c s) (λ _. goes_on) (λ _. subst (VerdictFits (dropped c s)) (sym none) goes_on);
      blames = subst (λ (v : Option Verdict). Blames (dropped c s) (verdict_when_down c s v)) (sym none)
          (down_blames c (dropped c s) s refl refl side.starts);
      mine = record { starts = side.starts; start_left = λ none _. down.start_left none; started = tt; engine = tt };
      theirs = lacking_side c (dropped c s) (other s) (side_of c.sides (other s)) h none t.some refl refl
          (omega arith) (lacks_at_most c (side_of c.sides (other s)).up t.lacks) (their_side c s h);
      one_asked = inl tt;
      retakes = h.retakes;
      taking_back = λ _. tt;
    })

-- what `takes_back` says
pub takes_back_is : (c : Controller) (s : Colour) → takes_back c s ≡ true → (c.verdict ≡ None) × (c.pending ≡ Some s)
takes_back_is c s e = by_verdict c.verdict refl e
  where
    by_pending : (p : Option Colour) → c.verdict ≡ None → c.pending ≡ p → is_maker p s ≡ true
        → (c.verdict ≡ None) × (c.pending ≡ Some s)
    by_pending None none is e = absurd (cc)
    by_pending (Some m) none is e = (none, is ∙ ap (λ (x : Colour). Some x) (same_is m s e))

    by_verdict : (v : Option Verdict) → c.verdict ≡ v → is_maker (unless_over v c.pending) s ≡ true
        → (c.verdict ≡ None) × (c.pending ≡ Some s)
    by_verdict (Some v) some e = absurd (cc)
    by_verdict None none e = by_pending c.pending none refl e

-- where a side goes down, the move that was to be taken back at it leaves the record, or nothing else changes
pub downed_by : (c : Controller) (s : Colour) (b : Bool) → takes_back c s ≡ b
    → downed c s ≡ cond b (dropped c s) (down_with c s (verdict_when_down c s c.verdict))
downed_by c s true e = rw e refl
downed_by c s false e = rw e refl

pub downed_sound : (c : Controller) (s : Colour) → IsSound c → IsSound (downed c s)
downed_sound c s h = by_test (takes_back c s) refl
  where
    by_test : (b : Bool) → takes_back c s ≡ b → IsSound (downed c s)
    by_test true e =
        let t = takes_back_is c s e in
        subst IsSound (sym (downed_by c s true e)) (dropped_sound c s h t.0 t.1)
    by_test false e = subst IsSound (sym (downed_by c s false e)) (down_sound c s h e)

pub lost_sound : (c : Controller) (s : Colour) → IsSound c → IsSound (lost c s)
lost_sound c s h = by_up (side_of c.sides s).up
  where
    by_up : (up : Option EngineRun) → IsSound (lost_engine c s up)
    by_up None = h
    by_up (Some engine) = downed_sound c s h
