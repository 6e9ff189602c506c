-- Each call keeps what holds of every match.
use Rattle.std.proofs.Common.{◌≡◌, ℕ, ◌+◌, ◌*◌, ◌<◌, ◌≤◌, length-append, List, [], ◌∷◌, ◌++◌, length, Option, Some}
use Rattle.std.proofs.Common.{None, true, false, refl, sym, ◌∙◌, ap, subst, arith, inl, inr}
use Rattle.std.specs.Prelude.{slice_get, ◌⊎◌, IfSome, MatchOption}
use Rattle.go_base.specs.Colour.{other}
use Rattle.go_base.specs.declared.colours.Colour.{Colour}
use Rattle.go_base.specs.declared.colours.Colour.TheVariants.{Black, White}
use Rattle.go_board.specs.Game.{GameRecord, IsGame, IsFinished, first_moves}
use Rattle.gtp_wire.specs.declared.commands.Command.{Command}
use Rattle.gtp_wire.specs.declared.commands.Command.TheVariants as command
use Rattle.gtp_wire.specs.Replies.{GivesNoAnswer}
use Rattle.gtp_wire.proofs.first_answers.OneByteMore.{read_nothing}
use Rattle.gtp_match.specs.declared.unanswered.SentCommand.{SentCommand}
use Rattle.gtp_match.specs.declared.sides.EngineRun.{EngineRun}
use Rattle.gtp_match.specs.declared.sides.SideState.{SideState}
use Rattle.gtp_match.specs.declared.sides.Sides.{Sides}
use Rattle.gtp_match.specs.declared.verdicts.Action.TheVariants.{Start, Send}
use Rattle.gtp_match.specs.declared.verdicts.Verdict.{Verdict}
use Rattle.gtp_match.specs.declared.verdicts.Verdict.TheVariants.{Score, Resign, Limit, Forfeit, Unfit, Abandoned}
use Rattle.gtp_match.specs.declared.controller.Controller.{Controller}
use Rattle.gtp_match.specs.Setup.{SetupRecord, IsSetup, game_of}
use Rattle.gtp_match.specs.Script.{script}
use Rattle.gtp_match.specs.Unanswered.{has_genmove, is_genmove}
use Rattle.gtp_match.specs.Sides.{side_of, with_side, started_side, with_engine, with_sent}
use Rattle.gtp_match.specs.Retakes.{AreRetakes}
use Rattle.gtp_match.specs.Controller.{new, with_side_up, started, next_command, script_or_genmove, undo_or_else, sent}
use Rattle.gtp_match.specs.Controller.{sent_to}
use Rattle.gtp_match.specs.Next.{next}
use Rattle.gtp_match.specs.Sound.{TakesTurns, VerdictFits, InScript, AreUndo, HasPlan, IsUnderWay}
use Rattle.gtp_match.specs.Sound.{LacksLast, IsTakingBack, IsUndo}
use Rattle.gtp_match.specs.Sound.{Blames, most_commands, all_retakes, IsSoundEngine}
use Rattle.gtp_match.specs.Sound.{IsSoundSide, IsIdle, IsSound}
use Rattle.gtp_match.specs.private.Conditions.{MayBeSentMore}
use Rattle.gtp_match.proofs.endings.AfterMove.{no_passes}
use Rattle.gtp_match.proofs.taking_back.RetakeCounts.{none_retaken, retakes_few}
use Rattle.gtp_match.proofs.scripts.Scripts.{script_few, below_length, past_length}
use Rattle.gtp_match.proofs.actions.Conditions.{says_start, BothIdle, GoesOn, ToUndo, SaysSend, MakerIsUp, says_send}

-- ---- one of the sides and the other

pub my_side : (c : Controller) (s : Colour) → IsSound c → IsSoundSide c s (side_of c.sides s)
my_side c Black h = h.black
my_side c White h = h.white

pub their_side : (c : Controller) (s : Colour) → IsSound c → IsSoundSide c (other s) (side_of c.sides (other s))
their_side c Black h = h.white
their_side c White h = h.black

swapped : {A B : Type 0} → A ⊎ B → B ⊎ A
swapped (inl a) = inr a
swapped (inr b) = inl b

pub one_idle : (c : Controller) (s : Colour) → IsSound c
    → IsIdle (side_of c.sides s).up ⊎ IsIdle (side_of c.sides (other s)).up
one_idle c Black h = h.one_asked
one_idle c White h = swapped h.one_asked

-- a move that is to be taken back, of the sides
abbrev pub TakingBack : GameRecord → ℕ → Sides → Colour → Type 0
TakingBack game retaken sides maker =
    IsTakingBack game retaken maker (side_of sides maker).up (side_of sides (other maker)).up

-- the controller with other sides, and perhaps another game, verdict, take-back and retakes
abbrev pub changed : Controller → GameRecord → Option Verdict → Sides → Option Colour → List ℕ → Controller
changed c game verdict sides pending retakes = record {
  setup = c.setup;
  game = game;
  verdict = verdict;
  sides = sides;
  pending = pending;
  retakes = retakes;
}

-- what is left to show where one side changes, and perhaps game, verdict, take-back and retakes
pub record Keeps (c new : Controller) (s : Colour) (state : SideState) : Type 0 where
  pub game_is : new.game ≡ game_of c.setup new.game.moves
  pub legal : IsGame new.game
  pub turns : TakesTurns new.game
  pub few_moves : length new.game.moves ≤ c.setup.max_moves
  pub went_on : (k : ℕ) → k < length new.game.moves → ¬ IsFinished (first_moves k new.game)
  pub ends : VerdictFits new new.verdict
  pub blames : Blames new new.verdict
  pub mine : IsSoundSide new s state
  pub theirs : IsSoundSide new (other s) (side_of c.sides (other s))
  pub one_asked : IsIdle state.up ⊎ IsIdle (side_of c.sides (other s)).up
  pub retakes : AreRetakes new.retakes
  pub taking_back : new.verdict ≡ None → IfSome new.pending (TakingBack new.game (all_retakes new) new.sides)

pub kept : (c : Controller) (game : GameRecord) (verdict : Option Verdict) (s : Colour) (state : SideState)
    (pending : Option Colour) (retakes : List ℕ) → IsSound c
    → Keeps c (changed c game verdict (with_side s state c.sides) pending retakes) s state
    → IsSound (changed c game verdict (with_side s state c.sides) pending retakes)
kept c game verdict Black state pending retakes h k = record {
  setup = h.setup;
  game_is = k.game_is;
  game = k.legal;
  turns = k.turns;
  few_moves = k.few_moves;
  went_on = k.went_on;
  ends = k.ends;
  blames = k.blames;
  black = k.mine;
  white = k.theirs;
  one_asked = k.one_asked;
  retakes = k.retakes;
  taking_back = k.taking_back;
}
kept c game verdict White state pending retakes h k = record {
  setup = h.setup;
  game_is = k.game_is;
  game = k.legal;
  turns = k.turns;
  few_moves = k.few_moves;
  went_on = k.went_on;
  ends = k.ends;
  blames = k.blames;
  black = k.theirs;
  white = k.mine;
  one_asked = swapped k.one_asked;
  retakes = k.retakes;
  taking_back = k.taking_back;
}

-- the controller with another verdict and other sides
abbrev pub with_verdict : Controller → Option Verdict → Sides → Controller
with_verdict c verdict sides = changed c c.game verdict sides c.pending c.retakes

-- a side stays sound where the game stays and a verdict that was given is not taken back
pub same_side : (c : Controller) (t : Colour) (verdict : Option Verdict) (sides : Sides) (state : SideState)
    → (verdict ≡ None → c.verdict ≡ None) → IsSoundSide c t state → IsSoundSide (with_verdict c verdict sides) t state
same_side c t verdict sides state back side = record {
  starts = side.starts;
  start_left = λ none. side.start_left (back none);
  started = side.started;
  engine = by_up state.up side.engine;
}
  where
    by_up : (up : Option EngineRun) → IfSome up (IsSoundEngine c t)
        → IfSome up (IsSoundEngine (with_verdict c verdict sides) t)
    by_up None e = tt
    by_up (Some engine) e = record { sent = e.sent; quiet = e.quiet; under_way = λ none. e.under_way (back none) }

-- what is left to show where one side changes, and perhaps the verdict
pub record KeepsGame (c : Controller) (verdict : Option Verdict) (s : Colour) (state : SideState) : Type 0 where
  pub back : verdict ≡ None → c.verdict ≡ None
  pub ends : VerdictFits c verdict
  pub blames : Blames (with_verdict c verdict (with_side s state c.sides)) verdict
  pub mine : IsSoundSide (with_verdict c verdict (with_side s state c.sides)) s state
  pub one_asked : IsIdle state.up ⊎ IsIdle (side_of c.sides (other s)).up
  pub taking_back : verdict ≡ None
      → IfSome c.pending (TakingBack c.game (all_retakes c) (with_side s state c.sides))

pub kept_game : (c : Controller) (verdict : Option Verdict) (s : Colour) (state : SideState) → IsSound c
    → KeepsGame c verdict s state → IsSound (with_verdict c verdict (with_side s state c.sides))
kept_game c verdict s state h k =
    kept c c.game verdict s state c.pending c.retakes h (record {
      game_is = h.game_is;
      legal = h.game;
      turns = h.turns;
      few_moves = h.few_moves;
      went_on = h.went_on;
      ends = fits verdict k.ends;
      blames = k.blames;
      mine = k.mine;
      theirs = same_side c (other s) verdict (with_side s state c.sides) (side_of c.sides (other s)) k.back
          (their_side c s h);
      one_asked = k.one_asked;
      retakes = h.retakes;
      taking_back = k.taking_back;
    })
  where
    fits : (v : Option Verdict) → VerdictFits c v → VerdictFits (with_verdict c verdict (with_side s state c.sides)) v
    fits None f = f
    fits (Some (Score x)) f = f
    fits (Some Limit) f = f
    fits (Some (Resign t)) f = f
    fits (Some (Forfeit t cause)) f = f
    fits (Some (Unfit t)) f = f
    fits (Some (Abandoned t)) f = f

-- ---- a move that is to be taken back

-- nothing is to be taken back
pub nothing_taken : (game : GameRecord) (retaken : ℕ) (sides : Sides) (pending : Option Colour) → pending ≡ None
    → IfSome pending (TakingBack game retaken sides)
nothing_taken game retaken sides pending none =
    subst (λ (p : Option Colour). IfSome p (TakingBack game retaken sides)) (sym none) tt

-- one thing is
pub one_taken : (game : GameRecord) (retaken : ℕ) (sides : Sides) (pending : Option Colour) (maker : Colour)
    → pending ≡ Some maker → TakingBack game retaken sides maker → IfSome pending (TakingBack game retaken sides)
one_taken game retaken sides pending maker is t =
    subst (λ (p : Option Colour). IfSome p (TakingBack game retaken sides)) (sym is) t

pub taken_at : (c : Controller) (maker : Colour) → IsSound c → c.verdict ≡ None → c.pending ≡ Some maker
    → TakingBack c.game (all_retakes c) c.sides maker
taken_at c maker h none is =
    subst (λ (p : Option Colour). IfSome p (TakingBack c.game (all_retakes c) c.sides)) is (h.taking_back none)

pub maker_is_up : (c : Controller) → IsSound c → MakerIsUp c
maker_is_up c h maker none is = let t = taken_at c maker h none is in (t.engine, t.up)

pub mine_or_theirs : (m s : Colour) → (m ≡ s) ⊎ (m ≡ other s)
mine_or_theirs Black Black = inl refl
mine_or_theirs Black White = inr refl
mine_or_theirs White Black = inr refl
mine_or_theirs White White = inl refl

-- where the side's last move is to be taken back, and the side is this
pub taken_mine : (game : GameRecord) (retaken : ℕ) (sides : Sides) (s : Colour) (state : SideState)
    → IsTakingBack game retaken s state.up (side_of sides (other s)).up
    → TakingBack game retaken (with_side s state sides) s
taken_mine game retaken sides Black state t = t
taken_mine game retaken sides White state t = t

-- and where it is the other side's
pub taken_theirs : (game : GameRecord) (retaken : ℕ) (sides : Sides) (s : Colour) (state : SideState)
    → IsTakingBack game retaken (other s) (side_of sides (other s)).up state.up
    → TakingBack game retaken (with_side s state sides) (other s)
taken_theirs game retaken sides Black state t = t
taken_theirs game retaken sides White state t = t

-- what is known of the other side's take-back
pub their_take_back : (game : GameRecord) (retaken : ℕ) (sides : Sides) (s : Colour)
    → TakingBack game retaken sides (other s)
    → IsTakingBack game retaken (other s) (side_of sides (other s)).up (side_of sides s).up
their_take_back game retaken sides Black t = t
their_take_back game retaken sides White t = t

-- The take-back goes on where a side has another engine: as the maker it keeps what is asked of it, and as the other
-- side too.
pub goes_on_taking : (c : Controller) (s : Colour) (state : SideState)
    → (IsTakingBack c.game (all_retakes c) s (side_of c.sides s).up (side_of c.sides (other s)).up
    → IsTakingBack c.game (all_retakes c) s state.up (side_of c.sides (other s)).up)
    → (IfSome (side_of c.sides s).up (LacksLast c.game) → IfSome state.up (LacksLast c.game))
    → IfSome c.pending (TakingBack c.game (all_retakes c) c.sides)
    → IfSome c.pending (TakingBack c.game (all_retakes c) (with_side s state c.sides))
goes_on_taking c s state mine theirs h = by_pending c.pending h
  where
    by_maker : (m : Colour) → (m ≡ s) ⊎ (m ≡ other s) → TakingBack c.game (all_retakes c) c.sides m
        → TakingBack c.game (all_retakes c) (with_side s state c.sides) m
    by_maker m (inl is) t =
        let T : Colour → Type 0 = λ x. TakingBack c.game (all_retakes c) c.sides x in
        let U : Colour → Type 0 = λ x. TakingBack c.game (all_retakes c) (with_side s state c.sides) x in
        subst U (sym is) (taken_mine c.game (all_retakes c) c.sides s state (mine (subst T is t)))
    by_maker m (inr is) t =
        let T : Colour → Type 0 = λ x. TakingBack c.game (all_retakes c) c.sides x in
        let U : Colour → Type 0 = λ x. TakingBack c.game (all_retakes c) (with_side s state c.sides) x in
        let x = their_take_back c.game (all_retakes c) c.sides s (subst T is t) in
        subst U (sym is) (taken_theirs c.game (all_retakes c) c.sides s state (record {
          some = x.some;
          made = x.made;
          engine = x.engine;
          up = x.up;
          all = x.all;
          undoing = x.undoing;
          lacks = theirs x.lacks;
          counted = x.counted;
        }))

    by_pending : (p : Option Colour) → IfSome p (TakingBack c.game (all_retakes c) c.sides)
        → IfSome p (TakingBack c.game (all_retakes c) (with_side s state c.sides))
    by_pending None t = tt
    by_pending (Some m) t = by_maker m (mine_or_theirs m s) t

-- Where a side has an unanswered command that isn't `undo`, nothing is to be taken back.
pub nothing_pending : (c : Controller) (s : Colour) (engine : EngineRun) (entry : SentCommand)
    (more : List SentCommand) → IsSound c → c.verdict ≡ None → (side_of c.sides s).up ≡ Some engine
    → engine.unanswered ≡ entry ∷ more → ¬ IsUndo entry.command → c.pending ≡ None
nothing_pending c s engine entry more h none up entries_are no_undo = by_pending c.pending refl
  where
    by_given : (is_given : List SentCommand) → is_given ≡ entry ∷ more → (is_given ≡ []) ⊎ AreUndo is_given → ⊥
    by_given is_given is (inl empty) = let clash : [] ≡ entry ∷ more = sym empty ∙ is in cc
    by_given is_given is (inr u) =
        let both : entry ∷ more ≡ u.entry ∷ [] = sym is ∙ u.alone in
        let same : entry ≡ u.entry = cc in
        no_undo (ap (λ (x : SentCommand). x.command) same ∙ u.undo)

    by_maker : (m : Colour) → (m ≡ s) ⊎ (m ≡ other s) → TakingBack c.game (all_retakes c) c.sides m → ⊥
    by_maker m (inl is) t =
        let x = subst (λ y. TakingBack c.game (all_retakes c) c.sides y) is t in
        let same : Some x.engine ≡ Some engine = sym x.up ∙ up in
        let e : x.engine ≡ engine = cc in
        by_given x.engine.unanswered (ap (λ (y : EngineRun). y.unanswered) e ∙ entries_are) x.undoing
    by_maker m (inr is) t =
        let x = their_take_back c.game (all_retakes c) c.sides s
        (subst (λ y. TakingBack c.game (all_retakes c) c.sides y) is t) in
        let l : LacksLast c.game engine = subst (λ (u : Option EngineRun). IfSome u (LacksLast c.game)) up x.lacks in
        let clash : [] ≡ entry ∷ more = sym l.idle ∙ entries_are in
        cc

    by_pending : (p : Option Colour) → c.pending ≡ p → c.pending ≡ None
    by_pending None is = is
    by_pending (Some m) is = absurd (by_maker m (mine_or_theirs m s) (taken_at c m h none is))

-- before a verdict nobody is blamed
pub no_blame : (c : Controller) (verdict : Option Verdict) → verdict ≡ None → Blames c verdict
no_blame c verdict none = subst (Blames c) (sym none) tt

-- ---- a new match

pub nothing_given : GivesNoAnswer []
nothing_given = read_nothing.quiet

pub new_sound : (setup : SetupRecord) → IsSetup setup → IsGame (game_of setup []) → IsSound (new setup)
new_sound setup is game = record {
  setup = is;
  game_is = refl;
  game = game;
  turns = record {
    without_handicap = λ move none e. absurd (cc);
    with_handicap = λ move some e. absurd (cc);
    later = λ k move next e f. absurd (cc);
  };
  few_moves = omega arith;
  ends = (is.moves.0, no_passes setup);
  went_on = λ k below. absurd (omega (arith, below));
  blames = tt;
  black = record { starts = omega arith; start_left = λ _ _. omega arith; started = tt; engine = tt };
  white = record { starts = omega arith; start_left = λ _ _. omega arith; started = tt; engine = tt };
  one_asked = inl tt;
  retakes = none_retaken;
  taking_back = λ _. tt;
}

-- ---- a start

-- an engine of which nothing is unanswered
pub idle_way : (game : GameRecord) (pending : Option Colour) (retaken : ℕ) (s : Colour) (engine : EngineRun)
    → engine.unanswered ≡ [] → engine.confirmed ≤ length (script game)
    → engine.confirmed ≤ engine.sent → engine.sent ≤ engine.confirmed + 2 * retaken
    → IsUnderWay game pending retaken s engine
idle_way game pending retaken s engine idle within all_sent counted = record {
  plan = inl (subst (InScript (script game) engine.confirmed) (sym idle) within);
  few_unanswered = omega (arith, ap length idle);
  all_sent = omega (arith, ap length idle, all_sent);
  counted = omega (arith, ap length idle, counted);
}

pub started_sound : (c : Controller) (s : Colour) → IsSound c → next c ≡ Start s → IsSound (started c s)
started_sound c s h e =
    let says = says_start c s e in
    let side = my_side c s h in
    let left = side.start_left says.verdict says.down in
    let state = started_side (side_of c.sides s) in
    kept_game c c.verdict s state h (record {
      back = λ x. x;
      ends = h.ends;
      blames = no_blame (with_verdict c c.verdict (with_side s state c.sides)) c.verdict says.verdict;
      mine = record {
        starts = omega (arith, left);
        start_left = λ _ e. absurd (cc);
        started = omega arith;
        engine = record {
          sent = omega arith;
          quiet = nothing_given;
          under_way = λ _. record {
            plan = inl (omega arith);
            few_unanswered = omega arith;
            all_sent = omega arith;
            counted = omega arith;
          };
        };
      };
      one_asked = inl refl;
      taking_back = λ _. nothing_taken c.game (all_retakes c) (with_side s state c.sides) c.pending says.pending;
    })

-- ---- a command is sent

-- the engine of a side that is up
pub my_engine : (c : Controller) (s : Colour) (engine : EngineRun) → IsSound c → (side_of c.sides s).up ≡ Some engine
    → IsSoundEngine c s engine
my_engine c s engine h up = subst (λ (u : Option EngineRun). IfSome u (IsSoundEngine c s)) up (my_side c s h).engine

-- a side that is up was started
pub my_start : (c : Controller) (s : Colour) (engine : EngineRun) → IsSound c → (side_of c.sides s).up ≡ Some engine
    → 1 ≤ (side_of c.sides s).starts
my_start c s engine h up =
    subst (λ (u : Option EngineRun). IfSome u (λ _. 1 ≤ (side_of c.sides s).starts)) up (my_side c s h).started

-- the number of commands that an engine without unanswered ones confirmed
pub idle_plan : (game : GameRecord) (pending : Option Colour) (retaken : ℕ) (s : Colour) (engine : EngineRun)
    → IsUnderWay game pending retaken s engine → engine.unanswered ≡ [] → engine.confirmed ≤ length (script game)
idle_plan game pending retaken s engine way idle = by_plan way.plan
  where
    by_plan : HasPlan game pending s engine.confirmed engine.unanswered → engine.confirmed ≤ length (script game)
    by_plan (inl plan) = subst (InScript (script game) engine.confirmed) idle plan
    by_plan (inr (inl asks)) = omega (arith, asks.all)
    by_plan (inr (inr (is, undo))) = let clash : [] ≡ undo.entry ∷ [] = sym idle ∙ undo.alone in absurd (cc)

pub may_be_sent_more : (c : Controller) (s : Colour) → IsSound c → (says : SaysSend c s) → MayBeSentMore says.engine
may_be_sent_more c s h says =
    let engine = my_engine c s says.engine h says.up in (omega (arith, engine.sent, h.setup.moves.1), says.room)

-- the script's next command after those that are unanswered
pub script_grows : (commands : List Command) (n : ℕ) (entries : List SentCommand) (entry : SentCommand)
    → InScript commands n entries → slice_get commands (n + length entries) ≡ Some entry.command
    → InScript commands n (entries ++ entry ∷ [])
script_grows commands n [] entry plan e =
    let place : n + 0 ≡ n = omega arith in
    let here : slice_get commands n ≡ Some entry.command = ap (slice_get commands) (sym place) ∙ e in
    (here, omega (arith, below_length commands n entry.command here))
script_grows commands n (x ∷ entries) entry plan e =
    let place : n + 1 + length entries ≡ n + length (x ∷ entries) = omega arith in
    (plan.0, script_grows commands (n + 1) entries entry plan.1 (ap (slice_get commands) place ∙ e))

-- where no `genmove` is unanswered, and no `undo`, what is goes on in the script
pub in_script : (game : GameRecord) (pending : Option Colour) (s : Colour) (n : ℕ) (entries : List SentCommand)
    → has_genmove entries ≡ false → pending ≡ None → HasPlan game pending s n entries → InScript (script game) n entries
in_script game pending s n entries none free (inl plan) = plan
in_script game pending s n entries none free (inr (inl asked)) =
    let genmove : is_genmove asked.entry.command ≡ true = ap is_genmove asked.genmove in
    let there : has_genmove (asked.entry ∷ []) ≡ true = rw genmove refl in
    let clash : true ≡ false = sym there ∙ sym (ap has_genmove asked.alone) ∙ none in
    absurd (cc)
in_script game pending s n entries none free (inr (inr (is, undo))) =
    let clash : None ≡ Some s = sym free ∙ is in absurd (cc)

-- the plan after a command more of the script, or a `genmove`
handed_plan : (c : Controller) (s : Colour) (engine : EngineRun) (k : Option Command)
    → slice_get (script c.game) (engine.confirmed + length engine.unanswered) ≡ k
    → IsUnderWay c.game c.pending (all_retakes c) s engine
    → has_genmove engine.unanswered ≡ false → c.pending ≡ None → BothIdle c s engine ⊎ GoesOn c.game engine
    → HasPlan c.game c.pending s engine.confirmed (with_sent (script_or_genmove s k) engine).unanswered
handed_plan c s engine (Some k) e way none free kind =
    inl (script_grows (script c.game) engine.confirmed engine.unanswered (record { id = engine.sent + 1; command = k })
    (in_script c.game c.pending s engine.confirmed engine.unanswered none free way.plan) e)
handed_plan c s engine None e way none free (inl idle) =
    let entry : SentCommand = record { id = engine.sent + 1; command = command.Genmove s } in
    inr (inl (record {
      entry = entry;
      genmove = refl;
      alone = ap (λ (es : List SentCommand). es ++ entry ∷ []) idle.idle;
      all = omega (
        arith,
        past_length (script c.game) (engine.confirmed + length engine.unanswered) e,
        ap length idle.idle,
        idle_plan c.game c.pending (all_retakes c) s engine way idle.idle,
      );
      turn = idle.turn e;
    }))
handed_plan c s engine None e way none free (inr on) =
    absurd (omega (arith, past_length (script c.game) (engine.confirmed + length engine.unanswered) e, on.more))

-- what the engine of a side that is sent its next command is then
record IsHanded (c : Controller) (s : Colour) (engine : EngineRun) (command : Command) : Type 0 where
  way : IsUnderWay c.game c.pending (all_retakes c) s (with_sent command engine)
  few : engine.sent + 1 ≤ most_commands c.setup
  taking : IfSome c.pending (TakingBack c.game (all_retakes c)
      (with_side s (with_engine (with_sent command engine) (side_of c.sides s)) c.sides))

-- all retakes are few
pub all_few : (c : Controller) → IsSound c → all_retakes c ≤ 3 * c.setup.max_moves
all_few c h = retakes_few c.retakes c.setup.max_moves h.retakes

longer : (engine : EngineRun) (command : Command)
    → length (with_sent command engine).unanswered ≡ length engine.unanswered + 1
longer engine command = length-append engine.unanswered (record { id = engine.sent + 1; command = command } ∷ [])

-- nothing is to be taken back where a side goes on with its script
pub on_is_free : (c : Controller) (s : Colour) (engine : EngineRun) → IsSound c → c.verdict ≡ None
    → (side_of c.sides s).up ≡ Some engine → GoesOn c.game engine → c.pending ≡ None
on_is_free c s engine h none up on = by_pending c.pending refl
  where
    by_maker : (m : Colour) → (m ≡ s) ⊎ (m ≡ other s) → TakingBack c.game (all_retakes c) c.sides m → ⊥
    by_maker m (inl is) t =
        let x = subst (λ y. TakingBack c.game (all_retakes c) c.sides y) is t in
        let same : Some x.engine ≡ Some engine = sym x.up ∙ up in
        let e : x.engine ≡ engine = cc in
        omega (arith, x.all, ap (λ (y : EngineRun). y.confirmed) e, on.more)
    by_maker m (inr is) t =
        let x = their_take_back c.game (all_retakes c) c.sides s
        (subst (λ y. TakingBack c.game (all_retakes c) c.sides y) is t) in
        let l : LacksLast c.game engine = subst (λ (u : Option EngineRun). IfSome u (LacksLast c.game)) up x.lacks in
        on.busy l.idle

    by_pending : (p : Option Colour) → c.pending ≡ p → c.pending ≡ None
    by_pending None is = is
    by_pending (Some m) is = absurd (by_maker m (mine_or_theirs m s) (taken_at c m h none is))

-- a command of the script, or a `genmove`
handed_script : (c : Controller) (s : Colour) (says : SaysSend c s) → IsSound c → c.pending ≡ None
    → BothIdle c s says.engine ⊎ GoesOn c.game says.engine → IsHanded c s says.engine (next_command c s says.engine)
handed_script c s says h free kind =
    let engine = says.engine in
    let way = (my_engine c s engine h says.up).under_way says.verdict in
    let k = slice_get (script c.game) (engine.confirmed + length engine.unanswered) in
    let command_is : undo_or_else c.pending (script_or_genmove s k) ≡ script_or_genmove s k =
    ap (λ p. undo_or_else p (script_or_genmove s k)) free in
    let more = longer engine (script_or_genmove s k) in
    subst (IsHanded c s engine) (sym command_is) (record {
      way = record {
        plan = handed_plan c s engine k refl way says.no_genmove free kind;
        few_unanswered = omega (arith, more, says.room);
        all_sent = omega (arith, more, way.all_sent);
        counted = omega (arith, more, way.counted);
      };
      few = by_kind kind way;
      taking = nothing_taken c.game (all_retakes c)
          (with_side s (with_engine (with_sent (script_or_genmove s k) engine) (side_of c.sides s)) c.sides)
          c.pending free;
    })
  where
    ends : VerdictFits c None
    ends = subst (VerdictFits c) says.verdict h.ends

    by_kind : BothIdle c s says.engine ⊎ GoesOn c.game says.engine
        → IsUnderWay c.game c.pending (all_retakes c) s says.engine → says.engine.sent + 1 ≤ most_commands c.setup
    by_kind (inl idle) way =
        omega (
          arith,
          way.counted,
          ap length idle.idle,
          idle_plan c.game c.pending (all_retakes c) s says.engine way idle.idle,
          script_few c.game,
          ends.0,
          all_few c h,
        )
    by_kind (inr on) way = omega (arith, way.counted, on.more, script_few c.game, ends.0, all_few c h)

-- `undo`
handed_undo : (c : Controller) (s : Colour) (says : SaysSend c s) → IsSound c → ToUndo c s says.engine
    → IsHanded c s says.engine (next_command c s says.engine)
handed_undo c s says h undo =
    let engine = says.engine in
    let way = (my_engine c s engine h says.up).under_way says.verdict in
    let k = slice_get (script c.game) (engine.confirmed + length engine.unanswered) in
    let command_is : undo_or_else c.pending (script_or_genmove s k) ≡ command.Undo =
    ap (λ p. undo_or_else p (script_or_genmove s k)) undo.pending in
    let more = longer engine command.Undo in
    let t = taken_at c s h says.verdict undo.pending in
    let same : Some t.engine ≡ Some engine = sym t.up ∙ says.up in
    let e : t.engine ≡ engine = cc in
    let all : engine.confirmed ≡ length (script c.game) = sym (ap (λ (x : EngineRun). x.confirmed) e) ∙ t.all in
    let counted : engine.sent + 2 ≤ engine.confirmed + length engine.unanswered + 2 * all_retakes c =
    subst (λ (x : EngineRun). x.sent + 2 ≤ x.confirmed + length x.unanswered + 2 * all_retakes c) e t.counted in
    let entry : SentCommand = record { id = engine.sent + 1; command = command.Undo } in
    let undo_is_sent : AreUndo (with_sent command.Undo engine).unanswered =
    record { entry = entry; undo = refl; alone = ap (λ (es : List SentCommand). es ++ entry ∷ []) undo.idle } in
    let next = with_sent command.Undo engine in
    subst (IsHanded c s engine) (sym command_is) (record {
      way = record {
        plan = inr (inr (undo.pending, undo_is_sent));
        few_unanswered = omega (arith, more, says.room);
        all_sent = omega (arith, more, way.all_sent);
        counted = omega (arith, more, way.counted);
      };
      few = omega (arith, counted, ap length undo.idle, all, script_few c.game, ends.0, all_few c h);
      taking = one_taken c.game (all_retakes c) (with_side s (with_engine next (side_of c.sides s)) c.sides) c.pending s
          undo.pending (taken_mine c.game (all_retakes c) c.sides s (with_engine next (side_of c.sides s)) (record {
            some = t.some;
            made = t.made;
            engine = next;
            up = refl;
            all = all;
            undoing = inr undo_is_sent;
            lacks = t.lacks;
            counted = omega (arith, counted, more);
          }));
    })
  where
    ends : VerdictFits c None
    ends = subst (VerdictFits c) says.verdict h.ends

handed_as : (c : Controller) (s : Colour) (says : SaysSend c s) → IsSound c
    → IsHanded c s says.engine (next_command c s says.engine)
handed_as c s says h = by_kind says.kind
  where
    by_kind : BothIdle c s says.engine ⊎ (GoesOn c.game says.engine ⊎ ToUndo c s says.engine)
        → IsHanded c s says.engine (next_command c s says.engine)
    by_kind (inl idle) = handed_script c s says h idle.pending (inl idle)
    by_kind (inr (inl on)) =
        handed_script c s says h (on_is_free c s says.engine h says.verdict says.up on) (inr on)
    by_kind (inr (inr undo)) = handed_undo c s says h undo

-- the other side of one that is sent a command is idle
other_is_idle : (c : Controller) (s : Colour) → IsSound c → (says : SaysSend c s)
    → IsIdle (side_of c.sides (other s)).up
other_is_idle c s h says = by_kind says.kind (one_idle c s h)
  where
    by_kind : BothIdle c s says.engine ⊎ (GoesOn c.game says.engine ⊎ ToUndo c s says.engine)
        → IsIdle (side_of c.sides s).up ⊎ IsIdle (side_of c.sides (other s)).up
        → IsIdle (side_of c.sides (other s)).up
    by_kind (inl free) one = free.other_idle
    by_kind (inr (inl on)) (inl i) = absurd (on.busy (subst IsIdle says.up i))
    by_kind (inr (inl on)) (inr i) = i
    by_kind (inr (inr undo)) one = undo.other_idle

pub sent_sound : (c : Controller) (s : Colour) → IsSound c → next c ≡ Send s → IsSound (sent c s)
sent_sound c s h e =
    let says = says_send c s (maker_is_up c h) e in
    let engine = my_engine c s says.engine h says.up in
    let side = my_side c s h in
    let next_engine = with_sent (next_command c s says.engine) says.engine in
    let handed_is = handed_as c s says h in
    let state = with_engine next_engine (side_of c.sides s) in
    let sound : IsSound (with_side_up c s next_engine) =
    kept_game c c.verdict s state h (record {
      back = λ x. x;
      ends = h.ends;
      blames = no_blame (with_verdict c c.verdict (with_side s state c.sides)) c.verdict says.verdict;
      mine = record {
        starts = side.starts;
        start_left = λ _ e. absurd (cc);
        started = my_start c s says.engine h says.up;
        engine = record { sent = handed_is.few; quiet = engine.quiet; under_way = λ _. handed_is.way };
      };
      one_asked = inr (other_is_idle c s h says);
      taking_back = λ _. handed_is.taking;
    })
    in
    let is : sent c s ≡ with_side_up c s next_engine = ap (λ (u : Option EngineRun). sent_to c s u) says.up in
    subst IsSound (sym is) sound

-- what is known of the engine of a side that is up is known of the side
pub if_up : (P : EngineRun → Type 0) (up : Option EngineRun) (engine : EngineRun) → up ≡ Some engine → IfSome up P
    → MatchOption up ⊥ P
if_up P None engine e h = absurd (cc)
if_up P (Some x) engine e h = h
