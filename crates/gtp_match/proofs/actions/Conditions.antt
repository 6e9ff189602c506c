-- What holds where a start or a command is what comes next.
use Rattle.std.proofs.Common.{◌≡◌, ◌+◌, ◌<◌, Bool, true, false, Option, Some, None, List, [], ◌∷◌, length, refl, sym}
use Rattle.std.proofs.Common.{◌∙◌, ap, subst, cond, ◌⊎◌, inl, inr, not, ◌&&◌, arith}
use Rattle.std.specs.Prelude.{◌||◌, nat_lt, slice_get}
use Rattle.std.proofs.lemmas.Bool.Decides.{nat_tests}
use Rattle.go_base.specs.Colour.{other}
use Rattle.go_base.specs.declared.colours.Colour.{Colour}
use Rattle.go_base.specs.declared.colours.Colour.TheVariants.{Black, White}
use Rattle.go_board.specs.Game.{GameRecord}
use Rattle.gtp_match.specs.declared.sides.EngineRun.{EngineRun}
use Rattle.gtp_match.specs.declared.verdicts.Action.{Action}
use Rattle.gtp_match.specs.declared.verdicts.Action.TheVariants.{Start, Send, Done}
use Rattle.gtp_match.specs.declared.verdicts.Verdict.{Verdict}
use Rattle.gtp_match.specs.declared.controller.Controller.{Controller}
use Rattle.gtp_match.specs.declared.unanswered.SentCommand.{SentCommand}
use Rattle.gtp_match.specs.Controller.{to_move}
use Rattle.gtp_match.specs.Unanswered.{most_unanswered, none_unanswered, is_full, has_genmove}
use Rattle.gtp_match.specs.Next.{has_unanswered, must_answer, is_down, has_script_left, next_of_free}
use Rattle.gtp_match.specs.Next.{next_of, next}
use Rattle.gtp_match.specs.Script.{script}
use Rattle.gtp_match.proofs.scripts.Scripts.{past_length}
use Rattle.gtp_match.specs.Sides.{side_of}
use Rattle.gtp_match.specs.Sound.{IsIdle}
use Rattle.gtp_match.proofs.actions.Tests.{IdleTests, Tests, idle_tests_of, tests_of, next_idle_by, next_by, NobodyBusy}
use Rattle.gtp_match.proofs.actions.Tests.{next_live, next_done}

-- a line that can't be this action doesn't apply
pub passed : (t : Bool) (x y a : Action) → (x ≡ a → ⊥) → cond t x y ≡ a → (t ≡ false) × (y ≡ a)
passed true x y a not_it e = absurd (not_it e)
passed false x y a not_it e = (refl, e)

-- a line may be this action, or doesn't apply
pub reached : (t : Bool) (x y a : Action) → cond t x y ≡ a → (t ≡ true) × (x ≡ a) ⊎ (t ≡ false) × (y ≡ a)
reached true x y a e = inl (refl, e)
reached false x y a e = inr (refl, e)

-- neither side has to answer
pub record NobodyMustAnswer (t : Tests) : Type 0 where
  pub black : t.black_must_answer ≡ false
  pub white : t.white_must_answer ≡ false

unanswered_of : Tests → Colour → Bool
unanswered_of t Black = t.black_unanswered
unanswered_of t White = t.white_unanswered

-- what was met above the last lines: neither side has to answer; that side has unanswered commands, or nothing is
-- unanswered and the last lines say what comes next
record MaySend (t : Tests) (idle : Action) (s : Colour) : Type 0 where
  nobody : NobodyMustAnswer t
  kind : (unanswered_of t s ≡ true) ⊎ NobodyBusy t × (idle ≡ Send s)

may_send : (t : Tests) (idle : Action) (s : Colour) → next_by t idle ≡ Send s → MaySend t idle s
unfolding unanswered_of
may_send t idle s e =
    let a = passed t.black_must_answer _ _ (Send s) (λ e. cc) e in
    let b = passed t.white_must_answer _ _ (Send s) (λ e. cc) a.1 in
    record {
      nobody = record { black = a.0; white = b.0 };
      kind = elim (reached t.black_unanswered _ _ (Send s) b.1) [
        | inl h ↦ let same : Black ≡ s = cc in inl (subst (λ x. unanswered_of t x ≡ true) same h.0)
        | inr h ↦ elim (reached t.white_unanswered _ _ (Send s) h.1) [
          | inl k ↦ let same : White ≡ s = cc in inl (subst (λ x. unanswered_of t x ≡ true) same k.0)
          | inr k ↦ inr (record { black_free = a.0; white_free = b.0; black_idle = h.0; white_idle = k.0 }, k.1)
        ]
      ];
    }

script_left_of : IdleTests → Colour → Bool
script_left_of t Black = t.black_script_left
script_left_of t White = t.white_script_left

-- where `Send` comes next and nothing is unanswered, nobody is down; and that side has script left, or moves
record MaySendIdle (mover : Colour) (t : IdleTests) (s : Colour) : Type 0 where
  black_up : t.black_down ≡ false
  white_up : t.white_down ≡ false
  has_turn : (script_left_of t s ≡ true) ⊎ (mover ≡ s)

may_send_idle : (mover : Colour) (t : IdleTests) (s : Colour) → next_idle_by mover t ≡ Send s → MaySendIdle mover t s
unfolding script_left_of
may_send_idle mover t s e =
    let c = passed t.black_down _ _ (Send s) (λ e. cc) e in
    let d = passed t.white_down _ _ (Send s) (λ e. cc) c.1 in
    record {
      black_up = c.0;
      white_up = d.0;
      has_turn = elim (reached t.black_script_left _ _ (Send s) d.1) [
        | inl h ↦ let same : Black ≡ s = cc in inl (subst (λ x. script_left_of t x ≡ true) same h.0)
        | inr h ↦ elim (reached t.white_script_left _ _ (Send s) h.1) [
          | inl k ↦ let same : White ≡ s = cc in inl (subst (λ x. script_left_of t x ≡ true) same k.0)
          | inr k ↦ let same : Send mover ≡ Send s = k.1 in inr (cc)
        ]
      ];
    }

-- where `Start` comes next, that side is down
down_of : IdleTests → Colour → Bool
down_of t Black = t.black_down
down_of t White = t.white_down

may_start : (mover : Colour) (t : IdleTests) (s : Colour) → next_idle_by mover t ≡ Start s → down_of t s ≡ true
unfolding down_of
may_start mover t s e =
    elim (reached t.black_down _ _ (Start s) e) [
      | inl h ↦ let same : Black ≡ s = cc in subst (λ x. down_of t x ≡ true) same h.0
      | inr h ↦ elim (reached t.white_down _ _ (Start s) h.1) [
        | inl k ↦ let same : White ≡ s = cc in subst (λ x. down_of t x ≡ true) same k.0
        | inr k ↦
            let l = passed t.black_script_left _ _ (Start s) (λ e. cc) k.1 in
            let m = passed t.white_script_left _ _ (Start s) (λ e. cc) l.1 in
            absurd (let none : Send mover ≡ Start s = m.1 in cc)
      ]
    ]

-- a start is said by the last lines
start_is_idle : (t : Tests) (idle : Action) (s : Colour) → next_by t idle ≡ Start s → idle ≡ Start s
start_is_idle t idle s e =
    let a = passed t.black_must_answer _ _ (Start s) (λ e. cc) e in
    let b = passed t.white_must_answer _ _ (Start s) (λ e. cc) a.1 in
    let c = passed t.black_unanswered _ _ (Start s) (λ e. cc) b.1 in
    let d = passed t.white_unanswered _ _ (Start s) (λ e. cc) c.1 in
    d.1

pub down_is_none : (up : Option EngineRun) → is_down up ≡ true → up ≡ None
down_is_none None e = refl
down_is_none (Some engine) e = absurd (cc)

up_is_some : (up : Option EngineRun) → is_down up ≡ false → (engine : EngineRun) × (up ≡ Some engine)
up_is_some None e = absurd (cc)
up_is_some (Some engine) e = (engine, refl)

none_unanswered_is : (entries : List SentCommand) → not (none_unanswered entries) ≡ false → entries ≡ []
none_unanswered_is [] e = refl
none_unanswered_is (o ∷ os) e = absurd (cc)

pub idle_if : (up : Option EngineRun) → has_unanswered up ≡ false → IsIdle up
idle_if None e = tt
idle_if (Some engine) e = none_unanswered_is engine.unanswered e

busy_if : (up : Option EngineRun) → has_unanswered up ≡ true → (engine : EngineRun) × (up ≡ Some engine)
busy_if None e = absurd (cc)
busy_if (Some engine) e = (engine, refl)

some_unanswered : (entries : List SentCommand) → not (none_unanswered entries) ≡ true → entries ≡ [] → ⊥
some_unanswered [] e none = cc
some_unanswered (o ∷ os) e none = cc

or_false : (a b : Bool) → (a || b) ≡ false → (a ≡ false) × (b ≡ false)
or_false true b e = absurd (cc)
or_false false b e = (refl, e)

-- An engine that may be sent a command more: it has room for one, and no `genmove` is unanswered; where it has
-- unanswered commands, the script has more.
pub record MayBeSent (game : GameRecord) (engine : EngineRun) : Type 0 where
  pub room : length engine.unanswered < most_unanswered
  pub no_genmove : has_genmove engine.unanswered ≡ false
  pub more : not (none_unanswered engine.unanswered) ≡ true
      → engine.confirmed + length engine.unanswered < length (script game)

pub may_be_sent : (game : GameRecord) (engine : EngineRun) → must_answer game (Some engine) ≡ false
    → MayBeSent game engine
may_be_sent game engine e =
    let a = or_false (is_full engine.unanswered) _ e in
    let b = or_false (has_genmove engine.unanswered) _ a.1 in
    record { room = room_of engine.unanswered a.0; no_genmove = b.0; more = more_of engine.unanswered b.1 }
  where
    room_of : (entries : List SentCommand) → is_full entries ≡ false → length entries < most_unanswered
    room_of entries h = grind (arith, nat_tests)

    more_of : (entries : List SentCommand)
        → (not (none_unanswered entries)
        && not (nat_lt (engine.confirmed + length entries) (length (script game)))) ≡ false
        → not (none_unanswered entries) ≡ true → engine.confirmed + length entries < length (script game)
    more_of [] h some = absurd (cc)
    more_of (o ∷ os) h some = grind (arith, nat_tests)

may_be_sent_if : (game : GameRecord) (up : Option EngineRun) (engine : EngineRun) → up ≡ Some engine
    → must_answer game up ≡ false → MayBeSent game engine
may_be_sent_if game up engine is e =
    may_be_sent game engine (subst (λ (u : Option EngineRun). must_answer game u ≡ false) is e)

-- ---- of a controller

no_verdict : (c : Controller) (a : Action) → ((v : Verdict) → Done v ≡ a → ⊥) → next c ≡ a → c.verdict ≡ None
no_verdict c a other_than e = by_verdict c.verdict refl
  where
    by_verdict : (v : Option Verdict) → c.verdict ≡ v → c.verdict ≡ None
    by_verdict None none = none
    by_verdict (Some v) some = absurd (other_than v (sym (next_done c v some) ∙ e))

pub record SaysStart (c : Controller) (s : Colour) : Type 0 where
  pub verdict : c.verdict ≡ None
  pub pending : c.pending ≡ None
  pub down : (side_of c.sides s).up ≡ None

-- the tests of a controller, and what the last lines say of it
abbrev tests : Controller → Tests
tests c = tests_of c.game c.sides.black.up c.sides.white.up

abbrev idle_tests : Controller → IdleTests
idle_tests c = idle_tests_of c.game c.sides.black.up c.sides.white.up

abbrev idle_next : Controller → Action
idle_next c = next_of_free c.pending c.game c.sides.black.up c.sides.white.up

pub says_start : (c : Controller) (s : Colour) → next c ≡ Start s → SaysStart c s
unfolding down_of
says_start c s e =
    let none = no_verdict c (Start s) (λ v h. cc) e in
    let live : next_of c.pending c.game c.sides.black.up c.sides.white.up ≡ Start s = sym (next_live c none) ∙ e in
    by_pending c.pending refl none (start_is_idle (tests c) (idle_next c) s live)
  where
    by_side : (t : Colour) → down_of (idle_tests c) t ≡ true → (side_of c.sides t).up ≡ None
    by_side Black h = down_is_none c.sides.black.up h
    by_side White h = down_is_none c.sides.white.up h

    by_pending : (p : Option Colour) → c.pending ≡ p → c.verdict ≡ None
        → next_of_free p c.game c.sides.black.up c.sides.white.up ≡ Start s → SaysStart c s
    by_pending (Some maker) is none h = absurd (cc)
    by_pending None is none h =
        record { verdict = none; pending = is; down = by_side s (may_start (to_move c.game) (idle_tests c) s h) }

-- the engine has unanswered commands, and the script has more
pub record GoesOn (game : GameRecord) (engine : EngineRun) : Type 0 where
  pub busy : engine.unanswered ≡ [] → ⊥
  pub more : engine.confirmed + length engine.unanswered < length (script game)

-- nothing is unanswered, of the engine and of the other side, and nothing is to be taken back; and a `genmove` is sent
-- to the side to move
pub record BothIdle (c : Controller) (s : Colour) (engine : EngineRun) : Type 0 where
  pub idle : engine.unanswered ≡ []
  pub other_idle : IsIdle (side_of c.sides (other s)).up
  pub pending : c.pending ≡ None
  pub turn : slice_get (script c.game) (engine.confirmed + length engine.unanswered) ≡ None → to_move c.game ≡ s

-- nothing is unanswered, and the side's last move is to be taken back
pub record ToUndo (c : Controller) (s : Colour) (engine : EngineRun) : Type 0 where
  pub idle : engine.unanswered ≡ []
  pub other_idle : IsIdle (side_of c.sides (other s)).up
  pub pending : c.pending ≡ Some s

-- The side is up and has room for one more unanswered command. It goes on with its script, or nothing is unanswered.
pub record SaysSend (c : Controller) (s : Colour) : Type 0 where
  pub verdict : c.verdict ≡ None
  pub engine : EngineRun
  pub up : (side_of c.sides s).up ≡ Some engine
  pub room : length engine.unanswered < most_unanswered
  pub no_genmove : has_genmove engine.unanswered ≡ false
  pub kind : BothIdle c s engine ⊎ (GoesOn c.game engine ⊎ ToUndo c s engine)

-- a script that has commands left has a next one
none_left : (game : GameRecord) (engine : EngineRun) → has_script_left game (Some engine) ≡ true
    → slice_get (script game) (engine.confirmed + length engine.unanswered) ≡ None → ⊥
none_left game engine some e =
    let past = past_length (script game) (engine.confirmed + length engine.unanswered) e in grind (arith, nat_tests)

-- a side whose last move is to be taken back is up
abbrev pub MakerIsUp : Controller → Type 0
MakerIsUp c = (maker : Colour) → c.verdict ≡ None → c.pending ≡ Some maker
    → (engine : EngineRun) × ((side_of c.sides maker).up ≡ Some engine)

pub says_send : (c : Controller) (s : Colour) → MakerIsUp c → next c ≡ Send s → SaysSend c s
unfolding unanswered_of script_left_of
says_send c s maker_up e =
    let none = no_verdict c (Send s) (λ v h. cc) e in
    let live : next_of c.pending c.game c.sides.black.up c.sides.white.up ≡ Send s = sym (next_live c none) ∙ e in
    let may = may_send (tests c) (idle_next c) s live in
    by_kind s none may.nobody may.kind
  where
    free : (t : Colour) → NobodyMustAnswer (tests c) → must_answer c.game (side_of c.sides t).up ≡ false
    free Black n = n.black
    free White n = n.white

    busy : (t : Colour) → unanswered_of (tests c) t ≡ true → has_unanswered (side_of c.sides t).up ≡ true
    busy Black r = r
    busy White r = r

    idle : (t : Colour) → NobodyBusy (tests c) → IsIdle (side_of c.sides t).up
    idle Black n = idle_if c.sides.black.up n.black_idle
    idle White n = idle_if c.sides.white.up n.white_idle

    running : (t : Colour) → MaySendIdle (to_move c.game) (idle_tests c) t
        → (engine : EngineRun) × ((side_of c.sides t).up ≡ Some engine)
    running Black m = up_is_some c.sides.black.up m.black_up
    running White m = up_is_some c.sides.white.up m.white_up

    has_turn : (t : Colour) → MaySendIdle (to_move c.game) (idle_tests c) t
        → (has_script_left c.game (side_of c.sides t).up ≡ true) ⊎ (to_move c.game ≡ t)
    has_turn Black m = m.has_turn
    has_turn White m = m.has_turn

    by_turn : (t : Colour) (engine : EngineRun) → (side_of c.sides t).up ≡ Some engine
        → (has_script_left c.game (side_of c.sides t).up ≡ true) ⊎ (to_move c.game ≡ t)
        → slice_get (script c.game) (engine.confirmed + length engine.unanswered) ≡ None → to_move c.game ≡ t
    by_turn t engine is (inr turn) past = turn
    by_turn t engine is (inl some) past =
        absurd (none_left c.game engine
        (subst (λ (u : Option EngineRun). has_script_left c.game u ≡ true) is some) past)

    made : (t : Colour) (engine : EngineRun) → c.verdict ≡ None → (side_of c.sides t).up ≡ Some engine
        → MayBeSent c.game engine → BothIdle c t engine ⊎ (GoesOn c.game engine ⊎ ToUndo c t engine)
        → SaysSend c t
    made t engine none is may kind = record {
      verdict = none;
      engine = engine;
      up = is;
      room = may.room;
      no_genmove = may.no_genmove;
      kind = kind;
    }

    by_kind : (t : Colour) → c.verdict ≡ None → NobodyMustAnswer (tests c)
        → (unanswered_of (tests c) t ≡ true) ⊎ NobodyBusy (tests c) × (idle_next c ≡ Send t) → SaysSend c t
    by_kind t none nobody (inl r) =
        let x = busy_if (side_of c.sides t).up (busy t r) in
        let may = may_be_sent_if c.game (side_of c.sides t).up x.0 x.1 (free t nobody) in
        let some : not (none_unanswered x.0.unanswered) ≡ true =
        subst (λ (u : Option EngineRun). has_unanswered u ≡ true) x.1 (busy t r) in
        made t x.0 none x.1 may
        (inr (inl (record { busy = some_unanswered x.0.unanswered some; more = may.more some })))
    by_kind t none nobody (inr (nothing, is)) = by_pending c.pending refl is
      where
        by_pending : (p : Option Colour) → c.pending ≡ p
            → next_of_free p c.game c.sides.black.up c.sides.white.up ≡ Send t → SaysSend c t
        by_pending None is_none says =
            let m = may_send_idle (to_move c.game) (idle_tests c) t says in
            let x = running t m in
            made t x.0 none x.1 (may_be_sent_if c.game (side_of c.sides t).up x.0 x.1 (free t nobody))
            (inl (record {
              idle = subst IsIdle x.1 (idle t nothing);
              other_idle = idle (other t) nothing;
              pending = is_none;
              turn = by_turn t x.0 x.1 (has_turn t m);
            }))
        by_pending (Some maker) is_some says =
            let same : maker ≡ t = cc in
            let here : c.pending ≡ Some t = is_some ∙ ap (λ (x : Colour). Some x) same in
            let x = maker_up t none here in
            made t x.0 none x.1 (may_be_sent_if c.game (side_of c.sides t).up x.0 x.1 (free t nobody))
            (inr (inr (record {
              idle = subst IsIdle x.1 (idle t nothing);
              other_idle = idle (other t) nothing;
              pending = here;
            })))
