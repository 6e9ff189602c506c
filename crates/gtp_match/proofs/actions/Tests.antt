-- What is done next, by the tests of the table's lines.
use Rattle.std.proofs.Common.{◌≡◌, Bool, true, false, Option, Some, None, refl, ap, cond}
use Rattle.go_base.specs.declared.colours.Colour.{Colour}
use Rattle.go_base.specs.declared.colours.Colour.TheVariants.{Black, White}
use Rattle.go_board.specs.Game.{GameRecord}
use Rattle.gtp_match.specs.declared.sides.EngineRun.{EngineRun}
use Rattle.gtp_match.specs.declared.verdicts.Action.{Action}
use Rattle.gtp_match.specs.declared.verdicts.Action.TheVariants.{Start, Send, Wait, Done}
use Rattle.gtp_match.specs.declared.verdicts.Verdict.{Verdict}
use Rattle.gtp_match.specs.declared.controller.Controller.{Controller}
use Rattle.gtp_match.specs.Next.{has_unanswered, must_answer, is_down, has_script_left}
use Rattle.gtp_match.specs.Next.{next_of, next_where, next}

-- the tests of the lines for a match of which nothing is unanswered, in their order
pub record IdleTests : Type 0 where
  pub black_down : Bool
  pub white_down : Bool
  pub black_script_left : Bool
  pub white_script_left : Bool

-- and of the lines above them
pub record Tests : Type 0 where
  pub black_must_answer : Bool
  pub white_must_answer : Bool
  pub black_unanswered : Bool
  pub white_unanswered : Bool

abbrev pub idle_tests_of : GameRecord → Option EngineRun → Option EngineRun → IdleTests
idle_tests_of game black white = record {
  black_down = is_down black;
  white_down = is_down white;
  black_script_left = has_script_left game black;
  white_script_left = has_script_left game white;
}

abbrev pub tests_of : GameRecord → Option EngineRun → Option EngineRun → Tests
tests_of game black white = record {
  black_must_answer = must_answer game black;
  white_must_answer = must_answer game white;
  black_unanswered = has_unanswered black;
  white_unanswered = has_unanswered white;
}

abbrev pub next_idle_by : Colour → IdleTests → Action
next_idle_by mover t =
    cond t.black_down (Start Black)
    (cond t.white_down (Start White)
    (cond t.black_script_left (Send Black)
    (cond t.white_script_left (Send White)
    (Send mover))))

-- what is done next, with this where nothing is unanswered
abbrev pub next_by : Tests → Action → Action
next_by t idle =
    cond t.black_must_answer (Wait Black)
    (cond t.white_must_answer (Wait White)
    (cond t.black_unanswered (Send Black)
    (cond t.white_unanswered (Send White)
    idle)))

pub next_live : (c : Controller) → c.verdict ≡ None
    → next c ≡ next_of c.pending c.game c.sides.black.up c.sides.white.up
unfolding next
next_live c none = ap (next_where c) none

pub next_done : (c : Controller) (v : Verdict) → c.verdict ≡ Some v → next c ≡ Done v
unfolding next
next_done c v some = ap (next_where c) some

-- neither side has to answer, and nothing is unanswered
pub record NobodyBusy (t : Tests) : Type 0 where
  pub black_free : t.black_must_answer ≡ false
  pub white_free : t.white_must_answer ≡ false
  pub black_idle : t.black_unanswered ≡ false
  pub white_idle : t.white_unanswered ≡ false

module _ (t : Tests) (idle : Action) where
  pub at_idle : NobodyBusy t → idle ≡ next_by t idle
  at_idle n = rw (n.black_free, n.white_free, n.black_idle, n.white_idle) refl

module _ (mover : Colour) (t : IdleTests) where
  pub at_black_down : t.black_down ≡ true → Start Black ≡ next_idle_by mover t
  at_black_down x = rw x refl

  pub at_white_down : t.black_down ≡ false → t.white_down ≡ true → Start White ≡ next_idle_by mover t
  at_white_down x y = rw (x, y) refl

  pub at_black_script_left : t.black_down ≡ false → t.white_down ≡ false → t.black_script_left ≡ true
      → Send Black ≡ next_idle_by mover t
  at_black_script_left x y p = rw (x, y, p) refl

  pub at_white_script_left : t.black_down ≡ false → t.white_down ≡ false → t.black_script_left ≡ false
      → t.white_script_left ≡ true → Send White ≡ next_idle_by mover t
  at_white_script_left x y p q = rw (x, y, p, q) refl
