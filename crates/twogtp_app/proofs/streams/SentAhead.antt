-- A side that has all the unanswered commands that it may have has to answer before it is sent more.
use Rattle.std.proofs.Common.{◌≡◌, ◌+◌, ◌≤◌, ℕ, Bool, true, false, Option, Some, None, length}
use Rattle.std.proofs.Common.{refl, cond, arith}
use Rattle.std.specs.Prelude.{◌≢◌}
use Rattle.std.proofs.lemmas.Bool.Decides.{nat_tests}
use Rattle.std.proofs.lemmas.List.{length-append}
use Rattle.go_base.specs.declared.colours.Colour.{Colour}
use Rattle.go_base.specs.declared.colours.Colour.TheVariants.{Black, White}
use Rattle.go_board.specs.Game.{GameRecord}
use Rattle.gtp_match.specs.declared.controller.Controller.{Controller}
use Rattle.gtp_match.specs.declared.sides.EngineRun.{EngineRun}
use Rattle.gtp_match.specs.declared.verdicts.Action.{Action}
use Rattle.gtp_match.specs.declared.verdicts.Action.TheVariants.{Send, Wait}
use Rattle.gtp_match.specs.declared.verdicts.Verdict.{Verdict}
use Rattle.gtp_match.specs.Controller.{sent, sent_to}
use Rattle.gtp_match.specs.Next.{must_answer, next, next_of, next_where}
use Rattle.gtp_match.specs.Sides.{side_of}
use Rattle.gtp_match.specs.Unanswered.{is_full, most_unanswered}
use Rattle.gtp_match.specs.Sound.{IsSound}
use Rattle.gtp_match.proofs.actions.Conditions.{says_send}
use Rattle.gtp_match.proofs.soundness.Calls.{maker_is_up}

-- how many commands an engine has unanswered
abbrev pub count_of : Option EngineRun → ℕ
count_of None = 0
count_of (Some engine) = length engine.unanswered

-- and the engine of a side
abbrev pub count : Controller → Colour → ℕ
count c side = count_of (side_of c.sides side).up

-- no verdict was given where a command comes next
live : (c : Controller) (side : Colour) → next c ≡ Send side
    → next_of c.pending c.game c.sides.black.up c.sides.white.up ≡ Send side
unfolding next
live c side e = by_verdict c.verdict e
  where
    by_verdict : (v : Option Verdict) → next_where c v ≡ Send side
        → next_of c.pending c.game c.sides.black.up c.sides.white.up ≡ Send side
    by_verdict None e = e
    by_verdict (Some verdict) e = absurd (cc)

-- ---- a side that has all the unanswered commands that it may have is sent nothing

black_waits : (side : Colour) (must : Bool) (later : Action) → must ≡ true
    → cond must (Wait Black) later ≡ Send side → ⊥
black_waits side true later is e = cc
black_waits side false later is e = cc

white_waits : (side : Colour) (first must : Bool) (later : Action) → must ≡ true
    → cond first (Wait Black) (cond must (Wait White) later) ≡ Send side → ⊥
white_waits side true must later is e = cc
white_waits side false true later is e = cc
white_waits side false false later is e = cc

full_must_answer : (game : GameRecord) (up : Option EngineRun) → most_unanswered ≤ count_of up
    → must_answer game up ≡ true
full_must_answer game None many = absurd (omega arith)
full_must_answer game (Some engine) many =
    let full : is_full engine.unanswered ≡ true = grind (arith, nat_tests) in rw full refl

pub full_waits : (c : Controller) (side : Colour) → most_unanswered ≤ count c side → next c ≢ Send side
full_waits c Black many e =
    black_waits Black (must_answer c.game c.sides.black.up) _
    (full_must_answer c.game c.sides.black.up many) (live c Black e)
full_waits c White many e =
    white_waits White (must_answer c.game c.sides.black.up) (must_answer c.game c.sides.white.up) _
    (full_must_answer c.game c.sides.white.up many) (live c White e)

-- ---- each command that is sent counts

counts_more : (c : Controller) (side : Colour) (up : Option EngineRun) (engine : EngineRun) → up ≡ Some engine
    → (side_of c.sides side).up ≡ up → count (sent_to c side up) side ≡ count_of up + 1
counts_more c Black None engine is e = absurd (cc)
counts_more c White None engine is e = absurd (cc)
counts_more c Black (Some up) engine is e = length-append up.unanswered _
counts_more c White (Some up) engine is e = length-append up.unanswered _

-- of a sound match: the side that is sent a command is up
pub one_more_is_sent : (c : Controller) (side : Colour) → IsSound c → next c ≡ Send side
    → count (sent c side) side ≡ count c side + 1
one_more_is_sent c side sound e =
    let says = says_send c side (maker_is_up c sound) e in
    counts_more c side (side_of c.sides side).up says.engine says.up refl
