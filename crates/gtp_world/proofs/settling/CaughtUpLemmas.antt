-- A quiet world may settle, and nothing is going on in the opening.
use Rattle.std.proofs.Common.{◌≡◌, Option, Some, None, refl, sym, ◌∙◌, ap}
use Rattle.std.specs.Prelude.{[], is_some}
use Rattle.go_base.specs.declared.colours.Colour.{Colour}
use Rattle.go_base.specs.declared.colours.Colour.TheVariants.{Black, White}
use Rattle.go_board.specs.declared.rules.KoRule.{KoRule}
use Rattle.gtp_session.specs.Engine.{Engine}
use Rattle.gtp_match.specs.declared.sides.EngineRun.{EngineRun}
use Rattle.gtp_match.specs.declared.verdicts.Action.TheVariants.{Start}
use Rattle.gtp_match.specs.declared.verdicts.Verdict.{Verdict}
use Rattle.gtp_match.specs.Controller.{new}
use Rattle.gtp_match.specs.Next.{next}
use Rattle.gtp_match.specs.Setup.{SetupRecord, IsSetup}
use Rattle.gtp_match.specs.Sides.{side_of}
use Rattle.gtp_match.specs.Sound.{IsIdle}
use Rattle.gtp_match.specs.Taking.{unless_over}
use Rattle.gtp_world.specs.World.{World, opening}
use Rattle.gtp_world.specs.Joined.{Rules, rule_of}
use Rattle.gtp_world.specs.Settle.{MaySettle, RunsWhereUp}
use Rattle.gtp_world.specs.StepsSettle.{IsQuiet}
use Rattle.gtp_world.specs.WordLaws.{OpeningsMaySettle}
use Rattle.gtp_world.proofs.joined.EventLemmas.{opening_under}
use Rattle.gtp_world.proofs.settling.IdleLemmas.{no_verdict}

-- ---- settling

none_taken_back : (verdict : Option Verdict) → unless_over verdict None ≡ None
none_taken_back None = refl
none_taken_back (Some verdict) = refl

idle_if : (up : Option EngineRun) → ((engine : EngineRun) → up ≡ Some engine → engine.unanswered ≡ []) → IsIdle up
idle_if None h = tt
idle_if (Some engine) h = h engine refl

runs_if : {P : Type 0} (up : Option EngineRun) (e : Option (Engine P))
    → ((u : EngineRun) → up ≡ Some u → (engine : Engine P) × (e ≡ Some engine)) → RunsWhereUp up e
runs_if None e h = tt
runs_if (Some u) e h = ap is_some (h u refl).1

-- where nothing is going on, a world may settle
pub may_settle : {B W : Type 0} (rules : Rules) (v : World B W) → IsQuiet (rule_of rules) v → MaySettle rules v
may_settle rules v quiet = record {
  verdict = no_verdict v.controller quiet.not_done;
  nothing =
      ap (unless_over v.controller.verdict) quiet.none_taken_back ∙ none_taken_back v.controller.verdict;
  games = quiet.games;
  idle = λ s. idle_if (side_of v.controller.sides s).up (quiet.answered s);
  black = runs_if v.controller.sides.black.up v.black.engine (quiet.running Black);
  white = runs_if v.controller.sides.white.up v.white.engine (quiet.running White);
}

opening_starts : (setup : SetupRecord) → next (new setup) ≡ Start Black
unfolding next
opening_starts setup = refl

opening_down : (setup : SetupRecord) (s : Colour) → (side_of (new setup).sides s).up ≡ None
opening_down setup Black = refl
opening_down setup White = refl

pub opening_quiet : {B W : Type 0} (rule : Colour → KoRule) (setup : SetupRecord) → IsSetup setup
    → IsQuiet rule (opening {B = B} {W = W} setup)
opening_quiet rule setup is = record {
  not_done = λ verdict done. let start = opening_starts setup in cc;
  running = λ s run up. let e = sym (opening_down setup s) ∙ up in absurd (cc e);
  answered = λ s engine up. let e = sym (opening_down setup s) ∙ up in absurd (cc e);
  none_taken_back = refl;
  games = λ s. opening_under (rule s) setup is;
}

pub openings_settle : {B W : Type 0} → OpeningsMaySettle B W
openings_settle = record {
  quiet = opening_quiet;
  may = λ rules setup is. may_settle rules (opening setup) (opening_quiet (rule_of rules) setup is);
}
