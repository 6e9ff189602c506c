use Rattle.gtp_session.specs.declared.events.Wait.TheVariants as wait
use Rattle.std.specs.Prelude.{◌≢◌}
use Rattle.gtp_world.specs.Worlds.{HoldsInStep}
use Rattle.gtp_world.specs.StepsWorlds.{engine_at, IsThereAtOnce, SameAtOnce, WaitsOnlyUnanswered}
use Rattle.gtp_world.proofs.joined.ReachedLemmas.{shown_of}
use Rattle.gtp_world.proofs.ruled.ShownLemmas.{is_there, is_holding, is_same, is_answered, is_no_own}
use Rattle.gtp_world.proofs.steps_world.StepsWorld.running.Goals as goal

pub returns-clause-there : goal.returns-clause-there
returns-clause-there c =
    shown_of (IsThereAtOnce c.args.self.now c.args.side) (engine_at c.args.self.now.world c.args.side)
    (is_there c.args.self.now c.engine_of.ensures.reached c.args.side)
    (λ shown. shown.now) c.engine_of.result c.engine_of.ensures.running

pub returns-clause-holds : goal.returns-clause-holds
returns-clause-holds c =
    shown_of (λ e. HoldsInStep c.args.self.now.world.controller c.args.side e.game)
    (engine_at c.args.self.now.world c.args.side)
    (is_holding c.args.self.now c.engine_of.ensures.reached c.args.side)
    (λ shown. shown.now) c.engine_of.result c.engine_of.ensures.running

pub returns-clause-same : goal.returns-clause-same
returns-clause-same c =
    shown_of (SameAtOnce c.args.self.now.world) (engine_at c.args.self.now.world c.args.side)
    (is_same c.args.self.now c.engine_of.ensures.reached c.args.side)
    (λ shown. shown.now) c.engine_of.result c.engine_of.ensures.running

pub returns-clause-answered : goal.returns-clause-answered
returns-clause-answered c =
    shown_of (WaitsOnlyUnanswered c.args.self.now.world.controller c.args.side)
    (engine_at c.args.self.now.world c.args.side)
    (is_answered c.args.self.now c.engine_of.ensures.reached c.args.side)
    (λ shown. shown.now) c.engine_of.result c.engine_of.ensures.running

pub returns-clause-own : goal.returns-clause-own
returns-clause-own c =
    shown_of (λ e. e.wait ≢ wait.Answer) (engine_at c.args.self.now.world c.args.side)
    (is_no_own c.args.self.now c.engine_of.ensures.reached c.args.side)
    (λ shown. shown.now) c.engine_of.result c.engine_of.ensures.running
