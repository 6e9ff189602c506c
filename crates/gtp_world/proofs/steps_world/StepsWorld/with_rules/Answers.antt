use Rattle.std.proofs.Common.{ap, subst}
use Rattle.gtp_match.specs.declared.controller.Controller.{Controller}
use Rattle.gtp_match.specs.Setup.{IsSetup}
use Rattle.gtp_world.specs.Worlds.{SeatOf}
use Rattle.gtp_world.proofs.joined.ReachedLemmas.{opening_reached}
use Rattle.gtp_world.proofs.steps_world.StepsWorld.with_rules.Goals as goal

pub invariant_of-result : goal.invariant_of-result
invariant_of-result c =
    let is : IsSetup c.args.setup =
    subst (λ (x : Controller). IsSetup x.setup) c.new-controller.ensures c.setup.ensures.sound.setup in
    opening_reached _ _ _ c.new-controller.result c.new.result c.new-2.result c.args.setup is c.new-controller.ensures
    (ap (λ (s : SeatOf _ _). s.lane) c.new.ensures) (ap (λ (s : SeatOf _ _). s.lane) c.new-2.ensures)
