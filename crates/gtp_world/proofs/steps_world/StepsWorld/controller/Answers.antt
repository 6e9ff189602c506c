use Rattle.std.proofs.Common.{subst}
use Rattle.gtp_world.specs.Joined.{IsFair}
use Rattle.gtp_world.specs.StepsWorlds.{RuledWorld, rules_of_ruled}
use Rattle.gtp_world.specs.Worlds.{made_world}
use Rattle.gtp_world.proofs.ruled.RuledLemmas.{ruled_agrees}
use Rattle.gtp_world.proofs.steps_world.StepsWorld.controller.Goals as goal

pub returns-clause-fair : goal.returns-clause-fair
returns-clause-fair c =
    subst (λ (w : RuledWorld). IsFair (rules_of_ruled w) c.self.inside.controller c.self.inside.controller.verdict) c.self.view_is
    (ruled_agrees (made_world c.self.inside.controller c.self.inside.black c.self.inside.white) c.self.invariant).fair
