use Rattle.gtp_session.specs.private.StepsFields.{state_in}
use Rattle.gtp_session.proofs.stepping.Kept.{commands_set}
use Rattle.gtp_session.proofs.stepping.OwnNames.{commands_kept}
use Rattle.gtp_session.proofs.steps.Steps.add_command.Goals as goal

pub invariant_of-self : goal.invariant_of-self
invariant_of-self c =
    commands_set (state_in c.self.inside) c.add.new.self c.self.invariant
    (commands_kept c.self.inside.commands c.add.new.self c.args.name.now c.add.result c.add.ensures.new
    c.add.ensures.added c.add.ensures.kept c.self.invariant.commands)
