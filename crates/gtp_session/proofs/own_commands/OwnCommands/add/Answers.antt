use Rattle.gtp_session.proofs.stepping.OwnNames.{more_commands}
use Rattle.gtp_session.proofs.own_commands.OwnCommands.add.Goals as goal

pub invariant_of-self : goal.invariant_of-self
invariant_of-self c =
    rw (c.push.ensures.items, c.new.ensures)
    (more_commands c.self.inside.names.items c.args.name.now c.self.invariant
    (rw (← c.self.view_is) at c.in_default.ensures))
