use Rattle.gtp_engine_app.specs.Program.{held}
use Rattle.gtp_engine_app.proofs.run.converse.Goals as goal

pub returns-in-Off : goal.returns-in-Off
returns-in-Off g c =
    held {engine = c.serve.new.session}
    (rw (c.in-Off.is, ← c.with_rule-session.ensures) c.serve.ensures.came_out)

pub returns : goal.returns
returns g c =
    held {engine = c.serve_with.new.session} (rw (← c.with_rule-session.ensures) c.serve_with.ensures.came_out)
