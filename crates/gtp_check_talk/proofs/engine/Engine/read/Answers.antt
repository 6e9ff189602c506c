use Rattle.std.proofs.Common.{arith, rules}
use Rattle.std.proofs.lemmas.Grind.{common_steps}
use Rattle.gtp_check_talk.specs.Dialogues.{breaks, ends, gives}
use Rattle.gtp_check_talk.proofs.engine.Engine.read.Goals as goal

pub returns-in-Ok-eq0-clause-read : goal.returns-in-Ok-eq0-clause-read
returns-in-Ok-eq0-clause-read g c =
    ends c.read_some.new.process (c.in-Ok-eq0.ensures.ended (search rules) (search rules)) (search rules)
    c.in-Ok-eq0.ensures.taken

pub returns-in-Ok-clause-read : goal.returns-in-Ok-clause-read
returns-in-Ok-clause-read g c =
    gives _ c.read_some.new.process (grind (arith, common_steps, c.in-Ok.count-is, c.in-Ok.ensures.bound))
    (search rules)
    (c.in-Ok.ensures.unbroken (grind (arith, c.in-Ok.count-is))) c.in-Ok.ensures.taken c.hear_read.ensures.heard

pub returns-in-Err-clause-read : goal.returns-in-Err-clause-read
returns-in-Err-clause-read g c =
    breaks c.read_some.new.process c.in-Err.ensures.failed (search rules) c.in-Err.ensures.taken
