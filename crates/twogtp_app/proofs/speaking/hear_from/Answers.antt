use Rattle.std.proofs.Common.{arith, rules}
use Rattle.std.proofs.lemmas.Grind.{common_steps}
use Rattle.twogtp_app.specs.Speaking.{broke, ended, heard}
use Rattle.twogtp_app.proofs.speaking.hear_from.Goals as goal

pub returns-in-Ok-clause-heard : goal.returns-in-Ok-clause-heard
returns-in-Ok-clause-heard g c =
    heard _ (grind (arith, common_steps, c.in-Ok.count-is, c.in-Ok.ensures.bound)) (search rules)
    c.hear_bytes.ensures.reported
    (c.in-Ok.ensures.unbroken (grind (arith, c.in-Ok.count-is))) c.in-Ok.ensures.taken

pub returns-in-Ok-eq0-clause-heard : goal.returns-in-Ok-eq0-clause-heard
returns-in-Ok-eq0-clause-heard g c = rw c.cut_off.ensures.lost (rw c.cut_off.ensures.report
    (ended (c.in-Ok-eq0.ensures.ended (search rules) (search rules)) (search rules) c.in-Ok-eq0.ensures.taken))

pub returns-in-Err-clause-heard : goal.returns-in-Err-clause-heard
returns-in-Err-clause-heard g c = rw c.cut_off-in-Err.ensures.lost (rw c.cut_off-in-Err.ensures.report
    (broke c.in-Err.ensures.failed (search rules) c.in-Err.ensures.taken))
