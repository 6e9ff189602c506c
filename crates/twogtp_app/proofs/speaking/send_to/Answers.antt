use Rattle.std.proofs.Common.{ℕ, List, subst}
use Rattle.std.specs.Io.KnownBytes.{Appends}
use Rattle.byte_streams.specs.Parts.{TakesPart}
use Rattle.twogtp_app.specs.Speaking.{failed, taken}
use Rattle.twogtp_app.proofs.speaking.send_to.Goals as goal

pub returns-in-Ok-clause-sent : goal.returns-in-Ok-clause-sent
returns-in-Ok-clause-sent g c = rw c.only_loss.ensures (taken c.take_commands-text.ensures
    (subst (λ (t : List ℕ). Appends (g.P.Process.taken c.args.process.now)
    (g.P.Process.taken c.write_whole.new.process) t)
    c.as_slice.ensures.value c.in-Ok.ensures.takes)
    c.in-Ok.ensures.unbroken c.in-Ok.ensures.flushed c.in-Ok.ensures.given)

pub returns-in-Err-clause-sent : goal.returns-in-Err-clause-sent
returns-in-Err-clause-sent g c = rw c.cut_off.ensures.lost (rw c.cut_off.ensures.report (failed c.take_commands-text.ensures
    (subst (λ (t : List ℕ). TakesPart t (g.P.Process.taken c.args.process.now)
    (g.P.Process.taken c.write_whole.new.process))
    c.as_slice.ensures.value c.in-Err.ensures.part)
    c.in-Err.ensures.failed c.in-Err.ensures.given))
