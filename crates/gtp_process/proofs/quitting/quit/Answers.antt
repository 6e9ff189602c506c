use Rattle.std.proofs.Common.{ℕ, List, ◌∙◌, subst}
use Rattle.std.specs.Io.KnownBytes.{Appends}
use Rattle.gtp_process.specs.Quitting.{failed, taken}
use Rattle.byte_streams.specs.Parts.{TakesPart}
use Rattle.gtp_process.proofs.quitting.quit.Goals as goal

pub returns-in-Ok : goal.returns-in-Ok
returns-in-Ok g c =
    taken
    (subst (λ (t : List ℕ). Appends (g.P.Process.taken c.args.process.now)
    (g.P.Process.taken c.write_whole.new.process) t)
    (c.as_slice.ensures.value ∙ c.write_command-text.ensures.bytes) c.in-Ok.ensures.takes)
    c.in-Ok.ensures.unbroken c.in-Ok.ensures.flushed c.in-Ok.ensures.given c.wait_for_reply.ensures

pub returns-in-Err : goal.returns-in-Err
returns-in-Err g c =
    failed
    (subst (λ (t : List ℕ). TakesPart t (g.P.Process.taken c.args.process.now)
    (g.P.Process.taken c.write_whole.new.process))
    (c.as_slice.ensures.value ∙ c.write_command-text.ensures.bytes) c.in-Err.ensures.part)
    c.in-Err.ensures.failed c.in-Err.ensures.given
