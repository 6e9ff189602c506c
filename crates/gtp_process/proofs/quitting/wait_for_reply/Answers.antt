use Rattle.std.proofs.Common.{◌≡◌, false, arith, rules}
use Rattle.std.specs.Prelude.{is_some}
use Rattle.std.specs.Io.KnownBytes.{Keeps}
use Rattle.std.proofs.KnownBytes.{Appends-kept, Appends-nil, Appends-trans, Keeps-refl, Keeps-trans}
use Rattle.std.proofs.lemmas.Grind.{common_steps}
use Rattle.gtp_wire.proofs.first_answers.OneByteMore.{read_nothing}
use Rattle.gtp_process.specs.Quitting.{broke, ended, replied}
use Rattle.gtp_process.specs.Pipes.{untouched}
use Rattle.gtp_process.proofs.streams.Awaited.{held, quiet_still, given_there, too_many_answer}
use Rattle.gtp_process.proofs.streams.PipeCalls.{cut_off-then, ended-then, unbroken-then}
use Rattle.gtp_process.proofs.quitting.wait_for_reply.Goals as goal

pub loop-read-init : goal.loop-read-init
loop-read-init g c = rw c.new-reader.ensures (record {
  given = Appends-nil _;
  quiet = read_nothing.quiet;
  unbroken = untouched;
  taken = Keeps-refl _;
  many = omega arith;
})

pub returns-in-Ok-eq0 : goal.returns-in-Ok-eq0
returns-in-Ok-eq0 g c =
    let kept : Keeps (g.P.Process.given c.loop-read.process) (g.P.Process.given c.read_some.new.process) =
    search rules in
    ended c.loop-read.reader (Appends-kept _ _ _ _ c.loop-read.invariant.given kept) c.loop-read.invariant.quiet
    (ended-then c.loop-read.invariant.unbroken (c.in-Ok-eq0.ensures.ended (search rules) (search rules)))
    (Keeps-trans _ _ _ c.loop-read.invariant.taken c.in-Ok-eq0.ensures.taken)

pub returns-then-is_some : goal.returns-then-is_some
returns-then-is_some g c =
    let found = given_there _ _ _ _ _ c.feed_into.result.got (search rules) c.feed_into.ensures.reads in
    replied _ _ found.0 (Appends-trans _ _ _ _ _ c.loop-read.invariant.given (search rules)) found.1
    (unbroken-then c.loop-read.invariant.unbroken (c.in-Ok.ensures.unbroken (grind (arith, c.in-Ok.count-is))))
    (Keeps-trans _ _ _ c.loop-read.invariant.taken c.in-Ok.ensures.taken)

pub returns-in-Err : goal.returns-in-Err
returns-in-Err g c =
    let kept : Keeps (g.P.Process.given c.loop-read.process) (g.P.Process.given c.read_some.new.process) =
    search rules in
    broke c.loop-read.reader (Appends-kept _ _ _ _ c.loop-read.invariant.given kept) c.loop-read.invariant.quiet
    (cut_off-then c.loop-read.invariant.unbroken c.in-Err.ensures.failed)
    (Keeps-trans _ _ _ c.loop-read.invariant.taken c.in-Err.ensures.taken)

pub loop-read-preserved : goal.loop-read-preserved
loop-read-preserved g c =
    let none : is_some c.feed_into.result.got ≡ false = search rules in
    let same = held _ _ _ _ _ c.feed_into.result.got none c.feed_into.ensures.reads in
    record {
      given = rw same (Appends-trans _ _ _ _ _ c.loop-read.invariant.given (search rules));
      quiet = quiet_still _ _ _ _ _ c.feed_into.result.got none c.feed_into.ensures.reads;
      unbroken = unbroken-then c.loop-read.invariant.unbroken
          (c.in-Ok.ensures.unbroken (grind (arith, c.in-Ok.count-is)));
      taken = Keeps-trans _ _ _ c.loop-read.invariant.taken c.in-Ok.ensures.taken;
      many = rw same (grind (arith, common_steps, c.loop-read.invariant.many, c.in-Ok.count-is, c.in-Ok.ensures.bound));
    }

pub returns : goal.returns
returns g c =
    absurd (too_many_answer c.loop-read.reader c.loop-read.invariant.quiet
    (omega (arith, c.loop-read.invariant.many, c.loop-read.auto._read-end, c.loop-read-test.false)))
