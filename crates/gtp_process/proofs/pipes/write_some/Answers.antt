use Rattle.std.proofs.Common.{ℕ, arith, subst}
use Rattle.std.proofs.KnownBytes.{Keeps-refl, Keeps-trans}
use Rattle.byte_streams.specs.declared.calls.CallFault.{CallFault}
use Rattle.gtp_process.specs.Pipes.{AreInterrupted, broke, interrupted, no_call, one_more, untouched, went}
use Rattle.gtp_process.proofs.streams.PipeCalls.{unbroken-tries}
use Rattle.gtp_process.proofs.pipes.write_some.Goals as goal

pub loop-try-init : goal.loop-try-init
loop-try-init g c = record { given = Keeps-refl _; taken = Keeps-refl _; interrupted = no_call }

pub loop-try-preserved : goal.loop-try-preserved
loop-try-preserved g c =
    record {
      given = Keeps-trans _ _ _ c.loop-try.invariant.given c.in-Err-Interrupted.ensures.given;
      taken = Keeps-trans _ _ _ c.loop-try.invariant.taken c.in-Err-Interrupted.ensures.takes;
      interrupted = one_more c.loop-try.invariant.interrupted
          (subst (λ (fault : CallFault). g.P.Process.fails c.loop-try.process fault c.write.new.self)
          c.in-Err-Interrupted.field-0-is c.in-Err-Interrupted.ensures.failed);
    }

pub returns-in-Ok-clause-none : goal.returns-in-Ok-clause-none
returns-in-Ok-clause-none g c = λ zero room. broke (unbroken-tries c.loop-try.invariant.interrupted)
    (c.in-Ok.ensures.none zero room)

pub returns-in-Err-Other-clause-failed : goal.returns-in-Err-Other-clause-failed
returns-in-Err-Other-clause-failed g c = broke (unbroken-tries c.loop-try.invariant.interrupted)
    (subst (λ (fault : CallFault). g.P.Process.fails c.loop-try.process fault c.write.new.self)
    c.in-Err-Other.field-0-is c.in-Err-Other.ensures.failed)

pub returns-clause-failed : goal.returns-clause-failed
returns-clause-failed g c =
    interrupted untouched (subst (λ (n : ℕ). AreInterrupted g.P.Process.fails c.args.process.now n c.loop-try.process)
    (omega (arith, c.loop-try.auto._try-end, c.loop-try-test.false)) c.loop-try.invariant.interrupted)

pub returns-in-Ok-clause-unbroken : goal.returns-in-Ok-clause-unbroken
returns-in-Ok-clause-unbroken g c = λ some. went (unbroken-tries c.loop-try.invariant.interrupted)
    (c.in-Ok.ensures.succeeded some)
