use Rattle.std.proofs.Common.{arith}
use Rattle.std.proofs.lemmas.Result.{err_from_is_err_and}
use Rattle.std.proofs.KnownBytes.{Appends-nil, Keeps-refl, Keeps-trans}
use Rattle.gtp_process.specs.Pipes.{untouched}
use Rattle.gtp_process.proofs.streams.PipeCalls.{cut_off-last, cut_off-then, unbroken-last, unbroken-then}
use Rattle.byte_streams.proofs.Parts.{tail-within, Appends-take, TakesPart-kept}
use Rattle.gtp_process.proofs.streams.TakenTexts.{tail-some, TakesPart-more}
use Rattle.gtp_process.proofs.pipes.write_whole.Goals as goal

pub loop-done-init : goal.loop-done-init
loop-done-init g c = record { within = omega arith; taken = Appends-nil _; given = Keeps-refl _; unbroken = untouched }

pub loop-done-preserved : goal.loop-done-preserved
loop-done-preserved g c =
    record {
      within = tail-within c.args.text.now c.loop-done.done c.in_ok-count.count c.loop-done.invariant.within
          c.in_ok-count.ensures.bound;
      taken = Appends-take _ _ _ c.args.text.now c.loop-done.done c.in_ok-count.count c.loop-done.invariant.taken
          c.in_ok-count.ensures.takes;
      given = Keeps-trans _ _ _ c.loop-done.invariant.given c.in_ok-count.ensures.given;
      unbroken = unbroken-then c.loop-done.invariant.unbroken (c.in_ok-count.ensures.unbroken (omega arith));
    }

pub returns-then-count-eq0-clause-failed : goal.returns-then-count-eq0-clause-failed
returns-then-count-eq0-clause-failed g c =
    cut_off-then c.loop-done.invariant.unbroken
    (c.in_ok-count.ensures.none (omega arith) (tail-some c.args.text.now c.loop-done.done c.loop-done-test.true))

pub returns-then-count-eq0-clause-part : goal.returns-then-count-eq0-clause-part
returns-then-count-eq0-clause-part g c = TakesPart-more _ _ _ c.args.text.now c.loop-done.done _
    c.loop-done.invariant.taken c.in_ok-count.ensures.takes

pub returns-in_err-count-clause-failed : goal.returns-in_err-count-clause-failed
returns-in_err-count-clause-failed g c =
    let exit = c.from_residual in
    rw ((err_from_is_err_and exit.result exit.ensures.1).1)
    (cut_off-then c.loop-done.invariant.unbroken c.in_err-count.ensures.failed)

pub returns-in_err-count-clause-part : goal.returns-in_err-count-clause-part
returns-in_err-count-clause-part g c =
    let exit = c.from_residual in
    rw ((err_from_is_err_and exit.result exit.ensures.1).1)
    (TakesPart-kept _ _ _ c.args.text.now c.loop-done.done c.loop-done.invariant.taken c.in_err-count.ensures.takes)

pub returns-clause-unbroken : goal.returns-clause-unbroken
returns-clause-unbroken g c = unbroken-last _ c.flush.result c.loop-done.invariant.unbroken c.flush.ensures.unbroken

pub returns-clause-failed : goal.returns-clause-failed
returns-clause-failed g c = cut_off-last _ c.flush.result c.loop-done.invariant.unbroken c.flush.ensures.failed
