use Rattle.std.proofs.Common.{rules}
use Rattle.std.proofs.lemmas.Result.{err_from_is_err_and}
use Rattle.byte_streams.proofs.Parts.{tail-within, Appends-take, TakesPart-kept}
use Rattle.byte_streams.proofs.streams.send.Goals as goal

pub loop-done-preserved : goal.loop-done-preserved
loop-done-preserved g c =
    record {
      within = tail-within c.args.text.now c.loop-done.done c.in_ok-count.count c.loop-done.invariant.within
          c.in_ok-count.ensures.bound;
      taken = Appends-take _ _ _ c.args.text.now c.loop-done.done c.in_ok-count.count c.loop-done.invariant.taken
          c.in_ok-count.ensures.bytes;
      held = search rules;
    }

pub returns-in_err-count-clause-broke : goal.returns-in_err-count-clause-broke
returns-in_err-count-clause-broke g c =
    let exit = c.from_residual in
    rw ((err_from_is_err_and exit.result exit.ensures.1).1)
    (record {
      part = TakesPart-kept _ _ _ c.args.text.now c.loop-done.done c.loop-done.invariant.taken
          c.in_err-count.ensures.bytes;
      failed = search rules;
      last = search rules;
    })
