use Rattle.std.proofs.Common.{◌≡◌, ℕ, Ok, arith, subst}
use Rattle.std.proofs.KnownBytes.{Appends-nil}
use Rattle.byte_streams.specs.Calls.{Writes}
use Rattle.byte_streams.specs.Writing.{no_write}
use Rattle.byte_streams.proofs.Parts.{tail, tail-within, Appends-take}
use Rattle.byte_streams.proofs.WrittenTexts.{leave_more, tail_fails, tail_stops, flush_breaks, breaks_at, Appends-none}
use Rattle.byte_streams.proofs.writing.write_text.Goals as goal

pub loop-done-init : goal.loop-done-init
loop-done-init g c = record { within = omega arith; taken = Appends-nil _; writes = no_write }

pub loop-done-preserved : goal.loop-done-preserved
loop-done-preserved g c =
    record {
      within = tail-within c.args.text.now c.loop-done.done c.in-Ok.count c.loop-done.invariant.within
          c.in-Ok.ensures.bound;
      taken = Appends-take _ _ _ c.args.text.now c.loop-done.done c.in-Ok.count c.loop-done.invariant.taken
          c.in-Ok.ensures.bytes;
      writes = leave_more g.W.WriteOnce c.args.text.now c.loop-done.done c.in-Ok.count _ _ _
          c.loop-done.invariant.writes (omega arith) c.in-Ok.ensures.bound c.in-Ok.ensures.call;
    }

pub returns-in-Ok-eq0-clause-broke : goal.returns-in-Ok-eq0-clause-broke
returns-in-Ok-eq0-clause-broke g c =
    let none : c.in-Ok-eq0.field-0 ≡ 0 = omega (arith, c.in-Ok-eq0.field-0-test) in
    let P : ℕ → Type 0 = λ count. g.W.WriteOnce.calls c.loop-done.writer
    (Writes (tail c.args.text.now c.loop-done.done) (Ok count)) c.write_once.new.self in
    breaks_at g.W.WriteOnce c.args.text.now c.loop-done.done c.args.writer.now c.loop-done.writer c.write_once.new.self
    c.loop-done.invariant.taken
    (Appends-none _ _ (tail c.args.text.now c.loop-done.done) c.in-Ok-eq0.field-0 none c.in-Ok-eq0.ensures.bytes)
    c.loop-done.invariant.writes
    (tail_stops g.W.WriteOnce c.args.text.now c.loop-done.done c.loop-done.writer c.write_once.new.self
    (omega (arith, c.loop-done-test.true)) (subst P none c.in-Ok-eq0.ensures.call))

pub returns-in-Err-clause-broke : goal.returns-in-Err-clause-broke
returns-in-Err-clause-broke g c =
    breaks_at g.W.WriteOnce c.args.text.now c.loop-done.done c.args.writer.now c.loop-done.writer c.write_once.new.self
    c.loop-done.invariant.taken c.in-Err.ensures.bytes c.loop-done.invariant.writes
    (tail_fails g.W.WriteOnce c.args.text.now c.loop-done.done c.loop-done.writer c.write_once.new.self
    c.in-Err.field-0 (omega (arith, c.loop-done-test.true)) c.in-Err.ensures.call)

pub returns-in-Err-flush_once-clause-broke : goal.returns-in-Err-flush_once-clause-broke
returns-in-Err-flush_once-clause-broke g c =
    breaks_at g.W.WriteOnce c.args.text.now c.loop-done.done c.args.writer.now c.loop-done.writer c.flush_once.new.self
    c.loop-done.invariant.taken c.in-Err-flush_once.ensures.bytes c.loop-done.invariant.writes
    (flush_breaks g.W.WriteOnce c.args.text.now c.loop-done.done c.loop-done.writer c.flush_once.new.self
    (omega (arith, c.loop-done-test.false)) (c.in-Err-flush_once.field-0, c.in-Err-flush_once.ensures.call))
