use Rattle.std.proofs.Common.{◌+◌, ◌<◌, ◌≤◌, length, ap, arith}
use Rattle.gtp_wire.specs.Replies.{most_reply_bytes}
use Rattle.gtp_wire.specs.declared.reply_reader.Step.TheVariants.{To, End, Fault}
use Rattle.gtp_wire.proofs.first_answers.OneByteMore.{without_fault, quiet_at, leads_nowhere, next_reaches}
use Rattle.gtp_wire.proofs.first_answers.OneByteMore.{next_overlong}
use Rattle.gtp_wire.proofs.reply_reader.ReplyReader.scan.Goals as goal

pub overflow_sub-room : goal.overflow_sub-room
overflow_sub-room c =
    let here = without_fault _ _ _ c.self.invariant (quiet_at _ _ c.self.view_is c.requires) in
    omega (arith, here.1.fits, c.len-room.ensures.value)

pub loop-i-init : goal.loop-i-init
loop-i-init c =
    let here = without_fault _ _ _ c.self.invariant (quiet_at _ _ c.self.view_is c.requires) in
    leads_nowhere _ c.args.self.now c.args.input.now _ c.self.view_is here.1

pub returns-then-i-room : goal.returns-then-i-room
returns-then-i-room c =
    let full : most_reply_bytes ≤ length c.args.self.now + c.loop-i.i =
    omega (arith, c.len-room.ensures.value, ap length c.self.view_is, c.if-i-room.true) in
    record {
      within = omega arith;
      all = tt;
      reached = next_overlong c.args.self.now c.args.input.now c.loop-i.i c.loop-i.phase
          (omega arith) full c.loop-i.invariant;
    }

pub returns-in-End : goal.returns-in-End
returns-in-End c =
    let room : length c.args.self.now + c.loop-i.i < most_reply_bytes =
    omega (arith, c.len-room.ensures.value, ap length c.self.view_is, c.if-i-room.false) in
    record {
      within = omega arith;
      all = tt;
      reached = next_reaches c.args.self.now c.args.input.now c.loop-i.i c.loop-i.phase End (omega arith) room
          c.loop-i.invariant c.in-End.ensures;
    }

pub returns-in-Fault : goal.returns-in-Fault
returns-in-Fault c =
    let room : length c.args.self.now + c.loop-i.i < most_reply_bytes =
    omega (arith, c.len-room.ensures.value, ap length c.self.view_is, c.if-i-room.false) in
    record {
      within = omega arith;
      all = tt;
      reached = next_reaches c.args.self.now c.args.input.now c.loop-i.i c.loop-i.phase
          (Fault c.in-Fault.fault) (omega arith) room
          c.loop-i.invariant c.in-Fault.ensures;
    }

pub loop-i-preserved : goal.loop-i-preserved
loop-i-preserved c =
    let room : length c.args.self.now + c.loop-i.i < most_reply_bytes =
    omega (arith, c.len-room.ensures.value, ap length c.self.view_is, c.if-i-room.false) in
    next_reaches c.args.self.now c.args.input.now c.loop-i.i c.loop-i.phase (To c.in-To.next) (omega arith) room
    c.loop-i.invariant c.in-To.ensures
