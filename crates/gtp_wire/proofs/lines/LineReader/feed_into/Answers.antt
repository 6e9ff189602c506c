use Rattle.std.proofs.Common.{◌∙◌, refl, arith}
use Rattle.gtp_wire.proofs.line_reading.Steps.{view_open}
use Rattle.gtp_wire.proofs.line_reading.Feeding.{so_far_none, so_far_more, so_far_newline, line_read, none_read}
use Rattle.gtp_wire.proofs.lines.LineReader.feed_into.Goals as goal

pub loop-i-init : goal.loop-i-init
loop-i-init c = (
  so_far_none c.args.self.now c.args.input.now
      (rw (← c.self.view_is) (view_open c.self.inside.held.items c.self.inside.stage c.self.invariant.joined)),
  refl,
)

pub loop-i-preserved-then-byte-ne10 : goal.loop-i-preserved-then-byte-ne10
loop-i-preserved-then-byte-ne10 c = (
  so_far_more c.args.self.now c.args.input.now c.loop-i.i c.loop-i.self c.take_byte.new.self c.loop-i.invariant.0
      (omega arith) c.take_byte.ensures.rest c.take_byte.ensures.no_line,
  c.loop-i.invariant.1,
)

pub loop-i-preserved : goal.loop-i-preserved
loop-i-preserved c = (
  so_far_newline c.args.self.now c.args.input.now c.loop-i.i c.loop-i.self c.end_line.new.self c.loop-i.invariant.0
      (omega arith) c.if-byte-ne10.false c.if-end_line.ensures.step c.end_line.ensures.new,
  c.if-end_line.ensures.unchanged refl ∙ c.loop-i.invariant.1,
)

pub returns-then-end_line-clause-reads : goal.returns-then-end_line-clause-reads
returns-then-end_line-clause-reads c =
    line_read c.args.self.now c.args.input.now c.loop-i.i c.loop-i.self c.end_line.new.self c.end_line.new.line
    (rw (← c.self.view_is) (view_open c.self.inside.held.items c.self.inside.stage c.self.invariant.joined))
    c.loop-i.invariant.0 (omega arith) c.if-byte-ne10.false c.if-end_line.ensures.step c.end_line.ensures.new

pub returns-clause-reads : goal.returns-clause-reads
returns-clause-reads c =
    none_read c.args.self.now c.args.input.now c.loop-i.i c.loop-i.self
    (rw (← c.self.view_is) (view_open c.self.inside.held.items c.self.inside.stage c.self.invariant.joined))
    c.loop-i.invariant.0 (omega arith)
