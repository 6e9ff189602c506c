use Rattle.std.proofs.Common.{◌<◌, length, arith}
use Rattle.gtp_wire.specs.declared.lines.Stage.TheVariants.{Word}
use Rattle.gtp_wire.proofs.line_reading.Steps.{view_open, step_long, step_comment, joined_push, joined_push_gap}
use Rattle.gtp_wire.proofs.line_reading.Steps.{holds_word}
use Rattle.gtp_wire.proofs.line_reading.Steps.{holds_word_of, step_pushed, step_pushed_gap}
use Rattle.gtp_wire.proofs.line_reading.WordsOfLines.{plain_byte}
use Rattle.gtp_wire.proofs.lines.LineReader.take_word_byte.Goals as goal

pub returns-then-len-gt-MOST_LINE_BYTES : goal.returns-then-len-gt-MOST_LINE_BYTES
returns-then-len-gt-MOST_LINE_BYTES c =
    let long : 1000 < length c.self.inside.held.items = grind arith in
    let plain = plain_byte c.args.byte c.requires.0 in
    record {
      rest =
          λ z. rw (← c.self.view_is)
          (step_long c.self.inside.held.items c.self.inside.stage c.args.byte z c.self.invariant.joined
          long plain.0 plain.2);
      no_line =
          rw (← c.self.view_is) (view_open c.self.inside.held.items c.self.inside.stage c.self.invariant.joined);
    }

pub invariant_of-self : goal.invariant_of-self
invariant_of-self c =
    rw c.push.ensures.items
    (holds_word_of c.self.inside.stage (joined_push c.self.inside.held.items c.args.byte c.self.invariant.joined
    c.requires.0 c.requires.1) c.in-Word.is)

pub invariant_of-self-in-Gap : goal.invariant_of-self-in-Gap
invariant_of-self-in-Gap c =
    rw (c.push-in-Gap-2.ensures.items, c.push-in-Gap.ensures.items)
    (holds_word (joined_push_gap c.self.inside.held.items c.args.byte c.self.invariant.joined
    (c.self.invariant.gap c.in-Gap.is) c.requires.0 c.requires.1))

pub returns-in-Word : goal.returns-in-Word
returns-in-Word c = record {
  rest =
      λ z. rw (← c.self.view_is)
      (step_pushed c.self.inside.held.items c.push.new.self.items c.self.inside.stage c.args.byte c.in-Word.is
      c.push.ensures.items z);
  no_line = view_open c.push.new.self.items c.self.inside.stage (invariant_of-self c).joined;
}

pub returns-in-Gap : goal.returns-in-Gap
returns-in-Gap c = record {
  rest =
      λ z. rw (← c.self.view_is)
      (step_pushed_gap c.self.inside.held.items c.push-in-Gap.new.self.items c.push-in-Gap-2.new.self.items
      c.self.inside.stage c.args.byte c.in-Gap.is c.push-in-Gap.ensures.items c.push-in-Gap-2.ensures.items z);
  no_line = view_open c.push-in-Gap-2.new.self.items Word (invariant_of-self-in-Gap c).joined;
}

pub returns-in-Comment : goal.returns-in-Comment
returns-in-Comment c =
    let plain = plain_byte c.args.byte c.requires.0 in
    record {
      rest =
          λ z. rw (← c.self.view_is)
          (step_comment c.self.inside.held.items c.self.inside.stage c.args.byte z c.self.invariant.joined
          c.in-Comment.is plain.0 plain.2);
      no_line =
          rw (← c.self.view_is) (view_open c.self.inside.held.items c.self.inside.stage c.self.invariant.joined);
    }
