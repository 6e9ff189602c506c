use Rattle.std.proofs.Common.{◌≡◌, ◌<◌, length, arith}
use Rattle.std.proofs.lemmas.Bool.Decides.{nat_tests}
use Rattle.gtp_wire.specs.declared.lines.Stage.TheVariants.{Gap}
use Rattle.gtp_wire.proofs.line_reading.Steps.{view_open, space_byte, step_front, step_long, step_space, step_skipped}
use Rattle.gtp_wire.proofs.lines.LineReader.take_space.Goals as goal

pub returns-then-is_empty : goal.returns-then-is_empty
returns-then-is_empty c =
    let none : length c.self.inside.held.items ≡ 0 = grind (arith, nat_tests) in
    record {
      rest =
          λ z. rw (← c.self.view_is)
          (step_front c.self.inside.held.items c.self.inside.stage c.args.byte z c.self.invariant none
          (space_byte c.args.byte c.requires));
      no_line =
          rw (← c.self.view_is) (view_open c.self.inside.held.items c.self.inside.stage c.self.invariant.joined);
    }

pub returns-then-len-gt-MOST_LINE_BYTES : goal.returns-then-len-gt-MOST_LINE_BYTES
returns-then-len-gt-MOST_LINE_BYTES c =
    let long : 1000 < length c.self.inside.held.items = grind arith in
    let space = space_byte c.args.byte c.requires in
    record {
      rest =
          λ z. rw (← c.self.view_is)
          (step_long c.self.inside.held.items c.self.inside.stage c.args.byte z c.self.invariant.joined
          long space.kept space.inside);
      no_line =
          rw (← c.self.view_is) (view_open c.self.inside.held.items c.self.inside.stage c.self.invariant.joined);
    }

pub returns-in-Word : goal.returns-in-Word
returns-in-Word c = record {
  rest =
      λ z. rw (← c.self.view_is)
      (step_space c.self.inside.held.items c.self.inside.stage c.args.byte z c.self.invariant.joined c.in-Word.is
      (space_byte c.args.byte c.requires));
  no_line = view_open c.self.inside.held.items Gap c.self.invariant.joined;
}

pub returns-in-Gap : goal.returns-in-Gap
returns-in-Gap c =
    let space = space_byte c.args.byte c.requires in
    record {
      rest =
          λ z. rw (← c.self.view_is) (step_skipped c.self.inside.held.items c.self.inside.stage c.args.byte z
          c.self.invariant.joined c.in-Gap.is space);
      no_line =
          rw (← c.self.view_is) (view_open c.self.inside.held.items c.self.inside.stage c.self.invariant.joined);
    }
