use Rattle.std.specs.Prelude.{◌≤◌, ◌*◌}
use Rattle.arrayvec.specs.ArrayVec.{array_vec_len}
use Rattle.twogtp_app.specs.Speaking.{TakesCommands}
use Rattle.twogtp_app.proofs.streams.SentAhead.{count}
use Rattle.twogtp_app.proofs.next_commands.take_commands.Given as goal

-- This number of commands was taken, with at most 64 bytes each, and at least this number is unanswered.
abbrev pub invariant-loop-number : goal.invariant-loop-number
invariant-loop-number l =
    TakesCommands l.fn.game l.side l._number l.text.items l.game × (array_vec_len l.text ≤ l._number * 64)
    × (l._number ≤ count l.game l.side)
