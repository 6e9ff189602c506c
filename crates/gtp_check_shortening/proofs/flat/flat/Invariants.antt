use Rattle.std.proofs.Common.{◌≡◌, ◌-◌, ◌≤◌, drop, length}
use Rattle.std.specs.Prelude.{reverse}
use Rattle.gtp_check_shortening.specs.Shortening.{flat, taken_back}
use Rattle.gtp_check_shortening.proofs.flat.flat.Given as goal

-- what stays of the last so many commands is there, the last one first
abbrev pub invariant-loop-done : goal.invariant-loop-done
invariant-loop-done l = record {
  back : reverse l.commands.items ≡ flat (drop (length l.talk - l.done) l.talk);
  taken : l.taken_back ≡ taken_back (drop (length l.talk - l.done) l.talk);
  few : l.taken_back ≤ l.done;
}
