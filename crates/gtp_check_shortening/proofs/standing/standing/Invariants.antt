use Rattle.std.proofs.Common.{◌≡◌, ◌-◌, ◌≤◌, drop, length}
use Rattle.gtp_check_shortening.specs.Shortening.{standing_back, taken_back}
use Rattle.gtp_check_shortening.proofs.standing.standing.Given as goal

-- what stays of the last so many commands is there, the last one first
abbrev pub invariant-loop-done : goal.invariant-loop-done
invariant-loop-done l = record {
  back : l.commands.items ≡ standing_back l.game (drop (length l.talk - l.done) l.talk);
  taken : l.taken_back ≡ taken_back (drop (length l.talk - l.done) l.talk);
  few : l.taken_back ≤ l.done;
}
