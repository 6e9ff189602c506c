use Rattle.std.proofs.Common.{◌≡◌, ◌+◌, ◌*◌, ◌≤◌, length, take}
use Rattle.gtp_session.specs.OwnCommands.{names_with}
use Rattle.gtp_session.proofs.own_commands.OwnCommands.listed.Given as goal

-- the first names are written, by 33 bytes each at most
abbrev pub invariant-loop-name : goal.invariant-loop-name
invariant-loop-name l = record {
  short : length l.text.items ≤ 400 + 33 * l.name-index;
  written : l.text.items ≡ names_with (take l.name-index l.self);
}
