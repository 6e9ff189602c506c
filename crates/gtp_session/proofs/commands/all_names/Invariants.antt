use Rattle.std.proofs.Common.{◌≡◌, ◌*◌, ◌≤◌, length, take}
use Rattle.std.specs.List.{join_with_byte}
use Rattle.std.specs.Prelude.{map}
use Rattle.gtp_session.specs.Commands.{all_commands, spelled}
use Rattle.gtp_session.proofs.commands.all_names.Given as goal

-- the first names are written, by 17 bytes each at most
abbrev pub invariant-loop-command : goal.invariant-loop-command
invariant-loop-command l = record {
  short : length l.text.items ≤ 17 * l.command-index;
  written : l.text.items ≡ join_with_byte 10 (map spelled (take l.command-index all_commands));
}
