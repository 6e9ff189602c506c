use Rattle.std.proofs.Common.{◌≡◌, ◌++◌}
use Rattle.std.specs.List.{filter, flat_map, range_with_len}
use Rattle.gtp_check_texts.specs.LastGame.{answered_lines, shows_in}
use Rattle.gtp_check_texts.proofs.last_game.add_lines.Given as goal

-- the lines so far are appended
abbrev pub invariant-loop-number : goal.invariant-loop-number
invariant-loop-number l =
    l.text.items ≡ l.initial.text.items
    ++ flat_map (answered_lines l.complaint) (filter (shows_in l.game) (range_with_len 0 l.number))
