-- A conversation that is made shorter by delta debugging: what is left out next, and what comes of a trial. (Own.)
use Rattle.std.specs.Prelude.{◌≡◌, ◌≤◌, ◌<◌, ℕ, ◌+◌, ◌-◌, ◌/◌, min, max, ◌==◌, nat_lt, nat_le, Bool, true, false, not}
use Rattle.std.specs.Prelude.{◌&&◌, if◌then◌else◌, List, length, Option, None, Some}
use Rattle.std.specs.List.{prefix_len, remove_range}
use Rattle.gtp_wire.specs.declared.commands.Command.{Command}
use Rattle.gtp_wire.specs.declared.commands.Command.TheVariants.{Boardsize, Komi, ClearBoard, FixedHandicap, Play}
use Rattle.gtp_wire.specs.declared.commands.Command.TheVariants.{Genmove, Undo, Quit}
use Rattle.gtp_check_judge.specs.declared.asking.CheckCommand.{CheckCommand}
use Rattle.gtp_check_judge.specs.declared.asking.CheckCommand.TheVariants.{Match, FinalScore, Name, Version}
use Rattle.gtp_check_judge.specs.declared.asking.CheckCommand.TheVariants.{KnownCommand, PlayInFull, GenmoveInFull}
use Rattle.gtp_check_judge.specs.declared.asking.CheckCommand.TheVariants.{ListCommands}
use Rattle.gtp_check_judge.specs.declared.asking.CheckCommand.TheVariants.{Faulty, Required}
use Rattle.gtp_check_shortening.specs.declared.parts.Part.{Part}
use Rattle.gtp_check_shortening.specs.declared.limits.Limits.{Limits}

-- ---- the conversation

-- Its last command is the one that was answered wrongly, and stays. So many come before it.
abbrev pub before_last : List CheckCommand → ℕ
before_last commands = length commands - 1

-- a command of a match that sets a game up
abbrev pub sets_game_up : Command → Bool
sets_game_up (Boardsize size) = true
sets_game_up (Komi komi) = true
sets_game_up ClearBoard = true
sets_game_up (FixedHandicap stones) = true
sets_game_up (Play move) = false
sets_game_up (Genmove colour) = false
sets_game_up Undo = false
sets_game_up Quit = false

-- Such a command, or one that asks what the engine knows: without it much that comes later may not be asked.
abbrev pub is_setup : CheckCommand → Bool
is_setup (Match command) = sets_game_up command
is_setup FinalScore = false
is_setup Name = false
is_setup Version = false
is_setup (KnownCommand asked) = true
is_setup ListCommands = false
is_setup (Faulty faulty) = false
is_setup (Required required) = false
is_setup (PlayInFull move) = false
is_setup (GenmoveInFull colour) = false

-- how many such commands the conversation begins with
abbrev pub setup_len : List CheckCommand → ℕ
setup_len commands = min (prefix_len is_setup commands) (before_last commands)

-- The conversation ended wrongly after so many right answers: these commands, and the last one.
abbrev pub ended_after : ℕ → List CheckCommand → List CheckCommand
ended_after answered commands =
    remove_range commands (min answered (before_last commands)) (before_last commands)

-- ---- its parts

-- where a part ends: after so many commands, or before the last command
abbrev pub part_end : List CheckCommand → Part → ℕ
part_end commands part = min (part.place + part.size) (before_last commands)

-- half of what a part had, or of all moves and questions where these are fewer; one command at least
abbrev pub half_size : ℕ → List CheckCommand → ℕ
half_size size commands =
    let most = min size (before_last commands - setup_len commands) in max 1 (most - most / 2)

-- A round begins. Parts of several commands begin after those that set the game up, and single commands at the front.
abbrev pub round_of : ℕ → List CheckCommand → Part
round_of size commands = record { place = if size == 1 then 0 else setup_len commands; size = size }

-- The part that is tried next, from this one on. Where no command is left for it a new round begins: of half the size,
-- or again of single commands.
abbrev pub part_from : List CheckCommand → Part → Part
part_from commands part =
    if nat_lt part.place (before_last commands) then part
    else if part.size == 1 then record { place = 0; size = 1 }
    else round_of (half_size part.size commands) commands

-- ---- the reduction

-- The shortest conversation so far, the part of it that is left out next, how many single commands were left out in
-- vain since it was last made shorter, and what is left of the limits.
pub record Reduction : Type 0 where
  pub commands : List CheckCommand
  pub part : Part
  pub in_vain : ℕ
  pub left : Limits

-- At first the halves of it are left out.
abbrev pub begun : List CheckCommand → Limits → Reduction
begun commands limits = record {
  commands = commands;
  part = round_of (half_size (length commands) commands) commands;
  in_vain = 0;
  left = limits;
}

-- The part has a command, and is in front of the last one. Only single commands are counted.
pub record IsSound (now : Reduction) : Type 0 where
  pub some : 0 < now.part.size
  pub within : now.part.place ≤ before_last now.commands
  pub has_part : 0 < before_last now.commands → now.part.place < before_last now.commands
  pub few : now.in_vain ≤ before_last now.commands
  pub single : 1 < now.part.size → now.in_vain ≡ 0

-- ---- the next trial

-- the conversation without the part
abbrev pub candidate : Reduction → List CheckCommand
candidate now = remove_range now.commands now.part.place (part_end now.commands now.part)

-- each command before the last was left out alone, in vain
abbrev pub is_minimal : Reduction → Bool
is_minimal now = nat_le (before_last now.commands) now.in_vain

-- whether the limits allow a trial of so many commands
abbrev pub allow : ℕ → Limits → Bool
allow count left = nat_lt 0 left.trials && nat_le count left.commands

abbrev pub has_next : Reduction → Bool
has_next now = not (is_minimal now) && allow (length (candidate now)) now.left

-- what is tried next, if anything is
abbrev pub next : Reduction → Option (List CheckCommand)
next now = if has_next now then Some (candidate now) else None

-- ---- what comes of a trial

-- a trial was made, and so many commands were asked
abbrev pub spent : ℕ → Limits → Limits
spent asked left = record { trials = left.trials - 1; commands = left.commands - asked }

abbrev pub counted : Part → ℕ → ℕ
counted part in_vain = if part.size == 1 then in_vain + 1 else in_vain

-- It didn't end by the same wrong answer: the part stays, and the next one is tried.
abbrev pub after_failure : ℕ → Reduction → Reduction
after_failure asked now = record now {
  part = part_from now.commands (record { place = part_end now.commands now.part; size = now.part.size });
  in_vain = counted now.part now.in_vain;
  left = spent asked now.left;
}

-- It ended by the same wrong answer, after so many right ones: these commands and the last one are the conversation.
-- What comes after the part is tried next.
abbrev pub after_success : ℕ → ℕ → Reduction → Reduction
after_success answered asked now =
    let commands = ended_after answered (candidate now) in record {
      commands = commands;
      part = part_from commands now.part;
      in_vain = 0;
      left = spent asked now.left;
    }
