-- What is known of an engine's board and komi since it was started. (The standard says neither of which size and with
-- which komi an engine begins, nor what is on its board after a `boardsize`.) So what hangs on the board is asked only
-- once a size was taken and the board cleared after it, and a score only where the last `komi` that was asked is one
-- that every engine has to take.
use Rattle.std.specs.Prelude.{Bool, true, false}
use Rattle.gtp_wire.specs.declared.commands.Command.{Command}
use Rattle.gtp_wire.specs.declared.commands.Command.TheVariants.{Boardsize, Komi, ClearBoard, FixedHandicap, Play}
use Rattle.gtp_wire.specs.declared.commands.Command.TheVariants.{Genmove, Undo, Quit}
use Rattle.gtp_check_judge.specs.declared.asking.CheckCommand.{CheckCommand}
use Rattle.gtp_check_judge.specs.declared.asking.CheckCommand.TheVariants.{Match, FinalScore, Name, Version}
use Rattle.gtp_check_judge.specs.declared.asking.CheckCommand.TheVariants.{KnownCommand, PlayInFull, GenmoveInFull, ListCommands}
use Rattle.gtp_check_judge.specs.declared.asking.CheckCommand.TheVariants.{Faulty, Required}
use Rattle.gtp_check_judge.specs.declared.setups.Board.{Board}
use Rattle.gtp_check_judge.specs.declared.setups.Board.TheVariants.{Unknown, Sized, Cleared}
use Rattle.gtp_check_judge.specs.Komis.{is_exact_komi}

abbrev pub is_clear_board : CheckCommand → Bool
is_clear_board (Match ClearBoard) = true
is_clear_board (Match (Boardsize size)) = false
is_clear_board (Match (Komi komi)) = false
is_clear_board (Match (FixedHandicap stones)) = false
is_clear_board (Match (Play move)) = false
is_clear_board (Match (Genmove colour)) = false
is_clear_board (Match Undo) = false
is_clear_board (Match Quit) = false
is_clear_board FinalScore = false
is_clear_board Name = false
is_clear_board Version = false
is_clear_board (KnownCommand known) = false
is_clear_board ListCommands = false
is_clear_board (Faulty command) = false
is_clear_board (Required command) = false
is_clear_board (PlayInFull move) = false
is_clear_board (GenmoveInFull colour) = false

-- whether the last komi that was asked is exact, once a command was asked, where it was before: by a `komi` it hangs on
-- that one, and by other commands it stays
abbrev pub komi_after : Bool → CheckCommand → Bool
komi_after is_set (Match (Komi komi)) = is_exact_komi komi
komi_after is_set (Match ClearBoard) = is_set
komi_after is_set (Match (Boardsize size)) = is_set
komi_after is_set (Match (FixedHandicap stones)) = is_set
komi_after is_set (Match (Play move)) = is_set
komi_after is_set (Match (Genmove colour)) = is_set
komi_after is_set (Match Undo) = is_set
komi_after is_set (Match Quit) = is_set
komi_after is_set FinalScore = is_set
komi_after is_set Name = is_set
komi_after is_set Version = is_set
komi_after is_set (KnownCommand known) = is_set
komi_after is_set ListCommands = is_set
komi_after is_set (Faulty command) = is_set
komi_after is_set (Required command) = is_set
komi_after is_set (PlayInFull move) = is_set
komi_after is_set (GenmoveInFull colour) = is_set

abbrev pub is_final_score : CheckCommand → Bool
is_final_score FinalScore = true
is_final_score (Match command) = false
is_final_score Name = false
is_final_score Version = false
is_final_score (KnownCommand known) = false
is_final_score ListCommands = false
is_final_score (Faulty command) = false
is_final_score (Required command) = false
is_final_score (PlayInFull move) = false
is_final_score (GenmoveInFull colour) = false

-- what is due to it hangs on the board
abbrev pub is_board_of : Command → Bool
is_board_of (FixedHandicap stones) = true
is_board_of (Play move) = true
is_board_of (Genmove colour) = true
is_board_of Undo = true
is_board_of (Boardsize size) = false
is_board_of (Komi komi) = false
is_board_of ClearBoard = false
is_board_of Quit = false

abbrev pub needs_board : CheckCommand → Bool
needs_board (Match command) = is_board_of command
needs_board FinalScore = true
needs_board Name = false
needs_board Version = false
needs_board (KnownCommand known) = false
needs_board ListCommands = false
needs_board (Faulty command) = false
needs_board (Required command) = false
needs_board (PlayInFull move) = is_board_of (Play move)
needs_board (GenmoveInFull colour) = is_board_of (Genmove colour)

-- what is known of the board once a command was asked that clears it or doesn't
abbrev pub board_after : Board → Bool → Board
board_after Unknown clears = Unknown
board_after Sized true = Cleared
board_after Sized false = Sized
board_after Cleared clears = Cleared
