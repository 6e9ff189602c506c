-- The last game of a conversation, where it is shown alone, with what is in force when it begins. (Own.)
use Rattle.std.specs.Prelude.{ℕ, zero, suc, ◌==◌, ◌||◌, Bool, true, false, not, nat_le, if◌then◌else◌, count_by, List}
use Rattle.std.specs.Prelude.{Option, None, Some, option_and_then, slice_get}
use Rattle.std.specs.List.{range_with_len}
use Rattle.std.specs.Option.{option_map_or}
use Rattle.go_base.specs.declared.moves.Move.{Move}
use Rattle.gtp_wire.specs.declared.commands.Command.TheVariants.{Boardsize, Komi}
use Rattle.gtp_check_judge.specs.declared.asking.CheckCommand.{CheckCommand}
use Rattle.gtp_check_judge.specs.declared.asking.CheckCommand.TheVariants.{Match}
use Rattle.gtp_check_shortening.specs.Played.{asked_as}
use Rattle.gtp_check_shortening.specs.Shortening.{start_of}
use Rattle.gtp_check_shortening.specs.Superko.{play_of}
use Rattle.gtp_check_shortening.specs.declared.last_game.LastGame.{LastGame}
use Rattle.gtp_check_shortening.specs.declared.last_game.Setting.{Setting}
use Rattle.gtp_check_shortening.specs.declared.last_game.Setting.TheVariants as setting
use Rattle.gtp_check_talk.specs.declared.said.Said.{Said}

-- ---- what is in force

-- whether it is the `boardsize` of this size, and whether it is a `komi`
abbrev pub is_boardsize : ℕ → CheckCommand → Bool
is_boardsize size (Match (Boardsize asked)) = asked == size
is_boardsize size _ = false

abbrev pub is_komi : CheckCommand → Bool
is_komi (Match (Komi komi)) = true
is_komi _ = false

-- whether a command sets this
abbrev pub sets : Setting → CheckCommand → Bool
sets (setting.Size size) command = is_boardsize size command
sets setting.Komi command = is_komi command

-- whether the command sets it, if there is one
abbrev pub sets_at : Setting → Option Said → Bool
sets_at what said = option_map_or (λ one. sets what one.command) said false

-- the place of the last of the first so many commands that sets it, counted from 0
unfoldable pub last_setting : Setting → List Said → ℕ → Option ℕ
last_setting what talk zero = None
last_setting what talk (suc place) =
    if sets_at what (slice_get talk place) then Some place else last_setting what talk place

-- the place at which the size was set that the board had when the command at this place was asked
abbrev pub size_before : List Said → ℕ → Option ℕ
size_before talk start =
    option_and_then (λ said. last_setting (setting.Size said.size) talk start) (slice_get talk start)

-- ---- what is shown

-- a game that begins at this place, and what is in force then
abbrev pub game_from : List Said → ℕ → LastGame
game_from talk start =
    record { start = start; size = size_before talk start; komi = last_setting setting.Komi talk start }

-- the last game: it begins with the last `clear_board`, or where the conversation does
abbrev pub last_game : List Said → LastGame
last_game talk = game_from talk (start_of 1 talk)

-- whether it is this place
abbrev pub is_place : Option ℕ → ℕ → Bool
is_place None place = false
is_place (Some set) place = set == place

-- whether the command at this place is shown: it is one of the game, or set what is in force when that begins
abbrev pub shows : LastGame → ℕ → Bool
shows game place = nat_le game.start place || (is_place game.size place || is_place game.komi place)

-- how many commands aren't shown
abbrev pub left_out : LastGame → ℕ
left_out game = count_by (λ place. not (shows game place)) (range_with_len 0 game.start)

-- ---- what an engine chose

-- the move that was made by a command, where this one was asked next, if it made one
abbrev pub made_by : Said → Said → Option Move
made_by said next = option_and_then play_of (asked_as said.command said next)
