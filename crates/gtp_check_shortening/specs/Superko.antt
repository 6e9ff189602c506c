-- When positional ko explains a refusal. (Own.)
use Rattle.std.specs.Prelude.{◌≡◌, ℕ, ◌-◌, ◌==◌, Bool, length, take, List, [], ◌∷◌, ◌++◌, if◌then◌else◌}
use Rattle.std.specs.Prelude.{Option, None, Some, option_and_then, slice_get}
use Rattle.go_base.specs.Decide.{allows?, below?, both?, holds, not?}
use Rattle.go_base.specs.declared.moves.Move.{Move}
use Rattle.go_board.specs.Game.{GameRecord, most_moves, with_move, without_last, fresh_game_under}
use Rattle.go_board.specs.Refusals.{RefusesVertex}
use Rattle.go_board.specs.decisions.Game.{legal?, touched?}
use Rattle.go_board.specs.declared.faults.PlayFault.TheVariants.{Ko}
use Rattle.go_board.specs.declared.rules.KoRule.{KoRule}
use Rattle.go_board.specs.declared.rules.KoRule.TheVariants.{Positional}
use Rattle.gtp_check_judge.specs.declared.asking.CheckCommand.{CheckCommand}
use Rattle.gtp_check_judge.specs.declared.asking.CheckCommand.TheVariants.{Match, FinalScore, Name, Version}
use Rattle.gtp_check_judge.specs.declared.asking.CheckCommand.TheVariants.{KnownCommand, PlayInFull, GenmoveInFull}
use Rattle.gtp_check_judge.specs.declared.asking.CheckCommand.TheVariants.{ListCommands}
use Rattle.gtp_check_judge.specs.declared.asking.CheckCommand.TheVariants.{Faulty, Required}
use Rattle.gtp_wire.specs.declared.commands.Command.{Command}
use Rattle.gtp_wire.specs.declared.commands.Command.TheVariants.{Boardsize, Komi, ClearBoard, FixedHandicap, Play}
use Rattle.gtp_wire.specs.declared.commands.Command.TheVariants.{Genmove, Undo, Quit}
use Rattle.gtp_check_talk.specs.declared.said.Said.{Said}

-- whether a move may be made: it is legal, and the record has room
abbrev pub is_made : GameRecord → Move → Bool
is_made game move =
    holds (both? (legal? game move.colour move.vertex) (below? (length game.moves) most_moves))

-- whether so many handicap stones may be placed: the board is untouched, and its size allows the number
abbrev pub is_placed : GameRecord → ℕ → Bool
is_placed game stones = holds (both? (not? (touched? game)) (allows? game.size stones))

-- the game after a `play`, and after a `fixed_handicap`
abbrev pub after_play : GameRecord → Move → GameRecord
after_play game move = if is_made game move then with_move game move.colour move.vertex else game

abbrev pub after_stones : GameRecord → ℕ → GameRecord
after_stones game stones = if is_placed game stones then record game { handicap = stones } else game

-- The game after a command of a match, of which one that a right engine refuses changes nothing. After a `genmove` it
-- isn't known, since the move is the engine's own.
abbrev pub after_match : GameRecord → Command → Option GameRecord
after_match game (Boardsize size) = Some (record game { size = size; handicap = 0; moves = [] })
after_match game (Komi komi) = Some (record game { komi = komi })
after_match game ClearBoard = Some (record game { handicap = 0; moves = [] })
after_match game (FixedHandicap stones) = Some (after_stones game stones)
after_match game (Play move) = Some (after_play game move)
after_match game Undo = Some (without_last game)
after_match game (Genmove colour) = None
after_match game Quit = None

-- the same of each command that a check asks
abbrev pub after_asked : GameRecord → CheckCommand → Option GameRecord
after_asked game (Match command) = after_match game command
after_asked game FinalScore = Some game
after_asked game Name = Some game
after_asked game Version = Some game
after_asked game (KnownCommand known) = Some game
after_asked game ListCommands = Some game
after_asked game (Faulty faulty) = Some game
after_asked game (Required required) = Some game
after_asked game (PlayInFull move) = after_match game (Play move)
after_asked game (GenmoveInFull colour) = after_match game (Genmove colour)

-- the game after these commands, if it is known
unfoldable pub after_all : GameRecord → List Said → Option GameRecord
after_all game [] = Some game
after_all game (said ∷ later) =
    option_and_then (λ next. after_all next later) (after_asked game said.command)

-- the game, where its board has this size
abbrev pub on_size : ℕ → GameRecord → Option GameRecord
on_size size game = if game.size == size then Some game else None

-- The game under a ko rule in which the last of these commands was asked, if those before it give it, on the board that
-- it was asked on.
abbrev pub game_before : KoRule → List Said → Option GameRecord
game_before rule talk =
    option_and_then
    (λ last. option_and_then (λ game. on_size last.size game)
    (after_all (fresh_game_under rule) (take (length talk - 1) talk)))
    (slice_get talk (length talk - 1))

-- the move of a `play`, if it is one, its colour written in one letter or in full
abbrev pub play_of : CheckCommand → Option Move
play_of (Match (Play move)) = Some move
play_of (PlayInFull move) = Some move
play_of _ = None

-- The last command is a `play` that positional ko forbids in the game of the commands before it, under that rule, on
-- the board that it was asked on. Where the engine made a move of its own among them this isn't so.
pub record IsPositional (talk : List Said) : Type 0 where
  pub before : List Said
  pub last : Said
  pub move : Move
  pub game : GameRecord
  pub ends : talk ≡ before ++ last ∷ []
  pub plays : play_of last.command ≡ Some move
  pub known : after_all (fresh_game_under Positional) before ≡ Some game
  pub size : game.size ≡ last.size
  pub forbids : RefusesVertex game move.colour move.vertex Ko
