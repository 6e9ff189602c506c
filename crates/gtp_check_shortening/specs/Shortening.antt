-- Which shorter conversations are tried in place of a long one. (Own.)
use Rattle.std.specs.Prelude.{ℕ, ◌+◌, ◌-◌, ◌==◌, Bool, true, false, nat_lt, if◌then◌else◌, count_by, take, drop}
use Rattle.std.specs.Prelude.{◌&&◌, max, not, is_some, fold}
use Rattle.std.specs.Prelude.{List, [], ◌∷◌, ◌++◌, length, reverse, Option, None, Some}
use Rattle.std.specs.Bool.{then_some}
use Rattle.std.specs.List.{list_any}
use Rattle.std.specs.Option.{option_map_or}
use Rattle.go_base.specs.declared.vertices.Vertex.{Vertex}
use Rattle.go_base.specs.declared.vertices.Vertex.TheVariants.{Pass, At}
use Rattle.go_board.specs.Board.{stone_at}
use Rattle.go_board.specs.Game.{GameRecord, board_of, fresh_game_under}
use Rattle.go_board.specs.declared.rules.KoRule.TheVariants as rule
use Rattle.gtp_wire.specs.declared.commands.Command.{Command}
use Rattle.gtp_wire.specs.declared.commands.Command.TheVariants.{Boardsize, Komi, ClearBoard, FixedHandicap, Play}
use Rattle.gtp_wire.specs.declared.commands.Command.TheVariants.{Genmove, Undo, Quit}
use Rattle.gtp_check_judge.specs.declared.asking.CheckCommand.{CheckCommand}
use Rattle.gtp_check_judge.specs.declared.asking.CheckCommand.TheVariants.{Match, FinalScore, Name, Version}
use Rattle.gtp_check_judge.specs.declared.asking.CheckCommand.TheVariants.{KnownCommand, PlayInFull, GenmoveInFull}
use Rattle.gtp_check_judge.specs.declared.asking.CheckCommand.TheVariants.{ListCommands}
use Rattle.gtp_check_judge.specs.declared.asking.CheckCommand.TheVariants.{Faulty, Required}
use Rattle.gtp_check_judge.specs.declared.asking.Known.{Known}
use Rattle.gtp_check_judge.specs.declared.asking.Known.TheVariants as known
use Rattle.gtp_check_shortening.specs.declared.flat.Role.{Role}
use Rattle.gtp_check_shortening.specs.declared.flat.Role.TheVariants as role
use Rattle.gtp_check_shortening.specs.declared.flat.Shortening.{Shortening}
use Rattle.gtp_check_talk.specs.declared.said.Said.{Said}
use Rattle.gtp_check_talk.specs.Said.{commands_of}
use Rattle.gtp_check_shortening.specs.Played.{played}
use Rattle.gtp_check_shortening.specs.Superko.{after_all, play_of}

-- ---- what a command is to a game

-- what a command of a match is to a game, where it is a `play` that a right engine refuses or not
abbrev pub match_role : Command → Bool → Role
match_role (Boardsize size) refused = role.Size
match_role (Komi komi) refused = role.Komi
match_role ClearBoard refused = role.Clear
match_role (FixedHandicap stones) refused = role.Stones
match_role (Play move) true = role.Nothing
match_role (Play move) false = role.Move
match_role (Genmove colour) refused = role.Move
match_role Undo refused = role.Undo
match_role Quit refused = role.Nothing

-- a question is nothing to it
abbrev pub command_role : CheckCommand → Bool → Role
command_role (Match command) refused = match_role command refused
command_role FinalScore refused = role.Nothing
command_role Name refused = role.Nothing
command_role Version refused = role.Nothing
command_role (KnownCommand asked) refused = role.Nothing
command_role ListCommands refused = role.Nothing
command_role (Faulty faulty) refused = role.Nothing
command_role (Required required) refused = role.Nothing
command_role (PlayInFull move) refused = match_role (Play move) refused
command_role (GenmoveInFull colour) refused = match_role (Genmove colour) refused

abbrev pub role_of : Said → Role
role_of said = command_role said.command said.is_illegal

abbrev pub is_clear : Role → Bool
is_clear role.Clear = true
is_clear _ = false

abbrev pub is_size : Role → Bool
is_size role.Size = true
is_size _ = false

abbrev pub is_komi : Role → Bool
is_komi role.Komi = true
is_komi _ = false

-- ---- the last games

-- how many games begin in these commands
abbrev pub games_in : List Said → ℕ
games_in talk = count_by (λ said. is_clear (role_of said)) talk

-- How many commands come before the last so many games: all but the shortest end of the conversation in which so many
-- games begin. Where fewer begin there are none.
unfoldable pub start_of : ℕ → List Said → ℕ
start_of games [] = 0
start_of games (said ∷ later) = if nat_lt (games_in later) games then 0 else start_of games later + 1

-- ---- what is in force before them

-- the last of these commands that sets the size, and the last one that sets komi, where there are such
abbrev pub last_such : (Role → Bool) → List Said → Option CheckCommand
last_such is talk = fold (λ last said. if is (role_of said) then Some said.command else last) None talk

abbrev pub listed : Option CheckCommand → List CheckCommand
listed None = []
listed (Some command) = command ∷ []

abbrev pub settings : List Said → List CheckCommand
settings talk = listed (last_such is_size talk) ++ listed (last_such is_komi talk)

-- ---- a flat game

-- how many moves are taken back that were made before a command of this role, where those after it take back so many
abbrev pub taken_by : Role → ℕ → ℕ
taken_by role.Move after = after - 1
taken_by role.Undo after = after + 1
taken_by role.Clear after = 0
taken_by role.Size after = 0
taken_by role.Komi after = after
taken_by role.Stones after = after
taken_by role.Nothing after = after

-- how many moves that were made before these commands they take back
unfoldable pub taken_back : List Said → ℕ
taken_back [] = 0
taken_back (said ∷ later) = taken_by (role_of said) (taken_back later)

-- Whether a command of this role stays, where those after it take so many moves back: a move that isn't taken back, and
-- what sets a game up. What is refused, what is asked, and `undo` don't.
abbrev pub stays : Role → ℕ → Bool
stays role.Move after = after == 0
stays role.Undo after = false
stays role.Clear after = true
stays role.Size after = true
stays role.Komi after = true
stays role.Stones after = true
stays role.Nothing after = false

-- the commands that stay
unfoldable pub flat : List Said → List CheckCommand
flat [] = []
flat (said ∷ later) =
    if stays (role_of said) (taken_back later) then said.command ∷ flat later else flat later

-- ---- a board that is set up again

-- whether a vertex is this point
abbrev pub is_point : Vertex → ℕ → Bool
is_point Pass point = false
is_point (At other) point = other == point

-- whether a command is a `play` on this point
abbrev pub is_play_at : CheckCommand → ℕ → Bool
is_play_at command point = option_map_or (λ move. is_point move.vertex point) (play_of command) false

-- A vertex is a point on which there is a stone, and none of these commands is a `play` there.
abbrev pub still_stands : GameRecord → Vertex → List CheckCommand → Bool
still_stands game Pass later = false
still_stands game (At point) later =
    is_some (stone_at (board_of game) point) && not (list_any (λ command. is_play_at command point) later)

-- A command stands where it isn't a `play`, or one whose stone is there in the end, and none of those that stay after
-- it is a `play` on the same point.
abbrev pub stands : GameRecord → CheckCommand → List CheckCommand → Bool
stands game command later =
    option_map_or (λ move. still_stands game move.vertex later) (play_of command) true

-- A command stays where it would in a flat game, and stands.
abbrev pub stays_on : GameRecord → Said → ℕ → List CheckCommand → Bool
stays_on game said after later = stays (role_of said) after && stands game said.command later

-- the commands that stay, the last one first
unfoldable pub standing_back : GameRecord → List Said → List CheckCommand
standing_back game [] = []
standing_back game (said ∷ later) =
    standing_back game later
    ++ listed (then_some (stays_on game said (taken_back later) (standing_back game later)) said.command)

-- the same in their order
abbrev pub standing : GameRecord → List Said → List CheckCommand
standing game talk = reverse (standing_back game talk)

-- Of the commands from this place on those by which the board is set up that there is after all of them by simple ko.
-- Where it isn't known the flat game stays.
abbrev pub set_up : ℕ → List Said → List CheckCommand
set_up start talk =
    option_map_or (λ game. standing game (drop start talk)) (after_all (fresh_game_under rule.Simple) talk)
    (flat (drop start talk))

-- the same, if there are such commands
abbrev pub set_up_if : ℕ → List Said → List CheckCommand
set_up_if start talk = if nat_lt start (length talk) then set_up start talk else []

-- ---- a shorter conversation

-- the games whole; or flat, with the last command, which is the one that was answered wrongly
abbrev pub games_as : Bool → List Said → List CheckCommand
games_as true games = commands_of games
games_as false games = flat (take (length games - 1) games) ++ commands_of (drop (length games - 1) games)

-- a command may be asked only of an engine that was asked whether it knows this one
abbrev pub needs : CheckCommand → Known → Bool
needs (Match (FixedHandicap stones)) known.FixedHandicap = true
needs (Match Undo) known.Undo = true
needs FinalScore known.FinalScore = true
needs _ _ = false

abbrev pub needed_for : List CheckCommand → Known → List CheckCommand
needed_for commands asked =
    listed (if list_any (λ command. needs command asked) commands then Some (KnownCommand asked) else None)

-- the commands after each `known_command` that they need
abbrev pub with_needed : List CheckCommand → List CheckCommand
with_needed commands =
    needed_for commands known.FixedHandicap ++ needed_for commands known.Undo
    ++ needed_for commands known.FinalScore ++ commands

-- The games alone from the first place on, with what is in force before them. Of what comes before the second place
-- only that stays by which the board is set up.
abbrev pub from_game : ℕ → ℕ → Bool → List Said → List CheckCommand
from_game start cut whole talk =
    with_needed ((settings (take start talk) ++ set_up_if start (take cut talk)) ++ games_as whole (drop cut talk))

-- where what stays as it is begins, of games that begin at this place: there, or before the last commands that are kept
abbrev pub cut_of : Option ℕ → ℕ → List Said → ℕ
cut_of None start talk = start
cut_of (Some kept) start talk = max start (length talk - kept)

-- the conversation as it was asked, or as what was done
abbrev pub played_if : Bool → List Said → List Said
played_if true talk = played talk
played_if false talk = talk

-- the last so many games of it
abbrev pub games_of : Shortening → List Said → List CheckCommand
games_of how talk =
    let start = start_of how.games talk in from_game start (cut_of how.kept start talk) how.is_whole talk

-- the shorter conversation: where only the last commands are kept it is what was done
abbrev pub shortened : Shortening → List Said → List CheckCommand
shortened how talk = games_of how (played_if (is_some how.kept) talk)

-- ---- those that are tried

abbrev pub last_games : ℕ → Bool → Shortening
last_games games whole = record { games = games; is_whole = whole; kept = None }

-- the last so many commands, flat or whole, on the board as it stood before them
abbrev pub standing_before : ℕ → Bool → Shortening
standing_before kept whole = record { games = 1; is_whole = whole; kept = Some kept }

-- They are tried in this order. At first come ever more of the last commands, on the board as it stood before them: a few
-- whole, and more of them flat. Then come ever more of the last games: one flat and whole, more whole, and the most flat.
abbrev pub shortenings : List Shortening
shortenings =
    standing_before 1 false ∷ standing_before 8 true ∷ standing_before 64 false ∷ standing_before 256 false ∷
    last_games 1 false ∷ last_games 1 true ∷ last_games 16 true ∷ last_games 256 false ∷ []
