-- The commands that a check asks: those of a match, a `play` and a `genmove` whose colour is written in full, and more
-- of the standard's.
use Rattle.std.specs.Prelude.{◌≡◌, ◌⊎◌, ℕ, List, [], ◌∷◌, ◌++◌, Some, codes}
use Rattle.std.specs.List.{join_with_byte}
use Rattle.go_base.specs.Bytes.{newline, space}
use Rattle.go_base.specs.Vertex.{IsVertex, written_vertex}
use Rattle.go_base.specs.declared.colours.Colour.{Colour}
use Rattle.go_base.specs.declared.colours.Colour.TheVariants.{Black, White}
use Rattle.go_base.specs.declared.moves.Move.{Move}
use Rattle.gtp_wire.specs.declared.commands.Command.TheVariants.{Play, Genmove}
use Rattle.gtp_wire.specs.declared.lines.Line.{Line}
use Rattle.gtp_wire.specs.declared.lines.Line.TheVariants as line
use Rattle.gtp_wire.specs.Commands.{words_of, IsWritable, IsInLimits}
use Rattle.gtp_wire.specs.Words.{id_words}
use Rattle.gtp_check_judge.specs.declared.asking.Known.{Known}
use Rattle.gtp_check_judge.specs.declared.asking.Known.TheVariants as known
use Rattle.gtp_check_judge.specs.declared.asking.CheckCommand.{CheckCommand}
use Rattle.gtp_check_judge.specs.declared.asking.CheckCommand.TheVariants.{Match, FinalScore, Name, Version}
use Rattle.gtp_check_judge.specs.declared.asking.CheckCommand.TheVariants.{KnownCommand, PlayInFull, GenmoveInFull, ListCommands}
use Rattle.gtp_check_judge.specs.declared.asking.CheckCommand.TheVariants.{Faulty, Required}
use Rattle.gtp_check_judge.specs.declared.asking.FaultyCommand.{FaultyCommand}
use Rattle.gtp_check_judge.specs.declared.asking.FaultyCommand.TheVariants as faulty
use Rattle.gtp_check_judge.specs.declared.asking.RequiredCommand.{RequiredCommand}
use Rattle.gtp_check_judge.specs.declared.asking.RequiredCommand.TheVariants as required

abbrev pub known_name : Known → List ℕ
known_name known.FixedHandicap = codes "fixed_handicap"
known_name known.Undo = codes "undo"
known_name known.FinalScore = codes "final_score"

-- a colour, written in full (the standard's topic colour: one of white, w, black and b)
abbrev pub colour_in_full : Colour → List ℕ
colour_in_full Black = codes "black"
colour_in_full White = codes "white"

-- the name of a command that no engine has
abbrev pub no_command : List ℕ
no_command = codes "vintsaky-no-such-command"

-- Commands that have to fail: of the standard's topics, boardsize takes an int, komi a float, play a colour and a vertex,
-- and genmove a colour. A vertex has a letter and a number up to 25.
abbrev pub faulty_words : FaultyCommand → List (List ℕ)
faulty_words faulty.Unknown = no_command ∷ []
faulty_words faulty.UnknownWithArguments = no_command ∷ codes "b" ∷ codes "D4" ∷ []
faulty_words faulty.Boardsize = codes "boardsize" ∷ codes "x" ∷ []
faulty_words faulty.Komi = codes "komi" ∷ codes "x" ∷ []
faulty_words faulty.PlayNowhere = codes "play" ∷ codes "b" ∷ []
faulty_words faulty.PlayOutside = codes "play" ∷ codes "b" ∷ codes "Z99" ∷ []
faulty_words faulty.Genmove = codes "genmove" ∷ codes "x" ∷ []

-- commands that every engine has, and that never fail
abbrev pub required_words : RequiredCommand → List (List ℕ)
required_words required.ProtocolVersion = codes "protocol_version" ∷ []
required_words required.Name = codes "name" ∷ []
required_words required.Version = codes "version" ∷ []
required_words required.KnownCommand = codes "known_command" ∷ no_command ∷ []

-- the words of a command
abbrev pub words_of_check : CheckCommand → List (List ℕ)
words_of_check (Match command) = words_of command
words_of_check FinalScore = codes "final_score" ∷ []
words_of_check Name = codes "name" ∷ []
words_of_check Version = codes "version" ∷ []
words_of_check (KnownCommand known) = codes "known_command" ∷ known_name known ∷ []
words_of_check ListCommands = codes "list_commands" ∷ []
words_of_check (Faulty command) = faulty_words command
words_of_check (Required command) = required_words command
words_of_check (PlayInFull move) =
    codes "play" ∷ colour_in_full move.colour ∷ written_vertex move.vertex ∷ []
words_of_check (GenmoveInFull colour) = codes "genmove" ∷ colour_in_full colour ∷ []

-- the bytes of a command with this id: the words, with single spaces between them, and a newline
abbrev pub written_check : ℕ → CheckCommand → List ℕ
written_check id command = join_with_byte space (id_words (Some id) ++ words_of_check command) ++ newline ∷ []

-- the line that it is
abbrev pub line_of_check : ℕ → CheckCommand → Line
line_of_check id command = line.Command (record { id = Some id; words = words_of_check command })

-- what may be written, and values in their limits, as of a command of a match
abbrev pub IsCheckWritable : CheckCommand → Type 0
IsCheckWritable (Match command) = IsWritable command
IsCheckWritable _ = Unit {0}

abbrev pub IsCheckInLimits : CheckCommand → Type 0
IsCheckInLimits (Match command) = IsInLimits command
IsCheckInLimits (PlayInFull move) = IsVertex move.vertex
IsCheckInLimits _ = Unit {0}

-- it is a `play` of this move, its colour written in one letter or in full
abbrev pub IsPlayOf : Move → CheckCommand → Type 0
IsPlayOf move command = (command ≡ Match (Play move)) ⊎ (command ≡ PlayInFull move)

-- it is a `genmove` of this colour, written in one letter or in full
abbrev pub IsGenmoveOf : Colour → CheckCommand → Type 0
IsGenmoveOf colour command = (command ≡ Match (Genmove colour)) ⊎ (command ≡ GenmoveInFull colour)
