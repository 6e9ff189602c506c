-- What was done in a conversation: the moves that an engine chose in place of the questions for them, and nothing that
-- it refused rightly. (Own.)
use Rattle.std.specs.Prelude.{◌==◌, ◌&&◌, nat_lt, if◌then◌else◌, List, [], ◌∷◌, ◌++◌}
use Rattle.std.specs.Prelude.{Option, None, Some, option_map}
use Rattle.gtp_wire.specs.declared.commands.Command.{Command}
use Rattle.gtp_wire.specs.declared.commands.Command.TheVariants.{Boardsize, Komi, ClearBoard, FixedHandicap, Play}
use Rattle.gtp_wire.specs.declared.commands.Command.TheVariants.{Genmove, Undo, Quit}
use Rattle.gtp_check_judge.specs.declared.asking.CheckCommand.{CheckCommand}
use Rattle.gtp_check_judge.specs.declared.asking.CheckCommand.TheVariants.{Match, FinalScore, Name, Version}
use Rattle.gtp_check_judge.specs.declared.asking.CheckCommand.TheVariants.{KnownCommand, PlayInFull, GenmoveInFull}
use Rattle.gtp_check_judge.specs.declared.asking.CheckCommand.TheVariants.{ListCommands}
use Rattle.gtp_check_judge.specs.declared.asking.CheckCommand.TheVariants.{Faulty, Required}
use Rattle.gtp_check_talk.specs.declared.said.Said.{Said}

-- What a command of a match did, where this one was asked next, with the game as it was then: a `genmove` made a move,
-- and the game has more of them; an `undo` made them fewer; a `boardsize` left a board of its size without moves. Else
-- the engine resigned or refused, and nothing was done.
abbrev pub done_by : Command → Said → Said → Option Command
done_by (Genmove colour) said next =
    if nat_lt said.moves next.moves then option_map (λ move. Play move) next.last else None
done_by Undo said next = if nat_lt next.moves said.moves then Some Undo else None
done_by (Boardsize size) said next = if (next.size == size) && (next.moves == 0) then Some (Boardsize size) else None
done_by (Komi komi) said next = Some (Komi komi)
done_by ClearBoard said next = Some ClearBoard
done_by (FixedHandicap stones) said next = Some (FixedHandicap stones)
done_by (Play move) said next = Some (Play move)
done_by Quit said next = Some Quit

-- The same of each command that a check asks: where a colour was written in full it stays so, and the others stay.
abbrev pub asked_as : CheckCommand → Said → Said → Option CheckCommand
asked_as (Match command) said next = option_map (λ done. Match done) (done_by command said next)
asked_as FinalScore said next = Some FinalScore
asked_as Name said next = Some Name
asked_as Version said next = Some Version
asked_as (KnownCommand known) said next = Some (KnownCommand known)
asked_as ListCommands said next = Some ListCommands
asked_as (Faulty faulty) said next = Some (Faulty faulty)
asked_as (Required required) said next = Some (Required required)
asked_as (PlayInFull move) said next = Some (PlayInFull move)
asked_as (GenmoveInFull colour) said next =
    if nat_lt said.moves next.moves then option_map (λ move. PlayInFull move) next.last else None

-- one with this command in place of its own, if there is one
abbrev pub said_as : Said → Option CheckCommand → List Said
said_as said None = []
said_as said (Some command) = record said { command = command } ∷ []

-- What was done, where this is what was asked next, if anything. The last command stays as it is.
abbrev pub done_before : Said → Option Said → List Said
done_before said None = said ∷ []
done_before said (Some next) = said_as said (asked_as said.command said next)

-- the first of them, if there is one
abbrev pub first_of : List Said → Option Said
first_of [] = None
first_of (said ∷ later) = Some said

-- the commands of a conversation as what was done by them
unfoldable pub played : List Said → List Said
played [] = []
played (said ∷ later) = done_before said (first_of later) ++ played later
