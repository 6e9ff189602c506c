-- A right engine, as far as its answers hang on it.
use Rattle.std.specs.Prelude.{◌==◌, ◌&&◌, Bool, true, false, if◌then◌else◌, List, [], ◌∷◌, Option, None, Some}
use Rattle.go_base.specs.declared.choices.Choice.{Choice}
use Rattle.go_base.specs.declared.choices.Choice.TheVariants as choice
use Rattle.go_base.specs.declared.moves.Move.{Move}
use Rattle.go_board.specs.Game.{GameRecord, fresh_game_under}
use Rattle.go_board.specs.declared.rules.KoRule.{KoRule}
use Rattle.gtp_wire.specs.declared.commands.Command.{Command}
use Rattle.gtp_wire.specs.declared.commands.Command.TheVariants.{Boardsize, Komi, ClearBoard, FixedHandicap, Play}
use Rattle.gtp_wire.specs.declared.commands.Command.TheVariants.{Genmove, Undo, Quit}
use Rattle.gtp_wire.specs.declared.replies.Reply.{Reply}
use Rattle.gtp_wire.specs.ReplyWords.{choice_of_text}
use Rattle.gtp_check_judge.specs.declared.asking.CheckCommand.{CheckCommand}
use Rattle.gtp_check_judge.specs.declared.asking.CheckCommand.TheVariants.{Match, FinalScore, Name, Version}
use Rattle.gtp_check_judge.specs.declared.asking.CheckCommand.TheVariants.{KnownCommand, PlayInFull, GenmoveInFull, ListCommands}
use Rattle.gtp_check_judge.specs.declared.asking.CheckCommand.TheVariants.{Faulty, Required}
use Rattle.gtp_check_judge.specs.declared.scores.SaidScore.{SaidScore}
use Rattle.gtp_check_judge.specs.declared.opinions.View.{View}
use Rattle.gtp_check_judge.specs.declared.opinions.Opinion.{Opinion}
use Rattle.gtp_check_judge.specs.declared.opinions.Opinion.TheVariants.{Unheard}
use Rattle.gtp_check_judge.specs.Scores.{score_of_text}
use Rattle.gtp_check_judge.specs.Opinions.{view_of, opinion_said}

-- Its game, and whether an `undo` has succeeded since the last move. (The standard's topic undo: it fails where the
-- history is empty, or where an engine keeps a part of the history alone and earlier undos have used it up. So an
-- `undo` may fail once one has succeeded since the last move. The first after a move has to succeed.) And what it
-- thinks of an empty board, as its scores said.
pub record RightEngine : Type 0 where
  pub game : GameRecord
  pub undone : Bool
  pub opinion : Opinion

-- an engine with this ko rule that was given nothing
abbrev pub fresh_engine : KoRule → RightEngine
fresh_engine rule = record { game = fresh_game_under rule; undone = false; opinion = Unheard }

-- Whether an `undo` has succeeded since the last move, once a command of a match succeeded, with this choice in its
-- text, if any: an `undo` makes it so; a move, be it a `play` or what a `genmove` chose, ends it; and nothing else
-- changes it.
abbrev pub undone_by : Bool → Command → Option Choice → Bool
undone_by undone Undo said = true
undone_by undone (Play move) said = false
undone_by undone (Genmove colour) (Some (choice.Play v)) = false
undone_by undone (Genmove colour) (Some choice.Resign) = undone
undone_by undone (Genmove colour) None = undone
undone_by undone (Boardsize size) said = undone
undone_by undone (Komi komi) said = undone
undone_by undone ClearBoard said = undone
undone_by undone (FixedHandicap stones) said = undone
undone_by undone Quit said = undone

-- the same once a command was answered so: a failure changes nothing
abbrev pub undone_after : Bool → CheckCommand → Reply → Bool
undone_after undone (Match command) reply =
    if reply.ok then undone_by undone command (choice_of_text reply.text.items) else undone
undone_after undone FinalScore reply = undone
undone_after undone Name reply = undone
undone_after undone Version reply = undone
undone_after undone (KnownCommand known) reply = undone
undone_after undone ListCommands reply = undone
undone_after undone (Faulty command) reply = undone
undone_after undone (Required command) reply = undone
undone_after undone (PlayInFull move) reply =
    if reply.ok then undone_by undone (Play move) (choice_of_text reply.text.items) else undone
undone_after undone (GenmoveInFull colour) reply =
    if reply.ok then undone_by undone (Genmove colour) (choice_of_text reply.text.items) else undone

-- ---- what it thinks of an empty board

abbrev pub none_made : List Move → Bool
none_made [] = true
none_made (move ∷ later) = false

-- no move was made, and no handicap was placed
abbrev pub is_empty : GameRecord → Bool
is_empty game = none_made game.moves && game.handicap == 0

-- what a score of this game says that is compared: only where the board is empty
abbrev pub view_in : GameRecord → SaidScore → Option View
view_in game said = if is_empty game then view_of game.size game.komi said else None

-- the same of what was read as a score, or wasn't
abbrev pub view_read : GameRecord → Option SaidScore → Option View
view_read game None = None
view_read game (Some said) = view_in game said

-- The opinion once a command was answered so: a success to a `final_score` may change it, and nothing else does.
abbrev pub opinion_after : RightEngine → CheckCommand → Reply → Opinion
opinion_after engine FinalScore reply =
    if reply.ok then opinion_said engine.opinion (view_read engine.game (score_of_text reply.text.items))
    else engine.opinion
opinion_after engine (Match command) reply = engine.opinion
opinion_after engine Name reply = engine.opinion
opinion_after engine Version reply = engine.opinion
opinion_after engine (KnownCommand known) reply = engine.opinion
opinion_after engine ListCommands reply = engine.opinion
opinion_after engine (Faulty command) reply = engine.opinion
opinion_after engine (Required command) reply = engine.opinion
opinion_after engine (PlayInFull move) reply = engine.opinion
opinion_after engine (GenmoveInFull colour) reply = engine.opinion
