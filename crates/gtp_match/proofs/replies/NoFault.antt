-- No answer to a command is a fault.
use Rattle.std.proofs.Common.{◌≡◌, Option, Some, None}
use Rattle.std.proofs.Common.{Bool, true, false, cond}
use Rattle.go_base.specs.declared.choices.Choice.{Choice}
use Rattle.go_base.specs.declared.choices.Choice.TheVariants as choice
use Rattle.go_base.specs.declared.colours.Colour.{Colour}
use Rattle.go_base.specs.declared.vertices.Vertex.{Vertex}
use Rattle.go_base.specs.Decide.{holds}
use Rattle.go_board.specs.Game.{GameRecord, IsLegal}
use Rattle.go_board.specs.decisions.Game.{legal?}
use Rattle.gtp_wire.specs.declared.commands.Command.{Command}
use Rattle.gtp_wire.specs.declared.commands.Command.TheVariants as command
use Rattle.gtp_wire.specs.declared.replies.Reply.{Reply}
use Rattle.gtp_match.specs.ReplyTable.{outcome_of, script_outcome, play_outcome, undo_outcome, choice_outcome}
use Rattle.gtp_wire.specs.ReplyWords.{choice_of_text}
use Rattle.gtp_match.specs.declared.reply_table.Outcome.TheVariants.{Down, Forfeits, Moves}
use Rattle.gtp_match.specs.declared.verdicts.ForfeitCause.TheVariants.{NoMove, IllegalMove}
use Rattle.gtp_match.specs.declared.verdicts.SideFault.{SideFault}

script_never : (ok : Bool) (f : SideFault) → script_outcome ok ≡ Down f → ⊥
script_never true f e = cc
script_never false f e = cc

play_never : (ok : Bool) (f : SideFault) → play_outcome ok ≡ Down f → ⊥
play_never true f e = cc
play_never false f e = cc

undo_never : (ok : Bool) (f : SideFault) → undo_outcome ok ≡ Down f → ⊥
undo_never true f e = cc
undo_never false f e = cc

vertex_never : (game : GameRecord) (s : Colour) (v : Vertex) (f : SideFault) (d : Dec (IsLegal game s v))
    → cond (holds d) (Moves v) (Forfeits IllegalMove) ≡ Down f → ⊥
vertex_never game s v f (yes legal) e = cc
vertex_never game s v f (no illegal) e = cc

choice_never : (game : GameRecord) (s : Colour) (x : Option Choice) (f : SideFault)
    → choice_outcome game s x ≡ Down f → ⊥
choice_never game s None f e = cc
choice_never game s (Some choice.Resign) f e = cc
choice_never game s (Some (choice.Play v)) f e = vertex_never game s v f (legal? game s v) e

genmove_never : (game : GameRecord) (s : Colour) (x : Option Choice) (ok : Bool) (f : SideFault)
    → cond ok (choice_outcome game s x) (Forfeits NoMove) ≡ Down f → ⊥
genmove_never game s x true f e = choice_never game s x f e
genmove_never game s x false f e = cc

pub never : (game : GameRecord) (s : Colour) (k : Command) (reply : Reply) (f : SideFault)
    → outcome_of game s k reply ≡ Down f → ⊥
never game s (command.Boardsize size) reply f e = script_never reply.ok f e
never game s (command.Komi komi) reply f e = script_never reply.ok f e
never game s command.ClearBoard reply f e = script_never reply.ok f e
never game s (command.FixedHandicap stones) reply f e = script_never _ f e
never game s (command.Play move) reply f e = play_never reply.ok f e
never game s (command.Genmove colour) reply f e =
    genmove_never game s (choice_of_text reply.text.items) reply.ok f e
never game s command.Undo reply f e = undo_never reply.ok f e
never game s command.Quit reply f e = script_never reply.ok f e
