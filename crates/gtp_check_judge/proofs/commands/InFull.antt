-- A command whose colour is written in full is read as the same command.
use Rattle.std.proofs.Common.{◌≡◌, ℕ, Bool, true, List, [], ◌∷◌, Option, Some, refl, sym, ◌∙◌, ap, subst, inl, inr}
use Rattle.std.specs.Prelude.{codes, if◌then◌else◌}
use Rattle.go_base.specs.Colour.{written_colour}
use Rattle.go_base.specs.Vertex.{written_vertex}
use Rattle.go_base.specs.declared.colours.Colour.{Colour}
use Rattle.go_base.specs.declared.colours.Colour.TheVariants.{Black, White}
use Rattle.go_base.specs.declared.choices.Choice.{Choice}
use Rattle.go_base.specs.declared.moves.Move.{Move}
use Rattle.go_base.specs.declared.vertices.Vertex.{Vertex}
use Rattle.go_board.specs.Game.{GameRecord, HasRoom}
use Rattle.gtp_wire.specs.declared.commands.Command.TheVariants.{Play, Genmove}
use Rattle.gtp_wire.specs.declared.lines.Line.{Line}
use Rattle.gtp_wire.specs.declared.lines.Line.TheVariants as line
use Rattle.gtp_wire.specs.declared.replies.Reply.{Reply}
use Rattle.gtp_wire.specs.ReplyWords.{choice_of_text}
use Rattle.gtp_session.specs.CommandAnswers.{line_of_command}
use Rattle.gtp_session.specs.Commands.{answer, answer_choice, asked}
use Rattle.gtp_session.proofs.engines.Sent.{genmove_answer, genmove_asks}
use Rattle.gtp_check_judge.specs.declared.asking.CheckCommand.{CheckCommand}
use Rattle.gtp_check_judge.specs.declared.asking.CheckCommand.TheVariants.{Match, PlayInFull, GenmoveInFull}
use Rattle.gtp_check_judge.specs.Asking.{colour_in_full, line_of_check, IsGenmoveOf}
use Rattle.gtp_check_judge.specs.Laws.{Says}
use Rattle.gtp_check_judge.specs.RightEngine.{RightEngine, undone_after, undone_by}

-- ---- the line

abbrev play_line : ℕ → List ℕ → List ℕ → Line
play_line id colour vertex = line.Command (record { id = Some id; words = codes "play" ∷ colour ∷ vertex ∷ [] })

play_read : (game : GameRecord) (id : ℕ) (c : Colour) (vertex : List ℕ) (ch : Choice)
    → answer game (play_line id (colour_in_full c) vertex) ch ≡ answer game (play_line id (written_colour c) vertex) ch
play_read game id Black vertex ch = refl
play_read game id White vertex ch = refl

pub play_answer : (game : GameRecord) (id : ℕ) (move : Move) (ch : Choice)
    → answer game (line_of_check id (PlayInFull move)) ch ≡ answer game (line_of_command (Some id) (Play move)) ch
play_answer game id move ch = play_read game id move.colour (written_vertex move.vertex) ch

pub genmove_answer_in_full : (game : GameRecord) (id : ℕ) (colour : Colour) (ch : Choice)
    → answer game (line_of_check id (GenmoveInFull colour)) ch
    ≡ answer game (line_of_command (Some id) (Genmove colour)) ch
genmove_answer_in_full game id Black ch = refl
genmove_answer_in_full game id White ch = refl

genmove_asks_in_full : (game : GameRecord) (id : ℕ) (colour : Colour)
    → asked game (line_of_check id (GenmoveInFull colour)) ≡ asked game (line_of_command (Some id) (Genmove colour))
genmove_asks_in_full game id Black = refl
genmove_asks_in_full game id White = refl

-- ---- a `genmove`, its colour written in one letter or in full

pub genmove_given : (game : GameRecord) (id : ℕ) (command : CheckCommand) (colour : Colour) (ch : Choice)
    → IsGenmoveOf colour command → HasRoom game
    → answer game (line_of_check id command) ch ≡ answer_choice game colour ch
genmove_given game id command colour ch (inl is) room =
    ap (λ (k : CheckCommand). answer game (line_of_check id k) ch) is ∙ genmove_answer game (Some id) colour ch room
genmove_given game id command colour ch (inr is) room =
    ap (λ (k : CheckCommand). answer game (line_of_check id k) ch) is ∙ genmove_answer_in_full game id colour ch
    ∙ genmove_answer game (Some id) colour ch room

pub genmove_asked : (game : GameRecord) (id : ℕ) (command : CheckCommand) (colour : Colour)
    → IsGenmoveOf colour command → HasRoom game → asked game (line_of_check id command) ≡ Some colour
genmove_asked game id command colour (inl is) room =
    ap (λ (k : CheckCommand). asked game (line_of_check id k)) is ∙ genmove_asks game (Some id) colour room
genmove_asked game id command colour (inr is) room =
    ap (λ (k : CheckCommand). asked game (line_of_check id k)) is ∙ genmove_asks_in_full game id colour
    ∙ genmove_asks game (Some id) colour room

pub genmove_said : (engine : RightEngine) (command : CheckCommand) (colour : Colour) (ch : Choice) (text : List ℕ)
    → IsGenmoveOf colour command → Says engine command ch true text → choice_of_text text ≡ Some ch
genmove_said engine command colour ch text (inl is) says =
    subst (λ (k : CheckCommand). Says engine k ch true text) is says
genmove_said engine command colour ch text (inr is) says =
    subst (λ (k : CheckCommand). Says engine k ch true text) is says

pub genmove_says : (engine : RightEngine) (command : CheckCommand) (colour : Colour) (ch : Choice) (text : List ℕ)
    → IsGenmoveOf colour command → choice_of_text text ≡ Some ch → Says engine command ch true text
genmove_says engine command colour ch text (inl is) said =
    subst (λ (k : CheckCommand). Says engine k ch true text) (sym is) said
genmove_says engine command colour ch text (inr is) said =
    subst (λ (k : CheckCommand). Says engine k ch true text) (sym is) said

pub genmove_undone : (undone : Bool) (command : CheckCommand) (colour : Colour) (reply : Reply)
    → IsGenmoveOf colour command
    → undone_after undone command reply
    ≡ (if reply.ok then undone_by undone (Genmove colour) (choice_of_text reply.text.items) else undone)
genmove_undone undone command colour reply (inl is) = ap (λ (k : CheckCommand). undone_after undone k reply) is
genmove_undone undone command colour reply (inr is) = ap (λ (k : CheckCommand). undone_after undone k reply) is
