-- Laws of lines and their answers: what holds of the definitions alone.
use Rattle.std.specs.Prelude.{◌≡◌, ◌⊎◌, true, false, Some, None, codes}
use Rattle.go_base.specs.Vertex.{written_vertex}
use Rattle.go_base.specs.declared.colours.Colour.{Colour}
use Rattle.go_base.specs.declared.vertices.Vertex.{Vertex}
use Rattle.go_board.specs.Game.{GameRecord, IsLegal, with_move}
use Rattle.gtp_wire.specs.Replies.{written_reply}
use Rattle.gtp_wire.specs.declared.lines.Line.{Line}
use Rattle.gtp_session.specs.Policy.{May}
use Rattle.go_base.specs.declared.choices.Choice.{Choice}
use Rattle.gtp_session.specs.Commands.{answer, asked, id_of}
use Rattle.gtp_session.specs.Engine.{State, WrittenReply, Step}

-- where a line asks no policy, its answer doesn't depend on a choice
abbrev pub ChoicesDoNotCount : Type 0
ChoicesDoNotCount = (game : GameRecord) (line : Line) (a b : Choice)
    → asked game line ≡ None → answer game line a ≡ answer game line b

-- whatever the line, an answer that is a failure leaves the game as it was
abbrev pub FailuresKeepTheGame : Type 0
FailuresKeepTheGame = (game : GameRecord) (line : Line) (choice : Choice)
    → (answer game line choice).ok ≡ false → (answer game line choice).game ≡ game

-- A line that asked the policy is answered by `resign`, and the game stays; or by a vertex that is legal, and it is
-- played.
abbrev pub GenmovesAreLawful : {P : Type 0} → May P → Type 0
GenmovesAreLawful {P} may = (old new : State P) (line : Line) (reply : WrittenReply) (colour : Colour)
    → Step may old line reply new → asked old.game line ≡ Some colour
    → ((new.game ≡ old.game) × (reply.text ≡ written_reply true (id_of line) (codes "resign")))
    ⊎ ((vertex : Vertex) × IsLegal old.game colour vertex × (new.game ≡ with_move old.game colour vertex)
    × (reply.text ≡ written_reply true (id_of line) (written_vertex vertex)))
