-- Laws of the reasons: what they say of a game is so. (Own.)
use Rattle.std.specs.Prelude.{ℕ, ◌↔◌, Contains}
use Rattle.go_base.specs.declared.colours.Colour.{Colour}
use Rattle.go_base.specs.declared.vertices.Vertex.{Vertex}
use Rattle.go_board.specs.Game.{GameRecord, IsGame, IsLegal, HasRoom, board_of, with_move}
use Rattle.go_board.specs.LastTaken.{IsTakenByLast}
use Rattle.gtp_check_texts.specs.reasons.Plays.{stones_taken}

-- the stones that are named as captured are those that the move takes from the board
abbrev pub CapturesAreTaken : Type 0
CapturesAreTaken = (game : GameRecord) (c : Colour) (v : Vertex) (q : ℕ) → IsGame game → HasRoom game → IsLegal game c v
    → Contains (stones_taken (board_of game) c v) q ↔ IsTakenByLast (with_move game c v) q
