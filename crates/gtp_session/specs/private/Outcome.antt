-- What the code's outcome of a command answers.
use Rattle.std.specs.Prelude.{ℕ, List, [], Result, Ok, Err, codes}
use Rattle.std.specs.Result.{is_ok}
use Rattle.std.specs.Borrow.{Bor}
use Rattle.go_base.specs.Int.{written_int}
use Rattle.go_base.specs.Vertex.{written_vertex, written_vertices}
use Rattle.go_base.specs.HalfPoints.{score_text}
use Rattle.go_board.specs.declared.faults.PlayFault.{PlayFault}
use Rattle.go_board.specs.declared.faults.PlayFault.TheVariants.{Full, OffBoard, Occupied, Suicide, Ko}
use Rattle.go_board.specs.Game.{GameRecord}
use Rattle.go_board.specs.Show.{board_text}
use Rattle.gtp_session.specs.Commands.{Answer, all_names}
use Rattle.gtp_session.specs.declared.outcome.Text.{Text}
use Rattle.gtp_session.specs.declared.outcome.Text.TheVariants as text

-- the text of a success that leaves this game
abbrev pub text_of : GameRecord → Text → List ℕ
text_of game text.Empty = []
text_of game (text.Fixed bytes) = bytes.now
text_of game (text.Number number) = written_int number
text_of game text.Names = all_names
text_of game (text.Vertex vertex) = written_vertex vertex
text_of game (text.Handicap points) = written_vertices points.items
text_of game (text.Score half_points) = score_text half_points
text_of game text.Board = board_text game

-- the text of a success or a failure
abbrev pub text_of_outcome : GameRecord → Result Text (Bor (List ℕ)) → List ℕ
text_of_outcome game (Ok text) = text_of game text
text_of_outcome game (Err bytes) = bytes.now

-- the answer that an outcome is, where its command leaves this game
abbrev pub answer_of : GameRecord → Result Text (Bor (List ℕ)) → Answer
answer_of game outcome = record { game = game; ok = is_ok outcome; text = text_of_outcome game outcome }

-- what is answered to a move that the game refuses
abbrev pub refusal_text : PlayFault → List ℕ
refusal_text Full = codes "record full"
refusal_text OffBoard = codes "illegal move"
refusal_text Occupied = codes "illegal move"
refusal_text Suicide = codes "illegal move"
refusal_text Ko = codes "illegal move"
