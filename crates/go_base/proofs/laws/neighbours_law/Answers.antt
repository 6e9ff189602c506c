use Rattle.go_base.proofs.board_points.Places.{beside_from_neighbours, neighbours_from_beside}
use Rattle.go_base.proofs.laws.neighbours_law.Goals as goal

pub returns : goal.returns
returns c p q on_p on_q = (beside_from_neighbours p q on_p on_q, neighbours_from_beside p q)
