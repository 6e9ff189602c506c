-- Where the last move took nothing, no point is listed.
use Rattle.std.proofs.Common.{ℕ, List, [], refl, arith}
use Rattle.go_board.specs.Game.{GameRecord}
use Rattle.go_board.specs.LastTaken.{HasTakenByLast}
use Rattle.vintsaky_calls.specs.Games.{ListsTaken}

pub none_listed : (game : GameRecord) (numbers : List ℕ) → ¬ HasTakenByLast game → ListsTaken game numbers numbers 0
none_listed game numbers none = record {
  points = [];
  taken = record {
    each = λ q. (
      (λ found. let below = found.1 in absurd (omega (arith, below))),
      (λ t. absurd (none (record { point = q; taken = t }))),
    );
    in_order = λ i j d first below. absurd (omega (arith, below));
  };
  puts = record { counted = refl; written = λ _. refl; kept = λ less. absurd (omega (arith, less)) };
}
