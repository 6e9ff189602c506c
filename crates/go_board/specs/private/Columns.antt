-- Sets of columns of a row of places. (Own: how a search of all points looks at a row at once.)
--
-- A set is a number of 26 bits, one for each place of the row.
use Rattle.std.specs.Prelude.{◌≡◌, ◌≢◌, ℕ, ◌+◌, ◌-◌, ◌*◌, ◌/◌, ◌%◌, ◌^◌, ◌<◌, ◌≤◌, ◌↔◌, ◌⊎◌, List, Option, Some, None}
use Rattle.std.specs.Prelude.{Contains, length, get_or}
use Rattle.std.specs.List.{AllPairs}
use Rattle.std.specs.Int.{bit_at}
use Rattle.go_base.specs.declared.colours.Colour.{Colour}
use Rattle.go_base.specs.declared.vertices.Vertex.TheVariants.{At}
use Rattle.go_board.specs.Board.{at}
use Rattle.go_board.specs.Chain.{HasBeside}
use Rattle.go_board.specs.Game.{GameRecord, IsLegal}
use Rattle.go_board.specs.declared.board.Cell.{Cell}
use Rattle.go_board.specs.declared.board.Cell.TheVariants.{Empty}

-- the set has this column
abbrev pub Has : ℕ → ℕ → Type 0
Has columns k = bit_at columns k ≡ 1

-- all its columns are of a row
abbrev pub AreColumns : ℕ → Type 0
AreColumns columns = columns < 2 ^ 26

-- there are 32 lanes, and none past those of a row is 1
abbrev pub AreLanes : List ℕ → Type 0
AreLanes lanes = (length lanes ≡ 32) × ((k : ℕ) → get_or lanes k 0 ≡ 1 → k < 26)

-- The first column of a set left it, and the others stayed. It is one of a row, and the set's number fell. A set
-- without a column stayed as it was.
abbrev pub IsFirst : ℕ → ℕ → Option ℕ → Type 0
IsFirst old new None = (new ≡ old) × ((k : ℕ) → ¬ Has old k)
IsFirst old new (Some first) =
    Has old first × (first < 26) × (new < old) × ((k : ℕ) → Has old k → first ≤ k)
    × ((k : ℕ) → Has new k ↔ (Has old k × (k ≢ first)))

-- the set of its own row has a column beside this one, or the set of the row below or above has this one
abbrev pub IsBesideAny : ℕ → ℕ → ℕ → ℕ → Type 0
IsBesideAny row below above k =
    ((j : ℕ) × (k ≡ j + 1) × Has row j) ⊎ (Has row (k + 1) ⊎ (Has below k ⊎ Has above k))

-- they are the columns of a row where it has empty points
abbrev pub AreEmptyIn : List Cell → ℕ → ℕ → Type 0
AreEmptyIn board row columns = (k : ℕ) → Has columns k ↔ ((k < 26) × (at board (26 * row + k) ≡ Empty))

-- each is a column where the row has an empty point with another one beside it
abbrev pub AreOpenIn : List Cell → ℕ → ℕ → Type 0
AreOpenIn board row columns =
    (k : ℕ) → Has columns k
    → (k < 26) × (at board (26 * row + k) ≡ Empty) × HasBeside board (26 * row + k) Empty

-- on each of these points of a row either colour may play
abbrev pub AreSureIn : GameRecord → ℕ → ℕ → Type 0
AreSureIn game row columns =
    (k : ℕ) (c : Colour) → Has columns k → (k < 26) × IsLegal game c (At (26 * row + k))

-- they are the columns of a row where the colour may play
abbrev pub AreLegalIn : GameRecord → Colour → ℕ → ℕ → Type 0
AreLegalIn game c row columns = (k : ℕ) → Has columns k ↔ ((k < 26) × IsLegal game c (At (26 * row + k)))

-- how many points of the largest board are before this place, which is past the lowest row of edge and at most the
-- first place after the points
abbrev pub points_before : ℕ → ℕ
points_before n = 25 * (n / 26 - 1) + (n % 26 - 1)

-- The list has each point before a place on which the colour may play, and no other, in order. They are at most as many
-- as the largest board has there. The place is past the lowest row of edge.
pub record AreLegalBefore (game : GameRecord) (c : Colour) (n : ℕ) (points : List ℕ) : Type 0 where
  pub each : (p : ℕ) → Contains points p ↔ ((p < n) × IsLegal game c (At p))
  pub in_order : AllPairs (λ p q. p < q) points
  pub few : length points ≤ points_before n
  pub begun : 26 ≤ n
