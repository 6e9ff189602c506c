-- Points of a board. (The standard's entity: vertex.)
--
-- A point is seen as its place on a mailbox board, as Go programs keep one: the rows are one after the other from
-- the bottom up, 26 places to a row. Place 0 of a row is no point, and 25 columns fill the others, so a step of one
-- from the end of a row falls on no point of the next row.
use Rattle.std.specs.Prelude.{◌≡◌, ℕ, ◌+◌, ◌*◌, ◌/◌, ◌%◌, ◌≤◌, ◌⊎◌, ◌↔◌}
use Rattle.go_base.specs.Size.{most_size}

-- the place of a column and a row, both from 1 to 25; A1 is `point 1 1`
abbrev pub point : ℕ → ℕ → ℕ
point column row = 26 * row + column

abbrev pub column_of : ℕ → ℕ
column_of p = p % 26

abbrev pub row_of : ℕ → ℕ
row_of p = p / 26

-- a column and a row of the largest board
pub record IsCrossing (column row : ℕ) : Type 0 where
  pub left : 1 ≤ column
  pub right : column ≤ most_size
  pub bottom : 1 ≤ row
  pub top : row ≤ most_size

-- the place is a point of the board of that size
pub record IsOn (size p : ℕ) : Type 0 where
  pub left : 1 ≤ column_of p
  pub right : column_of p ≤ size
  pub bottom : 1 ≤ row_of p
  pub top : row_of p ≤ size

-- two places are neighbours on the mailbox board: one is right of the other, or above it
abbrev pub Neighbours : ℕ → ℕ → Type 0
Neighbours p q = (q ≡ p + 1) ⊎ (p ≡ q + 1) ⊎ (q ≡ p + 26) ⊎ (p ≡ q + 26)

-- two points share a row and are in columns next to each other, or share a column and are in rows next to each other
pub data AreBeside (p q : ℕ) : Type 0 where
  in_row : row_of p ≡ row_of q → (column_of q ≡ column_of p + 1) ⊎ (column_of p ≡ column_of q + 1) → AreBeside p q
  in_column : column_of p ≡ column_of q → (row_of q ≡ row_of p + 1) ⊎ (row_of p ≡ row_of q + 1) → AreBeside p q

-- two points of the largest board are neighbours exactly where they are beside each other
abbrev pub NeighboursAreBeside : Type 0
NeighboursAreBeside = (p q : ℕ) → IsOn most_size p → IsOn most_size q → Neighbours p q ↔ AreBeside p q
