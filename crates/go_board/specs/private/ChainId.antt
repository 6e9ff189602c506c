-- The ids of chains, and their pseudo-liberties. (Own: how the board keeps its chains.)
--
-- A chain's id is the place of one of its stones, its head. Its pseudo-liberties are the empty neighbours of each of
-- its stones, added up: an empty point beside two of its stones counts twice. So they are 0 just where the chain has no
-- liberty.
use Rattle.std.specs.Prelude.{◌≡◌, ◌≢◌, ℕ, All, ◌+◌, ◌-◌, ◌<◌, ◌↔◌, ◌==◌, ◌&&◌, if◌then◌else◌, Bool, true, false}
use Rattle.std.specs.Prelude.{Contains, List, length, slice_index_or}
use Rattle.std.specs.List.{sum_by, range_with_len}
use Rattle.go_base.specs.Point.{Neighbours}
use Rattle.go_board.specs.declared.board.Cell.{Cell}
use Rattle.go_board.specs.declared.board.Cell.TheVariants.{Edge, Empty, Black, White}
use Rattle.go_board.specs.Board.{place_count, at, IsStone}
use Rattle.go_board.specs.private.Frame.{IsFramed}
use Rattle.go_board.specs.Chain.{Joined, IsFree}

-- a board, and the id of each of its places
pub record BoardWithIds : Type 0 where
  pub board : List Cell
  pub ids : List ℕ

-- the id of a place
abbrev pub id_of : List ℕ → ℕ → ℕ
id_of ids p = slice_index_or ids p 0

-- Each stone's id is the place of a stone of its chain, and two stones have the same id just where a path joins
-- them.
pub record AreChainIds (board : List Cell) (ids : List ℕ) : Type 0 where
  pub length_is : length ids ≡ place_count
  pub own : (p : ℕ) → IsStone (at board p) → Joined board p (id_of ids p)
  pub same : (p q : ℕ) → IsStone (at board p) → IsStone (at board q)
      → (id_of ids p ≡ id_of ids q) ↔ Joined board p q

abbrev pub is_empty : Cell → Bool
is_empty Empty = true
is_empty Edge = false
is_empty Black = false
is_empty White = false

abbrev pub is_stone : Cell → Bool
is_stone Black = true
is_stone White = true
is_stone Edge = false
is_stone Empty = false

-- 1 where the place is empty
abbrev pub empty_at : List Cell → ℕ → ℕ
empty_at board p = if is_empty (at board p) then 1 else 0

-- how many neighbours of a point are empty
abbrev pub empty_beside : List Cell → ℕ → ℕ
empty_beside board p =
    empty_at board (p + 1) + empty_at board (p - 1) + empty_at board (p + 26) + empty_at board (p - 26)

-- the place holds a stone with this id
abbrev pub has_id : List Cell → List ℕ → ℕ → ℕ → Bool
has_id board ids id p = is_stone (at board p) && (id_of ids p == id)

-- what a place adds to an id's pseudo-liberties
abbrev pub share : List Cell → List ℕ → ℕ → ℕ → ℕ
share board ids id p = if has_id board ids id p then empty_beside board p else 0

-- 1 where the place holds a stone with this id
abbrev pub ids_at : List Cell → List ℕ → ℕ → ℕ → ℕ
ids_at board ids id p = if has_id board ids id p then 1 else 0

-- how many neighbours of a point are stones with this id
abbrev pub ids_beside : List Cell → List ℕ → ℕ → ℕ → ℕ
ids_beside board ids id p =
    ids_at board ids id (p + 1) + ids_at board ids id (p - 1) + ids_at board ids id (p + 26)
    + ids_at board ids id (p - 26)

-- an id's pseudo-liberties: its stones' empty neighbours, added up
unfoldable pub pseudo_liberties : List Cell → List ℕ → ℕ → ℕ
pseudo_liberties board ids id = sum_by (share board ids id) (range_with_len 0 place_count)

-- the numbers are the pseudo-liberties of all ids
pub record ArePseudoLiberties (board : List Cell) (ids counts : List ℕ) : Type 0 where
  pub length_is : length counts ≡ place_count
  pub each : (id : ℕ) → id < place_count → slice_index_or counts id 0 ≡ pseudo_liberties board ids id

-- each stone is free
abbrev pub AreFree : List Cell → Type 0
AreFree board = (p : ℕ) → IsStone (at board p) → IsFree board p

-- the chain of the stone on p has a liberty besides q
pub record HasOtherLiberty (board : List Cell) (p q : ℕ) : Type 0 where
  pub point : ℕ
  pub joined : Joined board p point
  pub place : ℕ
  pub neighbours : Neighbours point place
  pub empty : at board place ≡ Empty
  pub another : place ≢ q

-- an id for each place, and each id is a place
pub record AreOnBoard (ids : List ℕ) : Type 0 where
  pub length_is : length ids ≡ place_count
  pub below : All (λ id. id < place_count) ids

-- the number of an id
abbrev pub count_at : List ℕ → ℕ → ℕ
count_at counts id = slice_index_or counts id 0

-- the board has edge all round, and its ids are those of its chains
pub record AreChains (board : List Cell) (ls : List ℕ) : Type 0 where
  pub framed : IsFramed board
  pub ids : AreChainIds board ls

-- the list has just the places that are joined to a place
abbrev pub IsChainOf : List Cell → ℕ → List ℕ → Type 0
IsChainOf board place found = (p : ℕ) → Contains found p ↔ Joined board place p
