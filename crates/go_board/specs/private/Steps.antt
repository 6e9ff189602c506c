-- Steps of the upkeep of ids and pseudo-liberties.
use Rattle.std.specs.Prelude.{◌⊎◌, ◌≡◌, ◌≢◌, ℕ, ◌+◌, ◌-◌, ◌<◌, ◌≤◌, ◌==◌, if◌then◌else◌, Contains, List, length}
use Rattle.std.specs.Prelude.{slice_set}
use Rattle.go_base.specs.Point.{Neighbours}
use Rattle.go_board.specs.declared.board.Cell.{Cell}
use Rattle.go_board.specs.Board.{place_count, at, IsStone}
use Rattle.go_board.specs.Chain.{Joined}
use Rattle.go_board.specs.private.Frame.{IsFramed}
use Rattle.go_board.specs.private.ChainId.{BoardWithIds, id_of, ids_beside, count_at}

-- what an id becomes where one id turns into another
abbrev pub rename : ℕ → ℕ → ℕ → ℕ
rename to from id = if id == from then to else id

-- what it becomes where three ids do
abbrev pub rename_three : ℕ → ℕ → ℕ → ℕ → ℕ → ℕ
rename_three to a b c id = rename to c (rename to b (rename to a id))

-- the ids of the stones beside a point have one less for each of these stones
pub record AreLowered (board : List Cell) (ids old new : List ℕ) (p : ℕ) : Type 0 where
  pub length_is : length new ≡ length old
  pub each : (id : ℕ) → id < place_count
      → count_at new id ≡ count_at old id - ids_beside board ids id p

-- they have one more for each
pub record AreRaised (board : List Cell) (ids old new : List ℕ) (p : ℕ) : Type 0 where
  pub length_is : length new ≡ length old
  pub each : (id : ℕ) → id < place_count
      → count_at new id ≡ count_at old id + ids_beside board ids id p

-- no number is over this
abbrev pub IsBelow : ℕ → List ℕ → Type 0
IsBelow most counts = (id : ℕ) → id < place_count → count_at counts id ≤ most

-- the id of such a stone on a place, or another where there is none
pub record IsIdOr (board : List Cell) (ls : List ℕ) (stone : Cell) (p other id : ℕ) : Type 0 where
  pub there : at board p ≡ stone → id ≡ id_of ls p
  pub absent : at board p ≢ stone → id ≡ other

-- the pseudo-liberties of one id went over to another, unless they are one
pub record IsMoved (old new : List ℕ) (to from : ℕ) : Type 0 where
  pub one : to ≡ from → new ≡ old
  pub two : to ≢ from → new ≡ slice_set (slice_set old to (count_at old to + count_at old from)) from 0

-- each of the places has this id
abbrev pub AreGiven : List ℕ → List ℕ → ℕ → Type 0
AreGiven ids places id = (p : ℕ) → Contains places p → id_of ids p ≡ id

-- all other places have the ids of before
abbrev pub AreOthersKept : List ℕ → List ℕ → List ℕ → Type 0
AreOthersKept old new places = (p : ℕ) → ¬ Contains places p → id_of new p ≡ id_of old p

-- The chain of the stone on a place has the place as its id now. All other ids are kept.
pub record HasFragmentId (board : List Cell) (old new : List ℕ) (place : ℕ) : Type 0 where
  pub given : (p : ℕ) → Joined board place p → id_of new p ≡ place
  pub others : (p : ℕ) → ¬ Joined board place p → id_of new p ≡ id_of old p

-- that is so where a stone with this id is on the place, and else all ids are kept
abbrev pub IsFragmentSet : List Cell → List ℕ → List ℕ → ℕ → ℕ → Type 0
IsFragmentSet board old new place id =
    (IsStone (at board place) × HasFragmentId board old new place)
    ⊎ ((IsStone (at board place) → id_of old place ≢ id) × (new ≡ old))

-- the board is kept and has as many ids, and the chain of a place with this id has the place as its id
pub record SetsFragmentId (old new : BoardWithIds) (place id : ℕ) : Type 0 where
  pub board_is : new.board ≡ old.board
  pub length_is : length new.ids ≡ length old.ids
  pub named : IsFragmentSet old.board old.ids new.ids place id

-- the board is kept, and these places have this id now, and all other places the ids of before
pub record ChangesIds (old new : BoardWithIds) (places : List ℕ) (id : ℕ) : Type 0 where
  pub board_is : new.board ≡ old.board
  pub length_is : length new.ids ≡ length old.ids
  pub given : AreGiven new.ids places id
  pub others : AreOthersKept old.ids new.ids places

-- A stone on this place has `beside` neighbours of its chain. Without it none is left of the chain, or the stone was at
-- its end, where no path between two others needs it, and the chain's id is another place.
abbrev pub StaysWhole : ℕ → ℕ → ℕ → Type 0
StaysWhole beside id place = (beside ≡ 0) ⊎ ((beside ≡ 1) × (id ≢ place))

-- A stone was removed from a place. The stones that have its id are those that a path joins to one of its neighbours;
-- the other ids are those of their chains.
pub record IsCut (board : List Cell) (ids : List ℕ) (place id : ℕ) : Type 0 where
  pub framed : IsFramed board
  pub length_is : length ids ≡ place_count
  pub alike : (p q : ℕ) → IsStone (at board p) → Neighbours p q → at board q ≡ at board p
      → id_of ids p ≡ id_of ids q
  pub own : (p : ℕ) → IsStone (at board p) → id_of ids p ≢ id → Joined board p (id_of ids p)
  pub cut : (p : ℕ) → IsStone (at board p) → id_of ids p ≡ id → (q : ℕ) × Neighbours place q × Joined board p q
