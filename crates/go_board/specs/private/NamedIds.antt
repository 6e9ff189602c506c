-- How the ids of chains are kept: a place without a stone has id 0, which no chain has.
use Rattle.std.specs.Prelude.{◌≡◌, ◌≢◌, ◌==◌, ◌⊎◌, ◌↔◌, ℕ, ◌+◌, ◌-◌, ◌*◌, ◌<◌, ◌≤◌, if◌then◌else◌, Contains, List, [], ◌∷◌, ◌++◌, length}
use Rattle.go_base.specs.Colour.{other}
use Rattle.go_base.specs.Point.{Neighbours}
use Rattle.go_base.specs.declared.colours.Colour.{Colour}
use Rattle.go_board.specs.Board.{place_count, at}
use Rattle.go_board.specs.Chain.{Joined, IsCaptured}
use Rattle.go_board.specs.declared.board.Cell.{Cell}
use Rattle.go_board.specs.declared.board.Cell.TheVariants.{Empty}
use Rattle.go_board.specs.private.ChainId.{BoardWithIds, id_of, count_at}
use Rattle.go_board.specs.private.Legal.{IsInAtari, GivesLiberty}

-- 1 where the place has this id
abbrev pub named_at : List ℕ → ℕ → ℕ → ℕ
named_at ids id p = if id_of ids p == id then 1 else 0

-- how many neighbours of a point have this id
abbrev pub named_beside : List ℕ → ℕ → ℕ → ℕ
named_beside ids id p =
    named_at ids id (p + 1) + named_at ids id (p - 1) + named_at ids id (p + 26) + named_at ids id (p - 26)

-- each id has one less for each neighbour of a point that has it
pub record AreAllLowered (ids old new : List ℕ) (p : ℕ) : Type 0 where
  pub length_is : length new ≡ length old
  pub each : (id : ℕ) → id < place_count → count_at new id ≡ count_at old id - named_beside ids id p

-- each id whose number is far from the most that is kept has one more for each such neighbour
pub record AreAllRaised (ids old new : List ℕ) (p : ℕ) : Type 0 where
  pub length_is : length new ≡ length old
  pub each : (id : ℕ) → id < place_count → count_at old id ≤ 65000
      → count_at new id ≡ count_at old id + named_beside ids id p

-- three ids of chains
pub record AreNamed (a b c : ℕ) : Type 0 where
  pub first : a ≢ 0
  pub second : b ≢ 0
  pub third : c ≢ 0
  pub first_below : a < place_count
  pub second_below : b < place_count
  pub third_below : c < place_count

-- a place outside the rows of this many lines has id 0
pub record AreInRows (ids : List ℕ) (lines : ℕ) : Type 0 where
  pub under : (p : ℕ) → p < 26 → id_of ids p ≡ 0
  pub above : (p : ℕ) → 26 * (lines + 1) ≤ p → id_of ids p ≡ 0

-- a neighbour of the point holds a stone of this colour without a liberty
pub record TouchesCaptured (board : List Cell) (c : Colour) (p : ℕ) : Type 0 where
  pub place : ℕ
  pub neighbours : Neighbours p place
  pub captured : IsCaptured board c place

-- Each stone of this colour without a liberty is joined to such a stone beside the point.
pub record HasCapturedBeside (board : List Cell) (c : Colour) (p q : ℕ) : Type 0 where
  pub place : ℕ
  pub neighbours : Neighbours p place
  pub joined : Joined board q place
  pub captured : IsCaptured board c place

abbrev pub AreCapturedBeside : List Cell → Colour → ℕ → Type 0
AreCapturedBeside board c p = (q : ℕ) → IsCaptured board c q → HasCapturedBeside board c p q

-- the list has just the stones of this colour without a liberty
abbrev pub AreCapturedStones : List Cell → Colour → List ℕ → Type 0
AreCapturedStones board c found = (p : ℕ) → Contains found p ↔ IsCaptured board c p

-- the list grew by the place, where a stone of this colour without a liberty is there, if the list hadn't it
pub record IsSeed (board : List Cell) (c : Colour) (place : ℕ) (old new : List ℕ) : Type 0 where
  pub has : IsCaptured board c place → Contains new place
  pub was : (IsCaptured board c place × (new ≡ old ++ place ∷ [])) ⊎ (new ≡ old)

-- The stones on these places were removed. The others are as they were, and have their ids.
pub record AreRemoved (old new : BoardWithIds) (places : List ℕ) : Type 0 where
  pub board_length : length new.board ≡ length old.board
  pub ids_length : length new.ids ≡ length old.ids
  pub gone : (p : ℕ) → Contains places p → at new.board p ≡ Empty
  pub left : (p : ℕ) → ¬ Contains places p → at new.board p ≡ at old.board p
  pub ids_left : (p : ℕ) → ¬ Contains places p → id_of new.ids p ≡ id_of old.ids p

-- A stone on the place makes a play of this colour on the point legal: the other colour's in atari, or one of its own
-- whose chain has a liberty besides.
abbrev pub FreesPlay : List Cell → Colour → ℕ → ℕ → Type 0
FreesPlay board c p q = IsInAtari board (other c) p q ⊎ GivesLiberty board c p q

-- a neighbour of the point is such a stone
pub record FreesAny (board : List Cell) (c : Colour) (p : ℕ) : Type 0 where
  pub place : ℕ
  pub neighbours : Neighbours p place
  pub frees : FreesPlay board c p place
