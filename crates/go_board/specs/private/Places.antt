-- The fields of `Places`.
use Rattle.std.specs.Prelude.{◌≡◌, ◌≢◌, ℕ, ◌<◌, List, length, All, Contains, IsTrue, count_by, slice_index_or, false}
use Rattle.std.specs.List.{AllPairs}
use Rattle.go_board.specs.Board.{place_count}
use Rattle.go_board.specs.declared.places.Places.TheInside.{Inside}

-- the places in the order in which they were put in
abbrev pub places_of : Inside → List ℕ
places_of fields = fields.order.items

-- each place of the list is there once and marked, and nothing else is; there are as many places as marks
pub record AreMarked (fields : Inside) : Type 0 where
  pub below : All (λ p. p < place_count) fields.order.items
  pub marked : (p : ℕ) → Contains fields.order.items p → IsTrue (slice_index_or fields.marked p false)
  pub listed : (p : ℕ) → IsTrue (slice_index_or fields.marked p false) → Contains fields.order.items p
  pub counted : count_by (λ m. m) fields.marked ≡ length fields.order.items
  pub once : AllPairs (λ p q. p ≢ q) fields.order.items
