-- The empty points beside the places of a list, and the liberties of a chain.
use Rattle.std.proofs.Common.{◌≡◌, ℕ, ◌+◌, ◌<◌, ◌≤◌, List, [], length, All, Contains, sym, ◌∙◌, ap, subst}
use Rattle.std.proofs.Common.{arith, inl, inr}
use Rattle.std.specs.Prelude.{◌≢◌, slice_index, Some}
use Rattle.std.specs.List.{AllPairs}
use Rattle.std.proofs.lemmas.List.Elements.{All-contains, Contains-get_or}
use Rattle.go_base.specs.Point.{Neighbours}
use Rattle.go_base.specs.declared.colours.Colour.{Colour}
use Rattle.go_board.specs.Board.{at, stone_at}
use Rattle.go_board.specs.Chain.{Joined}
use Rattle.go_board.specs.Laws.{IsOfSoMany}
use Rattle.go_board.specs.Liberties.{IsLiberty, IsChainAt}
use Rattle.go_board.specs.private.Flood.{AreSpread, IsEmptyBeside, AreEmptyBeside}
use Rattle.go_board.specs.private.ChainId.{IsChainOf}
use Rattle.go_board.specs.declared.board.Cell.{Cell}
use Rattle.go_board.specs.declared.board.Cell.TheVariants.{Edge, Empty}
use Rattle.go_board.proofs.General.{earlier_or_last}
use Rattle.go_board.proofs.floods.Regions.{AreSpread-grows, AreSpread-sound, index_of}
use Rattle.go_board.proofs.ids.Paths.{Joined-point, Joined-same}

-- all found are such points, and those beside the first `n` places were found
pub record AreFoundBeside (board : List Cell) (places : List ℕ) (n : ℕ) (found : List ℕ) : Type 0 where
  pub sound : All (IsEmptyBeside board places) found
  pub all : (k r : ℕ) → k < n → Neighbours (slice_index places k) r → at board r ≡ Empty → Contains found r

pub AreFoundBeside-start : (board : List Cell) (places found : List ℕ) → found ≡ []
    → AreFoundBeside board places 0 found
AreFoundBeside-start board places found none = record {
  sound = λ k d below. absurd (omega (arith, below, ap length none));
  all = λ k r below. absurd (omega arith);
}

pub AreFoundBeside-more : (board : List Cell) (places : List ℕ) (n place : ℕ) (old new : List ℕ) → n < length places
    → place ≡ slice_index places n → AreFoundBeside board places n old → AreSpread board Empty place old new
    → AreFoundBeside board places (n + 1) new
AreFoundBeside-more board places n place old new below is a spread = record {
  sound = AreSpread-sound board Empty (IsEmptyBeside board places) place old new
      (λ r beside empty. record {
        place = place;
        listed = subst (Contains places) (sym is) (Contains-get_or places n 0 below);
        neighbours = beside;
        empty = empty;
      })
      spread a.sound;
  all = λ k r less beside empty. elim (earlier_or_last k n less) [
    | inl earlier ↦ (AreSpread-grows board Empty place old new spread).keeps r (a.all k r earlier beside empty)
    | inr last ↦ spread.all r
        (subst (λ (q : ℕ). Neighbours q r) (ap (slice_index places) last ∙ sym is) beside) empty
  ];
}

pub AreFoundBeside-done : (board : List Cell) (places : List ℕ) (n : ℕ) (found : List ℕ) → length places ≤ n
    → AreFoundBeside board places n found → AreEmptyBeside board places found
AreFoundBeside-done board places n found past a q = (
  (λ h. All-contains (IsEmptyBeside board places) found q a.sound h),
  (λ b. let k = b.listed.0 in
      let below = b.listed.1 in
      a.all k q (omega (arith, below, past))
      (subst (λ (r : ℕ). Neighbours r q) (sym (index_of places b.place b.listed)) b.neighbours) b.empty),
)

-- the stones of the chain are as many as were found
pub many-stones : (board : List Cell) (p many : ℕ) (found : List ℕ) → IsChainOf board p found
    → AllPairs (λ a b. a ≢ b) found → many ≡ length found → IsOfSoMany (λ q. Joined board p q) many
many-stones board p many found of once long = record { list = found; each = of; once = once; long = long }

-- and the liberties are as many as were found beside them
pub many-liberties : (board : List Cell) (p many : ℕ) (stones found : List ℕ) → IsChainOf board p stones
    → AreEmptyBeside board stones found → AllPairs (λ a b. a ≢ b) found → many ≡ length found
    → IsOfSoMany (λ q. IsLiberty board p q) many
many-liberties board p many stones found of beside once long = record {
  list = found;
  each = λ q. (
    (λ h. let b = (beside q).0 h in record {
      stone = b.place;
      joined = (of b.place).0 b.listed;
      neighbours = b.neighbours;
      empty = b.empty;
    }),
    (λ l. (beside q).1 (record {
      place = l.stone;
      listed = (of l.stone).1 l.joined;
      neighbours = l.neighbours;
      empty = l.empty;
    })),
  );
  once = once;
  long = long;
}

-- the chain at a point of a board, by the places that were found
pub chain-at : (cells board : List Cell) (place p : ℕ) (c : Colour) (many few : ℕ) (stones found : List ℕ)
    → cells ≡ board → place ≡ p → stone_at board p ≡ Some c → IsChainOf cells place stones
    → AllPairs (λ a b. a ≢ b) stones → many ≡ length stones → AreEmptyBeside cells stones found
    → AllPairs (λ a b. a ≢ b) found → few ≡ length found
    → IsChainAt board p (record { colour = c; stones = many; liberties = few })
chain-at cells board place p c many few stones found same here held of once long beside once_too long_too =
    let chain : IsChainOf board p stones =
    subst (λ (b : List Cell). IsChainOf b p stones) same (subst (λ (q : ℕ). IsChainOf cells q stones) here of) in
    record {
      colour = held;
      stones = many-stones board p many stones chain once long;
      liberties = many-liberties board p few stones found chain
          (subst (λ (b : List Cell). AreEmptyBeside b stones found) same beside) once_too long_too;
    }

-- what is joined to a point is one
pub chain-points : (board : List Cell) (place : ℕ) (stones : List ℕ) → IsChainOf board place stones
    → (p : ℕ) → Contains stones p → at board p ≢ Edge
chain-points board place stones of p h e =
    let path : Joined board place p = (of p).0 h in
    Joined-point path (sym (Joined-same path) ∙ e)
