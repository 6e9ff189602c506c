-- A flood from one place: its chain.
use Rattle.std.proofs.Common.{◌≡◌, ℕ, ◌+◌, ◌<◌, ◌≤◌, List, [], ◌∷◌, ◌++◌, length, All, Contains, sym, ◌∙◌, ap, subst}
use Rattle.std.proofs.Common.{arith, inl, inr}
use Rattle.std.specs.Prelude.{◌⊎◌, ◌≢◌, ◌↔◌, slice_index}
use Rattle.std.proofs.lemmas.List.Elements.{All-push, All-contains, All-nil, Contains-push}
use Rattle.go_base.specs.Point.{Neighbours, IsOn}
use Rattle.go_base.specs.Size.{most_size}
use Rattle.go_board.specs.Board.{at}
use Rattle.go_board.specs.private.Frame.{IsFramed}
use Rattle.go_board.specs.Chain.{Joined, itself, by_way_of}
use Rattle.go_board.specs.private.Flood.{AreSpread}
use Rattle.go_board.specs.declared.board.Cell.{Cell}
use Rattle.go_board.specs.declared.board.Cell.TheVariants.{Edge}
use Rattle.go_board.proofs.ids.Paths.{Joined-then, Joined-same}
use Rattle.go_board.proofs.floods.Regions.{AreSpread-grows, AreSpread-sound, spread_more, index_of}

-- joined to the start, and on the board
pub record IsReached (board : List Cell) (s p : ℕ) : Type 0 where
  pub joined : Joined board s p
  pub on_board : IsOn most_size p

-- all found are joined to the start, which is found, and the neighbours of the first `next` were found too
pub record IsReaching (board : List Cell) (sought : Cell) (s next : ℕ) (found : List ℕ) : Type 0 where
  pub sound : All (IsReached board s) found
  pub start : Contains found s
  pub reached : next ≤ length found
  pub spread : (k r : ℕ) → k < next → Neighbours (slice_index found k) r → at board r ≡ sought → Contains found r

reached-beside : (board : List Cell) (sought : Cell) (s p r : ℕ) → IsFramed board → sought ≢ Edge → at board s ≡ sought
    → IsReached board s p → Neighbours p r → at board r ≡ sought → IsReached board s r
reached-beside board sought s p r framed point held f beside e =
    let here : at board p ≡ sought = Joined-same f.joined ∙ held in
    let there : at board r ≢ Edge = λ h. point (sym e ∙ h) in
    record {
      joined = Joined-then f.joined (by_way_of r (λ h. point (sym here ∙ h)) beside (e ∙ sym here) (itself there));
      on_board = framed.inside r there;
    }

pub IsReaching-start : (board : List Cell) (sought : Cell) (s : ℕ) (found : List ℕ) → IsFramed board → sought ≢ Edge
    → at board s ≡ sought → found ≡ [] ++ s ∷ [] → IsReaching board sought s 0 found
IsReaching-start board sought s found framed point held one =
    let there : at board s ≢ Edge = λ h. point (sym held ∙ h) in
    record {
      sound = subst (λ (xs : List ℕ). All (IsReached board s) xs) (sym one)
          (All-push (IsReached board s) [] s (All-nil (IsReached board s))
          (record { joined = itself there; on_board = framed.inside s there }));
      start = subst (λ (xs : List ℕ). Contains xs s) (sym one) (Contains-push [] s);
      reached = omega arith;
      spread = λ k r none. absurd (omega arith);
    }

pub IsReaching-more : (board : List Cell) (sought : Cell) (s next : ℕ) (a e : List ℕ) → IsFramed board → sought ≢ Edge
    → at board s ≡ sought → next < length a → IsReaching board sought s next a
    → AreSpread board sought (slice_index a next) a e
    → IsReaching board sought s (next + 1) e
IsReaching-more board sought s next a e framed point held in_range f spread =
    let p : ℕ = slice_index a next in
    let here : IsReached board s p = f.sound next 0 in_range in
    let ae = AreSpread-grows board sought p a e spread in
    let longer = ae.longer in
    record {
      sound = AreSpread-sound board sought (IsReached board s) p a e
          (λ r. reached-beside board sought s p r framed point held here) spread f.sound;
      start = ae.keeps s f.start;
      reached = omega (arith, longer, in_range);
      spread =
          λ k r h beside holds. spread_more board sought a e next k r ae in_range h (λ old. f.spread k r old)
          (spread.all r) beside holds;
    }

-- at the end the flood has followed each path
complete : (board : List Cell) (sought : Cell) (s next : ℕ) (found : List ℕ) → IsReaching board sought s next found
    → length found ≤ next
    → {p q : ℕ} → Joined board p q → at board p ≡ sought → Contains found p → Contains found q
complete board sought s next found f done (itself point) held there = there
complete board sought s next found f done (by_way_of {p} {q} r point next_to same rest) held there =
    let known : there.0 < next = omega arith in
    complete board sought s next found f done rest (same ∙ held)
    (f.spread there.0 r known (subst (λ (k : ℕ). Neighbours k r) (sym (index_of found p there)) next_to) (same ∙ held))

pub IsReaching-done : (board : List Cell) (sought : Cell) (s next : ℕ) (found : List ℕ) → at board s ≡ sought
    → IsReaching board sought s next found → length found ≤ next
    → (p : ℕ) → Contains found p ↔ Joined board s p
IsReaching-done board sought s next found held f done p = (
  (λ h. let r : IsReached board s p = All-contains (IsReached board s) found p f.sound h in r.joined),
  (λ path. complete board sought s next found f done path held f.start),
)

-- what is put into an empty list is all that is there
pub one-put_in : (old new : List ℕ) (s : ℕ) → old ≡ [] → Contains new s → (new ≡ old) ⊎ (new ≡ old ++ s ∷ [])
    → new ≡ [] ++ s ∷ []
one-put_in old new s none has kept = elim kept [
  | inl same ↦ let below = has.1 in absurd (omega (arith, below, ap length (same ∙ none)))
  | inr more ↦ more ∙ ap (λ (xs : List ℕ). xs ++ s ∷ []) none
]
