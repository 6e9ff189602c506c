-- Whether a chain or region touches something. A path that may pass any place below n goes through n - 1 at most once,
-- so it is looked for with n - 1 places, and then through the last.
use Rattle.std.proofs.Common.{◌≡◌, ℕ, zero, suc, ◌+◌, ◌<◌, ◌≤◌, List, length, refl, sym, ◌∙◌, subst, arith, inl, inr}
use Rattle.std.specs.Prelude.{◌⊎◌, ◌≢◌}
use Rattle.std.proofs.lemmas.List.{get_or_past}
use Rattle.go_base.specs.Point.{Neighbours}
use Rattle.go_base.specs.declared.colours.Colour.{Colour}
use Rattle.go_board.specs.Board.{at, stone}
use Rattle.go_board.specs.Chain.{Joined, itself, by_way_of, HasBeside, Touches, IsCaptured}
use Rattle.go_base.specs.Decide.{both?, either?, not?, by?, number?}
use Rattle.go_board.specs.decisions.Board.{cell?}
use Rattle.go_board.specs.declared.board.Cell.{Cell}
use Rattle.go_board.specs.declared.board.Cell.TheVariants.{Edge, Empty}

-- some number below n
pub some_below? : (n : ℕ) (P : ℕ → Type 0) → ((k : ℕ) → Dec (P k)) → Dec ((k : ℕ) × (k < n) × P k)
some_below? zero P d = no (λ h. let k = h.1 in absurd (omega arith))
some_below? (suc n) P d = step (some_below? n P d) (d n)
  where
    last : ((k : ℕ) × (k < n) × P k → ⊥) → (P n → ⊥) → (k : ℕ) × (k < suc n) × P k → ⊥
    last a b (k, h, p) = elim (earlier k h) [ inl e ↦ a (k, e, p) | inr s ↦ b (subst P s p) ]
      where
        earlier : (k : ℕ) → k < suc n → (k < n) ⊎ (k ≡ n)
        earlier k h = grind arith

    step : Dec ((k : ℕ) × (k < n) × P k) → Dec (P n) → Dec ((k : ℕ) × (k < suc n) × P k)
    step (yes h) e = let lt = h.1 in yes (h.0, omega arith, h.2)
    step (no a) (yes p) = yes (n, omega arith, p)
    step (no a) (no b) = no (last a b)

-- a path of at most one step
record Near (board : List Cell) (p q : ℕ) : Type 0 where
  on_board : at board p ≢ Edge
  one : (p ≡ q) ⊎ (Neighbours p q × (at board q ≡ at board p))

-- a path that passes only places below n between its ends
Via : List Cell → ℕ → ℕ → ℕ → Type 0
Via board zero p q = Near board p q
Via board (suc n) p q = Via board n p q ⊎ (Via board n p n × Via board n n q)

via? : (board : List Cell) (n p q : ℕ) → Dec (Via board n p q)
unfolding Via
via? board zero p q =
    by? (λ h. record { on_board = h.0; one = h.1 }) (λ r. (r.on_board, r.one))
    (both? (not? (cell? (at board p) Edge))
    (either? (number? p q)
    (both? (either? (number? q (p + 1))
    (either? (number? p (q + 1)) (either? (number? q (p + 26)) (number? p (q + 26)))))
    (cell? (at board q) (at board p)))))
via? board (suc n) p q = either? (via? board n p q) (both? (via? board n p n) (via? board n n q))

Joined-trans : {board : List Cell} {p q r : ℕ} → Joined board p q → Joined board q r → Joined board p r
Joined-trans (itself point) rest = rest
Joined-trans (by_way_of s point next same first) rest = by_way_of s point next same (Joined-trans first rest)

Joined-end : {board : List Cell} {p q : ℕ} → Joined board p q → at board q ≡ at board p
Joined-end (itself point) = refl
Joined-end (by_way_of s point next same rest) = Joined-end rest ∙ same

Near-joined : (board : List Cell) (p q : ℕ) → Near board p q → Joined board p q
Near-joined board p q h = elim h.one [
  | inl same ↦ subst (λ (s : ℕ). Joined board p s) same (itself h.on_board)
  | inr next ↦ by_way_of q h.on_board next.0 next.1 (itself (λ e. h.on_board (sym next.1 ∙ e)))
]

Via-joined : (board : List Cell) (n p q : ℕ) → Via board n p q → Joined board p q
unfolding Via
Via-joined board zero p q h = Near-joined board p q h
Via-joined board (suc n) p q (inl h) = Via-joined board n p q h
Via-joined board (suc n) p q (inr h) = Joined-trans (Via-joined board n p n h.0) (Via-joined board n n q h.1)

Via-near : (board : List Cell) (n p q : ℕ) → Near board p q → Via board n p q
unfolding Via
Via-near board zero p q h = h
Via-near board (suc n) p q h = inl (Via-near board n p q h)

-- to the place n and from it, passing n again or not
to_last : (board : List Cell) (n p : ℕ) → Via board (suc n) p n → Via board n p n
unfolding Via
to_last board n p (inl h) = h
to_last board n p (inr h) = h.0

from_last : (board : List Cell) (n q : ℕ) → Via board (suc n) n q → Via board n n q
unfolding Via
from_last board n q (inl h) = h
from_last board n q (inr h) = h.1

Via-through : (board : List Cell) (n p m q : ℕ) → m < n → Via board n p m → Via board n m q → Via board n p q
unfolding Via
Via-through board zero p m q h a b = absurd (omega arith)
Via-through board (suc n) p m q h a b = elim (earlier m n h) [
  | inr last ↦ inr (
    to_last board n p (subst (λ (s : ℕ). Via board (suc n) p s) last a),
    from_last board n q (subst (λ (s : ℕ). Via board (suc n) s q) last b),
  )
  | inl before ↦ cases (λ s t u l x y. Via-through board n s t u l x y) before a b
]
  where
    earlier : (m n : ℕ) → m < suc n → (m < n) ⊎ (m ≡ n)
    earlier m n h = grind arith

    cases : ((s t u : ℕ) → t < n → Via board n s t → Via board n t u → Via board n s u)
        → m < n → Via board n p m ⊎ (Via board n p n × Via board n n m)
        → Via board n m q ⊎ (Via board n m n × Via board n n q)
        → Via board n p q ⊎ (Via board n p n × Via board n n q)
    cases go l (inl x) (inl y) = inl (go p m q l x y)
    cases go l (inl x) (inr y) = inr (go p m n l x y.0, y.1)
    cases go l (inr x) (inl y) = inr (x.0, go n m q l x.1 y)
    cases go l (inr x) (inr y) = inr (x.0, y.1)

on_list : (board : List Cell) (p : ℕ) → at board p ≢ Edge → p < length board
on_list board p point =
    elim (inside (length board) p) [ inl h ↦ h | inr past ↦ absurd (point (get_or_past board p Edge past)) ]
  where
    inside : (n p : ℕ) → (p < n) ⊎ (n ≤ p)
    inside n p = grind arith

Joined-via : (board : List Cell) {p q : ℕ} → Joined board p q → Via board (length board) p q
Joined-via board (itself {p} point) = Via-near board (length board) p p (record { on_board = point; one = inl refl })
Joined-via board (by_way_of {p} {q} r point next same rest) =
    let r_point : at board r ≢ Edge = λ e. point (sym same ∙ e) in
    Via-through board (length board) p r q (on_list board r r_point)
    (Via-near board (length board) p r (record { on_board = point; one = inr (next, same) })) (Joined-via board rest)

-- whether there is a path
pub joined? : (board : List Cell) (p q : ℕ) → Dec (Joined board p q)
joined? board p q = by? (Via-joined board (length board) p q) (Joined-via board) (via? board (length board) p q)

beside? : (board : List Cell) (q : ℕ) (this : Cell) → Dec (HasBeside board q this)
beside? board q this =
    by? there back
    (either? (cell? (at board (q + 1)) this) (either? (cell? (at board (q + 26)) this)
    (some_below? q (λ r. ((q ≡ r + 1) ⊎ (q ≡ r + 26)) × (at board r ≡ this))
    (λ r. both? (either? (number? q (r + 1)) (number? q (r + 26))) (cell? (at board r) this)))))
  where
    there : (at board (q + 1) ≡ this) ⊎ (at board (q + 26) ≡ this)
        ⊎ ((r : ℕ) × (r < q) × (((q ≡ r + 1) ⊎ (q ≡ r + 26)) × (at board r ≡ this))) → HasBeside board q this
    there (inl e) = record { place = q + 1; neighbours = inl refl; holds = e }
    there (inr (inl e)) = record { place = q + 26; neighbours = inr (inr (inl refl)); holds = e }
    there (inr (inr h)) =
        record {
          place = h.0;
          neighbours = elim (h.2).0 [ inl a ↦ inr (inl a) | inr b ↦ inr (inr (inr b)) ];
          holds = (h.2).1;
        }

    by_place : (r : ℕ) → Neighbours q r → at board r ≡ this
        → (at board (q + 1) ≡ this) ⊎ (at board (q + 26) ≡ this)
        ⊎ ((r : ℕ) × (r < q) × (((q ≡ r + 1) ⊎ (q ≡ r + 26)) × (at board r ≡ this)))
    by_place r (inl e) h = inl (subst (λ s. at board s ≡ this) e h)
    by_place r (inr (inl e)) h = inr (inr (r, omega arith, (inl e, h)))
    by_place r (inr (inr (inl e))) h = inr (inl (subst (λ s. at board s ≡ this) e h))
    by_place r (inr (inr (inr e))) h = inr (inr (r, omega arith, (inr e, h)))

    back : HasBeside board q this
        → (at board (q + 1) ≡ this) ⊎ (at board (q + 26) ≡ this)
        ⊎ ((r : ℕ) × (r < q) × (((q ≡ r + 1) ⊎ (q ≡ r + 26)) × (at board r ≡ this)))
    back h = by_place h.place h.neighbours h.holds

-- whether a path leads to a point beside this
pub touches? : (board : List Cell) (p : ℕ) (this : Cell) → Dec (Touches board p this)
touches? board p this =
    by? (λ h. record { point = h.0; joined = h.2; beside = h.3 })
    (λ t. (
      t.point,
      on_list board t.point (λ e. Joined-point t.joined (sym (Joined-end t.joined) ∙ e)),
      t.joined,
      t.beside,
    ))
    (below_both (length board) (λ q. Joined board p q) (λ q. HasBeside board q this) (joined? board p)
    (λ q. beside? board q this))
  where
    below_both : (n : ℕ) (P Q : ℕ → Type 0) → ((k : ℕ) → Dec (P k)) → ((k : ℕ) → Dec (Q k))
        → Dec ((k : ℕ) × (k < n) × P k × Q k)
    below_both n P Q a b =
        by? (λ h. (h.0, h.1, (h.2).0, (h.2).1)) (λ h. (h.0, h.1, (h.2, h.3)))
        (some_below? n (λ k. P k × Q k) (λ k. both? (a k) (b k)))

    Joined-point : {board : List Cell} {p q : ℕ} → Joined board p q → at board p ≢ Edge
    Joined-point (itself point) = point
    Joined-point (by_way_of r point next same rest) = point

-- whether p holds a stone of this colour, whose chain has no liberty
abbrev pub captured? : (board : List Cell) (c : Colour) (p : ℕ) → Dec (IsCaptured board c p)
captured? board c p = both? (cell? (at board p) (stone c)) (not? (touches? board p Empty))
