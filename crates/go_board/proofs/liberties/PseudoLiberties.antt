-- Pseudo-liberties and liberties.
use Rattle.std.proofs.Common.{◌≡◌, ℕ, ◌+◌, ◌-◌, ◌<◌, ◌≤◌, List, refl, sym, ◌∙◌, ap, subst, arith, inl, inr, Bool, true}
use Rattle.std.proofs.Common.{false, cond, get_or-set_other}
use Rattle.std.specs.Prelude.{◌⊎◌, ◌≢◌, ◌==◌, ◌&&◌, ◌↔◌}
use Rattle.std.proofs.Math.ListN.{set}
use Rattle.go_base.specs.Colour.{other}
use Rattle.go_base.specs.Point.{Neighbours}
use Rattle.go_base.specs.declared.colours.Colour.{Colour}
use Rattle.go_base.specs.declared.colours.Colour.TheVariants as colour
use Rattle.go_board.specs.Board.{at, stone, IsStone}
use Rattle.go_board.specs.private.Frame.{IsFramed}
use Rattle.go_board.specs.Chain.{Joined, HasBeside, IsFree, IsCaptured}
use Rattle.go_board.specs.private.ChainId.{id_of, AreChainIds, is_empty, is_stone, empty_at, empty_beside, has_id}
use Rattle.go_board.specs.private.ChainId.{share, ids_beside, pseudo_liberties, AreFree, HasOtherLiberty}
use Rattle.go_board.specs.declared.board.Cell.{Cell}
use Rattle.go_board.specs.declared.board.Cell.TheVariants.{Edge, Empty, Black, White}
use Rattle.go_board.proofs.boards.Cells.{stone-filled, stone-differs, IsFramed-set, empty-point}
use Rattle.go_board.proofs.captures.CapturedStones.{in_list}
use Rattle.go_board.proofs.Sums.{total, total-positive, total-at_least}
use Rattle.go_board.proofs.liberties.FillingPoints.{pseudo_liberties-total, pseudo_liberties-filled}
use Rattle.go_board.proofs.ids.Paths.{Joined-then, Joined-same, Joined-kept, Joined-set, IsStone-point}
use Rattle.go_board.proofs.ids.Paths.{IsStone-filled, IsStone-joined, set-same}
use Rattle.std.proofs.lemmas.Bool.{eq-eqb, eqb-true, and_parts, cases_eq}
use Rattle.go_board.proofs.boards.Neighbours.{Neighbours-sym, IsOn-inside, all_beside, left_of, under_of}

-- ---- tests and facts

pub stone-test : (x : Cell) → IsStone x → is_stone x ≡ true
stone-test x s = ap is_stone s.1 ∙ by_colour s.0
  where
    by_colour : (c : Colour) → is_stone (stone c) ≡ true
    by_colour colour.Black = refl
    by_colour colour.White = refl

pub stone-from_test : (x : Cell) → is_stone x ≡ true → IsStone x
stone-from_test Black e = (colour.Black, refl)
stone-from_test White e = (colour.White, refl)
stone-from_test Edge e = cc
stone-from_test Empty e = cc

empty-from_test : (x : Cell) → is_empty x ≡ true → x ≡ Empty
empty-from_test Empty e = refl
empty-from_test Edge e = cc
empty-from_test Black e = cc
empty-from_test White e = cc

-- ---- an empty neighbour, and a share that isn't 0

empty_at-one : (board : List Cell) (p : ℕ) → at board p ≡ Empty → empty_at board p ≡ 1
empty_at-one board p e = ap (λ (x : Cell). cond (is_empty x) 1 0) e

empty_at-from : (board : List Cell) (p : ℕ) → 0 < empty_at board p → at board p ≡ Empty
empty_at-from board p h = empty-from_test (at board p) (by_case (is_empty (at board p)) h)
  where
    by_case : (b : Bool) → 0 < cond b 1 0 → b ≡ true
    by_case true h = refl
    by_case false h = absurd (omega arith)

empty_beside-some : (board : List Cell) (p q : ℕ) → Neighbours p q → at board q ≡ Empty → 0 < empty_beside board p
empty_beside-some board p = all_beside (λ q. at board q ≡ Empty → 0 < empty_beside board p) p
    (λ h. let one = empty_at-one board (p + 1) h in omega (arith, one))
    (λ h. let one = empty_at-one board (p - 1) h in omega (arith, one))
    (λ h. let one = empty_at-one board (p + 26) h in omega (arith, one))
    (λ h. let one = empty_at-one board (p - 26) h in omega (arith, one))

empty_beside-from : (board : List Cell) (p : ℕ) → 27 ≤ p → 0 < empty_beside board p → HasBeside board p Empty
empty_beside-from board p low h =
    let beside =
    four (empty_at board (p + 1)) (empty_at board (p - 1)) (empty_at board (p + 26)) (empty_at board (p - 26)) h in
    elim beside [
      | inl a ↦ record { place = p + 1; neighbours = inl refl; holds = empty_at-from board (p + 1) a }
      | inr (inl b) ↦ record {
        place = p - 1;
        neighbours = left_of p low;
        holds = empty_at-from board (p - 1) b;
      }
      | inr (inr (inl c)) ↦ record
          { place = p + 26; neighbours = inr (inr (inl refl)); holds = empty_at-from board (p + 26) c }
      | inr (inr (inr d)) ↦ record
          { place = p - 26; neighbours = under_of p low; holds = empty_at-from board (p - 26) d }
    ]
  where
    four : (a b c d : ℕ) → 0 < a + b + c + d → (0 < a) ⊎ (0 < b) ⊎ (0 < c) ⊎ (0 < d)
    four a b c d h = grind arith

-- a stone with this id that has an empty neighbour
pub record IsOpen (board : List Cell) (ids : List ℕ) (id : ℕ) : Type 0 where
  pub point : ℕ
  pub stone : IsStone (at board point)
  pub id_is : id_of ids point ≡ id
  pub beside : HasBeside board point Empty

share-some : (board : List Cell) (ids : List ℕ) (id : ℕ) (o : IsOpen board ids id)
    → 0 < share board ids id o.point
share-some board ids id o =
    let has : has_id board ids id o.point ≡ true =
    ap (λ (b : Bool). b && (id_of ids o.point == id)) (stone-test (at board o.point) o.stone)
    ∙ eq-eqb (id_of ids o.point) id o.id_is in
    let some = empty_beside-some board o.point o.beside.place o.beside.neighbours o.beside.holds in
    let same : share board ids id o.point ≡ empty_beside board o.point =
    ap (λ (b : Bool). cond b (empty_beside board o.point) 0) has in
    omega (arith, some, same)

share-from : (board : List Cell) (ids : List ℕ) (id p : ℕ) → IsFramed board → 0 < share board ids id p
    → IsOpen board ids id
share-from board ids id p framed h =
    let facts = by_case (has_id board ids id p) h in
    let tests = and_parts (is_stone (at board p)) (id_of ids p == id) facts.0 in
    let s : IsStone (at board p) = stone-from_test (at board p) tests.0 in
    record {
      point = p;
      stone = s;
      id_is = eqb-true (id_of ids p) id tests.1;
      beside = empty_beside-from board p (IsOn-inside p (framed.inside p (IsStone-point (at board p) s))).low facts.1;
    }
  where
    by_case : (b : Bool) → 0 < cond b (empty_beside board p) 0 → (b ≡ true) × (0 < empty_beside board p)
    by_case true h = (refl, h)
    by_case false h = absurd (omega arith)

-- an id has a pseudo-liberty just where a stone with the id has an empty neighbour
pub count-open : (board : List Cell) (ids : List ℕ) (id : ℕ) → IsFramed board
    → (0 < pseudo_liberties board ids id) ↔ IsOpen board ids id
count-open board ids id framed = (
  (λ h.
      let found = total-positive (share board ids id) 702
      (positive h) in share-from board ids id found.0 framed found.2),
  (λ o. let high = in_list board o.point (IsStone-point (at board o.point) o.stone) in
      let long = framed.length_is in
      let least = total-at_least (share board ids id) o.point 702 (omega (arith, high, long)) in
      let some = share-some board ids id o in
      let same = pseudo_liberties-total board ids id in
      omega (arith, least, some, same)),
)
  where
    positive : 0 < pseudo_liberties board ids id → 0 < total (share board ids id) 702
    positive h = let same = pseudo_liberties-total board ids id in omega (arith, same, h)

-- a chain has a liberty just where its id has a pseudo-liberty
pub free-count : (board : List Cell) (ids : List ℕ) (p : ℕ) → IsFramed board → AreChainIds board ids
    → IsStone (at board p)
    → IsFree board p ↔ (0 < pseudo_liberties board ids (id_of ids p))
free-count board ids p framed a s = (
  (λ free. (count-open board ids (id_of ids p) framed).1 (record {
    point = free.point;
    stone = IsStone-joined board p free.point free.joined s;
    id_is = sym ((a.same p free.point s (IsStone-joined board p free.point free.joined s)).1 free.joined);
    beside = free.beside;
  })),
  (λ h. let o = (count-open board ids (id_of ids p) framed).0 h in
      record { point = o.point; joined = (a.same p o.point s o.stone).0 (sym o.id_is); beside = o.beside }),
)

-- ---- a liberty besides a point

-- the pseudo-liberties are more than the neighbours of p with that id just where the chain has a liberty besides p
pub other-count : (board : List Cell) (ids : List ℕ) (p q : ℕ) → IsFramed board → AreChainIds board ids
    → at board p ≡ Empty → IsStone (at board q)
    → (ids_beside board ids (id_of ids q) p < pseudo_liberties board ids (id_of ids q)) ↔ HasOtherLiberty board q p
other-count board ids p q framed a empty s = (
  (λ h. from_open ((count-open without ids k (IsFramed-set board p Edge (empty-point board p empty) framed)).0
      (let e = counted in omega (arith, e, h)))),
  (λ o. let more = (count-open without ids k (IsFramed-set board p Edge (empty-point board p empty) framed)).1
      (to_open o) in
      let e = counted in
      omega (arith, e, more)),
)
  where
    k : ℕ
    k = id_of ids q

    without : List Cell
    without = set board p Edge

    edge_there : at (set board p Edge) p ≡ Edge
    edge_there = set-same board p Edge empty

    no_share : share (set board p Edge) ids (id_of ids q) p ≡ 0
    no_share =
        ap (λ (x : Cell). cond (is_stone x && (id_of ids p == id_of ids q))
        (empty_beside (set board p Edge) p) 0) edge_there

    counted : pseudo_liberties board ids (id_of ids q)
        ≡ pseudo_liberties (set board p Edge) ids (id_of ids q) + ids_beside board ids (id_of ids q) p
    counted =
        let filled =
        pseudo_liberties-filled board ids ids (id_of ids q) p Edge
        (IsOn-inside p (framed.inside p (empty-point board p empty))) empty refl (λ _ _. refl) in
        let none = no_share in
        omega (arith, filled, none)

    -- what isn't edge once p is edge is as it was
    as_before : (r : ℕ) → at (set board p Edge) r ≢ Edge → (r ≢ p) × (at (set board p Edge) r ≡ at board r)
    as_before r held = elim (cases_eq r p) [
      | inl is ↦ absurd (held (ap (λ (j : ℕ). at (set board p Edge) j) is ∙ edge_there))
      | inr another ↦ (another, get_or-set_other board p r Edge Edge another)
    ]

    from_open : IsOpen (set board p Edge) ids (id_of ids q) → HasOtherLiberty board q p
    from_open o =
        let there = as_before o.point (IsStone-point (at (set board p Edge) o.point) o.stone) in
        let t : IsStone (at board o.point) = (o.stone.0, sym there.1 ∙ o.stone.1) in
        let beside = as_before o.beside.place (empty-point (set board p Edge) o.beside.place o.beside.holds) in
        record {
          point = o.point;
          joined = (a.same q o.point s t).0 (sym o.id_is);
          place = o.beside.place;
          neighbours = o.beside.neighbours;
          empty = sym beside.1 ∙ o.beside.holds;
          another = beside.0;
        }

    to_open : HasOtherLiberty board q p → IsOpen (set board p Edge) ids (id_of ids q)
    to_open o =
        let t = IsStone-joined board q o.point o.joined s in
        let stays : at (set board p Edge) o.point ≡ at board o.point =
        get_or-set_other board p o.point Edge Edge
        (λ e. IsStone-filled (at board o.point) t (ap (λ (j : ℕ). at board j) e ∙ empty)) in
        record {
          point = o.point;
          stone = (t.0, stays ∙ t.1);
          id_is = sym ((a.same q o.point s t).1 o.joined);
          beside =
              record {
                place = o.place;
                neighbours = o.neighbours;
                holds = get_or-set_other board p o.place Edge Edge o.another ∙ o.empty;
              };
        }

-- ---- what a play takes, and whether the new stone is free

-- a stone of the other colour is taken just where its chain had no liberty besides the point
pub captured-other : (board : List Cell) (c : Colour) (p q : ℕ) → at board p ≡ Empty
    → IsCaptured (set board p (stone c)) (other c) q ↔ ((at board q ≡ stone (other c)) × ¬ HasOtherLiberty board q p)
captured-other board c p q empty = (
  (λ h. let away = apart h.0 in
      let held : at board q ≡ stone (other c) = sym (get_or-set_other board p q (stone c) Edge away) ∙ h.0 in (
        held,
        λ o. h.1 (record {
          point = o.point;
          joined = Joined-set board p (stone c) empty (other c, held) o.joined;
          beside =
              record {
                place = o.place;
                neighbours = o.neighbours;
                holds = get_or-set_other board p o.place (stone c) Edge o.another ∙ o.empty;
              };
        }),
      )),
  (λ h. let away : q ≢ p = λ e. stone-filled (other c) (sym h.0 ∙ ap (λ (j : ℕ). at board j) e ∙ empty) in
      let held : at (set board p (stone c)) q ≡ stone (other c) =
      get_or-set_other board p q (stone c) Edge away ∙ h.0 in (
        held,
        λ free. h.1 (let e = apart_empty free.beside.place free.beside.holds in record {
          point = free.point;
          joined =
              Joined-kept (set board p (stone c)) board
              (λ r path. sym (get_or-set_other board p r (stone c) Edge (apart (Joined-same path ∙ held)))) free.joined;
          place = free.beside.place;
          neighbours = free.beside.neighbours;
          empty = sym (get_or-set_other board p free.beside.place (stone c) Edge e) ∙ free.beside.holds;
          another = e;
        }),
      )),
)
  where
    here : at (set board p (stone c)) p ≡ stone c
    here = set-same board p (stone c) empty

    apart : {r : ℕ} → at (set board p (stone c)) r ≡ stone (other c) → r ≢ p
    apart e is = stone-differs c (sym here ∙ ap (λ (j : ℕ). at (set board p (stone c)) j) (sym is) ∙ e)

    apart_empty : (r : ℕ) → at (set board p (stone c)) r ≡ Empty → r ≢ p
    apart_empty r e is = stone-filled c (sym here ∙ ap (λ (j : ℕ). at (set board p (stone c)) j) (sym is) ∙ e)

-- where each stone is free, a chain without another liberty has a stone beside the point
pub record IsTakenBeside (board : List Cell) (c : Colour) (p q : ℕ) : Type 0 where
  pub place : ℕ
  pub neighbours : Neighbours p place
  pub joined : Joined board q place
  pub captured : IsCaptured (set board p (stone c)) (other c) place

pub captured-beside : (board : List Cell) (c : Colour) (p q : ℕ) → at board p ≡ Empty → AreFree board
    → IsCaptured (set board p (stone c)) (other c) q → IsTakenBeside board c p q
captured-beside board c p q empty are_free h =
    let facts = (captured-other board c p q empty).0 h in
    let free : IsFree board q = are_free q (other c, facts.0) in
    let only : free.beside.place ≡ p = elim (cases_eq free.beside.place p) [
      | inl is ↦ is
      | inr another ↦ absurd (facts.1 (record {
        point = free.point;
        joined = free.joined;
        place = free.beside.place;
        neighbours = free.beside.neighbours;
        empty = free.beside.holds;
        another = another;
      }))
    ] in
    record {
      place = free.point;
      neighbours = Neighbours-sym (subst (λ (j : ℕ). Neighbours free.point j) only free.beside.neighbours);
      joined = free.joined;
      captured = (captured-other board c p free.point empty).1 (
        Joined-same free.joined ∙ facts.0,
        λ o. facts.1 (record {
          point = o.point;
          joined = Joined-then free.joined o.joined;
          place = o.place;
          neighbours = o.neighbours;
          empty = o.empty;
          another = o.another;
        }),
      );
    }
