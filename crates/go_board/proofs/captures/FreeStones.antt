-- Whether a new stone's chain has a liberty, and that each stone has one after a legal play.
use Rattle.std.proofs.Common.{◌≡◌, ℕ, ◌<◌, ◌≤◌, Bool, true, false, cond, List, refl, sym, ◌∙◌, ap}
use Rattle.std.proofs.Common.{subst, arith, inl, inr, get_or-set_other}
use Rattle.std.specs.Prelude.{◌⊎◌, ◌≢◌, ◌↔◌}
use Rattle.std.proofs.Math.ListN.{set}
use Rattle.go_base.specs.Colour.{other}
use Rattle.go_base.specs.Point.{Neighbours, IsOn}
use Rattle.go_base.specs.declared.colours.Colour.{Colour}
use Rattle.go_base.specs.declared.colours.Colour.TheVariants as colour
use Rattle.go_board.specs.Board.{at, stone, is_point, empty_board, IsStone}
use Rattle.go_board.specs.Chain.{Joined, itself, by_way_of, HasBeside, IsFree}
use Rattle.go_board.specs.decisions.Chain.{touches?}
use Rattle.go_board.specs.Play.{play}
use Rattle.go_board.specs.private.ChainId.{AreFree}
use Rattle.go_board.proofs.boards.EmptyBoard.{test-from_IsOn, at-empty_board, length-empty_board}
use Rattle.std.proofs.lemmas.List.{get_or_past}
use Rattle.go_board.specs.private.Legal.{TakesAny, ReachesLiberty}
use Rattle.go_board.specs.declared.board.Cell.{Cell}
use Rattle.go_board.specs.declared.board.Cell.TheVariants.{Edge, Empty}
use Rattle.go_board.proofs.boards.Cells.{stone-point, stone-filled, stone-differs, empty-point}
use Rattle.go_board.proofs.captures.CapturedStones.{at-play}
use Rattle.go_board.proofs.ids.Paths.{Joined-then, Joined-same, Joined-back, Joined-kept, set-same}
use Rattle.go_board.proofs.ko_rules.PlaysTakenBack.{IsAfter, taken, left, after-play, empty-after, taken-empty}
use Rattle.go_board.proofs.liberties.PseudoLiberties.{captured-other, captured-beside}
use Rattle.go_board.proofs.captures.MakingPlays.{captured-joined}
use Rattle.std.proofs.lemmas.Bool.{cases_eq, cases_lt}
use Rattle.go_board.proofs.boards.Neighbours.{Neighbours-sym, not_itself}
use Rattle.go_board.proofs.ko_rules.PlaysTakenBack.{by_play}

-- a stone of the colour that plays stays
pub own-kept : (board : List Cell) (c : Colour) (p q : ℕ) → q ≢ p → at board q ≡ stone c
    → at (play board c p) q ≡ at board q
own-kept board c p q another held =
    by_play board c p q
    (λ h e. absurd (stone-differs c (sym held ∙ sym (get_or-set_other board p q (stone c) Edge another) ∙ h.0)))
    (λ k e. e ∙ get_or-set_other board p q (stone c) Edge another)

-- and none comes but the new one
own-was : (board : List Cell) (c : Colour) (p q : ℕ) → q ≢ p → at (play board c p) q ≡ stone c → at board q ≡ stone c
own-was board c p q another held =
    by_play board c p q (λ h e. absurd (stone-filled c (sym held ∙ e)))
    (λ k e. sym (get_or-set_other board p q (stone c) Edge another) ∙ sym e ∙ held)

-- a chain of the colour stays joined
own-joined : (board : List Cell) (c : Colour) (p q r : ℕ) → at board p ≡ Empty → at board q ≡ stone c → Joined board q r
    → Joined (play board c p) q r
own-joined board c p q r empty held path =
    Joined-kept board (play board c p) (λ t j. let here : at board t ≡ stone c = Joined-same j ∙ held in
    own-kept board c p t (λ e. stone-filled c (sym here ∙ ap (λ (k : ℕ). at board k) e ∙ empty)) here) path

pub new-stone : (board : List Cell) (c : Colour) (p : ℕ) → at board p ≡ Empty → at (play board c p) p ≡ stone c
new-stone board c p empty = at-play board c p (empty-point board p empty)

-- from the new stone to a neighbour of its colour
to-own : (board : List Cell) (c : Colour) (p q r : ℕ) → at board p ≡ Empty → Neighbours p q → at board q ≡ stone c
    → Joined board q r → Joined (play board c p) p r
to-own board c p q r empty beside held path =
    let here = new-stone board c p empty in
    let away : q ≢ p = λ e. stone-filled c (sym held ∙ ap (λ (k : ℕ). at board k) e ∙ empty) in
    by_way_of q (λ e. stone-point c (sym here ∙ e)) beside (own-kept board c p q away held ∙ held ∙ sym here)
    (own-joined board c p q r empty held path)

-- what is known of a path from a stone of the colour that played
data IsFrom (board : List Cell) (c : Colour) (p s t : ℕ) : Type 0 where
  at_point : t ≡ p → IsFrom board c p s t
  from_own : (q : ℕ) → Neighbours p q → at board q ≡ stone c → Joined board q t → IsFrom board c p s t
  elsewhere : s ≢ p → Joined board s t → IsFrom board c p s t

path-from : (board : List Cell) (c : Colour) (p : ℕ) {s t : ℕ} → Joined (play board c p) s t
    → at (play board c p) s ≡ stone c → IsFrom board c p s t
path-from board c p (itself {p = s} point) held = elim (cases_eq s p) [
  | inl is ↦ at_point is
  | inr another ↦ elsewhere another (itself (λ e. stone-point c (sym (own-was board c p s another held) ∙ e)))
]
path-from board c p (by_way_of {p = s} {q = t} r point next same rest) held =
    by_case (path-from board c p rest (same ∙ held))
  where
    by_case : IsFrom board c p r t → IsFrom board c p s t
    by_case (at_point e) = at_point e
    by_case (from_own q beside holds path) = from_own q beside holds path
    by_case (elsewhere away path) = elim (cases_eq s p) [
      | inl is ↦ from_own r (subst (λ (k : ℕ). Neighbours k r) is next) (own-was board c p r away (same ∙ held)) path
      | inr another ↦
          let here = own-was board c p s another held in
          let there = own-was board c p r away (same ∙ held) in
          elsewhere another (by_way_of r (λ e. stone-point c (sym here ∙ e)) next (there ∙ sym here) path)
    ]

-- The new stone's chain has a liberty just where the point has an empty neighbour, or the play takes a neighbour, or a
-- neighbour of its colour has a further liberty.
pub IsFree-play : (board : List Cell) (c : Colour) (p : ℕ) → at board p ≡ Empty → AreFree board
    → IsFree (play board c p) p ↔ (HasBeside board p Empty ⊎ (TakesAny board (other c) p ⊎ ReachesLiberty board c p))
IsFree-play board c p empty are_free = (
  (λ free. by_liberty free.point free.beside.place free.joined free.beside.neighbours free.beside.holds
      (after-play board c p free.beside.place)),
  (λ h. from_sum h),
)
  where
    here : at (play board c p) p ≡ stone c
    here = new-stone board c p empty

    point : at (play board c p) p ≢ Edge
    point e = stone-point c (sym here ∙ e)

    by_liberty : (t e : ℕ) → Joined (play board c p) p t → Neighbours t e → at (play board c p) e ≡ Empty
        → IsAfter board c p e
        → HasBeside board p Empty ⊎ (TakesAny board (other c) p ⊎ ReachesLiberty board c p)
    by_liberty t e path beside now (taken h _) =
        let found = captured-beside board c p e empty are_free h in
        inr (inl (record {
          place = found.place;
          neighbours = found.neighbours;
          in_atari = (captured-other board c p found.place empty).0 found.captured;
        }))
    by_liberty t e path beside now (left k same) =
        let away : e ≢ p = λ is. stone-filled c (sym here ∙ ap (λ (j : ℕ). at (play board c p) j) (sym is) ∙ now) in
        let was : at board e ≡ Empty = sym (get_or-set_other board p e (stone c) Edge away) ∙ sym same ∙ now in
        by_case away was (path-from board c p path here)
      where
        by_case : e ≢ p → at board e ≡ Empty → IsFrom board c p p t
            → HasBeside board p Empty ⊎ (TakesAny board (other c) p ⊎ ReachesLiberty board c p)
        by_case away was (at_point is) =
            inl (record { place = e; neighbours = subst (λ (j : ℕ). Neighbours j e) is beside; holds = was })
        by_case away was (from_own q next holds path) = inr (inr (record {
          place = q;
          neighbours = next;
          further =
              (holds, record { point = t; joined = path; place = e; neighbours = beside; empty = was; another = away });
        }))
        by_case away was (elsewhere not_p path) = absurd (not_p refl)

    from_sum : HasBeside board p Empty ⊎ (TakesAny board (other c) p ⊎ ReachesLiberty board c p)
        → IsFree (play board c p) p
    from_sum (inl b) =
        let away : b.place ≢ p = not_itself p b.place b.neighbours in
        record {
          point = p;
          joined = itself point;
          beside =
              record { place = b.place; neighbours = b.neighbours; holds = empty-after board c p b.place away b.holds };
        }
    from_sum (inr (inl t)) =
        record {
          point = p;
          joined = itself point;
          beside =
              record {
                place = t.place;
                neighbours = t.neighbours;
                holds = taken-empty board c p t.place ((captured-other board c p t.place empty).1 t.in_atari);
              };
        }
    from_sum (inr (inr r)) =
        record {
          point = r.further.1.point;
          joined = to-own board c p r.place r.further.1.point empty r.neighbours r.further.0 r.further.1.joined;
          beside =
              record {
                place = r.further.1.place;
                neighbours = r.further.1.neighbours;
                holds = empty-after board c p r.further.1.place r.further.1.another r.further.1.empty;
              };
        }

same_colour_or_other : (d c : Colour) → (d ≡ c) ⊎ (d ≡ other c)
same_colour_or_other colour.Black colour.Black = inl refl
same_colour_or_other colour.White colour.White = inl refl
same_colour_or_other colour.Black colour.White = inr refl
same_colour_or_other colour.White colour.Black = inr refl

-- after a legal play each stone is free
pub AreFree-play : (board : List Cell) (c : Colour) (p : ℕ) → at board p ≡ Empty → AreFree board
    → IsFree (play board c p) p → AreFree (play board c p)
AreFree-play board c p empty are_free free q s = elim (cases_eq q p) [
  | inl is ↦ subst (λ (k : ℕ). IsFree (play board c p) k) (sym is) free
  | inr another ↦ elim (same_colour_or_other s.0 c) [
    | inl own ↦ own_free another (own-was board c p q another (s.1 ∙ ap stone own))
    | inr theirs ↦ their_free another (s.1 ∙ ap stone theirs) (after-play board c p q)
  ]
]
  where
    own_free : q ≢ p → at board q ≡ stone c → IsFree (play board c p) q
    own_free another held =
        let was : IsFree board q = are_free q (c, held) in
        elim (cases_eq was.beside.place p) [
          | inl is ↦ record {
            point = free.point;
            joined = Joined-then (own-joined board c p q was.point empty held was.joined)
                (Joined-then (Joined-back
                (to-own board c p was.point was.point empty
                (Neighbours-sym (subst (λ (k : ℕ). Neighbours was.point k) is was.beside.neighbours))
                (Joined-same was.joined ∙ held)
                (itself (λ e. stone-point c (sym (Joined-same was.joined ∙ held) ∙ e))))) free.joined);
            beside = free.beside;
          }
          | inr away ↦ record {
            point = was.point;
            joined = own-joined board c p q was.point empty held was.joined;
            beside =
                record {
                  place = was.beside.place;
                  neighbours = was.beside.neighbours;
                  holds = empty-after board c p was.beside.place away was.beside.holds;
                };
          }
        ]

    their_free : q ≢ p → at (play board c p) q ≡ stone (other c) → IsAfter board c p q → IsFree (play board c p) q
    their_free another held (taken h e) = absurd (stone-filled (other c) (sym held ∙ e))
    their_free another held (left k e) = by_test (touches? (set board p (stone c)) q Empty)
      where
        by_test : Dec (IsFree (set board p (stone c)) q) → IsFree (play board c p) q
        by_test (no n) = absurd (k (sym e ∙ held, n))
        by_test (yes was) =
            let away : was.beside.place ≢ p =
            λ is. stone-filled c (sym (set-same board p (stone c) empty)
            ∙ ap (λ (j : ℕ). at (set board p (stone c)) j) (sym is) ∙ was.beside.holds) in
            record {
              point = was.point;
              joined =
                  Joined-kept (set board p (stone c)) (play board c p)
                  (λ r path. stays r path (after-play board c p r)) was.joined;
              beside = record {
                place = was.beside.place;
                neighbours = was.beside.neighbours;
                holds =
                    empty-after board c p was.beside.place away
                    (sym (get_or-set_other board p was.beside.place (stone c) Edge away) ∙ was.beside.holds);
              };
            }
          where
            stays : (r : ℕ) → Joined (set board p (stone c)) q r → IsAfter board c p r
                → at (play board c p) r ≡ at (set board p (stone c)) r
            stays r path (taken h _) =
                absurd (k (captured-joined (set board p (stone c)) (other c) r q (Joined-back path) h))
            stays r path (left _ same) = same

-- ---- a board without stones

pub empty-no_stone : (size p : ℕ) → ¬ IsStone (at (empty_board size) p)
empty-no_stone size p s = elim (cases_lt p 702) [
  | inl below ↦ by_case (is_point size p) (sym (at-empty_board size p below) ∙ s.1)
  | inr past ↦ stone-point s.0
      (sym s.1 ∙ get_or_past (empty_board size) p Edge
      (let long = length-empty_board size in omega (arith, long, past)))
]
  where
    by_case : (b : Bool) → cond b Empty Edge ≡ stone s.0 → ⊥
    by_case true e = stone-filled s.0 (sym e)
    by_case false e = stone-point s.0 (sym e)

-- ---- the code's test

pub free-beside : (board : List Cell) (c : Colour) (p : ℕ) → at board p ≡ Empty → AreFree board
    → HasBeside board p Empty → IsFree (play board c p) p
free-beside board c p empty free h = (IsFree-play board c p empty free).1 (inl h)

-- the points of the board are empty
pub empty-on : (size p : ℕ) → size ≤ 25 → IsOn size p → at (empty_board size) p ≡ Empty
empty-on size p few on =
    let in_board : p < 702 = below size p few on in
    at-empty_board size p in_board ∙ ap (λ (b : Bool). cond b Empty Edge) (test-from_IsOn size p on)
  where
    below : (size p : ℕ) → size ≤ 25 → IsOn size p → p < 702
    below size p few on = let top = on.top in omega (arith, few, top)
