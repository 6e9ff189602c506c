-- Pseudo-liberties where ids become one.
use Rattle.std.proofs.Common.{◌≡◌, ℕ, ◌+◌, ◌-◌, ◌<◌, ◌≤◌, List, length, refl, sym, ◌∙◌, ap, subst, arith, inl, inr}
use Rattle.std.proofs.Common.{Bool, true, false, cond, get_or-set_other, get_or-set_same}
use Rattle.std.specs.Prelude.{◌≢◌, ◌==◌, ◌&&◌, map}
use Rattle.std.proofs.lemmas.List.{get_or-map}
use Rattle.std.proofs.Math.ListN.{set, length-set}
use Rattle.go_board.specs.Board.{at}
use Rattle.go_board.specs.private.ChainId.{id_of, is_empty, is_stone, empty_beside, has_id, share, pseudo_liberties}
use Rattle.go_board.specs.private.ChainId.{ArePseudoLiberties, count_at}
use Rattle.go_board.specs.private.Steps.{rename}
use Rattle.go_board.specs.declared.board.Cell.{Cell}
use Rattle.go_board.proofs.Sums.{total-add, total-same, total-none, total-at_most}
use Rattle.go_board.proofs.liberties.FillingPoints.{pseudo_liberties-total}
use Rattle.std.proofs.lemmas.Bool.{eq-eqb, ne_eqb, cases_eq}

pub rename-same : (to from id : ℕ) → id ≡ from → rename to from id ≡ to
rename-same to from id e = ap (λ (b : Bool). cond b to id) (eq-eqb id from e)

pub rename-other : (to from id : ℕ) → id ≢ from → rename to from id ≡ id
rename-other to from id e = ap (λ (b : Bool). cond b to id) (ne_eqb id from e)

-- a share, by whether there is a stone, its id and its empty neighbours
part : Bool → ℕ → ℕ → ℕ → ℕ
part s n l k = cond (s && (l == k)) n 0

part-same : (s : Bool) (n l k : ℕ) → l ≡ k → part s n l k ≡ cond s n 0
unfolding part
part-same true n l k e = ap (λ (b : Bool). cond b n 0) (eq-eqb l k e)
part-same false n l k e = refl

part-other : (s : Bool) (n l k : ℕ) → l ≢ k → part s n l k ≡ 0
unfolding part
part-other true n l k e = ap (λ (b : Bool). cond b n 0) (ne_eqb l k e)
part-other false n l k e = refl

-- the id that stays gets both shares, the one that goes none, and the others have theirs
part-to : (s : Bool) (n l to from : ℕ) → to ≢ from → part s n (rename to from l) to ≡ part s n l to + part s n l from
part-to s n l to from apart = elim (cases_eq l from) [
  | inl e ↦
      let a = part-same s n (rename to from l) to (rename-same to from l e) in
      let b = part-other s n l to (λ (k : l ≡ to). apart (sym k ∙ e)) in
      let d = part-same s n l from e in
      omega (arith, a, b, d)
  | inr o ↦
      let a = ap (λ (m : ℕ). part s n m to) (rename-other to from l o) in
      let b = part-other s n l from o in
      omega (arith, a, b)
]

part-from : (s : Bool) (n l to from : ℕ) → to ≢ from → part s n (rename to from l) from ≡ 0
part-from s n l to from apart = part-other s n (rename to from l) from (λ e. elim (cases_eq l from) [
  | inl is ↦ apart (sym (rename-same to from l is) ∙ e)
  | inr o ↦ o (sym (rename-other to from l o) ∙ e)
])

part-rest : (s : Bool) (n l to from k : ℕ) → k ≢ to → k ≢ from → part s n (rename to from l) k ≡ part s n l k
part-rest s n l to from k not_to not_from = elim (cases_eq l from) [
  | inl e ↦
      let a = part-other s n (rename to from l) k (λ h. not_to (sym h ∙ rename-same to from l e)) in
      let b = part-other s n l k (λ h. not_from (sym h ∙ e)) in
      omega (arith, a, b)
  | inr o ↦ ap (λ (m : ℕ). part s n m k) (rename-other to from l o)
]

-- the ids are those of before, renamed
abbrev AreRenamed : List ℕ → List ℕ → ℕ → ℕ → Type 0
AreRenamed ids new to from = (p : ℕ) → p < 702 → id_of new p ≡ rename to from (id_of ids p)

pseudo_liberties-to : (board : List Cell) (ids new : List ℕ) (to from : ℕ) → to ≢ from → AreRenamed ids new to from
    → pseudo_liberties board new to ≡ pseudo_liberties board ids to + pseudo_liberties board ids from
unfolding part
pseudo_liberties-to board ids new to from apart are =
    let sums = total-add (share board ids to) (share board ids from) (share board new to) 702 (λ p below.
    ap (λ (l : ℕ). part (is_stone (at board p)) (empty_beside board p) l to) (are p below)
    ∙ part-to (is_stone (at board p)) (empty_beside board p) (id_of ids p) to from apart) in
    omega (
      arith,
      sums,
      pseudo_liberties-total board new to,
      pseudo_liberties-total board ids to,
      pseudo_liberties-total board ids from,
    )

pseudo_liberties-from : (board : List Cell) (ids new : List ℕ) (to from : ℕ) → to ≢ from → AreRenamed ids new to from
    → pseudo_liberties board new from ≡ 0
unfolding part
pseudo_liberties-from board ids new to from apart are =
    pseudo_liberties-total board new from ∙ total-none (share board new from) 702 (λ p below.
    ap (λ (l : ℕ). part (is_stone (at board p)) (empty_beside board p) l from) (are p below)
    ∙ part-from (is_stone (at board p)) (empty_beside board p) (id_of ids p) to from apart)

pseudo_liberties-rest : (board : List Cell) (ids new : List ℕ) (to from k : ℕ) → k ≢ to → k ≢ from
    → AreRenamed ids new to from → pseudo_liberties board new k ≡ pseudo_liberties board ids k
unfolding part
pseudo_liberties-rest board ids new to from k not_to not_from are =
    pseudo_liberties-total board new k ∙ total-same (share board new k) (share board ids k) 702 (λ p below.
    ap (λ (l : ℕ). part (is_stone (at board p)) (empty_beside board p) l k) (are p below)
    ∙ part-rest (is_stone (at board p)) (empty_beside board p) (id_of ids p) to from k not_to not_from)
    ∙ sym (pseudo_liberties-total board ids k)

map-rename : (ids : List ℕ) (to from : ℕ) → length ids ≡ 702
    → AreRenamed ids (map (rename to from) ids) to from
map-rename ids to from long p below = get_or-map (rename to from) ids p 0 0 (omega (arith, long, below))

-- one id becomes another, and its pseudo-liberties go over
pub ArePseudoLiberties-rename : (board : List Cell) (ids counts new : List ℕ) (to from : ℕ) → to < 702 → from < 702
    → to ≢ from → length ids ≡ 702
    → new ≡ set (set counts to (count_at counts to + count_at counts from)) from 0 → ArePseudoLiberties board ids counts
    → ArePseudoLiberties board (map (rename to from) ids) new
ArePseudoLiberties-rename board ids counts new to from t f apart long is a =
    subst (ArePseudoLiberties board (map (rename to from) ids)) (sym is) (record {
      length_is =
          length-set (set counts to (count_at counts to + count_at counts from)) from 0
          ∙ length-set counts to (count_at counts to + count_at counts from) ∙ a.length_is;
      each = λ k below. elim (cases_eq k from) [
        | inl e ↦
            ap (count_at (set first from 0)) e ∙ get_or-set_same first from 0 0 (in_first f)
            ∙ sym (ap (pseudo_liberties board (map (rename to from) ids)) e
            ∙ pseudo_liberties-from board ids (map (rename to from) ids) to from apart renamed_all)
        | inr not_from ↦ get_or-set_other first from k 0 0 not_from ∙ elim (cases_eq k to) [
          | inl e ↦
              ap (count_at first) e
              ∙ get_or-set_same counts to (count_at counts to + count_at counts from) 0 (in_counts t)
              ∙ (let x = a.each to t in let y = a.each from f in sum_same x y)
              ∙ sym (ap (pseudo_liberties board (map (rename to from) ids)) e
              ∙ pseudo_liberties-to board ids (map (rename to from) ids) to from apart renamed_all)
          | inr not_to ↦
              get_or-set_other counts to k (count_at counts to + count_at counts from) 0 not_to ∙ a.each k below
              ∙ sym (pseudo_liberties-rest board ids (map (rename to from) ids) to from k not_to not_from renamed_all)
        ]
      ];
    })
  where
    first : List ℕ
    first = set counts to (count_at counts to + count_at counts from)

    in_counts : {i : ℕ} → i < 702 → i < length counts
    in_counts h = omega (arith, h, a.length_is)

    in_first : {i : ℕ} → i < 702 → i < length (set counts to (count_at counts to + count_at counts from))
    in_first h = omega (arith, h, a.length_is, length-set counts to (count_at counts to + count_at counts from))

    renamed_all : AreRenamed ids (map (rename to from) ids) to from
    renamed_all = map-rename ids to from long

    sum_same : {w x y z : ℕ} → w ≡ x → y ≡ z → w + y ≡ x + z
    sum_same e e' = omega (arith, e, e')

-- a place has at most four empty neighbours
pub share-four : (board : List Cell) (ids : List ℕ) (k p : ℕ) → share board ids k p ≤ 4
share-four board ids k p = at_most (has_id board ids k p) (empty_beside board p) four
  where
    at_most : (b : Bool) (n : ℕ) → n ≤ 4 → cond b n 0 ≤ 4
    at_most true n h = h
    at_most false n h = omega arith

    one : (b : Bool) → cond b 1 0 ≤ 1
    one true = omega arith
    one false = omega arith

    four : empty_beside board p ≤ 4
    four =
        let a = one (is_empty (at board (p + 1))) in
        let b = one (is_empty (at board (p - 1))) in
        let c = one (is_empty (at board (p + 26))) in
        let d = one (is_empty (at board (p - 26))) in
        omega (arith, a, b, c, d)

-- no count is large
pub pseudo_liberties-few : (board : List Cell) (ids : List ℕ) (k : ℕ) → pseudo_liberties board ids k ≤ 2808
pseudo_liberties-few board ids k =
    let most = total-at_most (share board ids k) 4 702 (λ p. share-four board ids k p) in
    omega (arith, most, pseudo_liberties-total board ids k)
