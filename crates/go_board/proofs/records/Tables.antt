-- The numbers of points, and lists with a value for each number.
use Rattle.std.proofs.Common.{◌≡◌, ℕ, zero, suc, ◌+◌, ◌-◌, ◌*◌, ◌/◌, ◌%◌, ◌<◌, List, [], ◌∷◌, ◌++◌, length}
use Rattle.std.proofs.Common.{refl, sym, ◌∙◌, ap, subst, arith, inl, inr}
use Rattle.std.specs.Prelude.{◌⊎◌, ◌↔◌, Some, slice_get}
use Rattle.std.proofs.lemmas.List.{length_push}
use Rattle.std.proofs.lemmas.Nat.{mul-add-lt, same_from_place, div_below, mod_below, div-add-mod'}
use Rattle.go_base.specs.Point.{column_of, row_of}
use Rattle.go_base.specs.Size.{IsSize}
use Rattle.go_board.specs.Index.{IsIndex}

-- ---- numbers

pub index-below : (size p index : ℕ) → IsIndex size p index → index < size * size
index-below size p index is =
    let on = is.on_board in
    let left = on.left in
    let right = on.right in
    let bottom = on.bottom in
    let top = on.top in
    subst (λ (i : ℕ). i < size * size) (sym is.index_is)
    (mul-add-lt (row_of p - 1) size (column_of p - 1) size (omega (arith, bottom, top)) (omega (arith, left, right)))

pub index-one : (size p q index : ℕ) → IsIndex size p index → IsIndex size q index → p ≡ q
index-one size p q index is other =
    let on = is.on_board in
    let left = on.left in
    let right = on.right in
    let bottom = on.bottom in
    let there = other.on_board in
    let next_left = there.left in
    let next_right = there.right in
    let next_bottom = there.bottom in
    let both = same_from_place (row_of p - 1) (column_of p - 1) (row_of q - 1) (column_of q - 1) size
    (omega (arith, left, right)) (omega (arith, next_left, next_right)) (sym is.index_is ∙ other.index_is) in
    let rows = both.0 in
    let columns = both.1 in
    omega (arith, left, bottom, next_left, next_bottom, rows, columns)

-- the place in a row and a column of a board
row-column : (a b : ℕ) → b < 25
    → (column_of (26 * (a + 1) + (b + 1)) ≡ b + 1) × (row_of (26 * (a + 1) + (b + 1)) ≡ a + 1)
row-column a b few = (omega (arith, few), omega (arith, few))

-- the place that a number has
pub index-place : (size index p : ℕ) → IsSize size → index < size * size
    → p ≡ 26 * (index / size + 1) + (index % size + 1) → IsIndex size p index
index-place size index p is below place_is =
    let least = is.least in
    let most = is.most in
    let small = mod_below index size (omega (arith, least)) in
    let low = div_below index size size (omega (arith, least)) below in
    let both = row-column (index / size) (index % size) (omega (arith, small, most)) in
    subst (λ (q : ℕ). IsIndex size q index) (sym place_is)
    (numbered (26 * (index / size + 1) + (index % size + 1)) (index / size) (index % size) both.0 both.1 small low
    (sym (div-add-mod' index size)))
  where
    numbered : (q a b : ℕ) → column_of q ≡ b + 1 → row_of q ≡ a + 1 → b < size → a < size → index ≡ a * size + b
        → IsIndex size q index
    numbered q a b column row small low is = record {
      on_board = record {
        left = omega (arith, column);
        right = omega (arith, column, small);
        bottom = omega (arith, row);
        top = omega (arith, row, low);
      };
      index_is =
          let here : b ≡ column_of q - 1 = omega (arith, column) in
          let there : a ≡ row_of q - 1 = omega (arith, row) in
          is ∙ ap (λ (k : ℕ). k * size + b) there ∙ ap (λ (k : ℕ). (row_of q - 1) * size + k) here;
    }

-- ---- a list with a value for each number

-- it has a value for each of the first n numbers
pub record IsTableBelow {A : Type 0} (P : ℕ → A → Type 0) (size n : ℕ) (values : List A) : Type 0 where
  pub long : length values ≡ n
  pub each : (p index : ℕ) (value : A) → IsIndex size p index → slice_get values index ≡ Some value → P p value

-- what is found in a list with one value more was there before, or is that value
found-push : {A : Type 0} (values : List A) (last value : A) (k : ℕ) → slice_get (values ++ last ∷ []) k ≡ Some value
    → (slice_get values k ≡ Some value) ⊎ ((k ≡ length values) × (value ≡ last))
found-push [] last value zero e = inr (refl, cc)
found-push [] last value (suc k) e = cc
found-push (x ∷ values) last value zero e = inl e
found-push (x ∷ values) last value (suc k) e = elim (found-push values last value k e) [
  | inl old ↦ inl old
  | inr new ↦ let h = new.0 in inr (omega arith, new.1)
]

pub table-more : {A : Type 0} (P : ℕ → A → Type 0) (size n p : ℕ) (values new : List A) (value : A)
    → IsTableBelow P size n values → IsIndex size p n → P p value → new ≡ values ++ value ∷ []
    → IsTableBelow P size (n + 1) new
table-more {A} P size n p values new value table is here pushed =
    subst (IsTableBelow P size (n + 1)) (sym pushed) (record {
      long = let long = table.long in omega (arith, long, length_push values value);
      each = λ q index other number found. elim (found-push values value other index found) [
        | inl old ↦ table.each q index other number old
        | inr last ↦
            let same : p ≡ q =
            index-one size p q index
            (subst (λ (k : ℕ). IsIndex size p k) (sym (last.0 ∙ table.long)) is) number in
            subst (λ (r : ℕ). P r other) same (subst (λ (v : A). P p v) (sym last.1) here)
      ];
    })

-- ---- the law of the numbers

pub numbers-those : (size index : ℕ) → IsSize size → (index < size * size) ↔ ((p : ℕ) × IsIndex size p index)
numbers-those size index is = (
  (λ below. (
    26 * (index / size + 1) + (index % size + 1),
    index-place size index (26 * (index / size + 1) + (index % size + 1)) is below refl,
  )),
  (λ h. index-below size h.0 index h.1),
)
