-- The bits of a set of columns.
use Rattle.std.proofs.Common.{◌≡◌, ◌≢◌, ℕ, zero, suc, ◌+◌, ◌-◌, ◌*◌, ◌/◌, ◌%◌, ◌^◌, ◌<◌, ◌≤◌, min, max}
use Rattle.std.proofs.Common.{Bool, true, false, cond, bit_and, bit_or, w8, w32}
use Rattle.std.proofs.Common.{refl, sym, ap, ◌∙◌, subst, arith, inl, inr, lt_of_le_of_lt, mod-lt}
use Rattle.std.specs.Prelude.{◌↔◌, ◌⊎◌, IsTrue, List, map, get_or, replicate}
use Rattle.std.specs.Int.{bit_at}
use Rattle.std.proofs.lemmas.Bool.{cases_eq, cases_lt, cases_order, eqb-true, eq-eqb}
use Rattle.std.proofs.lemmas.Nat.{and_le_l, and_le_r, or_lt, one_shl, pow_pos, pow-add, shr-shr, shr_split, mod-pow-add}
use Rattle.std.proofs.lemmas.Nat.Bits.{bit_at-suc, bit_at-zero, bit_at_and, bit_at_or, bit_at_not, bit_at-lt}
use Rattle.std.proofs.lemmas.Nat.Bits.{bit_at-trailing_zeros, bit_at_set_same, bit_at_set_other}
use Rattle.std.proofs.lemmas.Nat.Bits.{bit_at_above, bit_at_cat_low, bit_at_cat_high}
use Rattle.std.proofs.lemmas.Nat.Bits.{bit_at_ones_above, same_from_bits, same_from_bits_below}
use Rattle.std.proofs.lemmas.Simd.{bitmask_splat, bit_mask_l}
use Rattle.std.proofs.Math.ListN.{get_or-map}
use Rattle.std.proofs.Math.Pow.{pow-lt}
use lib.Count.{count_trailing_zeros}
use lib.Dec.{eqb}
use lib.Lanes.{mask_l, top, zip2}
use mir.Val.{bool_byte}
use Rattle.go_board.specs.private.Columns.{Has, AreColumns, AreLanes, IsBesideAny}

-- no bit is both
unequal : (X : Type 0) (b : ℕ) → b ≡ 0 → b ≡ 1 → X
unequal X b is_zero is_one = absurd (omega (arith, is_zero, is_one))

-- a column of a set is one of a row
pub within : (columns k : ℕ) → AreColumns columns → Has columns k → k < 26
within columns k small has = elim (cases_lt k 26) [
  | inl below ↦ below
  | inr past ↦ unequal (k < 26) (bit_at columns k) (bit_at_above columns 26 k small past) has
]

-- ---- lanes

abbrev pub ones : List ℕ → List Bool
ones lanes = map (λ (x : ℕ). eqb x 1) lanes

pub mask-ones : (lanes : List ℕ) → AreLanes lanes
    → mask_l (map (top 7) (zip2 (λ (a b : ℕ). cond (eqb a b) 255 0) lanes (replicate 32 1))) % 2 ^ 64
    ≡ mask_l (ones lanes)
mask-ones lanes are = bitmask_splat w8 eqb lanes 32 1 are.0 (omega arith)

-- no lane is 1 at first
abbrev all_zero : ℕ → List ℕ
all_zero n = replicate n 0

abbrev lane : List ℕ → ℕ → ℕ
lane lanes k = get_or lanes k 0

pub zeros : (n k : ℕ) → lane (all_zero n) k ≡ 0
zeros zero k = refl
zeros (suc n) zero = refl
zeros (suc n) (suc k) = zeros n k

abbrev number : Bool → ℕ
number b = cond b 1 0

is_one : (x : ℕ) (b : Bool) → b ≡ eqb x 1 → number b ≡ 1 → x ≡ 1
is_one x true e h = eqb-true x 1 (sym e)
is_one x false e h = absurd (omega (arith, h))

pub has-ones : (lanes : List ℕ) (k : ℕ) → Has (mask_l (ones lanes)) k ↔ (get_or lanes k 0 ≡ 1)
has-ones lanes k =
    let bit = bit_mask_l (ones lanes) k in
    let same : get_or (ones lanes) k false ≡ eqb (get_or lanes k 0) 1 = get_or-map (λ (x : ℕ). eqb x 1) lanes k 0 in (
      (λ h. is_one (get_or lanes k 0) (get_or (ones lanes) k false) same (sym bit ∙ h)),
      (λ h. bit ∙ ap number (same ∙ eq-eqb (get_or lanes k 0) 1 h)),
    )

-- a number without a bit from the 26th on is below 2 ^ 26
pub small-from : (n : ℕ) → ((k : ℕ) → Has n k → k < 26) → AreColumns n
small-from n low =
    let none : n / 2 ^ 26 ≡ 0 = same_from_bits (n / 2 ^ 26) 0 (λ i.
    ap (λ (x : ℕ). x % 2) (shr-shr n 26 i) ∙ elim (cases_eq (bit_at n (26 + i)) 1) [
      | inl is ↦ let below = low (26 + i) is in absurd (omega (arith, below))
      | inr isnt ↦ let two = bit_at-lt n (26 + i) in omega (arith, two, isnt)
    ] ∙ sym (bit_at-zero i)) in
    omega (arith, none)

pub small-ones : (lanes : List ℕ) → AreLanes lanes → AreColumns (mask_l (ones lanes))
small-ones lanes are = small-from (mask_l (ones lanes)) (λ k h. are.1 k ((has-ones lanes k).0 h))

-- ---- two sets

both : (x y : ℕ) → x < 2 → y < 2 → min x y ≡ 1 → (x ≡ 1) × (y ≡ 1)
both x y p q h = (omega arith, omega arith)

pub has-and : (a b k : ℕ) → Has (bit_and a b) k ↔ (Has a k × Has b k)
has-and a b k = (
  (λ h. both (bit_at a k) (bit_at b k) (bit_at-lt a k) (bit_at-lt b k) (sym (bit_at_and a b k) ∙ h)),
  (λ h. bit_at_and a b k ∙ ap (λ (n : ℕ). min n (bit_at b k)) h.0 ∙ ap (min 1) h.1),
)

one_of : (x y : ℕ) → x < 2 → y < 2 → max x y ≡ 1 → (x ≡ 1) ⊎ (y ≡ 1)
one_of x y p q h = elim (cases_eq x 1) [ inl is ↦ inl is | inr isnt ↦ inr (omega (arith, p, q, h, isnt)) ]

left_of : (x y : ℕ) → y < 2 → x ≡ 1 → max x y ≡ 1
left_of x y q h = omega arith

right_of : (x y : ℕ) → x < 2 → y ≡ 1 → max x y ≡ 1
right_of x y p h = omega arith

pub has-or : (a b k : ℕ) → Has (bit_or a b) k ↔ (Has a k ⊎ Has b k)
has-or a b k = (
  (λ h. one_of (bit_at a k) (bit_at b k) (bit_at-lt a k) (bit_at-lt b k) (sym (bit_at_or a b k) ∙ h)),
  (λ h. bit_at_or a b k ∙ elim h [
    | inl l ↦ left_of (bit_at a k) (bit_at b k) (bit_at-lt b k) l
    | inr r ↦ right_of (bit_at a k) (bit_at b k) (bit_at-lt a k) r
  ]),
)

pub has-none : (columns k : ℕ) → columns ≡ 0 → ¬ Has columns k
has-none columns k none has =
    unequal ⊥ (bit_at columns k) (ap (λ (n : ℕ). bit_at n k) none ∙ bit_at-zero k) has

flipped : (x y : ℕ) → x < 2 → y ≡ 1 - x → y ≡ 1 → x ≡ 1 → ⊥
flipped x y p is one h = omega arith

flipped-back : (x y : ℕ) → x < 2 → y ≡ 1 - x → (x ≡ 1 → ⊥) → y ≡ 1
flipped-back x y p is isnt = omega arith

pub has-without : (columns others k : ℕ) → AreColumns columns → AreColumns others
    → Has (bit_and columns (4294967295 - others)) k ↔ (Has columns k × ¬ Has others k)
has-without columns others k small others_small =
    let at_k = λ (low : k < 26). bit_at_not w32 others k (omega (arith, others_small)) (omega (arith, low)) in (
      (λ h.
          let two = (has-and columns (4294967295 - others) k).0 h in
          let low = within columns k small two.0 in
          (two.0, flipped (bit_at others k) _ (bit_at-lt others k) (at_k low) two.1)),
      (λ h.
          let low = within columns k small h.0 in
          (has-and columns (4294967295 - others) k).1
          (h.0, flipped-back (bit_at others k) _ (bit_at-lt others k) (at_k low) h.1)),
    )

-- ---- one column

abbrev pub with_one : ℕ → Bool → ℕ → ℕ
with_one columns wanted k = bit_or columns (bool_byte wanted * 2 ^ k % 4294967296)

pub has-with_one : (columns : ℕ) (wanted : Bool) (one k : ℕ) → AreColumns columns → one < 26
    → Has (with_one columns wanted one) k ↔ (Has columns k ⊎ (IsTrue wanted × (k ≡ one)))
has-with_one columns true one k small below = (
  (λ h. elim (cases_eq k one) [
    | inl same ↦ inr (refl, same)
    | inr other ↦ inl (sym (bit_at_set_other w32 columns one (omega (arith, below)) k other) ∙ h)
  ]),
  (λ h. elim (cases_eq k one) [
    | inl same ↦
        subst (λ (q : ℕ). Has (with_one columns true one) q) (sym same)
        (bit_at_set_same w32 columns one (omega (arith, below)))
    | inr other ↦ elim h [
      | inl old ↦ bit_at_set_other w32 columns one (omega (arith, below)) k other ∙ old
      | inr it ↦ absurd (other it.1)
    ]
  ]),
)
has-with_one columns false one k small below =
    let nothing : 0 * 2 ^ one % 4294967296 ≡ 0 = omega arith in (
      (λ h. elim ((has-or columns (0 * 2 ^ one % 4294967296) k).0 h) [
        | inl old ↦ inl old
        | inr new ↦ absurd (has-none (0 * 2 ^ one % 4294967296) k nothing new)
      ]),
      (λ h. elim h [
        | inl old ↦ (has-or columns (0 * 2 ^ one % 4294967296) k).1 (inl old)
        | inr it ↦ let wanted = it.0 in cc
      ]),
    )

pub small-with_one : (columns : ℕ) (wanted : Bool) (one : ℕ) → AreColumns columns → one < 26
    → AreColumns (with_one columns wanted one)
small-with_one columns true one small below =
    let in_word : 1 * 2 ^ one % 4294967296 ≡ 2 ^ one = one_shl one 32 (omega (arith, below)) in
    or_lt 26 columns (1 * 2 ^ one % 4294967296) small (subst (λ (n : ℕ). n < 2 ^ 26) (sym in_word) (pow-lt below))
small-with_one columns false one small below = or_lt 26 columns (0 * 2 ^ one % 4294967296) small (omega arith)

-- ---- the first column

abbrev pub first_of : ℕ → ℕ
first_of columns = count_trailing_zeros 32 columns

pub has-first : (columns : ℕ) → AreColumns columns → columns ≢ 0 → Has columns (first_of columns)
has-first columns small some =
    (bit_at-trailing_zeros w32 columns (omega (arith, some)) (omega (arith, small))).1

pub first-least : (columns k : ℕ) → AreColumns columns → columns ≢ 0 → Has columns k → first_of columns ≤ k
first-least columns k small some has = elim (cases_lt k (first_of columns)) [
  | inl before ↦
      unequal (first_of columns ≤ k) (bit_at columns k)
      ((bit_at-trailing_zeros w32 columns (omega (arith, some)) (omega (arith, small))).2 k before) has
  | inr not_before ↦ not_before
]

-- the bits below the lowest one that is set are 0
below-first : (n t : ℕ) → ((i : ℕ) → i < t → bit_at n i ≡ 0) → n % 2 ^ t ≡ 0
below-first n t zeros = same_from_bits_below t (n % 2 ^ t) 0 (mod-lt n (pow_pos t)) (pow_pos t) (λ i low.
    sym (bit_at_cat_low (n / 2 ^ t) t (n % 2 ^ t) i low) ∙ ap (λ (m : ℕ). bit_at m i) (shr_split n t) ∙ zeros i low
    ∙ sym (bit_at-zero i))

-- a number is what is above its lowest bit, and that bit
split-first : (n t : ℕ) → bit_at n t ≡ 1 → ((i : ℕ) → i < t → bit_at n i ≡ 0)
    → n ≡ n / 2 ^ (1 + t) * 2 ^ (1 + t) + 2 ^ t
split-first n t one zeros =
    let low : n % 2 ^ (1 + t) ≡ 2 ^ t =
    mod-pow-add n 1 t ∙ ap (λ (m : ℕ). m * 2 ^ t + n % 2 ^ t) one
    ∙ ap (λ (m : ℕ). 1 * 2 ^ t + m) (below-first n t zeros)
    ∙ omega arith in
    sym (shr_split n (1 + t)) ∙ ap (λ (m : ℕ). n / 2 ^ (1 + t) * 2 ^ (1 + t) + m) low

abbrev pub without_first : ℕ → ℕ
without_first columns = bit_and columns (columns - 1)

-- one less than a number has the bits above its lowest one, and not that one
above-first : (n m a t k : ℕ) → n ≡ a * 2 ^ (1 + t) + 2 ^ t → m ≡ n - 1 → t < k → bit_at m k ≡ bit_at n k
above-first n m a t k is less above =
    let double : 2 ^ (1 + t) ≡ 2 * 2 ^ t = pow-add 2 1 t in
    let some = pow_pos t in
    let m_is : m ≡ a * 2 ^ (1 + t) + (2 ^ t - 1) = omega (arith, is, less, some) in
    let far : 1 + t ≤ k = omega (arith, above) in
    ap (λ (x : ℕ). bit_at x k) m_is ∙ bit_at_cat_high a (1 + t) (2 ^ t - 1) k (omega (arith, double, some)) far
    ∙ sym (ap (λ (x : ℕ). bit_at x k) is ∙ bit_at_cat_high a (1 + t) (2 ^ t) k (omega (arith, double, some)) far)

at-first : (n m a t : ℕ) → n ≡ a * 2 ^ (1 + t) + 2 ^ t → m ≡ n - 1 → bit_at m t ≡ 0
at-first n m a t is less =
    let some = pow_pos t in
    let m_is : m ≡ a * 2 ^ (1 + t) + (2 ^ t - 1) = omega (arith, is, less, some) in
    ap (λ (x : ℕ). bit_at x t) m_is ∙ bit_at_cat_low a (1 + t) (2 ^ t - 1) t (omega arith)
    ∙ bit_at_ones_above t t (omega arith)

pub has-without_first : (columns k : ℕ) → AreColumns columns → columns ≢ 0
    → Has (without_first columns) k ↔ (Has columns k × (k ≢ first_of columns))
has-without_first columns k small some =
    let first = bit_at-trailing_zeros w32 columns (omega (arith, some)) (omega (arith, small)) in
    let t = first_of columns in
    let a = columns / 2 ^ (1 + t) in
    let is = split-first columns t first.1 first.2 in (
      (λ h.
          let two = (has-and columns (columns - 1) k).0 h in (
            two.0,
            λ same.
                unequal ⊥ (bit_at (columns - 1) k)
                (ap (bit_at (columns - 1)) same ∙ at-first columns (columns - 1) a t is refl) two.1,
          )),
      (λ h. elim (cases_order k t) [
        | inl same ↦ absurd (h.1 same)
        | inr (inl before) ↦ unequal (Has (without_first columns) k) (bit_at columns k) (first.2 k before) h.0
        | inr (inr past) ↦
            (has-and columns (columns - 1) k).1
            (h.0, above-first columns (columns - 1) a t k is refl past ∙ h.0)
      ]),
    )

pub small-without_first : (columns : ℕ) → AreColumns columns → AreColumns (without_first columns)
small-without_first columns small = lt_of_le_of_lt (and_le_l columns (columns - 1)) small

pub less-without_first : (columns : ℕ) → columns ≢ 0 → without_first columns < columns
less-without_first columns some =
    let least = and_le_r columns (columns - 1) in
    omega (arith, least, some)

-- ---- neighbours

up : (columns k : ℕ) → AreColumns columns → Has (columns * 2 % 4294967296) k ↔ ((j : ℕ) × (k ≡ j + 1) × Has columns j)
up columns k small =
    let whole : columns * 2 % 4294967296 ≡ columns * 2 ^ 1 + 0 = omega (arith, small) in
    let low = bit_at_cat_low columns 1 0 0 (omega arith) in
    let high = λ (i : ℕ) (past : 1 ≤ i). bit_at_cat_high columns 1 0 i (omega arith) past in (
      (λ h. elim (cases_lt k 1) [
        | inl first ↦
            let first_is : k ≡ 0 = omega (arith, first) in
            unequal ((j : ℕ) × (k ≡ j + 1) × Has columns j) (bit_at (columns * 2 % 4294967296) k)
            (ap (bit_at (columns * 2 % 4294967296)) first_is ∙ ap (λ (n : ℕ). bit_at n 0) whole ∙ low ∙ bit_at-zero 0) h
        | inr past ↦
            (k - 1, omega (arith, past), sym (high k past) ∙ sym (ap (λ (n : ℕ). bit_at n k) whole) ∙ h)
      ]),
      (λ h.
          let next = h.1 in
          ap (λ (n : ℕ). bit_at n k) whole ∙ high k (omega (arith, next))
          ∙ ap (bit_at columns) (omega (arith, next)) ∙ h.2),
    )

down : (columns k : ℕ) → Has (columns / 2) k ↔ Has columns (k + 1)
down columns k =
    let next : k + 1 ≡ suc k = omega arith in (
      (λ h. ap (bit_at columns) next ∙ bit_at-suc columns k ∙ h),
      (λ h. sym (bit_at-suc columns k) ∙ sym (ap (bit_at columns) next) ∙ h),
    )

abbrev pub beside_any : ℕ → ℕ → ℕ → ℕ
beside_any columns below above =
    bit_and columns (bit_or (bit_or (bit_or (columns * 2 % 4294967296) (columns / 2)) below) above)

pub has-beside_any : (columns below above k : ℕ) → AreColumns columns
    → Has (beside_any columns below above) k ↔ (Has columns k × IsBesideAny columns below above k)
has-beside_any columns below above k small =
    let left = columns * 2 % 4294967296 in
    let right = columns / 2 in (
      (λ h.
          let two = (has-and columns (bit_or (bit_or (bit_or left right) below) above) k).0 h in (
            two.0,
            elim ((has-or (bit_or (bit_or left right) below) above k).0 two.1) [
              | inl nearer ↦ elim ((has-or (bit_or left right) below k).0 nearer) [
                | inl in_row ↦ elim ((has-or left right k).0 in_row) [
                  | inl l ↦ inl ((up columns k small).0 l)
                  | inr r ↦ inr (inl ((down columns k).0 r))
                ]
                | inr b ↦ inr (inr (inl b))
              ]
              | inr a ↦ inr (inr (inr a))
            ],
          )),
      (λ h. (has-and columns (bit_or (bit_or (bit_or left right) below) above) k).1 (
        h.0,
        elim h.1 [
          | inl l ↦
              (has-or (bit_or (bit_or left right) below) above k).1 (inl ((has-or (bit_or left right) below k).1
              (inl ((has-or left right k).1 (inl ((up columns k small).1 l))))))
          | inr (inl r) ↦
              (has-or (bit_or (bit_or left right) below) above k).1 (inl ((has-or (bit_or left right) below k).1
              (inl ((has-or left right k).1 (inr ((down columns k).1 r))))))
          | inr (inr (inl b)) ↦
              (has-or (bit_or (bit_or left right) below) above k).1
              (inl ((has-or (bit_or left right) below k).1 (inr b)))
          | inr (inr (inr a)) ↦ (has-or (bit_or (bit_or left right) below) above k).1 (inr a)
        ],
      )),
    )
