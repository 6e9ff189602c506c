-- The front of a text that passes a test, and what follows it.
use Rattle.std.proofs.Common.{◌≡◌, ℕ, suc, ◌+◌, List, [], ◌∷◌, ◌++◌, take, drop, Bool, true, false, refl, sym, ◌∙◌, ap}
use Rattle.std.proofs.Common.{arith, rules, inl, inr}
use Rattle.std.specs.List.{list_all, prefix_len}
use Rattle.std.specs.Char.{is_ascii_digit}
use Rattle.std.specs.Str.Parse.{digits_value}
use Rattle.std.proofs.lemmas.Bool.{cases_Bool, and_parts}
use Rattle.std.proofs.lemmas.List.{take-append-drop, length-drop}
use Rattle.std.proofs.lemmas.Str.Parse.{IsNumeralModel, numerals_by_value}
use Rattle.go_base.specs.Text.{front_while, skip_while}

-- both by the number of elements that pass
pub take_prefix_len : {X : Type 0} (p : X → Bool) (xs : List X) → take (prefix_len p xs) xs ≡ front_while p xs
take_prefix_len p [] = refl
take_prefix_len p (x ∷ xs) = elim (cases_Bool (p x)) [
  | inl e ↦
      let more : 1 + prefix_len p xs ≡ suc (prefix_len p xs) = omega arith in
      rw (e, more) (ap (λ t. x ∷ t) (take_prefix_len p xs))
  | inr e ↦ rw e refl
]

pub drop_prefix_len : {X : Type 0} (p : X → Bool) (xs : List X) → drop (prefix_len p xs) xs ≡ skip_while p xs
drop_prefix_len p [] = refl
drop_prefix_len p (x ∷ xs) = elim (cases_Bool (p x)) [
  | inl e ↦
      let more : 1 + prefix_len p xs ≡ suc (prefix_len p xs) = omega arith in
      rw (e, more) (drop_prefix_len p xs)
  | inr e ↦ rw e refl
]

-- they are the text
pub front_while-skip_while : {X : Type 0} (p : X → Bool) (xs : List X) → xs ≡ front_while p xs ++ skip_while p xs
front_while-skip_while p [] = refl
front_while-skip_while p (x ∷ xs) = elim (cases_Bool (p x)) [
  | inl e ↦ rw e (ap (λ t. x ∷ t) (front_while-skip_while p xs))
  | inr e ↦ rw e refl
]

pub list_all-front_while : {X : Type 0} (p : X → Bool) (xs : List X) → list_all p (front_while p xs) ≡ true
list_all-front_while p [] = refl
list_all-front_while p (x ∷ xs) = elim (cases_Bool (p x)) [
  | inl e ↦ rw (e, e) (list_all-front_while p xs)
  | inr e ↦ rw e refl
]

-- with elements before them that pass
pub front_while-append : {X : Type 0} (p : X → Bool) (xs ys : List X) → list_all p xs ≡ true
    → front_while p (xs ++ ys) ≡ xs ++ front_while p ys
front_while-append p [] ys all = refl
front_while-append p (x ∷ xs) ys all =
    let parts = and_parts (p x) (list_all p xs) all in
    rw parts.0 (ap (λ t. x ∷ t) (front_while-append p xs ys parts.1))

pub skip_while-append : {X : Type 0} (p : X → Bool) (xs ys : List X) → list_all p xs ≡ true
    → skip_while p (xs ++ ys) ≡ skip_while p ys
skip_while-append p [] ys all = refl
skip_while-append p (x ∷ xs) ys all =
    let parts = and_parts (p x) (list_all p xs) all in
    rw parts.0 (skip_while-append p xs ys parts.1)

-- with more after what is left
pub skip_while-none : {X : Type 0} (p : X → Bool) (xs ys : List X) → skip_while p xs ≡ []
    → skip_while p (xs ++ ys) ≡ skip_while p ys
skip_while-none p [] ys e = refl
skip_while-none p (x ∷ xs) ys e = elim (cases_Bool (p x)) [
  | inl t ↦ let none : skip_while p xs ≡ [] = rw t at e in rw t (skip_while-none p xs ys none)
  | inr t ↦ let some : x ∷ xs ≡ [] = rw t at e in absurd (cc)
]

pub skip_while-some : {X : Type 0} (p : X → Bool) (xs ys : List X) (v : X) (vs : List X) → skip_while p xs ≡ v ∷ vs
    → skip_while p (xs ++ ys) ≡ v ∷ (vs ++ ys)
skip_while-some p [] ys v vs e = absurd (cc)
skip_while-some p (x ∷ xs) ys v vs e = elim (cases_Bool (p x)) [
  | inl t ↦ let some : skip_while p xs ≡ v ∷ vs = rw t at e in rw t (skip_while-some p xs ys v vs some)
  | inr t ↦ let same : x ∷ xs ≡ v ∷ vs = rw t at e in rw t (ap (λ l. l ++ ys) same)
]

-- what is left begins with an element that doesn't pass
pub skip_while-first : {X : Type 0} (p : X → Bool) (xs more : List X) (x : X) → skip_while p xs ≡ x ∷ more
    → p x ≡ false
skip_while-first p [] more x e = absurd (cc)
skip_while-first p (y ∷ xs) more x e = elim (cases_Bool (p y)) [
  | inl t ↦ skip_while-first p xs more x (rw t at e)
  | inr t ↦ let same : y ∷ xs ≡ x ∷ more = rw t at e in let first : y ≡ x = cc in ap p (sym first) ∙ t
]

-- the texts of digits, by the test
pub digits_model : IsNumeralModel (λ ds. list_all is_ascii_digit ds ≡ true) (digits_value 10)
digits_model = numerals_by_value _ (search rules)
