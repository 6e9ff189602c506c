-- Facts on lists that std lacks.
use Rattle.std.proofs.Common.{◌≡◌, List, [], ◌∷◌, ◌++◌, Bool, true, false, cond, refl, sym, ◌∙◌, ap, inl, inr}
use Rattle.std.specs.List.{AllByRecursion, slice_split, onto_first}
use Rattle.std.proofs.lemmas.Bool.{cases_Bool}
use Rattle.std.proofs.lemmas.List.Splits.{slice_split-cons_yes, slice_split-cons_no}

-- P of each element of both
pub AllByRecursion-append : {X : Type 0} (P : X → Type 0) (xs ys : List X) → AllByRecursion P xs → AllByRecursion P ys
    → AllByRecursion P (xs ++ ys)
AllByRecursion-append P [] ys a b = b
AllByRecursion-append P (x ∷ xs) ys a b = (a.0, AllByRecursion-append P xs ys a.1 b)

-- Q of each element, where it follows from P
pub AllByRecursion-implied : {X : Type 0} (P Q : X → Type 0) (xs : List X) → ((x : X) → P x → Q x)
    → AllByRecursion P xs → AllByRecursion Q xs
AllByRecursion-implied P Q [] implied all = tt
AllByRecursion-implied P Q (x ∷ xs) implied all =
    (implied x all.0, AllByRecursion-implied P Q xs implied all.1)

-- a list that isn't empty by its last element
pub last_of : {X : Type 0} (x : X) (xs : List X) → (front : List X) × (last : X) × (x ∷ xs ≡ front ++ last ∷ [])
last_of x [] = ([], x, refl)
last_of x (y ∷ ys) = let rest = last_of y ys in (x ∷ rest.0, rest.1, ap (λ t. x ∷ t) rest.2)

-- the parts of a list are at least one
pub split_parts : {X : Type 0} (p : X → Bool) (xs : List X)
    → (w : List X) × (ws : List (List X)) × (slice_split p xs ≡ w ∷ ws)
split_parts p [] = ([], [], refl)
split_parts p (x ∷ xs) =
    let rest = split_parts p xs in
    elim (p x) as (λ t. (w : List _) × (ws : List (List _))
    × (cond t ([] ∷ slice_split p xs) (onto_first x (slice_split p xs)) ≡ w ∷ ws))
    [ true ↦ ([], slice_split p xs, refl) | false ↦ (x ∷ rest.0, rest.1, ap (onto_first x) rest.2) ]

onto_first-append : {X : Type 0} (x : X) (ps qs : List (List X)) (w : List X) (ws : List (List X)) → ps ≡ w ∷ ws
    → onto_first x (ps ++ qs) ≡ onto_first x ps ++ qs
onto_first-append x [] qs w ws e = absurd (cc)
onto_first-append x (p ∷ ps) qs w ws e = refl

-- the parts of two lists with a separator between them
pub split_between : {X : Type 0} (p : X → Bool) (xs ys : List X) (s : X) → p s ≡ true
    → slice_split p (xs ++ s ∷ ys) ≡ slice_split p xs ++ slice_split p ys
split_between p [] ys s separates = slice_split-cons_yes p s ys separates
split_between p (x ∷ xs) ys s separates =
    let parts = split_parts p xs in
    elim (cases_Bool (p x)) [
      | inl e ↦ slice_split-cons_yes p x (xs ++ s ∷ ys) e ∙ ap (λ ps. [] ∷ ps) (split_between p xs ys s separates)
          ∙ ap (λ ps. ps ++ slice_split p ys) (sym (slice_split-cons_yes p x xs e))
      | inr e ↦ slice_split-cons_no p x (xs ++ s ∷ ys) e ∙ ap (onto_first x) (split_between p xs ys s separates)
          ∙ onto_first-append x (slice_split p xs) (slice_split p ys) parts.0 parts.1 parts.2
          ∙ ap (λ ps. ps ++ slice_split p ys) (sym (slice_split-cons_no p x xs e))
    ]
