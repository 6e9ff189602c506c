-- A row is looked for, row after row.
use Rattle.std.proofs.Common.{◌≡◌, ℕ, Bool, true, false, List, [], ◌∷◌, Option, Some, None, Bor, refl, sym, ◌∙◌, ap}
use Rattle.std.specs.Prelude.{◌||◌}
use Rattle.std.specs.Iterator.{AlwaysYields}
use Rattle.gtp_check_judge.specs.Listings.{is_listed, is_row_of}

-- an iterator has these rows left, and the name has a row among them where it has one among all
pub record HasLeft {S : Type 0} (steps : S → Option (Bor (List ℕ)) → S → Type 0) (s : S) (all : List (List ℕ))
    (name : List ℕ) : Type 0 where
  left : List (List ℕ)
  yields : AlwaysYields steps (λ row. row.now) s left
  same : is_listed all name ≡ is_listed left name

pub HasLeft-all : {S : Type 0} (steps : S → Option (Bor (List ℕ)) → S → Type 0) (s : S) (all : List (List ℕ))
    (name : List ℕ)
    → AlwaysYields steps (λ row. row.now) s all → HasLeft steps s all name
HasLeft-all steps s all name y = record { left = all; yields = y; same = refl }

-- what comes next is the first of what is left
record Goes {S : Type 0} (steps : S → Option (Bor (List ℕ)) → S → Type 0) (t : S) (row : List ℕ)
    (left : List (List ℕ)) : Type 0 where
  others : List (List ℕ)
  is : left ≡ row ∷ others
  yields : AlwaysYields steps (λ row. row.now) t others

goes : {S : Type 0} (steps : S → Option (Bor (List ℕ)) → S → Type 0) (s t : S) (row : Bor (List ℕ))
    (left : List (List ℕ))
    → AlwaysYields steps (λ row. row.now) s left → steps s (Some row) t → Goes steps t row.now left
goes steps s t row [] y step = absurd (y row t step)
goes steps s t row (l ∷ ls) y step =
    let m = y.1 row t step in
    record { others = ls; is = ap (λ (k : List ℕ). k ∷ ls) (sym m.0); yields = m.1 }

pub HasLeft-more : {S : Type 0} (steps : S → Option (Bor (List ℕ)) → S → Type 0) (s t : S) (all : List (List ℕ))
    (name : List ℕ) (row : Bor (List ℕ))
    → HasLeft steps s all name → steps s (Some row) t → is_row_of name row.now ≡ false → HasLeft steps t all name
HasLeft-more steps s t all name row h step other =
    let g = goes steps s t row h.left h.yields step in record {
      left = g.others;
      yields = g.yields;
      same =
          h.same ∙ ap (λ (l : List (List ℕ)). is_listed l name) g.is
          ∙ ap (λ (b : Bool). b || is_listed g.others name) other;
    }

pub HasLeft-one : {S : Type 0} (steps : S → Option (Bor (List ℕ)) → S → Type 0) (s t : S) (all : List (List ℕ))
    (name : List ℕ) (row : Bor (List ℕ))
    → HasLeft steps s all name → steps s (Some row) t → is_row_of name row.now ≡ true → is_listed all name ≡ true
HasLeft-one steps s t all name row h step one =
    let g = goes steps s t row h.left h.yields step in
    h.same ∙ ap (λ (l : List (List ℕ)). is_listed l name) g.is
    ∙ ap (λ (b : Bool). b || is_listed g.others name) one

none_left : {S : Type 0} (steps : S → Option (Bor (List ℕ)) → S → Type 0) (s t : S) (name : List ℕ)
    (left : List (List ℕ))
    → AlwaysYields steps (λ row. row.now) s left → steps s None t → is_listed left name ≡ false
none_left steps s t name [] y step = refl
none_left steps s t name (l ∷ ls) y step = absurd (y.0 t step)

pub HasLeft-none : {S : Type 0} (steps : S → Option (Bor (List ℕ)) → S → Type 0) (s t : S) (all : List (List ℕ))
    (name : List ℕ)
    → HasLeft steps s all name → steps s None t → is_listed all name ≡ false
HasLeft-none steps s t all name h step = h.same ∙ none_left steps s t name h.left h.yields step
