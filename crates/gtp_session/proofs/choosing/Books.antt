-- A book is read entry after entry.
use Rattle.std.proofs.Common.{◌≡◌, ℕ, ◌<◌, ◌≤◌, List, [], ◌∷◌, ◌++◌, length, map, Option, Some, None, Bor, Bool, true}
use Rattle.std.proofs.Common.{false, refl, sym, ◌∙◌, ap, subst, arith, append_assoc, append-nil, length-append}
use Rattle.std.proofs.lemmas.Bool.Decides.{nat_tests}
use Rattle.std.specs.Prelude.{option_map, ◌==◌, nat_le, if◌then◌else◌}
use Rattle.std.specs.Iterator.{AlwaysYields}
use Rattle.gtp_session.specs.declared.book.Entry.{Entry}
use Rattle.gtp_session.specs.Book.{entry_of, one_more, all_entries, where_few, most_entries}

-- these entries in front of others
abbrev onto : List Entry → Option (List Entry) → Option (List Entry)
onto entries more = option_map (λ (rest : List Entry). entries ++ rest) more

-- of all parts these entries were read, and an iterator has the others left
pub record HasRead {S : Type 0} (steps : S → Option (Bor (List ℕ)) → S → Type 0) (s : S) (all : List (List ℕ))
    (entries : List Entry) : Type 0 where
  left : List (List ℕ)
  yields : AlwaysYields steps (λ part. part.now) s left
  reads : all_entries (map entry_of all) ≡ onto entries (all_entries (map entry_of left))
  few : length entries ≤ most_entries

pub HasRead-none : {S : Type 0} (steps : S → Option (Bor (List ℕ)) → S → Type 0) (s : S) (all : List (List ℕ))
    (entries : List Entry)
    → AlwaysYields steps (λ part. part.now) s all → entries ≡ [] → HasRead steps s all entries
HasRead-none steps s all entries y none =
    subst (λ (l : List Entry). HasRead steps s all l) (sym none)
    (record { left = all; yields = y; reads = nothing (all_entries (map entry_of all)); few = omega arith })
  where
    nothing : (more : Option (List Entry)) → more ≡ onto [] more
    nothing None = refl
    nothing (Some more) = refl

-- what the iterator gives next is the first of what it has left
record Goes {S : Type 0} (steps : S → Option (Bor (List ℕ)) → S → Type 0) (t : S) (part : List ℕ)
    (left : List (List ℕ)) : Type 0 where
  others : List (List ℕ)
  is : left ≡ part ∷ others
  yields : AlwaysYields steps (λ part. part.now) t others

goes : {S : Type 0} (steps : S → Option (Bor (List ℕ)) → S → Type 0) (s t : S) (part : Bor (List ℕ))
    (left : List (List ℕ))
    → AlwaysYields steps (λ part. part.now) s left → steps s (Some part) t → Goes steps t part.now left
goes steps s t part [] y step = absurd (y part t step)
goes steps s t part (l ∷ ls) y step =
    let m = y.1 part t step in
    record { others = ls; is = ap (λ (k : List ℕ). k ∷ ls) (sym m.0); yields = m.1 }

onto-more : (entries : List Entry) (entry : Entry) (more : Option (List Entry))
    → onto entries (one_more (Some entry) more) ≡ onto (entries ++ entry ∷ []) more
onto-more entries entry None = refl
onto-more entries entry (Some more) = ap Some (sym (append_assoc entries (entry ∷ []) more))

pub HasRead-more : {S : Type 0} (steps : S → Option (Bor (List ℕ)) → S → Type 0) (s t : S) (all : List (List ℕ))
    (entries new : List Entry) (part : Bor (List ℕ)) (entry : Entry)
    → HasRead steps s all entries → steps s (Some part) t → Some entry ≡ entry_of part.now → new ≡ entries ++ entry ∷ []
    → length entries < most_entries → HasRead steps t all new
HasRead-more steps s t all entries new part entry h step is pushed room =
    let g = goes steps s t part h.left h.yields step in
    subst (λ (l : List Entry). HasRead steps t all l) (sym pushed) (record {
      left = g.others;
      yields = g.yields;
      reads =
          h.reads
          ∙ ap (λ (l : List (List ℕ)). onto entries (all_entries (map entry_of l))) g.is
          ∙ ap (λ (p : Option Entry). onto entries (one_more p (all_entries (map entry_of g.others)))) (sym is)
          ∙ onto-more entries entry (all_entries (map entry_of g.others));
      few = omega (arith, length-append entries (entry ∷ []));
    })

-- a part that is no entry
pub HasRead-bad : {S : Type 0} (steps : S → Option (Bor (List ℕ)) → S → Type 0) (s t : S) (all : List (List ℕ))
    (entries : List Entry) (part : Bor (List ℕ))
    → HasRead steps s all entries → steps s (Some part) t → None ≡ entry_of part.now
    → where_few (all_entries (map entry_of all)) ≡ None
HasRead-bad steps s t all entries part h step is =
    let g = goes steps s t part h.left h.yields step in
    ap where_few
    (h.reads
    ∙ ap (λ (l : List (List ℕ)). onto entries (all_entries (map entry_of l))) g.is
    ∙ ap (λ (p : Option Entry). onto entries (one_more p (all_entries (map entry_of g.others)))) (sym is))

too_many : (entries : List Entry) → most_entries < length entries → where_few (Some entries) ≡ None
too_many entries many = by_test (nat_le (length entries) most_entries) refl
  where
    by_test : (b : Bool) → nat_le (length entries) most_entries ≡ b → (if b then Some entries else None) ≡ None
    by_test true e = absurd (let k : length entries ≤ most_entries = grind (arith, nat_tests) in omega arith)
    by_test false e = refl

-- an entry for which there is no room
pub HasRead-full : {S : Type 0} (steps : S → Option (Bor (List ℕ)) → S → Type 0) (s t : S) (all : List (List ℕ))
    (entries : List Entry) (part : Bor (List ℕ)) (entry : Entry)
    → HasRead steps s all entries → steps s (Some part) t → Some entry ≡ entry_of part.now
    → length entries ≡ most_entries
    → where_few (all_entries (map entry_of all)) ≡ None
HasRead-full steps s t all entries part entry h step is full =
    let g = goes steps s t part h.left h.yields step in
    ap where_few
    (h.reads
    ∙ ap (λ (l : List (List ℕ)). onto entries (all_entries (map entry_of l))) g.is
    ∙ ap (λ (p : Option Entry). onto entries (one_more p (all_entries (map entry_of g.others)))) (sym is)
    ∙ onto-more entries entry (all_entries (map entry_of g.others)))
    ∙ past (all_entries (map entry_of g.others))
  where
    past : (more : Option (List Entry)) → where_few (onto (entries ++ entry ∷ []) more) ≡ None
    past None = refl
    past (Some more) =
        too_many ((entries ++ entry ∷ []) ++ more)
        (omega (arith, length-append (entries ++ entry ∷ []) more, length-append entries (entry ∷ [])))

-- no part is left
pub HasRead-all : {S : Type 0} (steps : S → Option (Bor (List ℕ)) → S → Type 0) (s t : S) (all : List (List ℕ))
    (entries : List Entry)
    → HasRead steps s all entries → steps s None t → Some entries ≡ where_few (all_entries (map entry_of all))
HasRead-all steps s t all entries h step =
    by_left h.left h.yields h.reads
  where
    fits : where_few (Some entries) ≡ Some entries
    fits = by_test (nat_le (length entries) most_entries) refl
      where
        by_test : (b : Bool) → nat_le (length entries) most_entries ≡ b
            → (if b then Some entries else None) ≡ Some entries
        by_test true e = refl
        by_test false e =
            absurd (let k : most_entries < length entries = grind (arith, nat_tests) in let f = h.few in omega arith)

    by_left : (left : List (List ℕ)) → AlwaysYields steps (λ part. part.now) s left
        → all_entries (map entry_of all) ≡ onto entries (all_entries (map entry_of left))
        → Some entries ≡ where_few (all_entries (map entry_of all))
    by_left [] y e = sym (ap where_few (e ∙ ap Some (append-nil entries)) ∙ fits)
    by_left (l ∷ ls) y e = absurd (y.0 t step)

-- what the test of a full book says
pub full : (count : ℕ) (b : Bool) → b ≡ (count == most_entries) → b ≡ true → count ≡ most_entries
full count b is t = let e : (count == most_entries) ≡ true = sym is ∙ t in grind (arith, nat_tests)

pub has_room : (count : ℕ) (b : Bool) → b ≡ (count == most_entries) → count ≤ most_entries → b ≡ false
    → count < most_entries
has_room count b is fits f = let e : (count == most_entries) ≡ false = sym is ∙ f in grind (arith, nat_tests)
