-- Popping the stones of the last move off the stack.
use Rattle.std.proofs.Common.{◌≡◌, ℕ, zero, suc, Bool, true, false, cond, ◌+◌, ◌<◌, List, [], ◌∷◌, ◌++◌, length}
use Rattle.std.proofs.Common.{refl, sym, ◌∙◌, ap, subst, arith}
use Rattle.std.specs.Prelude.{◌≢◌}
use Rattle.std.proofs.lemmas.List.{length_push}
use Rattle.std.specs.List.{AllByRecursion, filter, range_with_len}
use Rattle.go_board.specs.private.TakenStack.{taken_at, IsNotLast, IsOnlyTaken}
use Rattle.go_board.specs.declared.taken_stack.TakenStone.{TakenStone}
use Rattle.go_board.proofs.General.{all-second}

tail-same : (s t : TakenStone) (ss ts : List TakenStone) → s ∷ ss ≡ t ∷ ts → (s ≡ t) × (ss ≡ ts)
tail-same s t ss ts e = (cc, cc)

places-same : (number : ℕ) (xs ys : List ℕ) → taken_at number xs ≡ taken_at number ys → xs ≡ ys
places-same number [] [] e = refl
places-same number [] (y ∷ ys) e = cc
places-same number (x ∷ xs) [] e = cc
places-same number (x ∷ xs) (y ∷ ys) e =
    let parts =
    tail-same (record { place = x; number = number }) (record { place = y; number = number }) (taken_at number xs)
    (taken_at number ys) e in
    let same : x ≡ y = ap (λ (t : TakenStone). t.place) parts.0 in
    ap (λ (z : ℕ). z ∷ xs) same ∙ ap (λ (zs : List ℕ). y ∷ zs) (places-same number xs ys parts.1)

-- what begins as stones of one move does ends with one of it
all_of_move : (number : ℕ) (xs : List ℕ) (t : TakenStone) (new more : List TakenStone)
    → taken_at number xs ≡ (t ∷ new) ++ more
    → IsNotLast (t ∷ new) number → ⊥
unfolding IsNotLast
all_of_move number [] t new more e last = cc
all_of_move number (x ∷ xs) t [] more e last =
    let parts = tail-same (record { place = x; number = number }) t (taken_at number xs) more e in
    last [] t refl (ap (λ (s : TakenStone). s.number) (sym parts.0))
all_of_move number (x ∷ xs) t (u ∷ us) more e last =
    let parts = tail-same (record { place = x; number = number }) t (taken_at number xs) ((u ∷ us) ++ more) e in
    all_of_move number xs u us more parts.1 (λ ts v same. last (t ∷ ts) v (ap (λ (ss : List TakenStone). t ∷ ss) same))

-- What was popped are the stones of the last move, and what is left are those of the moves before.
pub popped-all : (number : ℕ) (had new : List TakenStone) (places gone : List ℕ)
    → AllByRecursion (λ (t : TakenStone). t.number < number) had
    → had ++ taken_at number places ≡ new ++ taken_at number gone
    → IsNotLast new number → (new ≡ had) × (gone ≡ places)
unfolding IsNotLast
popped-all number [] [] places gone few e last = (refl, places-same number gone places (sym e))
popped-all number [] (t ∷ new) places gone few e last =
    absurd (all_of_move number places t new (taken_at number gone) e last)
popped-all number (h ∷ had) [] places [] few e last = cc
popped-all number (h ∷ had) [] places (g ∷ gone) few e last =
    let parts =
    tail-same h (record { place = g; number = number }) (had ++ taken_at number places) (taken_at number gone) e in
    let less = few.0 in
    let same : h.number ≡ number = ap (λ (t : TakenStone). t.number) parts.0 in
    absurd (omega (arith, less, same))
popped-all number (h ∷ had) (t ∷ new) places gone few e last =
    let parts = tail-same h t (had ++ taken_at number places) (new ++ taken_at number gone) e in
    let rest =
    popped-all number had new places gone few.1 parts.1
    (λ ts u same. last (t ∷ ts) u (ap (λ (ss : List TakenStone). t ∷ ss) same)) in
    (ap (λ (s : TakenStone). s ∷ new) (sym parts.0) ∙ ap (λ (ss : List TakenStone). h ∷ ss) rest.0, rest.1)

-- ---- the end of a stack

no_end : {A : Type 0} (ts : List A) (t : A) → [] ≡ ts ++ t ∷ [] → ⊥
no_end [] t e = cc
no_end (s ∷ ts) t e = cc

-- what two lists end with
pub ends-same : {A : Type 0} (xs ys : List A) (x y : A) → xs ++ x ∷ [] ≡ ys ++ y ∷ [] → (xs ≡ ys) × (x ≡ y)
ends-same [] [] x y e = (refl, cc)
ends-same [] (z ∷ ys) x y e = absurd (no_end ys y (let rest : [] ≡ ys ++ y ∷ [] = cc in rest))
ends-same (w ∷ xs) [] x y e = absurd (no_end xs x (let rest : [] ≡ xs ++ x ∷ [] = cc in rest))
ends-same (w ∷ xs) (z ∷ ys) x y e =
    let rest = ends-same xs ys x y (cc) in
    let first : w ≡ z = cc in
    (ap (λ u. u ∷ xs) first ∙ ap (λ us. z ∷ us) rest.0, rest.1)

pub IsNotLast-none : (stones : List TakenStone) (number : ℕ) → length stones ≡ 0 → IsNotLast stones number
unfolding IsNotLast
IsNotLast-none stones number none before last e =
    let long : length stones ≡ length before + 1 = ap length e ∙ length_push before last in
    absurd (omega (arith, long, none))

pub IsNotLast-other : (stones rest : List TakenStone) (t : TakenStone) (number by : ℕ) → stones ≡ rest ++ t ∷ []
    → by ≡ t.number
    → by ≢ number → IsNotLast stones number
unfolding IsNotLast
IsNotLast-other stones rest t number by ends is another before last e same =
    another (is ∙ ap (λ (s : TakenStone). s.number) (ends-same rest before t last (sym ends ∙ e)).1 ∙ same)

-- a stone with this place and number is that one
end-of : (rest : List TakenStone) (t : TakenStone) (place number : ℕ) → place ≡ t.place → number ≡ t.number
    → rest ++ t ∷ [] ≡ rest ++ record { place = place; number = number } ∷ []
end-of rest t place number place_is number_is =
    sym (ap (λ (p : ℕ). rest ++ record { place = p; number = number } ∷ []) place_is
    ∙ ap (λ (n : ℕ). rest ++ record { place = t.place; number = n } ∷ []) number_is)

-- ---- the only stone of a move

pub IsOnlyTaken-last : (stones rest : List TakenStone) (t : TakenStone) (place number by : ℕ) → stones ≡ rest ++ t ∷ []
    → place ≡ t.place → by ≡ t.number → by ≡ number → IsNotLast rest number → IsOnlyTaken stones number place
IsOnlyTaken-last stones rest t place number by ends place_is by_is is alone =
    record { before = rest; ends = ends ∙ end-of rest t place number place_is (sym is ∙ by_is); alone = alone }

pub not_only-two : (stones rest earlier : List TakenStone) (t s : TakenStone) (number by : ℕ) → stones ≡ rest ++ t ∷ []
    → rest ≡ earlier ++ s ∷ [] → by ≡ s.number → by ≡ number → (place : ℕ) → ¬ IsOnlyTaken stones number place
unfolding IsNotLast
not_only-two stones rest earlier t s number by ends second is same place o =
    let before : rest ≡ o.before =
    (ends-same rest o.before t (record { place = place; number = number }) (sym ends ∙ o.ends)).0 in
    o.alone earlier s (sym before ∙ second) (sym is ∙ same)

-- ---- which stones are those of the last move

-- a stone at the end with the last move's number is one that it took, and those after it were popped before it
record IsPopped (places later : List ℕ) (p : ℕ) : Type 0 where
  front : List ℕ
  is : places ≡ front ++ p ∷ later

popped : (number : ℕ) (had new : List TakenStone) (places later : List ℕ) (p : ℕ)
    → AllByRecursion (λ (t : TakenStone). t.number < number) had
    → had ++ taken_at number places ≡ new ++ record { place = p; number = number } ∷ taken_at number later
    → IsPopped places later p
popped number [] [] [] later p few e = cc
popped number [] [] (x ∷ places) later p few e =
    let parts =
    tail-same (record { place = x; number = number }) (record { place = p; number = number })
    (taken_at number places) (taken_at number later) e in
    let same : x ≡ p = ap (λ (t : TakenStone). t.place) parts.0 in
    record {
      front = [];
      is = ap (λ (y : ℕ). y ∷ places) same ∙ ap (λ (ps : List ℕ). p ∷ ps) (places-same number places later parts.1);
    }
popped number [] (t ∷ new) [] later p few e = cc
popped number [] (t ∷ new) (x ∷ places) later p few e =
    let parts =
    tail-same (record { place = x; number = number }) t (taken_at number places)
    (new ++ record { place = p; number = number } ∷ taken_at number later) e in
    let rest = popped number [] new places later p tt parts.1 in
    record { front = x ∷ rest.front; is = ap (λ (ps : List ℕ). x ∷ ps) rest.is }
popped number (h ∷ had) [] places later p few e =
    let parts =
    tail-same h (record { place = p; number = number }) (had ++ taken_at number places) (taken_at number later) e in
    let less = few.0 in
    let same : h.number ≡ number = ap (λ (t : TakenStone). t.number) parts.0 in
    absurd (omega (arith, less, same))
popped number (h ∷ had) (t ∷ new) places later p few e =
    let parts =
    tail-same h t (had ++ taken_at number places)
    (new ++ record { place = p; number = number } ∷ taken_at number later) e in
    popped number had new places later p few.1 parts.1

pub popped-one : (number : ℕ) (had new : List TakenStone) (places later : List ℕ) (p : ℕ)
    → AllByRecursion (λ (t : TakenStone). t.number < number) had
    → had ++ taken_at number places ≡ new ++ record { place = p; number = number } ∷ taken_at number later
    → (P : ℕ → Type 0) → AllByRecursion P places → P p
popped-one number had new places later p few e P all =
    let found = popped number had new places later p few e in
    (all-second P found.front (p ∷ later) (subst (AllByRecursion P) found.is all)).0

-- each place is less than those after it
unfoldable pub AreRising : List ℕ → Type 0
AreRising [] = Unit {0}
AreRising (p ∷ ps) = AllByRecursion (λ (q : ℕ). p < q) ps × AreRising ps

-- and less than those that were popped before it
rising-after : (front : List ℕ) (p : ℕ) (later : List ℕ) → AreRising (front ++ p ∷ later)
    → AllByRecursion (λ (q : ℕ). p < q) later
unfolding AreRising
rising-after [] p later all = all.0
rising-after (x ∷ front) p later all = rising-after front p later all.1

pub popped-rising : (number : ℕ) (had new : List TakenStone) (places later : List ℕ) (p : ℕ)
    → AllByRecursion (λ (t : TakenStone). t.number < number) had
    → had ++ taken_at number places ≡ new ++ record { place = p; number = number } ∷ taken_at number later
    → AreRising places → AllByRecursion (λ (q : ℕ). p < q) later
popped-rising number had new places later p few e all =
    let found = popped number had new places later p few e in
    rising-after found.front p later (subst AreRising found.is all)

-- places that were picked in order are not less than the first
picked-over : (test : ℕ → Bool) (k a n : ℕ) → k < a
    → AllByRecursion (λ (q : ℕ). k < q) (filter test (range_with_len a n))
picked-over test k a zero less = tt
picked-over test k a (suc n) less = by_test (test a) (picked-over test k (a + 1) n (omega (arith, less)))
  where
    ps : List ℕ
    ps = filter test (range_with_len (a + 1) n)

    by_test : (t : Bool) → AllByRecursion (λ (q : ℕ). k < q) (filter test (range_with_len (a + 1) n))
        → AllByRecursion (λ (q : ℕ). k < q) (cond t (a ∷ ps) ps)
    by_test true rest = (less, rest)
    by_test false rest = rest

pub rising-picked : (test : ℕ → Bool) (a n : ℕ) → AreRising (filter test (range_with_len a n))
unfolding AreRising
rising-picked test a zero = tt
rising-picked test a (suc n) =
    by_test (test a) (picked-over test a (a + 1) n (omega arith)) (rising-picked test (a + 1) n)
  where
    ps : List ℕ
    ps = filter test (range_with_len (a + 1) n)

    by_test : (t : Bool) → AllByRecursion (λ (q : ℕ). a < q) (filter test (range_with_len (a + 1) n))
        → AreRising (filter test (range_with_len (a + 1) n)) → AreRising (cond t (a ∷ ps) ps)
    by_test true over rest = (over, rest)
    by_test false over rest = rest

-- where each number is less, the last one is
pub not_last-numbers : (number : ℕ) (stones : List TakenStone)
    → AllByRecursion (λ (t : TakenStone). t.number < number) stones
    → IsNotLast stones number
unfolding IsNotLast
not_last-numbers number stones few before last e same =
    let less = (all-second (λ (t : TakenStone). t.number < number) before (last ∷ [])
    (subst (AllByRecursion (λ (t : TakenStone). t.number < number)) e few)).0 in
    absurd (omega (arith, less, same))
