-- Places in rising order.
use Rattle.std.proofs.Common.{◌≡◌, ℕ, zero, suc, ◌+◌, ◌-◌, ◌<◌, ◌≤◌, List, [], ◌∷◌, ◌++◌, length, Contains, sym, ◌∙◌, ap}
use Rattle.std.proofs.Common.{subst, arith, inl, inr, refl, Bool, true, false, cond, add-one}
use Rattle.std.specs.Prelude.{◌⊎◌, ◌≢◌, ◌↔◌, slice_index, filter}
use Rattle.std.specs.List.{AllPairs, AllByRecursion, insert, range_with_len}
use Rattle.std.proofs.lemmas.Bool.{cases_lt, false≢true}
use Rattle.std.proofs.lemmas.List.{append_cancel_left, append-nil, length-append, get_or-append_right}
use Rattle.std.proofs.lemmas.List.Edits.{insert-append_right, length-insert}
use Rattle.std.proofs.lemmas.List.Elements.{Contains-append_right}
use Rattle.std.proofs.lemmas.List.Elements.{Contains-get_or}
use Rattle.std.proofs.lemmas.List.Sums.{length-filter}
use Rattle.go_base.specs.declared.colours.Colour.{Colour}
use Rattle.go_board.specs.decisions.Chain.{captured?}
use Rattle.go_board.specs.Play.{is_captured, captured_count}
use Rattle.go_board.specs.private.TakenStack.{captured_places}
use Rattle.go_board.specs.private.EmptyPoints.{AreRising, IsInserted, InsertsFrom, AreInserted}
use Rattle.go_board.specs.private.NamedIds.{AreCapturedStones}
use Rattle.go_board.specs.declared.board.Cell.{Cell}
use Rattle.go_board.proofs.General.{earlier_or_last}
use Rattle.go_board.proofs.boards.Cells.{stone-point}
use Rattle.go_board.proofs.captures.CapturedStones.{holds-yes, holds-true, in_list}
use Rattle.go_board.proofs.floods.Regions.{index_of}

-- ---- members of a list

no_member : (p : ℕ) {A : Type 0} → Contains [] p → A
no_member p h = let below = h.1 in absurd (omega (arith, below))

first_member : (x : ℕ) (xs : List ℕ) → Contains (x ∷ xs) x
first_member x xs = (0, omega arith, refl)

later_member : (x : ℕ) (xs : List ℕ) (p : ℕ) → Contains xs p → Contains (x ∷ xs) p
later_member x xs p h = Contains-append_right (x ∷ []) xs p h

member_cases : (x : ℕ) (xs : List ℕ) (p : ℕ) → Contains (x ∷ xs) p → (p ≡ x) ⊎ Contains xs p
member_cases x xs p (zero, below, is) = inl (sym is)
member_cases x xs p (suc k, below, is) = inr (k, omega (arith, below), is)

all-member : (P : ℕ → Type 0) (xs : List ℕ) (p : ℕ) → AllByRecursion P xs → Contains xs p → P p
all-member P [] p all h = no_member p h
all-member P (x ∷ xs) p all h = elim (member_cases x xs p h) [
  | inl e ↦ subst P (sym e) all.0
  | inr later ↦ all-member P xs p all.1 later
]

all-from_members : (P : ℕ → Type 0) (xs : List ℕ) → ((p : ℕ) → Contains xs p → P p) → AllByRecursion P xs
all-from_members P [] has = tt
all-from_members P (x ∷ xs) has =
    (has x (first_member x xs), all-from_members P xs (λ p h. has p (later_member x xs p h)))

-- ---- an insertion

all-insert : (P : ℕ → Type 0) (xs : List ℕ) (j p : ℕ) → AllByRecursion P xs → P p → AllByRecursion P (insert xs j p)
all-insert P xs zero p all here = (here, all)
all-insert P [] (suc j) p all here = (here, tt)
all-insert P (x ∷ xs) (suc j) p all here = (all.0, all-insert P xs j p all.1 here)

rising-insert : (xs : List ℕ) (j p : ℕ) → AreRising xs → j ≤ length xs → ((k : ℕ) → k < j → slice_index xs k < p)
    → ((k : ℕ) → j ≤ k → k < length xs → p < slice_index xs k) → AreRising (insert xs j p)
rising-insert xs zero p rising h below above = (
  all-from_members (λ q. p < q) xs (λ q m.
      subst (λ (r : ℕ). p < r) (index_of xs q m) (above m.0 (omega arith) m.1)),
  rising,
)
rising-insert [] (suc j) p rising h below above = absurd (omega (arith, h))
rising-insert (x ∷ xs) (suc j) p rising h below above = (
  all-insert (λ q. x < q) xs j p rising.0 (below 0 (omega arith)),
  rising-insert xs j p rising.1 (omega (arith, h))
      (λ k less. below (suc k) (omega (arith, less)))
      (λ k from to. above (suc k) (omega (arith, from)) (omega (arith, to))),
)

-- the later of a rising list is higher
rising-index : (xs : List ℕ) (i j : ℕ) → AreRising xs → i < j → j < length xs → slice_index xs i < slice_index xs j
rising-index [] i j rising less below = absurd (omega (arith, below))
rising-index (x ∷ xs) i zero rising less below = absurd (omega (arith, less))
rising-index (x ∷ xs) zero (suc j) rising less below =
    all-member (λ q. x < q) xs (slice_index xs j) rising.0 (Contains-get_or xs j 0 (omega (arith, below)))
rising-index (x ∷ xs) (suc i) (suc j) rising less below =
    rising-index xs i j rising.1 (omega (arith, less)) (omega (arith, below))

insert-has : (xs : List ℕ) (j p q : ℕ) → Contains (insert xs j p) q ↔ (Contains xs q ⊎ (q ≡ p))
insert-has xs j p q = (to xs j, from xs j)
  where
    to : (xs : List ℕ) (j : ℕ) → Contains (insert xs j p) q → Contains xs q ⊎ (q ≡ p)
    to xs zero h = elim (member_cases p xs q h) [ inl e ↦ inr e | inr later ↦ inl later ]
    to [] (suc j) h = elim (member_cases p [] q h) [ inl e ↦ inr e | inr later ↦ inl later ]
    to (x ∷ xs) (suc j) h = elim (member_cases x (insert xs j p) q h) [
      | inl e ↦ inl (subst (λ (r : ℕ). Contains (x ∷ xs) r) (sym e) (first_member x xs))
      | inr later ↦ elim (to xs j later) [ inl m ↦ inl (later_member x xs q m) | inr e ↦ inr e ]
    ]

    from : (xs : List ℕ) (j : ℕ) → Contains xs q ⊎ (q ≡ p) → Contains (insert xs j p) q
    from xs zero (inl h) = later_member p xs q h
    from xs zero (inr e) = subst (λ (r : ℕ). Contains (p ∷ xs) r) (sym e) (first_member p xs)
    from [] (suc j) (inl h) = no_member q h
    from [] (suc j) (inr e) = subst (λ (r : ℕ). Contains (p ∷ []) r) (sym e) (first_member p [])
    from (x ∷ xs) (suc j) (inl h) = elim (member_cases x xs q h) [
      | inl e ↦ subst (λ (r : ℕ). Contains (x ∷ insert xs j p) r) (sym e) (first_member x (insert xs j p))
      | inr later ↦ later_member x (insert xs j p) q (from xs j (inl later))
    ]
    from (x ∷ xs) (suc j) (inr e) = later_member x (insert xs j p) q (from xs j (inr e))

-- the k-th number after the first ones
behind : (had more : List ℕ) (start k : ℕ) → length had ≡ start
    → slice_index (had ++ more) (start + k) ≡ slice_index more k
behind had more start k long =
    get_or-append_right had more start (start + k) 0 long (omega arith) ∙ ap (slice_index more) (past start k)
  where
    past : (start k : ℕ) → start + k - start ≡ k
    past start k = omega arith

-- where a search from behind stopped
pub InsertsFrom-found : (old new : List ℕ) (start index p : ℕ) → start ≤ index → index ≤ length old
    → ((k : ℕ) → index ≤ k → k < length old → p < slice_index old k)
    → ((start < index) → slice_index old (index - 1) ≤ p) → new ≡ insert old index p → InsertsFrom old start p new
InsertsFrom-found old new start index p from to above below made had more is long rising absent = record {
  now = insert more (index - start) p;
  new_is =
      made ∙ ap (λ (xs : List ℕ). insert xs index p) is ∙ insert-append_right had more start index p long from;
  rising = rising-insert more (index - start) p rising j_few lower higher;
  long = length-insert more (index - start) p j_few;
  has = insert-has more (index - start) p;
}
  where
    whole : length old ≡ start + length more
    whole = ap length is ∙ length-append had more ∙ ap (λ (n : ℕ). n + length more) long

    j_few : index - start ≤ length more
    j_few = let w = whole in omega (arith, w, to, from)

    -- the k-th of what follows
    there : (k : ℕ) → slice_index old (start + k) ≡ slice_index more k
    there k = ap (λ (xs : List ℕ). slice_index xs (start + k)) is ∙ behind had more start k long

    higher : (k : ℕ) → index - start ≤ k → k < length more → p < slice_index more k
    higher k at_least less =
        let w = whole in
        subst (λ (r : ℕ). p < r) (there k) (above (start + k) (omega (arith, at_least, from)) (omega (arith, w, less)))

    apart : (k : ℕ) → k < length more → slice_index more k ≢ p
    apart k less e = absent (subst (λ (r : ℕ). Contains more r) e (Contains-get_or more k 0 less))

    lower : (k : ℕ) → k < index - start → slice_index more k < p
    lower k less =
        let w = whole in
        let last : slice_index more (index - start - 1) ≤ p =
        subst (λ (r : ℕ). r ≤ p) (ap (slice_index old) (one_less index start k less) ∙ there (index - start - 1))
        (below (omega (arith, less))) in
        let o = apart k (omega (arith, less, j_few)) in
        elim (earlier_or_last k (index - start - 1) (omega (arith, less))) [
          | inl earlier ↦
              let up =
              rising-index more k (index - start - 1) rising earlier (omega (arith, less, j_few)) in
              omega (arith, up, last)
          | inr same ↦
              let mine : slice_index more k ≤ p = subst (λ (i : ℕ). slice_index more i ≤ p) (sym same) last in
              omega (arith, mine, o)
        ]
      where
        one_less : (index start k : ℕ) → k < index - start → index - 1 ≡ start + (index - start - 1)
        one_less index start k less = omega (arith, less)

-- a search from behind goes on
pub search-more : (xs : List ℕ) (index p found : ℕ) → ((k : ℕ) → index ≤ k → k < length xs → p < slice_index xs k)
    → p < found → found ≡ slice_index xs (index - 1) → (k : ℕ) → index - 1 ≤ k → k < length xs → p < slice_index xs k
search-more xs index p found above more is k from less = elim (here_or_later index k from) [
  | inl same ↦ subst (λ (i : ℕ). p < slice_index xs i) (sym same) (subst (λ (n : ℕ). p < n) is more)
  | inr later ↦ above k later less
]
  where
    here_or_later : (index k : ℕ) → index - 1 ≤ k → (k ≡ index - 1) ⊎ (index ≤ k)
    here_or_later index k h = grind arith

-- ---- all of a set of places

-- the list goes on with the first n places, in rising order
pub record IsAddingRising (had places : List ℕ) (n : ℕ) (now : List ℕ) : Type 0 where
  pub more : List ℕ
  pub now_is : now ≡ had ++ more
  pub rising : AreRising more
  pub long : length more ≡ n
  pub has : (q : ℕ) → Contains more q ↔ ((k : ℕ) × (k < n) × (slice_index places k ≡ q))

pub IsAddingRising-none : (had places : List ℕ) → IsAddingRising had places 0 had
IsAddingRising-none had places = record {
  more = [];
  now_is = sym (append-nil had);
  rising = tt;
  long = refl;
  has = λ q. (λ h. no_member q h, λ (k, below, is). absurd (omega (arith, below)));
}

pub IsAddingRising-more : (had places now new : List ℕ) (start n p : ℕ) → AllPairs (λ p q. p ≢ q) places
    → n < length places → p ≡ slice_index places n → length had ≡ start → IsAddingRising had places n now
    → InsertsFrom now start p new → IsAddingRising had places (n + 1) new
IsAddingRising-more had places now new start n p once below is long a inserts =
    let absent : ¬ Contains a.more p = λ h.
    let known = (a.has p).0 h in once known.0 n 0 known.1 below (known.2 ∙ is) in
    let i : IsInserted had a.more p new = inserts had a.more a.now_is long a.rising absent in
    let l0 = a.long in
    let l1 = i.long in
    record {
      more = i.now;
      now_is = i.new_is;
      rising = i.rising;
      long = omega (arith, l0, l1);
      has = λ q. (
        (λ h. elim ((i.has q).0 h) [
          | inl old ↦ let known = (a.has q).0 old in (known.0, let less = known.1 in omega (arith, less), known.2)
          | inr e ↦ (n, omega arith, sym is ∙ sym e)
        ]),
        (λ (k, less, e). (i.has q).1 (elim (earlier_or_last k n less) [
          | inl earlier ↦ inl ((a.has q).1 (k, earlier, e))
          | inr last ↦ inr (sym e ∙ ap (slice_index places) last ∙ sym is)
        ])),
      );
    }

pub IsAddingRising-done : (had places now : List ℕ) (n : ℕ) → n ≡ length places → IsAddingRising had places n now
    → AreInserted had places now
IsAddingRising-done had places now n all a = record {
  more = a.more;
  new_is = a.now_is;
  rising = a.rising;
  long = a.long ∙ all;
  has = λ q. (
    (λ h. let known = (a.has q).0 h in
        subst (λ (r : ℕ). Contains places r) known.2
        (Contains-get_or places known.0 0 (let less = known.1 in omega (arith, less, all)))),
    (λ h. (a.has q).1 (h.0, let below = h.1 in omega (arith, below, all), index_of places q h)),
  );
}

-- ---- rising lists with the same members are one

pub rising-filter : (f : ℕ → Bool) (xs : List ℕ) (a n : ℕ) → AreRising xs
    → ((q : ℕ) → Contains xs q → (a ≤ q) × (q < a + n) × (f q ≡ true))
    → ((q : ℕ) → a ≤ q → q < a + n → f q ≡ true → Contains xs q) → xs ≡ filter f (range_with_len a n)
rising-filter f [] a zero rising to from = refl
rising-filter f (x ∷ xs) a zero rising to from =
    let h = to x (first_member x xs) in let low = h.0 in let high = h.1 in absurd (omega (arith, low, high))
rising-filter f xs a (suc n) rising to from =
    by_test (λ ys r t g. rising-filter f ys (a + 1) n r t g) (f a) refl xs rising to from
  where
    by_test : ((ys : List ℕ) → AreRising ys → ((q : ℕ) → Contains ys q → (a + 1 ≤ q) × (q < a + 1 + n) × (f q ≡ true))
        → ((q : ℕ) → a + 1 ≤ q → q < a + 1 + n → f q ≡ true → Contains ys q)
        → ys ≡ filter f (range_with_len (a + 1) n))
        → (b : Bool) → f a ≡ b → (xs : List ℕ) → AreRising xs
        → ((q : ℕ) → Contains xs q → (a ≤ q) × (q < a + suc n) × (f q ≡ true))
        → ((q : ℕ) → a ≤ q → q < a + suc n → f q ≡ true → Contains xs q)
        → xs ≡ filter f (a ∷ range_with_len (a + 1) n)
    by_test next true e [] rising to from = no_member a (from a (omega arith) (omega arith) e)
    by_test next true e (x ∷ xs) rising to from =
        let first : x ≡ a = elim (member_cases x xs a (from a (omega arith) (omega arith) e)) [
          | inl is ↦ sym is
          | inr later ↦
              let up = all-member (λ q. x < q) xs a rising.0 later in
              let low = (to x (first_member x xs)).0 in absurd (omega (arith, up, low))
        ] in
        ap (λ (y : ℕ). y ∷ xs) first
        ∙ ap (λ (ys : List ℕ). a ∷ ys)
        (next xs rising.1
        (λ q h.
        let known = to q (later_member x xs q h) in
        let up = all-member (λ q. x < q) xs q rising.0 h in
        let high = known.1 in
        (omega (arith, up, first), omega (arith, high), known.2))
        (λ q low high is. elim (member_cases x xs q (from q (omega (arith, low)) (omega (arith, high)) is)) [
          | inl same ↦ absurd (omega (arith, low, same, first))
          | inr later ↦ later
        ]))
        ∙ sym (ap (λ (b : Bool). cond b (a ∷ filter f (range_with_len (a + 1) n)) (filter f (range_with_len (a + 1) n))) e)
    by_test next false e xs rising to from =
        next xs rising
        (λ q h.
        let known = to q h in
        let low = known.0 in
        let high = known.1 in
        let apart : q ≢ a = λ same. false≢true (sym e ∙ ap f (sym same) ∙ known.2) in
        (omega (arith, low, apart), omega (arith, high), known.2))
        (λ q low high is. from q (omega (arith, low)) (omega (arith, high)) is)
        ∙ sym (ap (λ (b : Bool). cond b (a ∷ filter f (range_with_len (a + 1) n)) (filter f (range_with_len (a + 1) n))) e)

-- what was inserted is what was captured, in the board's order
pub inserted-captured : (board : List Cell) (c : Colour) (had places new : List ℕ) → AreCapturedStones board c places
    → AreInserted had places new → new ≡ had ++ captured_places board c
inserted-captured board c had places new are i =
    i.new_is ∙ ap (λ (ps : List ℕ). had ++ ps)
    (rising-filter (is_captured board c) i.more 0 (length board) i.rising
    (λ q h.
    let captured = (are q).0 ((i.has q).0 h) in
    let below = in_list board q (λ e. stone-point c (sym captured.0 ∙ e)) in
    (omega arith, omega (arith, below), holds-yes (captured? board c q) captured))
    (λ q _ _ is. (i.has q).1 ((are q).1 (holds-true (captured? board c q) is))))

pub inserted-count : (board : List Cell) (c : Colour) (had places new : List ℕ) → AreCapturedStones board c places
    → AreInserted had places new → length places ≡ captured_count board c
unfolding captured_count
inserted-count board c had places new are i =
    sym i.long ∙ ap length (append_cancel_left had i.more (captured_places board c)
    (sym i.new_is ∙ inserted-captured board c had places new are i))
    ∙ length-filter (is_captured board c) (range_with_len 0 (length board))

-- how long the list is by then
pub adding-length : (had places : List ℕ) (n : ℕ) (now : List ℕ) → IsAddingRising had places n now
    → length now ≡ length had + n
adding-length had places n now a =
    ap length a.now_is ∙ length-append had a.more ∙ ap (λ (m : ℕ). length had + m) a.long

-- ---- how many captured stones there are

-- where a number belongs
place_for : (xs : List ℕ) (p : ℕ) → AreRising xs → ¬ Contains xs p
    → (j : ℕ) × (j ≤ length xs) × ((k : ℕ) → k < j → slice_index xs k < p)
    × ((k : ℕ) → j ≤ k → k < length xs → p < slice_index xs k)
place_for [] p rising absent =
    (0, omega arith, (λ k less. absurd (omega (arith, less))), (λ k from less. absurd (omega (arith, less))))
place_for (x ∷ xs) p rising absent = elim (cases_lt p x) [
  | inl before ↦ (
    0,
    omega arith,
    (λ k less. absurd (omega (arith, less))),
    (λ k from less. higher before k less),
  )
  | inr after ↦
      let rest = place_for xs p rising.1 (λ h. absent (later_member x xs p h)) in
      let few = rest.1 in (
        suc rest.0,
        omega (arith, few),
        (λ k less. lower after rest.0 rest.2 k less),
        (λ k from less. behind_it rest.0
            rest.3 k from less),
      )
]
  where
    higher : p < x → (k : ℕ) → k < length (x ∷ xs) → p < slice_index (x ∷ xs) k
    higher before zero less = before
    higher before (suc k) less =
        let up = all-member (λ q. x < q) xs (slice_index xs k) rising.0 (Contains-get_or xs k 0 (omega (arith, less))) in
        omega (arith, before, up)

    lower : x ≤ p → (j : ℕ) → ((k : ℕ) → k < j → slice_index xs k < p) → (k : ℕ) → k < suc j
        → slice_index (x ∷ xs) k < p
    lower after j below zero less =
        let apart : x ≢ p = λ e. absent (subst (λ (q : ℕ). Contains (x ∷ xs) q) e (first_member x xs)) in
        omega (arith, after, apart)
    lower after j below (suc k) less = below k (omega (arith, less))

    behind_it : (j : ℕ) → ((k : ℕ) → j ≤ k → k < length xs → p < slice_index xs k) → (k : ℕ) → suc j ≤ k
        → k < length (x ∷ xs) → p < slice_index (x ∷ xs) k
    behind_it j above zero from less = absurd (omega (arith, from))
    behind_it j above (suc k) from less = above k (omega (arith, from)) (omega (arith, less))

-- distinct numbers can be put in rising order
put_in_order : (places : List ℕ) → AllPairs (λ p q. p ≢ q) places → (n : ℕ) → n ≤ length places
    → (now : List ℕ) × IsAddingRising [] places n now
put_in_order places once zero few = ([], IsAddingRising-none [] places)
put_in_order places once (suc n) few =
    let earlier = put_in_order places once n (omega (arith, few)) in
    let p : ℕ = slice_index places n in
    let below : n < length places = omega (arith, few) in
    subst (λ (m : ℕ). (now : List ℕ) × IsAddingRising [] places m now) (add-one n)
    (with_one places once n p below refl earlier.0 earlier.1)
  where
    with_one : (places : List ℕ) → AllPairs (λ p q. p ≢ q) places → (n p : ℕ) → n < length places
        → p ≡ slice_index places n → (now : List ℕ) → IsAddingRising [] places n now
        → (new : List ℕ) × IsAddingRising [] places (n + 1) new
    with_one places once n p below is now a =
        let absent : ¬ Contains a.more p = λ h.
        let known = (a.has p).0 h in once known.0 n 0 known.1 below (known.2 ∙ is) in
        let found = place_for a.more p a.rising absent in
        let inserts : InsertsFrom a.more 0 p (insert a.more found.0 p) =
        InsertsFrom-found a.more (insert a.more found.0 p) 0 found.0 p (omega arith) found.1 found.3
        (λ some. let less = found.2 (found.0 - 1) (omega (arith, some)) in omega (arith, less)) refl in (
          insert a.more found.0 p,
          IsAddingRising-more [] places now (insert a.more found.0 p) 0 n p once below is refl a
              (subst (λ (xs : List ℕ). InsertsFrom xs 0 p (insert a.more found.0 p)) (sym a.now_is) inserts),
        )

pub captured-length : (board : List Cell) (c : Colour) (places : List ℕ) → AllPairs (λ p q. p ≢ q) places
    → AreCapturedStones board c places → length places ≡ captured_count board c
captured-length board c places once are =
    let sorted = put_in_order places once (length places) (omega arith) in
    inserted-count board c [] places sorted.0 are
    (IsAddingRising-done [] places sorted.0 (length places) refl sorted.1)
