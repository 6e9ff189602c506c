-- Words that are as many as some distinct points, each of which is among them, name each point once.
use Rattle.std.proofs.Common.{◌≡◌, ◌≢◌, ℕ, zero, suc, ◌<◌, List, [], ◌∷◌, ◌++◌, length, map, Option, Some, None, Bool}
use Rattle.std.proofs.Common.{true}
use Rattle.std.proofs.Common.{false, refl, sym, ◌∙◌, ap, subst, arith, eqb, ◌||◌, ◌&&◌, length-append}
use Rattle.std.specs.Prelude.{slice_index_or, Contains}
use Rattle.std.specs.List.{list_all, list_any, AllPairs}
use Rattle.std.specs.List.Sorted.{IsPermutation}
use Rattle.std.proofs.lemmas.Bool.Decides.{nat_tests}
use Rattle.std.proofs.lemmas.Bool.{eqb-true}
use Rattle.std.proofs.lemmas.List.{map-append, length-map}
use Rattle.std.proofs.lemmas.List.Sorted.{IsPermutation-refl, IsPermutation-sym, IsPermutation-trans}
use Rattle.std.proofs.lemmas.List.Sorted.{IsPermutation-cons, IsPermutation-middle}
use Rattle.std.proofs.lemmas.List.Sorted.{length_permutation, Contains-permutation}
use Rattle.go_base.specs.Vertex.{vertex_of}
use Rattle.go_base.specs.declared.vertices.Vertex.{Vertex}
use Rattle.go_base.specs.declared.vertices.Vertex.TheVariants.{Pass, At}
use Rattle.gtp_wire.specs.ReplyWords.{is_at, names_point, names_points, NamesEachOnce}

-- a word that passes a test, and those before and after it
record IsFound (test : List ℕ → Bool) (words : List (List ℕ)) : Type 0 where
  before : List (List ℕ)
  word : List ℕ
  after : List (List ℕ)
  words_are : words ≡ before ++ word ∷ after
  passes : test word ≡ true

found : (test : List ℕ → Bool) (words : List (List ℕ)) → list_any test words ≡ true → IsFound test words
found test [] e = absurd (cc)
found test (w ∷ ws) e = by_test (test w) refl e (λ k. found test ws k)
  where
    by_test : (b : Bool) → test w ≡ b → (b || list_any test ws) ≡ true
        → (list_any test ws ≡ true → IsFound test ws) → IsFound test (w ∷ ws)
    by_test true is e later = record { before = []; word = w; after = ws; words_are = refl; passes = is }
    by_test false is e later =
        let f = later e in
        record {
          before = w ∷ f.before;
          word = f.word;
          after = f.after;
          words_are = ap (λ (x : List (List ℕ)). w ∷ x) f.words_are;
          passes = f.passes;
        }

-- a word that fails a test may go
without : (test : List ℕ → Bool) (before : List (List ℕ)) (word : List ℕ) (after : List (List ℕ)) → test word ≡ false
    → list_any test (before ++ word ∷ after) ≡ true → list_any test (before ++ after) ≡ true
without test [] word after fails e = by_word (test word) fails e
  where
    by_word : (b : Bool) → b ≡ false → (b || list_any test after) ≡ true → list_any test after ≡ true
    by_word true wrong e = absurd (cc)
    by_word false wrong e = e
without test (w ∷ ws) word after fails e = by_test (test w) e (λ k. without test ws word after fails k)
  where
    by_test : (b : Bool) → (b || list_any test (ws ++ word ∷ after)) ≡ true
        → (list_any test (ws ++ word ∷ after) ≡ true → list_any test (ws ++ after) ≡ true)
        → (b || list_any test (ws ++ after)) ≡ true
    by_test true e later = refl
    by_test false e later = later e

-- ---- which point a word names

is_at_point : (p : ℕ) (v : Option Vertex) → is_at p v ≡ true → v ≡ Some (At p)
is_at_point p None e = absurd (cc)
is_at_point p (Some Pass) e = absurd (cc)
is_at_point p (Some (At q)) e = ap (λ (n : ℕ). Some (At n)) (eqb-true q p e)

other_number : (p q : ℕ) → p ≢ q → eqb p q ≡ false
other_number p q other = grind (arith, nat_tests)

other_point : (p q : ℕ) (word : List ℕ) → p ≢ q → vertex_of word ≡ Some (At p) → names_point q word ≡ false
other_point p q word other e = ap (is_at q) e ∙ other_number p q other

-- ---- the points

either_true : (a b : Bool) → b ≡ true → (a || b) ≡ true
either_true true b e = refl
either_true false b e = e

both_true : (a b : Bool) → (a && b) ≡ true → (a ≡ true) × (b ≡ true)
both_true true b e = (refl, e)
both_true false b e = absurd (cc)

-- the points that are among the words and other than the one named by a word are among the other words
still_there : (p : ℕ) (points : List ℕ) (before : List (List ℕ)) (word : List ℕ) (after : List (List ℕ))
    → ((k : ℕ) → k < length points → p ≢ slice_index_or points k 0) → vertex_of word ≡ Some (At p)
    → list_all (λ q. list_any (names_point q) (before ++ word ∷ after)) points ≡ true
    → list_all (λ q. list_any (names_point q) (before ++ after)) points ≡ true
still_there p [] before word after other is e = refl
still_there p (q ∷ points) before word after other is e =
    let both = both_true (list_any (names_point q) (before ++ word ∷ after)) _ e in
    let here : list_any (names_point q) (before ++ after) ≡ true =
    without (names_point q) before word after (other_point p q word (other 0 (omega arith)) is) both.0 in
    let rest = still_there p points before word after (λ k less. other (suc k) (omega (arith, less))) is both.1 in
    rw (here, rest) refl

abbrev point_at : ℕ → Option Vertex
point_at p = Some (At p)

-- a list that is made of two others' values comes from two
record IsSplit (named : List ℕ) (before after : List (List ℕ)) : Type 0 where
  front : List ℕ
  back : List ℕ
  named_are : named ≡ front ++ back
  front_is : map vertex_of before ≡ map point_at front
  back_is : map vertex_of after ≡ map point_at back

split : (named : List ℕ) (before after : List (List ℕ)) → map vertex_of (before ++ after) ≡ map point_at named
    → IsSplit named before after
split named [] after e = record { front = []; back = named; named_are = refl; front_is = refl; back_is = e }
split [] (w ∷ before) after e = absurd (cc)
split (n ∷ named) (w ∷ before) after e =
    let head : vertex_of w ≡ point_at n = cc in
    let tail : map vertex_of (before ++ after) ≡ map point_at named = cc in
    let s = split named before after tail in
    record {
      front = n ∷ s.front;
      back = s.back;
      named_are = ap (λ (x : List ℕ). n ∷ x) s.named_are;
      front_is = ap (λ (x : List (Option Vertex)). vertex_of w ∷ x) s.front_is
          ∙ ap (λ (x : Option Vertex). x ∷ map point_at s.front) head;
      back_is = s.back_is;
    }

-- one point more, named by a word among the others
one_more : (p : ℕ) (points : List ℕ) (before : List (List ℕ)) (word : List ℕ) (after : List (List ℕ))
    → vertex_of word ≡ Some (At p) → NamesEachOnce points (before ++ after)
    → NamesEachOnce (p ∷ points) (before ++ word ∷ after)
one_more p points before word after is others =
    let s = split others.named before after others.words_are in
    record {
      named = s.front ++ p ∷ s.back;
      words_are =
          map-append vertex_of before (word ∷ after)
          ∙ ap (λ (x : List (Option Vertex)). x ++ map vertex_of (word ∷ after)) s.front_is
          ∙ ap (λ (x : List (Option Vertex)). map point_at s.front ++ vertex_of word ∷ x) s.back_is
          ∙ ap (λ (x : Option Vertex). map point_at s.front ++ x ∷ map point_at s.back) is
          ∙ sym (map-append point_at s.front (p ∷ s.back));
      each_once =
          IsPermutation-trans (p ∷ points) (p ∷ (s.front ++ s.back)) (s.front ++ p ∷ s.back)
          (IsPermutation-cons p points (s.front ++ s.back) (subst (IsPermutation points) s.named_are others.each_once))
          (IsPermutation-sym (s.front ++ p ∷ s.back) (p ∷ (s.front ++ s.back)) (IsPermutation-middle s.front p s.back));
    }

each_once : (points : List ℕ) (words : List (List ℕ)) → AllPairs (λ p q. p ≢ q) points → length words ≡ length points
    → list_all (λ p. list_any (names_point p) words) points ≡ true → NamesEachOnce points words
each_once [] [] distinct same all = record { named = []; words_are = refl; each_once = IsPermutation-refl [] }
each_once [] (w ∷ ws) distinct same all = absurd (omega (arith, same))
each_once (p ∷ points) words distinct same all =
    let both = both_true (list_any (names_point p) words) _ all in
    let f = found (names_point p) words both.0 in
    let is : vertex_of f.word ≡ Some (At p) = is_at_point p (vertex_of f.word) f.passes in
    let there : list_all (λ q. list_any (names_point q) (f.before ++ f.word ∷ f.after)) points ≡ true =
    subst (λ (ws : List (List ℕ)). list_all (λ q. list_any (names_point q) ws) points ≡ true) f.words_are both.1 in
    let rest : list_all (λ q. list_any (names_point q) (f.before ++ f.after)) points ≡ true =
    still_there p points f.before f.word f.after
    (λ k less. distinct 0 (suc k) 0 (omega arith) (omega (arith, less))) is there in
    let few : length (f.before ++ f.after) ≡ length points =
    omega (
      arith,
      same,
      ap length f.words_are,
      length-append f.before (f.word ∷ f.after),
      length-append f.before f.after,
    ) in
    let others = each_once points (f.before ++ f.after)
    (λ i j d less inside. distinct (suc i) (suc j) d (omega (arith, less)) (omega (arith, inside))) few rest
    in
    subst (NamesEachOnce (p ∷ points)) (sym f.words_are) (one_more p points f.before f.word f.after is others)

-- ---- and back

names_it : (p n : ℕ) (w : List ℕ) → vertex_of w ≡ Some (At n) → n ≡ p → names_point p w ≡ true
names_it p n w is same = ap (is_at p) is ∙ (let e : eqb n p ≡ true = grind (arith, nat_tests) in e)

word_there : (p : ℕ) (named : List ℕ) (words : List (List ℕ)) → map vertex_of words ≡ map point_at named → (k : ℕ)
    → k < length named → slice_index_or named k p ≡ p → list_any (names_point p) words ≡ true
word_there p [] words e k less is = absurd (omega (arith, less))
word_there p (n ∷ named) [] e k less is = absurd (cc)
word_there p (n ∷ named) (w ∷ words) e zero less is =
    let head : vertex_of w ≡ point_at n = cc in
    rw (names_it p n w head is) refl
word_there p (n ∷ named) (w ∷ words) e (suc k) less is =
    let tail : map vertex_of words ≡ map point_at named = cc in
    either_true (names_point p w) (list_any (names_point p) words)
    (word_there p named words tail k (omega (arith, less)) is)

all_there : (test : ℕ → Bool) (points : List ℕ) → ((p : ℕ) → Contains points p → test p ≡ true)
    → list_all test points ≡ true
all_there test [] each = refl
all_there test (p ∷ points) each =
    let here : test p ≡ true = each p (0, omega arith, refl) in
    let rest : list_all test points ≡ true =
    all_there test points (λ q there. each q (suc there.0, omega (arith, there.1), there.2)) in
    rw (here, rest) refl

pub names_them : (points : List ℕ) (words : List (List ℕ)) → NamesEachOnce points words
    → names_points points words ≡ true
names_them points words names =
    let few : length words ≡ length points =
    sym (length-map words vertex_of) ∙ ap length names.words_are ∙ length-map names.named point_at
    ∙ length_permutation points names.named names.each_once in
    let as_many : eqb (length words) (length points) ≡ true = grind (arith, nat_tests) in
    let all = all_there (λ p. list_any (names_point p) words) points
    (λ p there. by_place p (Contains-permutation points names.named p names.each_once there)) in
    rw (as_many, all) refl
  where
    by_place : (p : ℕ) → Contains names.named p → list_any (names_point p) words ≡ true
    by_place p there = word_there p names.named words names.words_are there.0 there.1 there.2

pub named_once : (points : List ℕ) (words : List (List ℕ)) → AllPairs (λ p q. p ≢ q) points
    → names_points points words ≡ true → NamesEachOnce points words
named_once points words distinct e =
    let both = both_true (eqb (length words) (length points)) _ e in
    each_once points words distinct (eqb-true (length words) (length points) both.0) both.1
