-- Ids that are looked up without a test for a stone.
use Rattle.std.proofs.Common.{◌≡◌, ℕ, ◌+◌, ◌-◌, ◌%◌, ◌<◌, ◌≤◌, List, length, refl, sym, ◌∙◌, ap, subst, arith, inl, inr}
use Rattle.std.proofs.Common.{Bool, true, false, cond, get_or-set_other, get_or-set_same}
use Rattle.std.specs.Prelude.{◌==◌, ◌&&◌, ◌≢◌}
use Rattle.std.proofs.Math.ListN.{set, length-set}
use Rattle.std.proofs.lemmas.Bool.{cases_eq, eq-eqb, ne_eqb, false≢true}
use Rattle.std.proofs.lemmas.List.{set_comm}
use Rattle.go_board.specs.Board.{at, IsStone}
use Rattle.go_board.specs.declared.board.Cell.{Cell}
use Rattle.go_board.specs.private.ChainId.{id_of, ids_at, ids_beside, is_stone, empty_beside, share, pseudo_liberties}
use Rattle.go_board.specs.private.ChainId.{ArePseudoLiberties, count_at}
use Rattle.go_board.specs.private.Steps.{AreLowered, AreRaised, IsBelow, IsMoved}
use Rattle.go_board.specs.private.NamedIds.{named_at, named_beside, AreAllLowered, AreAllRaised}
use Rattle.go_board.proofs.Sums.{total-same, total-none}
use Rattle.go_board.proofs.liberties.FillingPoints.{pseudo_liberties-total}
use Rattle.go_board.proofs.liberties.PseudoLiberties.{stone-test, stone-from_test}
use Rattle.go_board.proofs.liberties.Shares.{count_at-changed}

-- ---- one id's number goes down or up

pub lowered-one : (ids c0 c1 : List ℕ) (q id k : ℕ) → id ≡ id_of ids q → id < length c0
    → c1 ≡ set c0 id (count_at c0 id - 1) → count_at c1 k ≡ count_at c0 k - named_at ids k q
lowered-one ids c0 c1 q id k is below made =
    ap (λ (cs : List ℕ). count_at cs k) made ∙ count_at-changed (λ n m. n - m) (λ n. omega arith) c0 id 1 k below
    ∙ ap (λ (i : ℕ). count_at c0 k - cond (i == k) 1 0) is

pub AreAllLowered-four : (ids c0 c1 c2 c3 c4 : List ℕ) (p a b c d : ℕ) → length c0 ≡ 702 → a < 702 → b < 702
    → c < 702 → d < 702 → a ≡ id_of ids (p + 1) → b ≡ id_of ids (p - 1) → c ≡ id_of ids (p + 26)
    → d ≡ id_of ids (p - 26) → c1 ≡ set c0 a (count_at c0 a - 1) → c2 ≡ set c1 b (count_at c1 b - 1)
    → c3 ≡ set c2 c (count_at c2 c - 1) → c4 ≡ set c3 d (count_at c3 d - 1) → AreAllLowered ids c0 c4 p
AreAllLowered-four ids c0 c1 c2 c3 c4 p a b c d long la lb lc ld ia ib ic id m1 m2 m3 m4 = record {
  length_is = l4 ∙ sym long;
  each = λ k _. sum_down _ _ _ _ _ _ _ _ _ (lowered-one ids c0 c1 (p + 1) a k ia (omega (arith, la, long)) m1)
      (lowered-one ids c1 c2 (p - 1) b k ib (omega (arith, lb, l1)) m2)
      (lowered-one ids c2 c3 (p + 26) c k ic (omega (arith, lc, l2)) m3)
      (lowered-one ids c3 c4 (p - 26) d k id (omega (arith, ld, l3)) m4);
}
  where
    l1 : length c1 ≡ 702
    l1 = ap length m1 ∙ length-set c0 a (count_at c0 a - 1) ∙ long

    l2 : length c2 ≡ 702
    l2 = ap length m2 ∙ length-set c1 b (count_at c1 b - 1) ∙ l1

    l3 : length c3 ≡ 702
    l3 = ap length m3 ∙ length-set c2 c (count_at c2 c - 1) ∙ l2

    l4 : length c4 ≡ 702
    l4 = ap length m4 ∙ length-set c3 d (count_at c3 d - 1) ∙ l3

    sum_down : (n0 n1 n2 n3 n4 w x y z : ℕ) → n1 ≡ n0 - w → n2 ≡ n1 - x → n3 ≡ n2 - y → n4 ≡ n3 - z
        → n4 ≡ n0 - (w + x + y + z)
    sum_down n0 n1 n2 n3 n4 w x y z e1 e2 e3 e4 = omega (arith, e1, e2, e3, e4)

pub raised-one : (ids c0 c1 : List ℕ) (q id k : ℕ) → id ≡ id_of ids q → id < length c0
    → c1 ≡ set c0 id ((count_at c0 id + 1) % 65536) → count_at c0 k ≤ 65003
    → count_at c1 k ≡ count_at c0 k + named_at ids k q
raised-one ids c0 c1 q id k is below made few = elim (cases_eq k id) [
  | inl e ↦
      ap (λ (cs : List ℕ). count_at cs k) made ∙ ap (count_at (set c0 id ((count_at c0 id + 1) % 65536))) e
      ∙ get_or-set_same c0 id ((count_at c0 id + 1) % 65536) 0 below
      ∙ no_wrap (count_at c0 id) (subst (λ (i : ℕ). count_at c0 i ≤ 65003) e few)
      ∙ ap (λ (i : ℕ). count_at c0 i + 1) (sym e)
      ∙ ap (λ (b : Bool). count_at c0 k + cond b 1 0) (sym (eq-eqb (id_of ids q) k (sym is ∙ sym e)))
  | inr o ↦
      ap (λ (cs : List ℕ). count_at cs k) made ∙ get_or-set_other c0 id k ((count_at c0 id + 1) % 65536) 0 o
      ∙ add_none (count_at c0 k)
      ∙ ap (λ (b : Bool). count_at c0 k + cond b 1 0) (sym (ne_eqb (id_of ids q) k (λ s. o (sym (is ∙ s)))))
]
  where
    no_wrap : (n : ℕ) → n ≤ 65003 → (n + 1) % 65536 ≡ n + 1
    no_wrap n h = omega (arith, h)

    add_none : (n : ℕ) → n ≡ n + 0
    add_none n = omega arith

pub AreAllRaised-four : (ids c0 c1 c2 c3 c4 : List ℕ) (p a b c d : ℕ) → length c0 ≡ 702 → a < 702 → b < 702
    → c < 702 → d < 702 → a ≡ id_of ids (p + 1) → b ≡ id_of ids (p - 1) → c ≡ id_of ids (p + 26)
    → d ≡ id_of ids (p - 26) → c1 ≡ set c0 a ((count_at c0 a + 1) % 65536)
    → c2 ≡ set c1 b ((count_at c1 b + 1) % 65536)
    → c3 ≡ set c2 c ((count_at c2 c + 1) % 65536) → c4 ≡ set c3 d ((count_at c3 d + 1) % 65536)
    → AreAllRaised ids c0 c4 p
AreAllRaised-four ids c0 c1 c2 c3 c4 p a b c d long la lb lc ld ia ib ic id m1 m2 m3 m4 = record {
  length_is = l4 ∙ sym long;
  each = λ k _ few.
      let one = named-few ids k in
      let r1 = raised-one ids c0 c1 (p + 1) a k ia (omega (arith, la, long)) m1 (omega (arith, few)) in
      let r2 =
      raised-one ids c1 c2 (p - 1) b k ib (omega (arith, lb, l1)) m2 (omega (arith, few, r1, one (p + 1))) in
      let r3 =
      raised-one ids c2 c3 (p + 26) c k ic (omega (arith, lc, l2)) m3
      (omega (arith, few, r1, r2, one (p + 1), one (p - 1))) in
      let r4 =
      raised-one ids c3 c4 (p - 26) d k id (omega (arith, ld, l3)) m4
      (omega (arith, few, r1, r2, r3, one (p + 1), one (p - 1), one (p + 26))) in
      sum_up _ _ _ _ _ _ _ _ _ r1 r2 r3 r4;
}
  where
    l1 : length c1 ≡ 702
    l1 = ap length m1 ∙ length-set c0 a ((count_at c0 a + 1) % 65536) ∙ long

    l2 : length c2 ≡ 702
    l2 = ap length m2 ∙ length-set c1 b ((count_at c1 b + 1) % 65536) ∙ l1

    l3 : length c3 ≡ 702
    l3 = ap length m3 ∙ length-set c2 c ((count_at c2 c + 1) % 65536) ∙ l2

    l4 : length c4 ≡ 702
    l4 = ap length m4 ∙ length-set c3 d ((count_at c3 d + 1) % 65536) ∙ l3

    named-few : (ids : List ℕ) (k q : ℕ) → named_at ids k q ≤ 1
    named-few ids k q = by_case (id_of ids q == k)
      where
        by_case : (b : Bool) → cond {A = ℕ} b 1 0 ≤ 1
        by_case true = omega arith
        by_case false = omega arith

    sum_up : (n0 n1 n2 n3 n4 w x y z : ℕ) → n1 ≡ n0 + w → n2 ≡ n1 + x → n3 ≡ n2 + y → n4 ≡ n3 + z
        → n4 ≡ n0 + (w + x + y + z)
    sum_up n0 n1 n2 n3 n4 w x y z e1 e2 e3 e4 = omega (arith, e1, e2, e3, e4)

-- ---- an id but 0 is on stones only

-- places without a stone have id 0
abbrev pub AreBlank : List Cell → List ℕ → Type 0
AreBlank board ids = (p : ℕ) → ¬ IsStone (at board p) → id_of ids p ≡ 0

-- and stones haven't
abbrev pub AreNonZero : List Cell → List ℕ → Type 0
AreNonZero board ids = (p : ℕ) → IsStone (at board p) → id_of ids p ≢ 0

pub no_stone : (x : Cell) → is_stone x ≡ false → ¬ IsStone x
no_stone x e s = false≢true (sym e ∙ stone-test x s)

pub named-stone : (board : List Cell) (ids : List ℕ) → AreBlank board ids → (k q : ℕ) → k ≢ 0
    → named_at ids k q ≡ ids_at board ids k q
named-stone board ids blank k q other = by_test (is_stone (at board q)) refl
  where
    by_test : (b : Bool) → is_stone (at board q) ≡ b
        → cond {A = ℕ} (id_of ids q == k) 1 0 ≡ cond (is_stone (at board q) && (id_of ids q == k)) 1 0
    by_test true e = ap (λ (b : Bool). cond {A = ℕ} (b && (id_of ids q == k)) 1 0) (sym e)
    by_test false e =
        let zero : id_of ids q ≡ 0 = blank q (no_stone (at board q) e) in
        ap (λ (b : Bool). cond {A = ℕ} b 1 0) (ne_eqb (id_of ids q) k (λ s. other (sym s ∙ zero)))
        ∙ ap (λ (b : Bool). cond {A = ℕ} (b && (id_of ids q == k)) 1 0) (sym e)

pub named-beside : (board : List Cell) (ids : List ℕ) → AreBlank board ids → (k p : ℕ) → k ≢ 0
    → named_beside ids k p ≡ ids_beside board ids k p
named-beside board ids blank k p other =
    sum_same _ _ _ _ _ _ _ _ (named-stone board ids blank k (p + 1) other)
    (named-stone board ids blank k (p - 1) other)
    (named-stone board ids blank k (p + 26) other) (named-stone board ids blank k (p - 26) other)
  where
    sum_same : (a b c d w x y z : ℕ) → a ≡ w → b ≡ x → c ≡ y → d ≡ z → a + b + c + d ≡ w + x + y + z
    sum_same a b c d w x y z e f g h = omega (arith, e, f, g, h)

-- no stone has id 0
zero-stone : (board : List Cell) (ids : List ℕ) → AreNonZero board ids → (q : ℕ) → ids_at board ids 0 q ≡ 0
zero-stone board ids named q = by_test (is_stone (at board q)) refl
  where
    by_test : (b : Bool) → is_stone (at board q) ≡ b
        → cond {A = ℕ} (is_stone (at board q) && (id_of ids q == 0)) 1 0 ≡ 0
    by_test true e =
        ap (λ (b : Bool). cond {A = ℕ} (b && (id_of ids q == 0)) 1 0) e
        ∙ ap (λ (b : Bool). cond {A = ℕ} b 1 0)
        (ne_eqb (id_of ids q) 0 (named q (stone-from_test (at board q) e)))
    by_test false e = ap (λ (b : Bool). cond {A = ℕ} (b && (id_of ids q == 0)) 1 0) e

zero-beside : (board : List Cell) (ids : List ℕ) → AreNonZero board ids → (p : ℕ) → ids_beside board ids 0 p ≡ 0
zero-beside board ids named p =
    let a = zero-stone board ids named (p + 1) in
    let b = zero-stone board ids named (p - 1) in
    let c = zero-stone board ids named (p + 26) in
    let d = zero-stone board ids named (p - 26) in
    omega (arith, a, b, c, d)

-- ---- the numbers with 0 for id 0

abbrev pub without_zero : List ℕ → List ℕ
without_zero counts = set counts 0 0

pub count-other : (counts : List ℕ) (k : ℕ) → k ≢ 0 → count_at (without_zero counts) k ≡ count_at counts k
count-other counts k o = get_or-set_other counts 0 k 0 0 o

count-zero : (counts : List ℕ) → length counts ≡ 702 → count_at (without_zero counts) 0 ≡ 0
count-zero counts long = get_or-set_same counts 0 0 0 (omega (arith, long))

pub length-without_zero : (counts : List ℕ) → length (without_zero counts) ≡ length counts
length-without_zero counts = length-set counts 0 0

-- a change at another id
pub without_zero-set : (counts : List ℕ) (id : ℕ) (f : ℕ → ℕ) → id ≢ 0
    → without_zero (set counts id (f (count_at counts id)))
    ≡ set (without_zero counts) id (f (count_at (without_zero counts) id))
without_zero-set counts id f o =
    set_comm counts id 0 (f (count_at counts id)) 0 o
    ∙ ap (λ (n : ℕ). set (without_zero counts) id (f n)) (sym (count-other counts id o))

pub AreLowered-named : (board : List Cell) (ids c0 c1 : List ℕ) (p : ℕ) → AreBlank board ids → length c0 ≡ 702
    → AreAllLowered ids c0 c1 p → AreLowered board ids (without_zero c0) (without_zero c1) p
AreLowered-named board ids c0 c1 p blank long low = record {
  length_is = length-without_zero c1 ∙ low.length_is ∙ sym (length-without_zero c0);
  each = λ k below. elim (cases_eq k 0) [
    | inl e ↦ subst (λ (j : ℕ). count_at (without_zero c1) j
        ≡ count_at (without_zero c0) j - ids_beside board ids j p) (sym e)
        (zero_less _ _ _ (count-zero c1 (low.length_is ∙ long)) (count-zero c0 long))
    | inr o ↦ less_same _ _ _ _ _ _ (count-other c1 k o) (low.each k below) (count-other c0 k o)
        (named-beside board ids blank k p o)
  ];
}
  where
    zero_less : (a b n : ℕ) → a ≡ 0 → b ≡ 0 → a ≡ b - n
    zero_less a b n e f = omega (arith, e, f)

    less_same : (a' a b b' m n : ℕ) → a' ≡ a → a ≡ b - m → b' ≡ b → m ≡ n → a' ≡ b' - n
    less_same a' a b b' m n e f g h = omega (arith, e, f, g, h)

pub AreRaised-named : (board : List Cell) (ids c0 c1 : List ℕ) (p : ℕ) → AreBlank board ids → AreNonZero board ids
    → length c0 ≡ 702 → IsBelow 2808 (without_zero c0)
    → AreAllRaised ids c0 c1 p → AreRaised board ids (without_zero c0) (without_zero c1) p
AreRaised-named board ids c0 c1 p blank named long few up = record {
  length_is = length-without_zero c1 ∙ up.length_is ∙ sym (length-without_zero c0);
  each = λ k below. elim (cases_eq k 0) [
    | inl e ↦ subst (λ (j : ℕ). count_at (without_zero c1) j
        ≡ count_at (without_zero c0) j + ids_beside board ids j p) (sym e)
        (zero_more _ _ _ (count-zero c1 (up.length_is ∙ long)) (count-zero c0 long) (zero-beside board ids named p))
    | inr o ↦
        let same = count-other c0 k o in
        let most = few k below in
        more_same _ _ _ _ _ _ (count-other c1 k o) (up.each k below (omega (arith, same, most))) same
        (named-beside board ids blank k p o)
  ];
}
  where
    zero_more : (a b n : ℕ) → a ≡ 0 → b ≡ 0 → n ≡ 0 → a ≡ b + n
    zero_more a b n e f g = omega (arith, e, f, g)

    more_same : (a' a b b' m n : ℕ) → a' ≡ a → a ≡ b + m → b' ≡ b → m ≡ n → a' ≡ b' + n
    more_same a' a b b' m n e f g h = omega (arith, e, f, g, h)

pub IsMoved-named : (old new : List ℕ) (to from : ℕ) → to ≢ 0 → from ≢ 0 → IsMoved old new to from
    → IsMoved (without_zero old) (without_zero new) to from
IsMoved-named old new to from t f m = record {
  one = λ e. ap without_zero (m.one e);
  two = λ o.
      ap without_zero (m.two o) ∙ set_comm (set old to (count_at old to + count_at old from)) from 0 0 0 f
      ∙ ap (λ (cs : List ℕ). set cs from 0)
      (set_comm old to 0 (count_at old to + count_at old from) 0 t
      ∙ ap (set (without_zero old) to) (sum_same _ _ _ _ (count-other old to t) (count-other old from f)));
}
  where
    sum_same : (a b x y : ℕ) → x ≡ a → y ≡ b → a + b ≡ x + y
    sum_same a b x y e g = omega (arith, e, g)

-- ---- pseudo-liberties look at the ids of stones only

pub pseudo_liberties-same : (board : List Cell) (ids ids' : List ℕ)
    → ((q : ℕ) → IsStone (at board q) → id_of ids' q ≡ id_of ids q)
    → (k : ℕ) → pseudo_liberties board ids' k ≡ pseudo_liberties board ids k
pseudo_liberties-same board ids ids' same k =
    pseudo_liberties-total board ids' k
    ∙ total-same (share board ids' k) (share board ids k) 702 (λ q _. share-same q (is_stone (at board q)) refl)
    ∙ sym (pseudo_liberties-total board ids k)
  where
    share-same : (q : ℕ) (b : Bool) → is_stone (at board q) ≡ b → share board ids' k q ≡ share board ids k q
    share-same q true e =
        ap (λ (l : ℕ). cond {A = ℕ} (is_stone (at board q) && (l == k)) (empty_beside board q) 0)
        (same q (stone-from_test (at board q) e))
    share-same q false e =
        ap (λ (b : Bool). cond {A = ℕ} (b && (id_of ids' q == k)) (empty_beside board q) 0) e
        ∙ sym (ap (λ (b : Bool). cond {A = ℕ} (b && (id_of ids q == k)) (empty_beside board q) 0) e)

-- no stone has id 0, so 0 has none
pub pseudo_liberties-zero : (board : List Cell) (ids : List ℕ) → AreNonZero board ids
    → pseudo_liberties board ids 0 ≡ 0
pseudo_liberties-zero board ids named =
    pseudo_liberties-total board ids 0
    ∙ total-none (share board ids 0) 702 (λ q _. none q (is_stone (at board q)) refl)
  where
    none : (q : ℕ) (b : Bool) → is_stone (at board q) ≡ b → share board ids 0 q ≡ 0
    none q true e =
        ap (λ (b : Bool). cond {A = ℕ} (b && (id_of ids q == 0)) (empty_beside board q) 0) e
        ∙ ap (λ (b : Bool). cond {A = ℕ} b (empty_beside board q) 0)
        (ne_eqb (id_of ids q) 0 (named q (stone-from_test (at board q) e)))
    none q false e = ap (λ (b : Bool). cond {A = ℕ} (b && (id_of ids q == 0)) (empty_beside board q) 0) e

pub ArePseudoLiberties-same : (board : List Cell) (ids ids' counts : List ℕ)
    → ((q : ℕ) → IsStone (at board q) → id_of ids' q ≡ id_of ids q)
    → ArePseudoLiberties board ids counts → ArePseudoLiberties board ids' counts
ArePseudoLiberties-same board ids ids' counts same a = record {
  length_is = a.length_is;
  each = λ k below. a.each k below ∙ sym (pseudo_liberties-same board ids ids' same k);
}
