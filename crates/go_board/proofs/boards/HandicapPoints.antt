-- Each handicap stone has an empty neighbour to its right.
use Rattle.std.proofs.Common.{◌≡◌, ℕ, ◌+◌, ◌%◌, ◌/◌, ◌≤◌, List, [], ◌∷◌, refl, sym, ◌∙◌, ap, subst, arith, inl, inr}
use Rattle.std.proofs.Common.{lit≤, get_or-set_other}
use Rattle.std.specs.Prelude.{◌⊎◌}
use Rattle.std.specs.List.{AllByRecursion}
use Rattle.std.proofs.lemmas.Bool.Decides.{nat_tests}
use Rattle.std.proofs.Math.ListN.{set}
use Rattle.go_base.specs.Handicap.{low_line, middle_line, high_line, handicap_points, AllowsHandicap}
use Rattle.go_base.specs.Point.{point, column_of, IsOn}
use Rattle.go_base.specs.Size.{IsSize}
use Rattle.go_base.proofs.board_points.HandicapPoints.{handicap_bounds}
use Rattle.go_board.specs.Board.{at, IsStone, empty_board, with_black}
use Rattle.go_board.specs.Chain.{itself}
use Rattle.go_board.specs.Game.{start}
use Rattle.go_board.specs.private.ChainId.{AreFree}
use Rattle.go_board.specs.declared.board.Cell.{Cell}
use Rattle.go_board.specs.declared.board.Cell.TheVariants.{Edge, Black}
use Rattle.go_board.proofs.boards.FirstBoard.{start-none}
use Rattle.go_board.proofs.ids.Paths.{IsStone-point}
use Rattle.go_board.proofs.captures.FreeStones.{empty-no_stone, empty-on}
use Rattle.std.proofs.lemmas.Bool.{cases_eq}
use Rattle.go_board.proofs.General.{all-where}

-- a stone was there or is one of the points
stones-from : (P : ℕ → Type 0) (board : List Cell) (points : List ℕ) (q : ℕ) → AllByRecursion P points
    → IsStone (at (with_black board points) q) → IsStone (at board q) ⊎ P q
stones-from P board [] q all s = inl s
stones-from P board (p ∷ ps) q all s = elim (stones-from P (set board p Black) ps q all.1 s) [
  | inr here ↦ inr here
  | inl stone ↦ elim (cases_eq q p) [
    | inl is ↦ inr (subst P (sym is) all.0)
    | inr another ↦ inl (stone.0, sym (get_or-set_other board p q Black Edge another) ∙ stone.1)
  ]
]

-- what is none of the points is as it was
others-as_before : (P : ℕ → Type 0) (board : List Cell) (points : List ℕ) (q : ℕ) → AllByRecursion P points → ¬ P q
    → at (with_black board points) q ≡ at board q
others-as_before P board [] q all away = refl
others-as_before P board (p ∷ ps) q all away =
    others-as_before P (set board p Black) ps q all.1 away
    ∙ get_or-set_other board p q Black Edge (λ is. away (subst P (sym is) all.0))

-- the lines of a handicap: no two are next to each other, and none is the last
record AreSpaced (size stones l m h : ℕ) : Type 0 where
  left : 1 ≤ l
  apart : l + 2 ≤ h
  right : h + 1 ≤ size
  middle : 5 ≤ stones → l + 2 ≤ m
  middle_right : 5 ≤ stones → m + 2 ≤ h
  small : size ≤ 25

-- a point on one of the lines
record IsOnLine (size stones l m h p : ℕ) : Type 0 where
  on : IsOn size p
  line : (column_of p ≡ l) ⊎ ((column_of p ≡ h) ⊎ ((5 ≤ stones) × (column_of p ≡ m)))

on-crossing : (size c r : ℕ) → size ≤ 25 → 1 ≤ c → c ≤ size → 1 ≤ r → r ≤ size → IsOn size (point c r)
on-crossing size c r s a b d e =
    record { left = omega arith; right = omega arith; bottom = omega arith; top = omega arith }

column-crossing : (size c r : ℕ) → size ≤ 25 → c ≤ size → column_of (point c r) ≡ c
column-crossing size c r s b = omega arith

next_column : (p : ℕ) → p % 26 + 1 ≤ 25 → (p + 1) % 26 ≡ p % 26 + 1
next_column p h = omega arith

next_row : (p : ℕ) → p % 26 + 1 ≤ 25 → (p + 1) / 26 ≡ p / 26
next_row p h = omega arith

-- a line, and the next column
Line : (stones l m h c : ℕ) → Type 0
Line stones l m h c = (c ≡ l) ⊎ ((c ≡ h) ⊎ ((5 ≤ stones) × (c ≡ m)))

within : (size stones l m h c : ℕ) → AreSpaced size stones l m h → Line stones l m h c → c + 1 ≤ size
unfolding Line
within size stones l m h c s (inl e) = let a = s.apart in let b = s.right in omega arith
within size stones l m h c s (inr (inl e)) = let b = s.right in omega arith
within size stones l m h c s (inr (inr e)) = let a = s.middle_right e.0 in let b = s.right in let d = e.1 in omega arith

no_line : (size stones l m h c : ℕ) → AreSpaced size stones l m h → Line stones l m h c → Line stones l m h (c + 1) → ⊥
unfolding Line
no_line size stones l m h c s (inl e) (inl f) = absurd (omega arith)
no_line size stones l m h c s (inl e) (inr (inl f)) = let a = s.apart in absurd (omega arith)
no_line size stones l m h c s (inl e) (inr (inr f)) = let a = s.middle f.0 in let d = f.1 in absurd (omega arith)
no_line size stones l m h c s (inr (inl e)) (inl f) = let a = s.apart in absurd (omega arith)
no_line size stones l m h c s (inr (inl e)) (inr (inl f)) = absurd (omega arith)
no_line size stones l m h c s (inr (inl e)) (inr (inr f)) = let a = s.middle_right f.0 in
    let d = f.1 in
    absurd (omega arith)
no_line size stones l m h c s (inr (inr e)) (inl f) = let a = s.middle e.0 in let d = e.1 in absurd (omega arith)
no_line size stones l m h c s (inr (inr e)) (inr (inl f)) = let a = s.middle_right e.0 in
    let d = e.1 in
    absurd (omega arith)
no_line size stones l m h c s (inr (inr e)) (inr (inr f)) = let d = e.1 in let g = f.1 in absurd (omega arith)

-- the right neighbour of such a point is on the board, and on none of the lines
right_of : (size stones l m h p : ℕ) → AreSpaced size stones l m h → IsOnLine size stones l m h p
    → IsOn size (p + 1) × ¬ IsOnLine size stones l m h (p + 1)
unfolding Line
right_of size stones l m h p s on =
    let inside = within size stones l m h (column_of p) s on.line in
    let small = s.small in
    let column = next_column p (omega (arith, inside, small)) in
    let row = next_row p (omega (arith, inside, small)) in
    let bottom = on.on.bottom in
    let top = on.on.top in (
      record {
        left = omega (arith, column);
        right = omega (arith, column, inside);
        bottom = omega (arith, row, bottom);
        top = omega (arith, row, top);
      },
      (λ next. no_line size stones l m h (column_of p) s on.line
          (subst (λ (c : ℕ). (c ≡ l) ⊎ ((c ≡ h) ⊎ ((5 ≤ stones) × (c ≡ m)))) column next.line)),
    )

AreFree-lines : (size stones l m h : ℕ) (points : List ℕ) → AreSpaced size stones l m h
    → AllByRecursion (IsOnLine size stones l m h) points → AreFree (with_black (empty_board size) points)
AreFree-lines size stones l m h points s all q stone =
    elim (stones-from (IsOnLine size stones l m h) (empty_board size) points q all stone) [
      | inl none ↦ absurd (empty-no_stone size q none)
      | inr on ↦
          let right = right_of size stones l m h q s on in
          record {
            point = q;
            joined = itself (IsStone-point (at (with_black (empty_board size) points) q) stone);
            beside = record {
              place = q + 1;
              neighbours = inl refl;
              holds =
                  others-as_before (IsOnLine size stones l m h) (empty_board size) points (q + 1) all right.1
                  ∙ empty-on size (q + 1) s.small right.0;
            };
          }
    ]

few_spaced : (size stones : ℕ) → 7 ≤ size → size ≤ 25 → stones ≤ 4
    → AreSpaced size stones (low_line size) (middle_line size) (high_line size)
few_spaced size stones large most few = record {
  left = grind (arith, nat_tests);
  apart = grind (arith, nat_tests);
  right = grind (arith, nat_tests);
  middle = λ many. absurd (omega arith);
  middle_right = λ many. absurd (omega arith);
  small = most;
}

spaced : (size stones : ℕ) → IsSize size → AllowsHandicap size stones
    → AreSpaced size stones (low_line size) (middle_line size) (high_line size)
spaced size stones is_size (inl a) =
    let odd = a.0 in
    let large = a.1 in
    let most = is_size.most in
    record {
      left = grind (arith, nat_tests);
      apart = grind (arith, nat_tests);
      right = grind (arith, nat_tests);
      middle = λ _. grind (arith, nat_tests);
      middle_right = λ _. grind (arith, nat_tests);
      small = most;
    }
spaced size stones is_size (inr (inl a)) =
    let seven = a.0 in few_spaced size stones (omega (arith, seven)) is_size.most a.2
spaced size stones is_size (inr (inr a)) =
    let large = a.1 in few_spaced size stones (omega (arith, large)) is_size.most a.3

-- what each point of the table is
record AreCrossings (size stones l m h : ℕ) (P : ℕ → Type 0) : Type 0 where
  ll : P (point l l)
  hh : P (point h h)
  lh : P (point l h)
  hl : P (point h l)
  lm : 5 ≤ stones → P (point l m)
  hm : 5 ≤ stones → P (point h m)
  ml : 5 ≤ stones → P (point m l)
  mh : 5 ≤ stones → P (point m h)
  mm : 5 ≤ stones → P (point m m)

crossings : (size stones l m h : ℕ) → AreSpaced size stones l m h
    → AreCrossings size stones l m h (IsOnLine size stones l m h)
crossings size stones l m h s =
    let a = s.left in
    let b = s.apart in
    let d = s.right in
    let few = s.small in
    let on_l : (r : ℕ) → 1 ≤ r → r ≤ size → IsOnLine size stones l m h (point l r) =
    λ r low high. record {
      on = on-crossing size l r few a (omega arith) low high;
      line = inl (column-crossing size l r few (omega arith));
    } in
    let on_h : (r : ℕ) → 1 ≤ r → r ≤ size → IsOnLine size stones l m h (point h r) =
    λ r low high. record {
      on = on-crossing size h r few (omega arith) (omega arith) low high;
      line = inr (inl (column-crossing size h r few (omega arith)));
    } in
    let on_m : (r : ℕ) → 5 ≤ stones → 1 ≤ r → r ≤ size → IsOnLine size stones l m h (point m r) = λ r many low high.
    let e = s.middle many in let f = s.middle_right many in
    record {
      on = on-crossing size m r few (omega arith) (omega arith) low high;
      line = inr (inr (many, column-crossing size m r few (omega arith)));
    } in
    record {
      ll = on_l l a (omega arith);
      hh = on_h h (omega arith) (omega arith);
      lh = on_l h (omega arith) (omega arith);
      hl = on_h l a (omega arith);
      lm = λ many. let e = s.middle many in let f = s.middle_right many in on_l m (omega arith) (omega arith);
      hm = λ many. let e = s.middle many in let f = s.middle_right many in on_h m (omega arith) (omega arith);
      ml = λ many. let e = s.middle many in let f = s.middle_right many in on_m l many a (omega arith);
      mh = λ many. let e = s.middle many in let f = s.middle_right many in on_m h many (omega arith) (omega arith);
      mm = λ many. let e = s.middle many in let f = s.middle_right many in on_m m many (omega arith) (omega arith);
    }

-- what holds of 2 to 9
pub by_number : (Q : ℕ → Type 0) → Q 2 → Q 3 → Q 4 → Q 5 → Q 6 → Q 7 → Q 8 → Q 9 → (n : ℕ) → 2 ≤ n → n ≤ 9 → Q n
by_number Q two three four five six seven eight nine n least most = elim (cases_eq n 2) [
  | inl e ↦ subst Q (sym e) two
  | inr not2 ↦ elim (cases_eq n 3) [
    | inl e ↦ subst Q (sym e) three
    | inr not3 ↦ elim (cases_eq n 4) [
      | inl e ↦ subst Q (sym e) four
      | inr not4 ↦ elim (cases_eq n 5) [
        | inl e ↦ subst Q (sym e) five
        | inr not5 ↦ elim (cases_eq n 6) [
          | inl e ↦ subst Q (sym e) six
          | inr not6 ↦ elim (cases_eq n 7) [
            | inl e ↦ subst Q (sym e) seven
            | inr not7 ↦ elim (cases_eq n 8)
                [ inl e ↦ subst Q (sym e) eight | inr not8 ↦ subst Q (omega arith) nine ]
          ]
        ]
      ]
    ]
  ]
]

all_points : (size : ℕ) (P : ℕ → Type 0) (n : ℕ) → 2 ≤ n → n ≤ 9
    → AreCrossings size n (low_line size) (middle_line size) (high_line size) P
    → AllByRecursion P (handicap_points size n)
unfolding handicap_points
all_points size P =
    by_number (λ n. AreCrossings size n (low_line size) (middle_line size) (high_line size) P
    → AllByRecursion P (handicap_points size n))
    (λ k. (k.ll, (k.hh, tt)))
    (λ k. (k.ll, (k.hh, (k.lh, tt))))
    (λ k. (k.ll, (k.hh, (k.lh, (k.hl, tt)))))
    (λ k. (k.ll, (k.hh, (k.lh, (k.hl, (k.mm (lit≤ tt), tt))))))
    (λ k. (k.ll, (k.hh, (k.lh, (k.hl, (k.lm (lit≤ tt), (k.hm (lit≤ tt), tt)))))))
    (λ k. (k.ll, (k.hh, (k.lh, (k.hl, (k.lm (lit≤ tt), (k.hm (lit≤ tt), (k.mm (lit≤ tt), tt))))))))
    (λ k. (k.ll, (k.hh, (k.lh, (k.hl, (k.lm (lit≤ tt), (k.hm (lit≤ tt), (k.ml (lit≤ tt), (k.mh (lit≤ tt), tt)))))))))
    (λ k. (
      k.ll,
      (
        k.hh,
        (
          k.lh,
          (k.hl, (k.lm (lit≤ tt), (k.hm (lit≤ tt), (k.ml (lit≤ tt), (k.mh (lit≤ tt), (k.mm (lit≤ tt), tt)))))),
        ),
      ),
    ))

-- each handicap stone is free
pub AreFree-start : (size stones : ℕ) → IsSize size → (stones ≡ 0) ⊎ AllowsHandicap size stones
    → AreFree (start size stones)
unfolding start
AreFree-start size stones is_size (inl none) =
    λ q stone. absurd (empty-no_stone size q
    (subst (λ (b : List Cell). IsStone (at b q)) (ap (start size) none ∙ start-none size) stone))
AreFree-start size stones is_size (inr allowed) =
    let bounds = handicap_bounds size stones allowed in
    let s = spaced size stones is_size allowed in
    AreFree-lines size stones (low_line size) (middle_line size) (high_line size) (handicap_points size stones) s
    (all_points size (IsOnLine size stones (low_line size) (middle_line size) (high_line size)) stones bounds.least
    bounds.most
    (crossings size stones (low_line size) (middle_line size) (high_line size) s))

-- each handicap point is on the board
pub points-on : (size stones : ℕ) → IsSize size → AllowsHandicap size stones
    → AllByRecursion (λ p. IsOn size p) (handicap_points size stones)
points-on size stones is_size allowed =
    let bounds = handicap_bounds size stones allowed in
    let s = spaced size stones is_size allowed in
    all-where (IsOnLine size stones (low_line size) (middle_line size) (high_line size)) (IsOn size) (λ p on. on.on)
    (handicap_points size stones)
    (all_points size (IsOnLine size stones (low_line size) (middle_line size) (high_line size)) stones bounds.least
    bounds.most
    (crossings size stones (low_line size) (middle_line size) (high_line size) s))
