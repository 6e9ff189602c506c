-- Putting back the stones that a play took.
use Rattle.std.proofs.Common.{◌≡◌, ℕ, zero, suc, ◌+◌, ◌<◌, ◌≤◌, List, [], ◌∷◌, ◌++◌, length, refl, sym, ◌∙◌, ap, arith}
use Rattle.std.proofs.Common.{inl, inr, Bool, true, false, cond, get_or-set_same, get_or-set_other, append_assoc}
use Rattle.std.specs.Prelude.{◌⊎◌, ◌≢◌}
use Rattle.std.specs.List.{range_with_len, filter, AllByRecursion}
use Rattle.std.proofs.lemmas.List.{length_push}
use Rattle.std.proofs.Math.ListN.{set, length-set}
use Rattle.go_board.specs.Board.{at}
use Rattle.go_board.specs.private.TakenStack.{taken_at, with_stones, IsNotLast, AreLastPoints, IsRestored}
use Rattle.go_board.specs.declared.board.Cell.{Cell}
use Rattle.go_board.specs.declared.board.Cell.TheVariants.{Edge, Empty}
use Rattle.go_board.specs.declared.taken_stack.TakenStone.{TakenStone}
use Rattle.std.proofs.lemmas.Bool.{cases_eq}

-- ---- the loop

pub record IsRestoring (board : List Cell) (this : Cell) (number : ℕ) (old now : List TakenStone) (cells : List Cell)
    (count : ℕ) : Type 0 where
  pub places : List ℕ
  pub board_is : cells ≡ with_stones board this places
  pub stack_is : old ≡ now ++ taken_at number places
  pub counted : count ≡ length places
  pub few : (count ≡ 0) ⊎ (length now + count ≤ 2009)

pub length-with_stones : (board : List Cell) (this : Cell) (ps : List ℕ)
    → length (with_stones board this ps) ≡ length board
length-with_stones board this [] = refl
length-with_stones board this (p ∷ ps) =
    length-set (with_stones board this ps) p this ∙ length-with_stones board this ps

-- a place before those that were set is as it was
with_stones-before : (board : List Cell) (this : Cell) (ps : List ℕ) (q : ℕ) → AllByRecursion (λ (p : ℕ). q < p) ps
    → at (with_stones board this ps) q ≡ at board q
with_stones-before board this [] q all = refl
with_stones-before board this (p ∷ ps) q all =
    get_or-set_other (with_stones board this ps) p q this Edge (apart q p all.0)
    ∙ with_stones-before board this ps q all.1
  where
    apart : (q p : ℕ) → q < p → q ≢ p
    apart q p less same = omega (arith, less, same)

stack_is-popped : (number p : ℕ) (old now new : List TakenStone) (places : List ℕ) → old ≡ now ++ taken_at number places
    → now ≡ new ++ record { place = p; number = number } ∷ []
    → old ≡ new ++ taken_at number (p ∷ places)
stack_is-popped number p old now new places stack_is popped =
    stack_is ∙ ap (λ (ts : List TakenStone). ts ++ taken_at number places) popped
    ∙ append_assoc new (record { place = p; number = number } ∷ []) (taken_at number places)

-- the stone that is popped off the stack stood on a point that is empty
pub popped-empty : (board : List Cell) (this : Cell) (number p count : ℕ) (old now new : List TakenStone)
    (cells : List Cell)
    → AreLastPoints board old number
    → IsRestoring board this number old now cells count → now ≡ new ++ record { place = p; number = number } ∷ []
    → at cells p ≡ Empty
popped-empty board this number p count old now new cells points b popped =
    let known = points new p b.places (stack_is-popped number p old now new b.places b.stack_is popped) in
    ap (λ (cs : List Cell). at cs p) b.board_is ∙ with_stones-before board this b.places p known.1 ∙ known.0

pub IsRestoring-more : (board : List Cell) (this : Cell) (number p count : ℕ) (old now new : List TakenStone)
    (cells cells' : List Cell)
    → IsRestoring board this number old now cells count → now ≡ new ++ record { place = p; number = number } ∷ []
    → length now ≤ 2009 → cells' ≡ set cells p this
    → IsRestoring board this number old new cells' (count + 1)
IsRestoring-more board this number p count old now new cells cells' b popped most is =
    let shorter : length now ≡ length new + 1 =
    ap length popped ∙ length_push new (record { place = p; number = number }) in
    record {
      places = p ∷ b.places;
      board_is = is ∙ ap (λ (cs : List Cell). set cs p this) b.board_is;
      stack_is = stack_is-popped number p old now new b.places b.stack_is popped;
      counted = let c = b.counted in omega (arith, c);
      few =
          elim b.few [
            | inl none ↦ inr (omega (arith, none, most, shorter))
            | inr few ↦
                inr (omega (arith, few, shorter))
          ];
    }

pub count-few : (board : List Cell) (this : Cell) (number count : ℕ) (old now : List TakenStone) (cells : List Cell)
    → IsRestoring board this number old now cells count → count ≤ 2009
count-few board this number count old now cells b =
    elim b.few [ inl none ↦ omega (arith, none) | inr few ↦ omega (arith, few) ]

pub IsRestoring-done : (board : List Cell) (this : Cell) (number count : ℕ) (old now : List TakenStone)
    (cells : List Cell)
    → IsRestoring board this number old now cells count
    → IsNotLast now number → IsRestored board this number old now cells count
IsRestoring-done board this number count old now cells b last =
    record { places = b.places; board_is = b.board_is; stones_are = b.stack_is; counted = b.counted; all = last }

-- ---- what is restored

pub filled-in : (board : List Cell) (this : Cell) (test : ℕ → Bool) (a n q : ℕ) → a ≤ q → q < a + n → q < length board
    → test q ≡ true
    → at (with_stones board this (filter test (range_with_len a n))) q ≡ this
filled-in board this test a zero q least most inside passes = absurd (omega (arith, least, most))
filled-in board this test a (suc n) q least most inside passes =
    by_test (test a) refl (λ later. filled-in board this test (a + 1) n q later (omega (arith, most)) inside passes)
  where
    ps : List ℕ
    ps = filter test (range_with_len (a + 1) n)

    rest : List Cell
    rest = with_stones board this (filter test (range_with_len (a + 1) n))

    apart : q ≢ a → a + 1 ≤ q
    apart another = grind (arith, another, least)

    differs : false ≡ true → ⊥
    differs e = cc

    by_test : (t : Bool) → test a ≡ t → (a + 1 ≤ q → at rest q ≡ this)
        → at (with_stones board this (cond t (a ∷ ps) ps)) q ≡ this
    by_test true e go = elim (cases_eq q a) [
      | inl same ↦ ap (at (set rest a this)) same
          ∙ get_or-set_same rest a this Edge
          (let long = length-with_stones board this ps in omega (arith, long, same, inside))
      | inr another ↦ get_or-set_other rest a q this Edge another ∙ go (apart another)
    ]
    by_test false e go = go (apart (λ same. differs (sym e ∙ ap test (sym same) ∙ passes)))

pub filled-out : (board : List Cell) (this : Cell) (test : ℕ → Bool) (a n q : ℕ) → test q ≡ false
    → at (with_stones board this (filter test (range_with_len a n))) q ≡ at board q
filled-out board this test a zero q fails = refl
filled-out board this test a (suc n) q fails = by_test (test a) refl (filled-out board this test (a + 1) n q fails)
  where
    ps : List ℕ
    ps = filter test (range_with_len (a + 1) n)

    rest : List Cell
    rest = with_stones board this (filter test (range_with_len (a + 1) n))

    differs : false ≡ true → ⊥
    differs e = cc

    by_test : (t : Bool) → test a ≡ t → at rest q ≡ at board q
        → at (with_stones board this (cond t (a ∷ ps) ps)) q ≡ at board q
    by_test true e go = get_or-set_other rest a q this Edge (λ same. differs (sym fails ∙ ap test same ∙ e)) ∙ go
    by_test false e go = go
