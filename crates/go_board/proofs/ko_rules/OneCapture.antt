-- A play that takes one stone, by the count and by the list of what it takes.
use Rattle.std.proofs.Common.{◌≡◌, ℕ, ◌<◌, List, [], ◌∷◌, length, refl, sym, ◌∙◌, ap, subst, arith, inl, inr, Bool}
use Rattle.std.proofs.Common.{true, cond, All}
use Rattle.std.specs.Prelude.{count_by}
use Rattle.std.specs.List.{range_with_len}
use Rattle.std.proofs.lemmas.List.Elements.{filter_passes}
use Rattle.std.proofs.lemmas.List.Sums.{length-filter}
use Rattle.std.proofs.Math.ListN.{set}
use Rattle.go_base.specs.Colour.{other}
use Rattle.go_base.specs.declared.colours.Colour.{Colour}
use Rattle.go_board.specs.Board.{stone}
use Rattle.go_board.specs.private.Ko.{TakesOnly}
use Rattle.go_board.specs.Chain.{IsCaptured}
use Rattle.go_board.specs.decisions.Chain.{captured?}
use Rattle.go_board.specs.Play.{is_captured, captured_count, captures}
use Rattle.go_board.specs.private.TakenStack.{captured_places}
use Rattle.go_board.specs.declared.board.Cell.{Cell}
use Rattle.go_board.proofs.boards.Cells.{stone-point}
use Rattle.go_board.proofs.captures.CapturedStones.{holds-yes, holds-no, in_list, holds-true}
use Rattle.go_board.proofs.captures.CapturedStones.{counted-one}
use Rattle.go_board.proofs.Sums.{total, total-only}
use Rattle.std.proofs.lemmas.Bool.{cases_order}

-- two places that count are one, where one is counted
same-one : (p : ℕ → Bool) (n q r : ℕ) → q < n → r < n → p q ≡ true → p r ≡ true → count_by p (range_with_len 0 n) ≡ 1
    → r ≡ q
same-one p n q r bq br hq hr one = elim (cases_order q r) [
  | inl is ↦ sym is
  | inr (inl less) ↦
      let a = counted-one p q r less hq in
      let b = counted-one p r n br hr in
      absurd (omega (arith, a, b, one))
  | inr (inr more) ↦
      let a = counted-one p r q more hr in
      let b = counted-one p q n bq hq in
      absurd (omega (arith, a, b, one))
]

-- the one place of the list is the one stone that the play takes
pub TakesOnly-places : (board : List Cell) (c : Colour) (p q : ℕ)
    → captured_places (set board p (stone c)) (other c) ≡ q ∷ [] → TakesOnly board c p q
TakesOnly-places board c p q places r = (
  (λ h. same-one test n q r (in_board q captured) (in_board r h) (holds-yes (captured? cells (other c) q) captured)
      (holds-yes (captured? cells (other c) r) h) one),
  (λ e. subst (IsCaptured cells (other c)) (sym e) captured),
)
  where
    cells : List Cell
    cells = set board p (stone c)

    n : ℕ
    n = length (set board p (stone c))

    test : ℕ → Bool
    test = is_captured (set board p (stone c)) (other c)

    in_board : (k : ℕ) → IsCaptured (set board p (stone c)) (other c) k → k < length (set board p (stone c))
    in_board k h = in_list (set board p (stone c)) k (λ e. stone-point (other c) (sym h.0 ∙ e))

    passes : is_captured (set board p (stone c)) (other c) q ≡ true
    passes = (subst (λ (ps : List ℕ). All (λ (k : ℕ). is_captured (set board p (stone c)) (other c) k ≡ true) ps) places
        (filter_passes (is_captured (set board p (stone c)) (other c))
        (range_with_len 0 (length (set board p (stone c)))))) 0 0 (omega arith)

    captured : IsCaptured (set board p (stone c)) (other c) q
    captured = holds-true (captured? (set board p (stone c)) (other c) q) passes

    one : count_by (is_captured (set board p (stone c)) (other c)) (range_with_len 0 (length (set board p (stone c))))
        ≡ 1
    one =
        sym (length-filter (is_captured (set board p (stone c)) (other c))
        (range_with_len 0 (length (set board p (stone c))))) ∙ ap length places

-- a play that takes just one stone takes one by the count
pub captures-one : (board : List Cell) (c : Colour) (p q : ℕ) → TakesOnly board c p q → captures board c p ≡ 1
unfolding captures captured_count total
captures-one board c p q only =
    total-only (λ r. cond (is_captured (set board p (stone c)) (other c) r) 1 0) q (length (set board p (stone c)))
    (in_list (set board p (stone c)) q (λ e. stone-point (other c) (sym captured.0 ∙ e)))
    (λ r another. one_for _ (holds-no (captured? (set board p (stone c)) (other c) r) (λ h. another ((only r).0 h))))
    ∙ one_for _ (holds-yes (captured? (set board p (stone c)) (other c) q) captured)
  where
    captured : IsCaptured (set board p (stone c)) (other c) q
    captured = (only q).1 refl

    one_for : (b : Bool) {t : Bool} → b ≡ t → cond {A = ℕ} b 1 0 ≡ cond t 1 0
    one_for b e = ap (λ (x : Bool). cond {A = ℕ} x 1 0) e
