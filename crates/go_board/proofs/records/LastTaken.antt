-- What the last move took, by what a game keeps.
use Rattle.std.proofs.Common.{◌≡◌, ℕ, suc, ◌-◌, ◌≤◌, List, [], ◌∷◌, length, refl, sym, ap, ◌∙◌, subst, arith}
use Rattle.std.proofs.Common.{Bool, false}
use Rattle.std.proofs.lemmas.Bool.Decides.{nat_tests}
use Rattle.std.proofs.lemmas.Bool.{false≢true}
use Rattle.std.specs.Prelude.{◌==◌, ◌↔◌, IsTrue, not}
use Rattle.go_board.specs.Game.{GameRecord}
use Rattle.go_board.specs.LastTaken.{AreTakenByLast, HasTakenByLast}
use Rattle.go_board.specs.declared.game.Game.TheInside.{Inside}
use Rattle.go_board.specs.declared.taken_stack.TakenStone.{TakenStone}
use Rattle.go_board.specs.private.Kept.{record_of, IsKept}
use Rattle.go_board.specs.private.TakenStack.{AreLastOf, places_of}
use Rattle.go_board.proofs.undo.LastTaken.{taken-last}

-- the stones at the stack's end are those that the last move took
pub stack_end : (f : Inside) (game : GameRecord) (stones : List TakenStone) (many number : ℕ) → IsKept f
    → record_of f ≡ game → many ≡ length f.moves.items → (1 ≤ many) × (number ≡ many - 1) → AreLastOf f.stack number stones
    → AreTakenByLast game (places_of stones)
stack_end f game stones many number kept same long last a =
    let least = last.0 in
    let is = last.1 in
    subst (λ (g : GameRecord). AreTakenByLast g (places_of stones)) same
    (taken-last (record_of f) kept.game number stones (omega (arith, least, is, long))
    (subst (λ (ts : List TakenStone). AreLastOf ts number stones) kept.stack_is a))

not_zero : (n : ℕ) → (suc n == 0) ≡ false
not_zero n = grind (arith, nat_tests)

-- the last move took a stone where one is listed
pub took-any : (game : GameRecord) (stones : List TakenStone) (none : Bool) → AreTakenByLast game (places_of stones)
    → none ≡ (length stones == 0) → IsTrue (not none) ↔ HasTakenByLast game
took-any game [] none are is = (
  (λ some. absurd (false≢true (sym (ap not is) ∙ some))),
  (λ has. let below = ((are.each has.point).1 has.taken).1 in absurd (omega (arith, below))),
)
took-any game (t ∷ stones) none are is = (
  (λ some. record { point = t.place; taken = (are.each t.place).0 (0, omega arith, refl) }),
  (λ has. ap not (is ∙ not_zero (length stones))),
)
