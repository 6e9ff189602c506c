-- A play that takes just one stone.
use Rattle.std.proofs.Common.{◌≡◌, ℕ, ◌+◌, ◌-◌, ◌≤◌, List, refl, sym, ◌∙◌, ap, subst}
use Rattle.std.proofs.Math.ListN.{set}
use Rattle.go_base.specs.Colour.{other}
use Rattle.go_base.specs.declared.colours.Colour.{Colour}
use Rattle.go_board.specs.Board.{at, stone}
use Rattle.go_board.specs.Chain.{Joined, itself, by_way_of, HasBeside, IsCaptured}
use Rattle.go_board.specs.private.Ko.{TakesOnly}
use Rattle.go_board.specs.private.Legal.{IsInAtari, TakesNoOtherAt, TakesNoOther}
use Rattle.go_board.specs.private.ChainId.{AreFree}
use Rattle.go_board.specs.declared.board.Cell.{Cell}
use Rattle.go_board.specs.declared.board.Cell.TheVariants.{Empty}
use Rattle.go_board.proofs.boards.Cells.{stone-point}
use Rattle.go_board.proofs.ids.Paths.{Joined-back, Joined-set}
use Rattle.go_board.proofs.liberties.PseudoLiberties.{captured-other, captured-beside}
use Rattle.go_board.proofs.captures.MakingPlays.{captured-joined}
use Rattle.go_board.proofs.boards.Neighbours.{not_itself, all_beside}

-- a stone without a neighbour of its colour is a chain of its own
lone : (board : List Cell) (x : Cell) {p q : ℕ} → at board p ≡ x → ¬ HasBeside board p x → Joined board p q → q ≡ p
lone board x held alone (itself point) = refl
lone board x held alone (by_way_of r point next same rest) =
    absurd (alone (record { place = r; neighbours = next; holds = same ∙ held }))

pub TakesOnly-from : (board : List Cell) (c d : Colour) (p q : ℕ) → at board p ≡ Empty → AreFree board → d ≡ other c
    → IsInAtari board d p q → ¬ HasBeside board q (stone d) → TakesNoOther board d p q
    → TakesOnly board c p q
TakesOnly-from board c d p q empty free is atari alone no_other_taken r = (
  (λ h.
      let found = captured-beside board c p r empty free h in
      let only : found.place ≡ q =
      no_other_taken found.place found.neighbours
      (subst (λ (t : Colour). IsInAtari board t p found.place) (sym is)
      ((captured-other board c p found.place empty).0 found.captured)) in
      lone board (stone d) atari.0 alone (Joined-back (subst (λ (k : ℕ). Joined board r k) only found.joined))),
  (λ e. subst (IsCaptured (set board p (stone c)) (other c)) (sym e)
      ((captured-other board c p q empty).1 (subst (λ (t : Colour). IsInAtari board t p q) is atari))),
)

pub atari-from : (board : List Cell) (c d : Colour) (p q : ℕ) → at board p ≡ Empty → d ≡ other c → TakesOnly board c p q
    → IsInAtari board d p q
atari-from board c d p q empty is only =
    subst (λ (t : Colour). IsInAtari board t p q) (sym is) ((captured-other board c p q empty).0 ((only q).1 refl))

pub alone-from : (board : List Cell) (c d : Colour) (p q : ℕ) → at board p ≡ Empty → d ≡ other c → TakesOnly board c p q
    → ¬ HasBeside board q (stone d)
alone-from board c d p q empty is only b =
    let captured = (only q).1 refl in
    let held : at board q ≡ stone (other c) = ((captured-other board c p q empty).0 captured).0 in
    let there : at board b.place ≡ stone (other c) = b.holds ∙ ap stone is in
    let path : Joined board q b.place =
    by_way_of b.place (λ e. stone-point (other c) (sym held ∙ e)) b.neighbours (there ∙ sym held)
    (itself (λ e. stone-point (other c) (sym there ∙ e))) in
    not_itself q b.place b.neighbours
    ((only b.place).0 (captured-joined (set board p (stone c)) (other c) q b.place
    (Joined-set board p (stone c) empty (other c, held) path) captured))

pub no_other_taken-from : (board : List Cell) (c d : Colour) (p q : ℕ) → at board p ≡ Empty → d ≡ other c
    → TakesOnly board c p q → TakesNoOther board d p q
no_other_taken-from board c d p q empty is only r next atari =
    (only r).0 ((captured-other board c p r empty).1 (subst (λ (t : Colour). IsInAtari board t p r) is atari))

pub spared-all : (board : List Cell) (c : Colour) (p q : ℕ) → 27 ≤ p → TakesNoOtherAt board c p q (p + 1)
    → TakesNoOtherAt board c p q (p - 1) → TakesNoOtherAt board c p q (p + 26) → TakesNoOtherAt board c p q (p - 26)
    → TakesNoOther board c p q
spared-all board c p q low = all_beside (TakesNoOtherAt board c p q) p
