-- Whether a point is a candidate can be decided.
use Rattle.std.proofs.Common.{◌≡◌, ℕ, ◌+◌, ◌-◌, subst, Option, Some, None, refl, inl, inr, arith}
use Rattle.std.specs.Prelude.{◌⊎◌}
use Rattle.go_base.specs.Point.{Neighbours}
use Rattle.go_base.specs.Colour.{other}
use Rattle.go_base.specs.declared.colours.Colour.{Colour}
use Rattle.go_base.specs.declared.colours.Colour.TheVariants.{Black, White}
use Rattle.go_base.specs.declared.vertices.Vertex.TheVariants.{At}
use Rattle.go_board.specs.Board.{stone_at}
use Rattle.go_base.specs.Decide.{both?, either?, by?, number?}
use Rattle.go_board.specs.decisions.Board.{on?}
use Rattle.go_board.specs.Game.{GameRecord, board_of}
use Rattle.go_board.specs.decisions.Game.{legal?}
use Rattle.gtp_session.specs.Candidate.{IsOpen, HasOpenNeighbour, IsCandidate}

stone_is? : (a b : Option Colour) → Dec (a ≡ b)
stone_is? None None = yes refl
stone_is? (Some Black) (Some Black) = yes refl
stone_is? (Some White) (Some White) = yes refl
stone_is? None (Some b) = no (λ e. cc)
stone_is? (Some a) None = no (λ e. cc)
stone_is? (Some Black) (Some White) = no (λ e. cc)
stone_is? (Some White) (Some Black) = no (λ e. cc)

pub open? : (game : GameRecord) (colour : Colour) (p : ℕ) → Dec (IsOpen game colour p)
open? game colour p =
    by? (λ h. record { on_board = h.0; stone = h.1 }) (λ o. (o.on_board, o.stone))
    (both? (on? game.size p)
    (either?
    (stone_is? (stone_at (board_of game) p) None)
    (stone_is? (stone_at (board_of game) p) (Some (other colour)))))

-- q is an open neighbour of p
abbrev IsOpenBeside : GameRecord → Colour → ℕ → ℕ → Type 0
IsOpenBeside game colour p q = Neighbours p q × IsOpen game colour q

open_beside? : (game : GameRecord) (colour : Colour) (p q : ℕ) → Dec (IsOpenBeside game colour p q)
open_beside? game colour p q =
    both?
    (either? (number? q (p + 1)) (either? (number? p (q + 1)) (either? (number? q (p + 26)) (number? p (q + 26)))))
    (open? game colour q)

-- one of the four neighbours is open
abbrev FourBeside : GameRecord → Colour → ℕ → Type 0
FourBeside game colour p =
    IsOpenBeside game colour p (p + 1)
    ⊎ (IsOpenBeside game colour p (p - 1) ⊎ (IsOpenBeside game colour p (p + 26) ⊎ IsOpenBeside game colour p (p - 26)))

pub open_neighbour? : (game : GameRecord) (colour : Colour) (p : ℕ) → Dec (HasOpenNeighbour game colour p)
open_neighbour? game colour p =
    by? there (λ h. by_place h.place h.neighbours h.is_open)
    (either? (open_beside? game colour p (p + 1)) (either? (open_beside? game colour p (p - 1))
    (either? (open_beside? game colour p (p + 26)) (open_beside? game colour p (p - 26)))))
  where
    made : (q : ℕ) → IsOpenBeside game colour p q → HasOpenNeighbour game colour p
    made q h = record { place = q; neighbours = h.0; is_open = h.1 }

    there : FourBeside game colour p → HasOpenNeighbour game colour p
    there (inl h) = made (p + 1) h
    there (inr (inl h)) = made (p - 1) h
    there (inr (inr (inl h))) = made (p + 26) h
    there (inr (inr (inr h))) = made (p - 26) h

    moved : (q r : ℕ) → q ≡ r → IsOpenBeside game colour p q → IsOpenBeside game colour p r
    moved q r e h = subst (λ (s : ℕ). IsOpenBeside game colour p s) e h

    by_place : (q : ℕ) → Neighbours p q → IsOpen game colour q → FourBeside game colour p
    by_place q (inl e) o = inl (moved q (p + 1) e (inl e, o))
    by_place q (inr (inl e)) o = inr (inl (moved q (p - 1) (omega arith) (inr (inl e), o)))
    by_place q (inr (inr (inl e))) o = inr (inr (inl (moved q (p + 26) e (inr (inr (inl e)), o))))
    by_place q (inr (inr (inr e))) o = inr (inr (inr (moved q (p - 26) (omega arith) (inr (inr (inr e)), o))))

pub candidate? : (game : GameRecord) (colour : Colour) (p : ℕ) → Dec (IsCandidate game colour p)
candidate? game colour p =
    by? (λ h. record { legal = h.0; beside = h.1 }) (λ c. (c.legal, c.beside))
    (both? (legal? game colour (At p)) (open_neighbour? game colour p))
