-- The one ko point of a colour.
use Rattle.std.proofs.Common.{◌≡◌, ℕ, sym, subst}
use Rattle.std.specs.Prelude.{Option, Some}
use Rattle.go_base.specs.declared.colours.Colour.{Colour}
use Rattle.go_board.specs.Game.{GameRecord}
use Rattle.go_board.specs.KoPoint.{IsKoPoint, IsOnlyKoPoint}
use Rattle.go_board.specs.declared.ko.Ko.{Ko}
use Rattle.go_board.specs.private.Ko.{IsKo}

only-one : (game : GameRecord) (c : Colour) (found : ℕ) → IsKoPoint game c found
    → ((p : ℕ) → IsKoPoint game c p → p ≡ found) → IsOnlyKoPoint game c (Some found)
only-one game c found is one p = ((λ h. one p h), (λ e. subst (IsKoPoint game c) (sym e) is))

-- a ko point is the one that the game keeps
pub only-kept : (game : GameRecord) (kept : Option Ko) (ko : Ko) (c : Colour) → kept ≡ Some ko → IsKo game kept
    → IsKoPoint game c ko.point → IsOnlyKoPoint game c (Some ko.point)
only-kept game kept ko c same ko_is is =
    only-one game c ko.point is
    (λ p h. ((subst (λ (k : Option Ko). IsKo game k) same ko_is c p h.empty).0 h.repeats).0)
