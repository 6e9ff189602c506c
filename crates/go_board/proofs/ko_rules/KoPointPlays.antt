-- The ko point: at most one point is such, and no ko rule allows a play there.
use Rattle.std.proofs.Common.{◌≡◌, ℕ, ◌-◌, List, length, take, sym, ◌∙◌, ap, subst, arith}
use Rattle.go_base.specs.declared.colours.Colour.{Colour}
use Rattle.go_board.specs.Board.{at}
use Rattle.go_board.specs.Chain.{IsFree}
use Rattle.go_board.specs.Game.{GameRecord, IsGame, RepeatsLast, RepeatsBy, board_of, with_move, without_last}
use Rattle.go_board.specs.KoPoint.{IsKoPoint}
use Rattle.go_board.specs.Play.{play}
use Rattle.go_board.specs.Refusals.{RefusesPoint}
use Rattle.go_board.specs.declared.board.Cell.{Cell}
use Rattle.go_board.specs.declared.faults.PlayFault.TheVariants as fault
use Rattle.go_board.specs.declared.rules.KoRule.{KoRule}
use Rattle.go_board.specs.declared.rules.KoRule.TheVariants.{Simple, Positional}
use Rattle.go_board.proofs.captures.FreeStones.{new-stone}
use Rattle.go_board.proofs.of_laws.KoRules.{split-last}
use Rattle.go_board.proofs.records.EveryGame.{IsOrderly-game}
use Rattle.go_board.proofs.records.Moves.{IsBeforeMove-from, with-last}

-- the stone of such a play is free: it was, on the board that comes back
ko-free : (game : GameRecord) (c : Colour) (p : ℕ) → IsGame game → IsKoPoint game c p
    → IsFree (play (board_of game) c p) p
ko-free game c p g ko =
    let split = split-last game.moves ko.repeats.moved in
    let same : with_move (without_last game) (split.0).colour (split.0).vertex ≡ game =
    with-last game (take (length game.moves - 1) game.moves) split.0 split.1 in
    let before =
    IsBeforeMove-from (without_last game) (split.0).colour (split.0).vertex (subst IsGame (sym same) g) in
    let back : play (board_of game) c p ≡ board_of (without_last game) = ko.repeats.same in
    let free = (IsOrderly-game (without_last game) before.game_is).free in
    subst (λ (b : List Cell). IsFree b p) (sym back)
    (free p (c, ap (λ (b : List Cell). at b p) (sym back) ∙ new-stone (board_of game) c p ko.empty))

-- the board before the last move is one that each rule forbids
repeats-by : (rule : KoRule) (game : GameRecord) (next : List Cell) → RepeatsLast game next → RepeatsBy rule game next
repeats-by Simple game next r = r
repeats-by Positional game next r =
    record { number = length game.moves - 1; within = omega arith; same = r.same }

pub ko-refused : (game : GameRecord) (c : Colour) (p : ℕ) → IsGame game → IsKoPoint game c p
    → RefusesPoint game c p fault.Ko
ko-refused game c p g ko = (
  ((IsOrderly-game game g).has_size p).0 (λ edge. let both = sym ko.empty ∙ edge in cc),
  (ko.empty, (ko-free game c p g ko, repeats-by game.rule game (play (board_of game) c p) ko.repeats)),
)
