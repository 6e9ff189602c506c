-- Where a refused `play` may be retaken, and what is counted then.
use Rattle.std.proofs.Common.{◌≡◌, ℕ, zero, suc, ◌+◌, ◌-◌, ◌<◌, ◌≤◌, List, length, Option, Some, None, refl}
use Rattle.std.proofs.Common.{Bool, true, false, ◌&&◌, arith, get_or-set_same}
use Rattle.std.specs.Prelude.{◌==◌, slice_get, nat_lt}
use Rattle.std.proofs.lemmas.Bool.Decides.{nat_tests}
use Rattle.std.proofs.lemmas.Option.{slice_get_within}
use Rattle.go_base.specs.Colour.{other}
use Rattle.go_base.specs.declared.colours.Colour.{Colour}
use Rattle.go_base.specs.declared.moves.Move.{Move}
use Rattle.go_board.specs.Game.{GameRecord}
use Rattle.gtp_match.specs.Retakes.{most_retakes, retakes_of, with_retake}
use Rattle.gtp_match.specs.Script.{script}
use Rattle.gtp_match.specs.Taking.{last_move, is_by, moved_last, owes_last, may_retake}
use Rattle.gtp_match.specs.declared.controller.Controller.{Controller}
use Rattle.gtp_match.specs.declared.sides.EngineRun.{EngineRun}
use Rattle.gtp_match.proofs.scripts.WithoutLast.{same_is}

both : (x y : Bool) → (x && y) ≡ true → (x ≡ true) × (y ≡ true)
both true y e = (refl, e)
both false y e = absurd (cc)

-- the last move of the game is one of this colour
record HasLast (game : GameRecord) (colour : Colour) : Type 0 where
  place : ℕ
  move : Move
  there : slice_get game.moves place ≡ Some move
  last : place + 1 ≡ length game.moves
  by : move.colour ≡ colour

has_last : (game : GameRecord) (colour : Colour) → moved_last game colour ≡ true → HasLast game colour
has_last game colour e = by_move (last_move game) refl e
  where
    by_move : (m : Option Move) → last_move game ≡ m → is_by m colour ≡ true → HasLast game colour
    by_move None is h = absurd (cc)
    by_move (Some move) is h =
        let within = slice_get_within game.moves (length game.moves - 1) move is in
        record {
          place = length game.moves - 1;
          move = move;
          there = is;
          last = omega (arith, within);
          by = same_is move.colour colour h;
        }

-- A `play` that the engine refused is met by a retake: it is the script's last command, the last move is the other
-- side's, and of its number there were less than three retakes.
pub record IsMet (c : Controller) (s : Colour) (engine : EngineRun) : Type 0 where
  pub last_command : engine.confirmed + 1 ≡ length (script c.game)
  pub place : ℕ
  pub move : Move
  pub there : slice_get c.game.moves place ≡ Some move
  pub last : place + 1 ≡ length c.game.moves
  pub by_other : move.colour ≡ other s
  pub few : retakes_of c.retakes (place + 1) < 3

pub met_if : (c : Controller) (s : Colour) (engine : EngineRun) → may_retake c s engine ≡ true → IsMet c s engine
met_if c s engine e =
    let a = both (owes_last c.game engine) _ e in
    let b = both (moved_last c.game (other s)) _ a.1 in
    let m = has_last c.game (other s) b.0 in
    let few : retakes_of c.retakes (length c.game.moves) < 3 = below (retakes_of c.retakes (length c.game.moves)) b.1 in
    record {
      last_command = same (engine.confirmed + 1) (length (script c.game)) a.0;
      place = m.place;
      move = m.move;
      there = m.there;
      last = m.last;
      by_other = m.by;
      few = rw m.last few;
    }
  where
    same : (m n : ℕ) → (m == n) ≡ true → m ≡ n
    same m n e = grind (arith, nat_tests)

    below : (n : ℕ) → nat_lt n most_retakes ≡ true → n < 3
    below n e = grind (arith, nat_tests)

pub one_more : (retakes : List ℕ) (number : ℕ) → 0 < number → number ≤ length retakes
    → retakes_of (with_retake number retakes) number ≡ retakes_of retakes number + 1
one_more retakes zero some within = absurd (omega (arith, some))
one_more retakes (suc k) some within =
    let e : suc k - 1 ≡ k = omega arith in
    rw e (get_or-set_same retakes k (retakes_of retakes (suc k) + 1) 0 (omega (arith, within)))
