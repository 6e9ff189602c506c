-- A game without its last move.
use Rattle.std.proofs.Common.{◌≡◌, ℕ, zero, suc, ◌+◌, ◌-◌, ◌<◌, ◌≤◌, List, [], ◌∷◌, length, take, Option, Some, None}
use Rattle.std.proofs.Common.{true, refl, sym, ◌∙◌, ap, subst, arith, inl, inr}
use Rattle.std.specs.Prelude.{slice_get, ◌⊎◌}
use Rattle.std.proofs.lemmas.List.{take-take, length-take-le, take-append-le, length_push, take_all}
use Rattle.std.proofs.lemmas.Option.{slice_get_within}
use Rattle.go_base.specs.Colour.{other}
use Rattle.go_base.specs.declared.colours.Colour.{Colour}
use Rattle.go_base.specs.declared.colours.Colour.TheVariants.{Black, White}
use Rattle.go_base.specs.declared.moves.Move.{Move}
use Rattle.go_base.specs.declared.vertices.Vertex.{Vertex}
use Rattle.go_board.specs.Game.{GameRecord, IsGame, IsFinished, IsLegal, first_moves, without_last, with_move}
use Rattle.go_board.specs.Taken.{same_colour}
use Rattle.gtp_match.specs.Controller.{first_to_move, to_move}
use Rattle.gtp_match.specs.Script.{script}
use Rattle.gtp_match.specs.Sound.{TakesTurns}
use Rattle.gtp_match.specs.Taking.{last_move, is_by, moved_last}
use Rattle.gtp_match.proofs.scripts.Scripts.{script_length}
use Rattle.gtp_match.proofs.scripts.Turns.{HasStones, colour_at, by_parity, turned}

in_take : {X : Type 0} (n : ℕ) (xs : List X) (k : ℕ) (x : X) → slice_get (take n xs) k ≡ Some x
    → (k < n) × (slice_get xs k ≡ Some x)
in_take zero xs k x e = absurd (cc)
in_take (suc n) [] k x e = absurd (cc)
in_take (suc n) (y ∷ ys) zero x e = (omega arith, e)
in_take (suc n) (y ∷ ys) (suc k) x e = let i = in_take n ys k x e in (omega (arith, i.0), i.1)

-- the first moves of a game's first moves
pub first_of_first : (k n : ℕ) (game : GameRecord) → k ≤ n → first_moves k (first_moves n game) ≡ first_moves k game
first_of_first k n game h =
    ap (λ (ms : List Move). let g : GameRecord = record game { moves = ms } in g) (take-take k n game.moves h)

pub shorter_length : (game : GameRecord) → length (without_last game).moves ≡ length game.moves - 1
shorter_length game = length-take-le (length game.moves - 1) game.moves (omega arith)

-- the script has one command less
pub script_shorter : (game : GameRecord) → 0 < length game.moves
    → length (script (without_last game)) + 1 ≡ length (script game)
script_shorter game some =
    omega (arith, script_length game, script_length (without_last game), shorter_length game, some)

pub shorter_is_game : (game : GameRecord) → IsGame game → IsGame (without_last game)
shorter_is_game game g = record {
  size = g.size;
  komi = g.komi;
  handicap = g.handicap;
  few = omega (arith, shorter_length game, g.few);
  legal = λ k m e.
      let i = in_take (length game.moves - 1) game.moves k m e in
      subst (λ (before : GameRecord). IsLegal before m.colour m.vertex)
      (sym (first_of_first k (length game.moves - 1) game (omega (arith, i.0)))) (g.legal k m i.1);
}

pub shorter_turns : (game : GameRecord) → TakesTurns game → TakesTurns (without_last game)
shorter_turns game t = record {
  without_handicap = λ move none e. t.without_handicap move none (inside 0 move e);
  with_handicap = λ move some e. t.with_handicap move some (inside 0 move e);
  later = λ k move next e f. t.later k move next (inside k move e) (inside (k + 1) next f);
}
  where
    inside : (k : ℕ) (move : Move) → slice_get (without_last game).moves k ≡ Some move
        → slice_get game.moves k ≡ Some move
    inside k move e = let i = in_take (length game.moves - 1) game.moves k move e in i.1

pub shorter_went_on : (game : GameRecord)
    → ((k : ℕ) → k < length game.moves → ¬ IsFinished (first_moves k game))
    → (k : ℕ) → k < length (without_last game).moves → ¬ IsFinished (first_moves k (without_last game))
shorter_went_on game went_on k below ends =
    went_on k (omega (arith, below, shorter_length game))
    (subst IsFinished (first_of_first k (length game.moves - 1) game (omega (arith, below, shorter_length game))) ends)

-- a game that goes on goes on before one move more
pub longer_went_on : (game : GameRecord) (c : Colour) (v : Vertex)
    → ((k : ℕ) → k < length game.moves → ¬ IsFinished (first_moves k game)) → ¬ IsFinished game
    → (k : ℕ) → k < length (with_move game c v).moves → ¬ IsFinished (first_moves k (with_move game c v))
longer_went_on game c v went_on goes_on k below ends = by_place (same_or_below k (length game.moves) within)
  where
    within : k ≤ length game.moves
    within = omega (arith, below, length_push game.moves (record { colour = c; vertex = v }))

    first_is : first_moves k (with_move game c v) ≡ first_moves k game
    first_is =
        ap (λ (ms : List Move). let g : GameRecord = record game { moves = ms } in g)
        (take-append-le k game.moves (record { colour = c; vertex = v } ∷ []) within)

    same_or_below : (n m : ℕ) → n ≤ m → (n ≡ m) ⊎ (n < m)
    same_or_below n m h = grind arith

    by_place : (k ≡ length game.moves) ⊎ (k < length game.moves) → ⊥
    by_place (inr less) = went_on k less (subst IsFinished first_is ends)
    by_place (inl same) =
        let all : first_moves k game ≡ game =
        ap (λ (ms : List Move). let g : GameRecord = record game { moves = ms } in g)
        (take_all k game.moves (omega (arith, same))) in
        goes_on (subst IsFinished (first_is ∙ all) ends)

-- ---- who made the last move

pub same_is : (a b : Colour) → same_colour a b ≡ true → a ≡ b
same_is Black Black e = refl
same_is White White e = refl
same_is Black White e = absurd (cc)
same_is White Black e = absurd (cc)

-- where a colour made the last move, there is one, and the other colour has the turn
pub turn_after : (game : GameRecord) (c : Colour) → HasStones game → TakesTurns game → moved_last game c ≡ true
    → (0 < length game.moves) × (to_move game ≡ other c)
turn_after game c stones t e = by_last (last_move game) refl e
  where
    by_last : (m : Option Move) → last_move game ≡ m → is_by m c ≡ true
        → (0 < length game.moves) × (to_move game ≡ other c)
    by_last None is e = absurd (cc)
    by_last (Some move) is e =
        let within : length game.moves - 1 < length game.moves =
        slice_get_within game.moves (length game.moves - 1) move is in
        let again : length game.moves - 1 + 1 ≡ length game.moves = omega (arith, within) in (
          omega (arith, within),
          ap (by_parity (first_to_move game)) (sym again)
              ∙ turned (first_to_move game) (length game.moves - 1)
              ∙ ap other (sym (colour_at game stones t (length game.moves - 1) move is)
              ∙ same_is move.colour c e),
        )
