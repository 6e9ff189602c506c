-- What the laws of simple ko say of a game.
use Rattle.std.proofs.Common.{◌≡◌, ℕ, ◌+◌, ◌-◌, ◌<◌, List, [], ◌∷◌, ◌++◌, length, take, refl, sym, ◌∙◌, ap, subst}
use Rattle.std.proofs.Common.{arith}
use Rattle.std.specs.Prelude.{◌≢◌, Some, slice_get}
use Rattle.std.proofs.lemmas.List.{length-take-le, take-take}
use Rattle.std.proofs.lemmas.Option.{slice_get_within}
use Rattle.go_base.specs.Point.{IsOn}
use Rattle.go_base.specs.declared.colours.Colour.{Colour}
use Rattle.go_base.specs.declared.moves.Move.{Move}
use Rattle.go_base.specs.declared.vertices.Vertex.TheVariants.{At}
use Rattle.go_board.specs.Board.{at}
use Rattle.go_board.specs.Chain.{IsFree}
use Rattle.go_board.specs.Game.{GameRecord, board, board_of, first_moves, with_move, IsGame, IsLegal, RepeatsBy}
use Rattle.go_board.specs.Laws.{under}
use Rattle.go_board.specs.Play.{play}
use Rattle.go_board.specs.declared.board.Cell.{Cell}
use Rattle.go_board.specs.declared.board.Cell.TheVariants.{Empty}
use Rattle.go_board.specs.declared.rules.KoRule.{KoRule}
use Rattle.go_board.specs.declared.rules.KoRule.TheVariants.{Simple}
use Rattle.go_board.proofs.records.Moves.{board-push}
use Rattle.go_board.proofs.records.EveryGame.{board-with_move}
use Rattle.go_board.proofs.ko_rules.ReplayedBoards.{take-step}

pub not-at-once : (game : GameRecord) (k p : ℕ) (c : Colour) → IsGame game → game.rule ≡ Simple
    → slice_get game.moves (k + 1) ≡ Some (record { colour = c; vertex = At p })
    → board_of (first_moves (k + 2) game) ≢ board_of (first_moves k game)
not-at-once game k p c g simple e same =
    legal.no_ko (subst (λ (rule : KoRule). RepeatsBy rule (first_moves (k + 1) game) next) (sym simple) (record {
      moved = omega (arith, long);
      same =
          sym (board-push game.size game.handicap (take (k + 1) game.moves) move)
          ∙ ap (board game.size game.handicap)
          (sym (ap (λ (n : ℕ). take n game.moves) two ∙ take-step game.moves (k + 1) move e)) ∙ same
          ∙ ap (board game.size game.handicap)
          (sym (ap (λ (n : ℕ). take n (take (k + 1) game.moves)) one ∙ take-take k (k + 1) game.moves (omega arith)));
    }))
  where
    move : Move
    move = record { colour = c; vertex = At p }

    next : List Cell
    next = play (board_of (first_moves (k + 1) game)) c p

    legal : IsLegal (first_moves (k + 1) game) c (At p)
    legal = g.legal (k + 1) move e

    long : length (take (k + 1) game.moves) ≡ k + 1
    long =
        let below = slice_get_within game.moves (k + 1) move e in
        length-take-le (k + 1) game.moves (omega (arith, below))

    two : k + 2 ≡ (k + 1) + 1
    two = omega arith

    one : length (take (k + 1) game.moves) - 1 ≡ k
    one = omega (arith, long)

-- a record with moves is one without its last move, and that move
last-move : (m : Move) (ms : List Move) → (last : Move) × (m ∷ ms ≡ take (length ms) (m ∷ ms) ++ last ∷ [])
last-move m [] = (m, refl)
last-move m (n ∷ ms) = let rest = last-move n ms in (rest.0, ap (λ (l : List Move). m ∷ l) rest.1)

pub split-last : (ms : List Move) → 0 < length ms → (last : Move) × (ms ≡ take (length ms - 1) ms ++ last ∷ [])
split-last [] some = absurd (omega (arith, some))
split-last (m ∷ ms) some =
    let rest = last-move m ms in
    let one : length ms ≡ length (m ∷ ms) - 1 = omega arith in
    (rest.0, rest.1 ∙ ap (λ (n : ℕ). take n (m ∷ ms) ++ rest.0 ∷ []) one)

pub others-legal : (game : GameRecord) (c : Colour) (p : ℕ) → IsOn game.size p → at (board_of game) p ≡ Empty
    → IsFree (board_of (with_move game c (At p))) p
    → ((front : List Move) (last : Move) → game.moves ≡ front ++ last ∷ []
    → board_of (with_move game c (At p)) ≢ board_of (record game { moves = front }))
    → IsLegal (under Simple game) c (At p)
others-legal game c p on empty free fresh = record {
  on_board = on;
  empty = empty;
  free = subst (λ (b : List Cell). IsFree b p) (board-with_move game c (At p)) free;
  no_ko = λ r.
      let split = split-last game.moves r.moved in
      fresh (take (length game.moves - 1) game.moves) split.0 split.1 (board-with_move game c (At p) ∙ r.same);
}
