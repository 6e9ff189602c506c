-- The stack of taken stones, and the room on it.
use Rattle.std.proofs.Common.{◌≡◌, ℕ, ◌+◌, ◌≤◌, List, [], ◌∷◌, ◌++◌, length, sym, ◌∙◌, ap, arith, append_assoc}
use Rattle.std.proofs.Common.{length-append}
use Rattle.std.specs.List.{fold, range_with_len}
use Rattle.std.proofs.lemmas.List.{length-map, append-nil}
use Rattle.std.proofs.lemmas.List.Sums.{length-filter}
use Rattle.std.proofs.Math.ListN.{set}
use Rattle.go_base.specs.Colour.{other}
use Rattle.go_base.specs.declared.colours.Colour.{Colour}
use Rattle.go_base.specs.declared.moves.Move.{Move}
use Rattle.go_base.specs.declared.vertices.Vertex.{Vertex}
use Rattle.go_board.specs.Board.{at, stone}
use Rattle.go_board.specs.Game.{GameRecord, start, board, board_of, with_move, after}
use Rattle.go_board.specs.Play.{is_captured, captured_count, play, captures}
use Rattle.go_board.specs.private.TakenStack.{captured_places, taken_at, taken_places, stack_from, stack_of}
use Rattle.go_board.specs.declared.board.Cell.{Cell}
use Rattle.go_board.specs.declared.board.Cell.TheVariants.{Empty}
use Rattle.go_board.specs.declared.taken_stack.TakenStone.{TakenStone}
use Rattle.go_board.proofs.undo.BoardsBefore.{stone_count, stones-play}

stack_from-push : (b : List Cell) (n : ℕ) (moves : List Move) (m : Move)
    → stack_from b n (moves ++ m ∷ [])
    ≡ stack_from b n moves ++ taken_at (n + length moves) (taken_places (fold after b moves) m.colour m.vertex)
stack_from-push b n [] m =
    append-nil (taken_at n (taken_places b m.colour m.vertex))
    ∙ ap (λ (k : ℕ). taken_at k (taken_places b m.colour m.vertex)) (omega arith)
stack_from-push b n (x ∷ xs) m =
    let first : List TakenStone = taken_at n (taken_places b x.colour x.vertex) in
    let last : ℕ → List TakenStone = λ k. taken_at k (taken_places (fold after (after b x) xs) m.colour m.vertex) in
    ap (λ (ts : List TakenStone). first ++ ts)
    (stack_from-push (after b x) (n + 1) xs m
    ∙ ap (λ (k : ℕ). stack_from (after b x) (n + 1) xs ++ last k) (omega arith))
    ∙ sym (append_assoc first (stack_from (after b x) (n + 1) xs) (last (n + length (x ∷ xs))))

-- one more move puts its stones on the stack
pub stack_of-with_move : (game : GameRecord) (c : Colour) (v : Vertex)
    → stack_of (with_move game c v) ≡ stack_of game ++ taken_at (length game.moves) (taken_places (board_of game) c v)
unfolding stack_of board
stack_of-with_move game c v =
    stack_from-push (start game.size game.handicap) 0 game.moves (record { colour = c; vertex = v })
    ∙ ap (λ (k : ℕ). stack_from (start game.size game.handicap) 0 game.moves
    ++ taken_at k (taken_places (fold after (start game.size game.handicap) game.moves) c v)) (omega arith)

pub length-taken : (number : ℕ) (places : List ℕ) → length (taken_at number places) ≡ length places
length-taken number places = length-map places
    (λ (p : ℕ). let t : TakenStone = record { place = p; number = number } in t)

pub places-count : (board : List Cell) (c : Colour) → length (captured_places board c) ≡ captured_count board c
unfolding captured_count
places-count board c = length-filter (is_captured board c) (range_with_len 0 (length board))

-- and it stays so
pub few-after_play : (board : List Cell) (c : Colour) (p number moves : ℕ) (stack new : List TakenStone)
    → length board ≡ 702 → at board p ≡ Empty → length stack + stone_count board ≤ 9 + moves
    → new ≡ stack ++ taken_at number (captured_places (set board p (stone c)) (other c))
    → length new + stone_count (play board c p) ≤ 9 + (moves + 1)
unfolding captures
few-after_play board c p number moves stack new long empty few pushed =
    let places = captured_places (set board p (stone c)) (other c) in
    let sum = stones-play board c p long empty in
    let grown : length new ≡ length stack + length (taken_at number places) =
    ap length pushed ∙ length-append stack (taken_at number places) in
    let count = length-taken number places ∙ places-count (set board p (stone c)) (other c) in
    omega (arith, sum, few, grown, count)
