-- What one more move takes.
use Rattle.std.proofs.Common.{◌≡◌, ℕ, ◌+◌, ◌-◌, ◌≤◌, List, [], ◌∷◌, ◌++◌, length, refl, sym, ap, arith, cond}
use Rattle.std.proofs.Common.{length-append}
use Rattle.std.specs.Prelude.{if◌then◌else◌}
use Rattle.std.specs.List.{fold, range_with_len}
use Rattle.std.proofs.lemmas.List.{length-map}
use Rattle.std.proofs.lemmas.List.Sums.{length-filter}
use Rattle.std.proofs.Math.ListN.{set}
use Rattle.go_base.specs.Colour.{other}
use Rattle.go_base.specs.declared.colours.Colour.{Colour}
use Rattle.go_base.specs.declared.colours.Colour.TheVariants.{Black, White}
use Rattle.go_base.specs.declared.vertices.Vertex.{Vertex}
use Rattle.go_base.specs.declared.vertices.Vertex.TheVariants.{Pass, At}
use Rattle.go_base.specs.declared.moves.Move.{Move}
use Rattle.go_board.specs.Board.{stone}
use Rattle.go_board.specs.Game.{GameRecord, start, board, board_of, with_move, after}
use Rattle.go_board.specs.Play.{is_captured, captured_count, captures}
use Rattle.go_board.specs.private.TakenStack.{taken_at, taken_places, stack_from, stack_of}
use Rattle.go_board.specs.Taken.{captures_of_vertex, same_colour, taken_from, taken}
use Rattle.go_board.specs.declared.board.Cell.{Cell}
use Rattle.go_board.specs.declared.taken_stack.TakenStone.{TakenStone}

taken_by : List Cell → Colour → Move → ℕ
taken_by b c m = if same_colour m.colour c then captures_of_vertex b c m.vertex else 0

taken_from-push : (b : List Cell) (c : Colour) (moves : List Move) (m : Move)
    → taken_from b c (moves ++ m ∷ []) ≡ taken_from b c moves + taken_by (fold after b moves) c m
unfolding taken_by
taken_from-push b c [] m = omega arith
taken_from-push b c (x ∷ xs) m =
    let t : ℕ = if same_colour x.colour c then captures_of_vertex b c x.vertex else 0 in
    let rest = taken_from-push (after b x) c xs m in
    omega (arith, rest)

pub taken-push : (game : GameRecord) (c : Colour) (v : Vertex) (d : Colour)
    → taken (with_move game c v) d
    ≡ taken game d + (if same_colour c d then captures_of_vertex (board_of game) d v else 0)
unfolding taken taken_by board
taken-push game c v d = taken_from-push (start game.size game.handicap) d game.moves (record { colour = c; vertex = v })

-- one colour's move adds what it takes to that colour
taken-pushed : (game : GameRecord) (c : Colour) (v : Vertex) (d : Colour)
    → taken (with_move game c v) d
    ≡ taken game d + (if same_colour c d then captures_of_vertex (board_of game) c v else 0)
taken-pushed game Black v Black = taken-push game Black v Black
taken-pushed game White v White = taken-push game White v White
taken-pushed game Black v White = taken-push game Black v White
taken-pushed game White v Black = taken-push game White v Black

-- what a colour has taken after a move that took `now` stones
pub taken-with_move : (game : GameRecord) (c : Colour) (v : Vertex) (d : Colour) (had now t : ℕ) → had ≡ taken game d
    → now ≡ captures_of_vertex (board_of game) c v
    → t ≡ had + (if same_colour c d then now else 0) → t ≡ taken (with_move game c v) d
taken-with_move game c v d had now t h k e =
    let part = ap (λ (n : ℕ). cond (same_colour c d) n 0) k in
    omega (arith, h, e, part, taken-pushed game c v d)

-- what a colour had taken before a move that took `now` stones
pub taken-without_move : (game : GameRecord) (c : Colour) (v : Vertex) (d : Colour) (had now t : ℕ)
    → had ≡ taken (with_move game c v) d → now ≡ captures_of_vertex (board_of game) c v
    → t ≡ had - (if same_colour c d then now else 0) → t ≡ taken game d
taken-without_move game c v d had now t h k e =
    let part = ap (λ (n : ℕ). cond (same_colour c d) n 0) k in
    omega (arith, h, e, part, taken-pushed game c v d)

-- which is at least as many
pub taken-enough : (game : GameRecord) (c : Colour) (v : Vertex) (d : Colour) (had now : ℕ)
    → had ≡ taken (with_move game c v) d → now ≡ captures_of_vertex (board_of game) c v
    → (if same_colour c d then now else 0) ≤ had
taken-enough game c v d had now h k =
    let part = ap (λ (n : ℕ). cond (same_colour c d) n 0) k in
    omega (arith, h, part, taken-pushed game c v d)

-- a move takes as many stones as there are places of stones that it takes
pub captures-places : (b : List Cell) (c : Colour) (v : Vertex) → captures_of_vertex b c v ≡ length (taken_places b c v)
unfolding captures captured_count
captures-places b c Pass = refl
captures-places b c (At p) =
    sym (length-filter (is_captured (set b p (stone c)) (other c)) (range_with_len 0 (length (set b p (stone c)))))

captures-few : (b : List Cell) (c d : Colour) (v : Vertex)
    → (if same_colour c d then captures_of_vertex b d v else 0) ≤ length (taken_places b c v)
captures-few b Black Black v = let is = captures-places b Black v in omega (arith, is)
captures-few b White White v = let is = captures-places b White v in omega (arith, is)
captures-few b Black White v = omega arith
captures-few b White Black v = omega arith

taken_from-few : (b : List Cell) (d : Colour) (n : ℕ) (moves : List Move)
    → taken_from b d moves ≤ length (stack_from b n moves)
taken_from-few b d n [] = omega arith
taken_from-few b d n (m ∷ ms) =
    let places = taken_places b m.colour m.vertex in
    let first = captures-few b m.colour d m.vertex in
    let rest = taken_from-few (after b m) d (n + 1) ms in
    let both = length-append (taken_at n places) (stack_from (after b m) (n + 1) ms) in
    let same = length-map places (λ (p : ℕ). let t : TakenStone = record { place = p; number = n } in t) in
    omega (arith, first, rest, both, same)

-- a colour has taken no more stones than were taken
pub taken-few : (game : GameRecord) (d : Colour) → taken game d ≤ length (stack_of game)
unfolding taken stack_of
taken-few game d = taken_from-few (start game.size game.handicap) d 0 game.moves
