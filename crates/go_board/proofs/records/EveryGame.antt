-- What holds of the board and the taken stones of each game.
use Rattle.std.proofs.Common.{◌≡◌, ℕ, ◌+◌, ◌<◌, ◌≤◌, List, [], ◌∷◌, length, refl, sym, ◌∙◌, ap, subst, arith, inl}
use Rattle.std.proofs.Common.{inr}
use Rattle.std.specs.Prelude.{◌⊎◌}
use Rattle.std.specs.List.{AllByRecursion}
use Rattle.std.proofs.lemmas.List.{append-nil, length_push}
use Rattle.std.proofs.Math.ListN.{set, length-set}
use Rattle.go_base.specs.Handicap.{AllowsHandicap, handicap_points}
use Rattle.go_base.specs.Point.{IsOn}
use Rattle.go_base.specs.Size.{IsSize}
use Rattle.go_base.specs.declared.colours.Colour.{Colour}
use Rattle.go_base.specs.declared.moves.Move.{Move}
use Rattle.go_base.specs.declared.vertices.Vertex.{Vertex}
use Rattle.go_base.specs.declared.vertices.Vertex.TheVariants.{Pass, At}
use Rattle.go_board.specs.Board.{empty_board, with_black}
use Rattle.go_board.specs.private.Frame.{HasSize, IsFramed}
use Rattle.go_board.specs.Game.{GameRecord, start, board, board_of, with_move, after_vertex, IsGame, IsLegal}
use Rattle.go_board.specs.private.ChainId.{AreFree}
use Rattle.go_board.specs.Play.{play}
use Rattle.go_board.specs.private.TakenStack.{stack_of, stack_from, taken_places, taken_at, IsVacant}
use Rattle.go_board.specs.declared.board.Cell.{Cell}
use Rattle.go_board.specs.declared.board.Cell.TheVariants.{Black}
use Rattle.go_board.specs.declared.taken_stack.TakenStone.{TakenStone}
use Rattle.go_board.proofs.captures.CapturedStones.{SameEdge-set, SameEdge-play, HasSize-same_edge}
use Rattle.go_board.proofs.boards.EmptyBoard.{HasSize-empty_board, length-empty_board, IsFramed-has_size}
use Rattle.go_board.proofs.records.Moves.{board-push, by_moves, IsBeforeMove}
use Rattle.go_board.proofs.boards.HandicapPoints.{AreFree-start, points-on}
use Rattle.go_board.proofs.ko_rules.PlaysTakenBack.{length-play}
use Rattle.go_board.proofs.captures.FreeStones.{AreFree-play}
use Rattle.go_board.proofs.boards.Cells.{empty-point}
use Rattle.go_board.proofs.records.TakenStack.{stack_of-with_move, few-after_play}
use Rattle.go_board.proofs.boards.FirstStones.{stones-start}
use Rattle.go_board.proofs.boards.FirstBoard.{start-none}
use Rattle.go_board.proofs.undo.BoardsBefore.{stone_count}
use Rattle.go_board.proofs.General.{all-where, all-append}

-- The board has the game's size, each stone is free, there are at most as many stones as were put down, and each was
-- taken by a move of the record.
pub record IsOrderly (game : GameRecord) : Type 0 where
  pub long : length (board_of game) ≡ 702
  pub has_size : HasSize game.size (board_of game)
  pub free : AreFree (board_of game)
  pub few : length (stack_of game) + stone_count (board_of game) ≤ 9 + length game.moves
  pub numbers : AllByRecursion (λ (t : TakenStone). t.number < length game.moves) (stack_of game)

-- ---- the start

pub length-with_black : (b : List Cell) (ps : List ℕ) → length (with_black b ps) ≡ length b
length-with_black b [] = refl
length-with_black b (p ∷ ps) = length-with_black (set b p Black) ps ∙ length-set b p Black

HasSize-with_black : (size : ℕ) (b : List Cell) (ps : List ℕ) → AllByRecursion (λ p. IsOn size p) ps → HasSize size b
    → HasSize size (with_black b ps)
HasSize-with_black size b [] all has = has
HasSize-with_black size b (p ∷ ps) all has =
    HasSize-with_black size (set b p Black) ps all.1
    (HasSize-same_edge size b (set b p Black) (SameEdge-set b p Black ((has p).1 all.0) (λ e. cc)) has)

pub HasSize-start : (size stones : ℕ) → IsSize size → (stones ≡ 0) ⊎ AllowsHandicap size stones
    → HasSize size (start size stones)
unfolding start
HasSize-start size stones is (inl none) =
    let most = is.most in
    subst (HasSize size) (sym (ap (start size) none ∙ start-none size)) (HasSize-empty_board size most)
HasSize-start size stones is (inr allowed) =
    let most = is.most in
    HasSize-with_black size (empty_board size) (handicap_points size stones) (points-on size stones is allowed)
    (HasSize-empty_board size most)

length-start : (size stones : ℕ) → length (start size stones) ≡ 702
unfolding start
length-start size stones = length-with_black (empty_board size) (handicap_points size stones) ∙ length-empty_board size

pub board-start : (game : GameRecord) → game.moves ≡ [] → board_of game ≡ start game.size game.handicap
unfolding board
board-start game none = ap (λ (ms : List Move). board game.size game.handicap ms) none

pub stack-start : (game : GameRecord) → game.moves ≡ [] → stack_of game ≡ []
unfolding stack_of
stack-start game none = ap (λ (ms : List Move). stack_from (start game.size game.handicap) 0 ms) none

IsOrderly-start : (game : GameRecord) → IsGame game → game.moves ≡ [] → IsOrderly game
IsOrderly-start game g none =
    let is = board-start game none in
    let gone = stack-start game none in
    record {
      long = ap length is ∙ length-start game.size game.handicap;
      has_size = subst (HasSize game.size) (sym is) (HasSize-start game.size game.handicap g.size g.handicap);
      free = subst AreFree (sym is) (AreFree-start game.size game.handicap g.size g.handicap);
      few =
          let most = stones-start game.size game.handicap g.handicap in
          omega
          (arith, most, ap stone_count is, ap length gone, ap length none);
      numbers = subst (AllByRecursion (λ (t : TakenStone). t.number < length game.moves)) (sym gone) tt;
    }

-- ---- one move more

pub board-with_move : (game : GameRecord) (c : Colour) (v : Vertex)
    → board_of (with_move game c v) ≡ after_vertex (board_of game) c v
board-with_move game c v = board-push game.size game.handicap game.moves (record { colour = c; vertex = v })

pub legal-open : (game : GameRecord) (c : Colour) (v : Vertex) → IsLegal game c v → IsVacant (board_of game) v
legal-open game c Pass l = tt
legal-open game c (At p) l = l.empty

all-taken : (n : ℕ) (ps : List ℕ) → AllByRecursion (λ (t : TakenStone). t.number < n + 1) (taken_at n ps)
all-taken n [] = tt
all-taken n (p ∷ ps) = (omega arith, all-taken n ps)

numbers-more : (game : GameRecord) (c : Colour) (v : Vertex)
    → AllByRecursion (λ (t : TakenStone). t.number < length game.moves) (stack_of game)
    → AllByRecursion (λ (t : TakenStone). t.number < length (with_move game c v).moves) (stack_of (with_move game c v))
numbers-more game c v all =
    let n = length game.moves in
    let long : length (with_move game c v).moves ≡ n + 1 = length_push game.moves (record { colour = c; vertex = v }) in
    subst (λ (m : ℕ). AllByRecursion (λ (t : TakenStone). t.number < m) (stack_of (with_move game c v))) (sym long)
    (subst (AllByRecursion (λ (t : TakenStone). t.number < n + 1)) (sym (stack_of-with_move game c v))
    (all-append (λ (t : TakenStone). t.number < n + 1) (stack_of game) (taken_at n (taken_places (board_of game) c v))
    (all-where (λ (t : TakenStone). t.number < n) (λ (t : TakenStone). t.number < n + 1) (λ t h. omega arith)
    (stack_of game) all)
    (all-taken n (taken_places (board_of game) c v))))

IsOrderly-more : (game : GameRecord) (c : Colour) (v : Vertex) → IsBeforeMove game c v → IsOrderly game
    → IsOrderly (with_move game c v)
IsOrderly-more game c Pass b o =
    let is = board-with_move game c Pass in
    let same : stack_of (with_move game c Pass) ≡ stack_of game =
    stack_of-with_move game c Pass ∙ append-nil (stack_of game) in
    let long : length (with_move game c Pass).moves ≡ length game.moves + 1 =
    length_push game.moves (record { colour = c; vertex = Pass }) in
    record {
      long = ap length is ∙ o.long;
      has_size = subst (HasSize game.size) (sym is) o.has_size;
      free = subst AreFree (sym is) o.free;
      few = let few = o.few in omega (arith, few, ap length same, ap stone_count is, long);
      numbers = numbers-more game c Pass o.numbers;
    }
IsOrderly-more game c (At p) b o =
    let l : IsLegal game c (At p) = b.legal in
    let empty = l.empty in
    let is = board-with_move game c (At p) in
    let long : length (with_move game c (At p)).moves ≡ length game.moves + 1 =
    length_push game.moves (record { colour = c; vertex = At p }) in
    record {
      long = ap length is ∙ length-play (board_of game) c p ∙ o.long;
      has_size = subst (HasSize game.size) (sym is)
          (HasSize-same_edge game.size (board_of game) (play (board_of game) c p)
          (SameEdge-play (board_of game) c p (empty-point (board_of game) p empty)) o.has_size);
      free = subst AreFree (sym is) (AreFree-play (board_of game) c p empty o.free l.free);
      few =
          let few = few-after_play (board_of game) c p (length game.moves) (length game.moves) (stack_of game)
          (stack_of (with_move game c (At p))) o.long empty o.few
          (stack_of-with_move game c (At p)) in omega (arith, few, ap stone_count is, long);
      numbers = numbers-more game c (At p) o.numbers;
    }

-- so it is in each game
pub IsOrderly-game : (game : GameRecord) → IsGame game → IsOrderly game
IsOrderly-game = by_moves IsOrderly IsOrderly-start IsOrderly-more

pub framed-game : (game : GameRecord) → IsGame game → IsFramed (board_of game)
framed-game game g = let o = IsOrderly-game game g in
    let most = g.size.most in
    IsFramed-has_size game.size (board_of game) most o.long o.has_size

-- at most as many stones were taken as there is room for
pub stack-few : (game : GameRecord) → IsGame game → length (stack_of game) ≤ 2009
stack-few game g = let o = IsOrderly-game game g in let few = o.few in let most = g.few in omega (arith, few, most)
