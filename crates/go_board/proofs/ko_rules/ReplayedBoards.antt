-- A record played again on another board, by the stones that its moves took.
use Rattle.std.proofs.Common.{◌≡◌, ℕ, zero, suc, ◌+◌, ◌<◌, ◌≤◌, List, [], ◌∷◌, ◌++◌, length, refl, sym, ◌∙◌, ap}
use Rattle.std.proofs.Common.{subst, arith, inl, inr, Bool, true, false, cond, take, drop}
use Rattle.std.specs.Prelude.{◌⊎◌, ◌≢◌, ◌==◌, ◌↔◌, IsTrue, Some, slice_get}
use Rattle.std.specs.List.{range_with_len, AllByRecursion}
use Rattle.std.proofs.lemmas.Bool.Decides.{nat_tests}
use Rattle.std.proofs.lemmas.List.{ext_get_or, length-take-le}
use Rattle.std.proofs.lemmas.Option.{slice_get_within}
use Rattle.std.proofs.lemmas.List.Sums.{count_by-le-length}
use Rattle.std.proofs.lemmas.List.FromFn.{length-range_with_len, length-map-range_with_len}
use Rattle.std.proofs.Math.ListN.{set, length-set}
use lib.Pointwise.{pointwise, pointwise_decides}
use Rattle.go_base.specs.Colour.{other}
use Rattle.go_base.specs.declared.colours.Colour.{Colour}
use Rattle.go_base.specs.declared.moves.Move.{Move}
use Rattle.go_base.specs.declared.vertices.Vertex.{Vertex}
use Rattle.go_base.specs.declared.vertices.Vertex.TheVariants.{Pass, At}
use Rattle.go_board.specs.Board.{at, stone}
use Rattle.go_board.specs.Chain.{IsCaptured}
use Rattle.go_board.specs.Game.{GameRecord, start, board, board_of, first_moves, with_move, after, after_vertex}
use Rattle.go_board.specs.Game.{IsGame, IsLegal, RepeatsAny, RepeatsBy}
use Rattle.go_board.specs.Laws.{under}
use Rattle.go_board.specs.declared.rules.KoRule.{KoRule}
use Rattle.go_board.specs.declared.rules.KoRule.TheVariants.{Simple, Positional}
use Rattle.go_board.specs.Play.{is_captured, left_at, without_captured, play, captured_count, captures}
use Rattle.go_board.specs.contracts.board.CellPartialEq.TheImpl.{eq-value}
use Rattle.go_board.specs.private.Frame.{HasSize}
use Rattle.go_board.specs.private.TakenStack.{ArePoints, AreTakenBy, IsVacant, cleared, later_than, captured_places}
use Rattle.go_board.specs.private.TakenStack.{taken_places, stack_from, stack_of, taken_at, with_stones}
use Rattle.go_board.specs.declared.board.Cell.{Cell}
use Rattle.go_board.specs.declared.board.Cell.TheVariants.{Edge, Empty, Black, White}
use Rattle.go_board.specs.declared.taken_stack.TakenStone.{TakenStone}
use Rattle.go_board.proofs.captures.CapturedStones.{at-without_captured, SameEdge-play, SameEdge-set}
use Rattle.go_board.proofs.ko_rules.PlaysTakenBack.{taken-empty}
use Rattle.go_board.proofs.records.Moves.{board-push, by_moves}
use Rattle.go_board.proofs.boards.Cells.{empty-point}
use Rattle.go_board.proofs.records.EveryGame.{legal-open, board-with_move, stack-start, IsOrderly-game}
use Rattle.go_board.proofs.undo.RestoredStones.{length-with_stones, filled-in, filled-out}
use Rattle.go_board.proofs.records.TakenStack.{stack_of-with_move}
use Rattle.go_board.proofs.undo.UnmadePlays.{all-captured}
use Rattle.go_board.proofs.General.{all-where, all-append}

-- ---- equal boards

cell-decides : (x y : Cell) → (eq-value.it x y ≡ true → x ≡ y) × (x ≡ y → eq-value.it x y ≡ true)
cell-decides Edge Edge = ((λ _. refl), (λ _. refl))
cell-decides Edge Empty = ((λ e. cc), (λ e. cc))
cell-decides Edge Black = ((λ e. cc), (λ e. cc))
cell-decides Edge White = ((λ e. cc), (λ e. cc))
cell-decides Empty Edge = ((λ e. cc), (λ e. cc))
cell-decides Empty Empty = ((λ _. refl), (λ _. refl))
cell-decides Empty Black = ((λ e. cc), (λ e. cc))
cell-decides Empty White = ((λ e. cc), (λ e. cc))
cell-decides Black Edge = ((λ e. cc), (λ e. cc))
cell-decides Black Empty = ((λ e. cc), (λ e. cc))
cell-decides Black Black = ((λ _. refl), (λ _. refl))
cell-decides Black White = ((λ e. cc), (λ e. cc))
cell-decides White Edge = ((λ e. cc), (λ e. cc))
cell-decides White Empty = ((λ e. cc), (λ e. cc))
cell-decides White Black = ((λ e. cc), (λ e. cc))
cell-decides White White = ((λ _. refl), (λ _. refl))

pub cells-decides : (xs ys : List Cell)
    → (pointwise eq-value.it xs ys ≡ true → xs ≡ ys) × (xs ≡ ys → pointwise eq-value.it xs ys ≡ true)
cells-decides = pointwise_decides cell-decides

-- ---- the stones at the front

pub cleared-other : (b : List Cell) (n : ℕ) (t : TakenStone) (ts : List TakenStone) → (t.number == n) ≡ false
    → cleared b n (t ∷ ts) ≡ b
cleared-other b n t ts e = ap (λ (x : Bool). cond x (cleared (set b t.place Empty) n ts) b) e

pub cleared-same : (b : List Cell) (n : ℕ) (t : TakenStone) (ts : List TakenStone) → (t.number == n) ≡ true
    → cleared b n (t ∷ ts) ≡ cleared (set b t.place Empty) n ts
cleared-same b n t ts e = ap (λ (x : Bool). cond x (cleared (set b t.place Empty) n ts) b) e

pub later-other : (n : ℕ) (t : TakenStone) (ts : List TakenStone) → (t.number == n) ≡ false
    → later_than n (t ∷ ts) ≡ t ∷ ts
later-other n t ts e = ap (λ (x : Bool). cond x (later_than n ts) (t ∷ ts)) e

pub later-same : (n : ℕ) (t : TakenStone) (ts : List TakenStone) → (t.number == n) ≡ true
    → later_than n (t ∷ ts) ≡ later_than n ts
later-same n t ts e = ap (λ (x : Bool). cond x (later_than n ts) (t ∷ ts)) e

-- where each place that isn't edge still isn't, the stones stood on points still
points-where : (a b : List Cell) (ts : List TakenStone) → ((q : ℕ) → at a q ≢ Edge → at b q ≢ Edge) → ArePoints a ts
    → ArePoints b ts
points-where a b ts kept =
    all-where (λ (t : TakenStone). at a t.place ≢ Edge) (λ (t : TakenStone). at b t.place ≢ Edge) (λ t. kept t.place) ts

pub points-kept : (b : List Cell) (p : ℕ) (x : Cell) (ts : List TakenStone) → x ≢ Edge → at b p ≢ Edge → ArePoints b ts
    → ArePoints (set b p x) ts
points-kept b p x ts filled here =
    points-where b (set b p x) ts (λ q there e. there ((SameEdge-set b p x here filled).back q e))

-- ---- a move made again

-- the board once these points are cleared
abbrev all_cleared : List Cell → List ℕ → List Cell
all_cleared b [] = b
all_cleared b (p ∷ ps) = all_cleared (set b p Empty) ps

number-same : (n : ℕ) → (n == n) ≡ true
number-same n = grind (arith, nat_tests)

number-later : (m n : ℕ) → n < m → (m == n) ≡ false
number-later m n less = grind (arith, nat_tests, less)

cleared-none : (b : List Cell) (n : ℕ) (ts : List TakenStone) → AllByRecursion (λ (t : TakenStone). n < t.number) ts
    → cleared b n ts ≡ b
cleared-none b n [] all = refl
cleared-none b n (t ∷ ts) all = cleared-other b n t ts (number-later t.number n all.0)

cleared-all : (b : List Cell) (n : ℕ) (ps : List ℕ) (ts : List TakenStone)
    → AllByRecursion (λ (t : TakenStone). n < t.number) ts
    → cleared b n (taken_at n ps ++ ts) ≡ all_cleared b ps
cleared-all b n [] ts all = cleared-none b n ts all
cleared-all b n (p ∷ ps) ts all =
    cleared-same b n (record { place = p; number = n }) (taken_at n ps ++ ts) (number-same n)
    ∙ cleared-all (set b p Empty) n ps ts all

later-none : (n : ℕ) (ts : List TakenStone) → AllByRecursion (λ (t : TakenStone). n < t.number) ts
    → later_than n ts ≡ ts
later-none n [] all = refl
later-none n (t ∷ ts) all = later-other n t ts (number-later t.number n all.0)

pub later-all : (n : ℕ) (ps : List ℕ) (ts : List TakenStone) → AllByRecursion (λ (t : TakenStone). n < t.number) ts
    → later_than n (taken_at n ps ++ ts) ≡ ts
later-all n [] ts all = later-none n ts all
later-all n (p ∷ ps) ts all =
    later-same n (record { place = p; number = n }) (taken_at n ps ++ ts) (number-same n) ∙ later-all n ps ts all

set-swap : (b : List Cell) (p q : ℕ) (x : Cell) → set (set b p x) q x ≡ set (set b q x) p x
set-swap [] p q x = refl
set-swap (y ∷ ys) zero zero x = refl
set-swap (y ∷ ys) zero (suc q) x = refl
set-swap (y ∷ ys) (suc p) zero x = refl
set-swap (y ∷ ys) (suc p) (suc q) x = ap (λ (b : List Cell). y ∷ b) (set-swap ys p q x)

all_cleared-first : (b : List Cell) (p : ℕ) (ps : List ℕ)
    → all_cleared (set b p Empty) ps ≡ set (all_cleared b ps) p Empty
all_cleared-first b p [] = refl
all_cleared-first b p (q ∷ ps) =
    ap (λ (cs : List Cell). all_cleared cs ps) (set-swap b p q Empty) ∙ all_cleared-first (set b q Empty) p ps

all_cleared-is : (b : List Cell) (ps : List ℕ) → all_cleared b ps ≡ with_stones b Empty ps
all_cleared-is b [] = refl
all_cleared-is b (p ∷ ps) =
    all_cleared-first b p ps ∙ ap (λ (cs : List Cell). set cs p Empty) (all_cleared-is b ps)

length-without : (b : List Cell) (c : Colour) → length (without_captured b c) ≡ length b
unfolding without_captured
length-without b c = length-map-range_with_len (left_at b c) 0 (length b)

-- the captured places cleared are the board without the captured stones
without-cleared : (b : List Cell) (c : Colour) → with_stones b Empty (captured_places b c) ≡ without_captured b c
without-cleared b c =
    ext_get_or Edge (with_stones b Empty (captured_places b c)) (without_captured b c)
    (length-with_stones b Empty (captured_places b c) ∙ sym (length-without b c))
    (λ q below. each q (let long = length-with_stones b Empty (captured_places b c) in omega (arith, below, long)))
  where
    by_test : (q : ℕ) → q < length b → (t : Bool) → is_captured b c q ≡ t
        → at (with_stones b Empty (captured_places b c)) q ≡ left_at b c q
    by_test q below true e =
        filled-in b Empty (is_captured b c) 0 (length b) q (omega arith) (omega (arith, below)) below e
        ∙ sym (ap (λ (x : Bool). cond x Empty (at b q)) e)
    by_test q below false e =
        filled-out b Empty (is_captured b c) 0 (length b) q e ∙ sym (ap (λ (x : Bool). cond x Empty (at b q)) e)

    each : (q : ℕ) → q < length b → at (with_stones b Empty (captured_places b c)) q ≡ at (without_captured b c) q
    each q below = by_test q below (is_captured b c q) refl ∙ sym (at-without_captured b c q)

-- what a pass leaves
pub again-pass : (b : List Cell) (c : Colour) (n : ℕ) (ts : List TakenStone) → AreTakenBy b c Pass n ts
    → cleared b n ts ≡ after_vertex b c Pass
again-pass b c n ts h = ap (cleared b n) h.are ∙ cleared-none b n h.later h.others

-- what a play leaves: the stone on its point, and nothing where it took a stone
pub again-play : (b : List Cell) (c : Colour) (p n : ℕ) (ts : List TakenStone) → AreTakenBy b c (At p) n ts
    → cleared (set b p (stone c)) n ts ≡ after_vertex b c (At p)
unfolding play
again-play b c p n ts h =
    let cells = set b p (stone c) in
    let places = captured_places cells (other c) in
    ap (cleared cells n) h.are ∙ cleared-all cells n places h.later h.others ∙ all_cleared-is cells places
    ∙ without-cleared cells (other c)

-- ---- the whole record

pub numbers-from : (b : List Cell) (n : ℕ) (ms : List Move) (k : ℕ) → k ≤ n
    → AllByRecursion (λ (t : TakenStone). k ≤ t.number) (stack_from b n ms)
numbers-from b n [] k h = tt
numbers-from b n (m ∷ ms) k h =
    front (taken_places b m.colour m.vertex) (numbers-from (after b m) (n + 1) ms k (omega (arith, h)))
  where
    front : (ps : List ℕ)
        → AllByRecursion (λ (t : TakenStone). k ≤ t.number) (stack_from (after b m) (n + 1) ms)
        → AllByRecursion (λ (t : TakenStone). k ≤ t.number) (taken_at n ps ++ stack_from (after b m) (n + 1) ms)
    front [] rest = rest
    front (p ∷ ps) rest = (h, front ps rest)

drop-suc : (ms : List Move) (k : ℕ) (m : Move) → slice_get ms k ≡ Some m → drop k ms ≡ m ∷ drop (suc k) ms
drop-suc [] k m e = cc
drop-suc (x ∷ xs) zero m e = cc
drop-suc (x ∷ xs) (suc k) m e = drop-suc xs k m e

drop-step : (ms : List Move) (k : ℕ) (m : Move) → slice_get ms k ≡ Some m → drop k ms ≡ m ∷ drop (k + 1) ms
drop-step ms k m e = let same : suc k ≡ k + 1 = omega arith in
    drop-suc ms k m e ∙ ap (λ (n : ℕ). m ∷ drop n ms) same

take-suc : (ms : List Move) (k : ℕ) (m : Move) → slice_get ms k ≡ Some m → take (suc k) ms ≡ take k ms ++ m ∷ []
take-suc [] k m e = cc
take-suc (x ∷ xs) zero m e = cc
take-suc (x ∷ xs) (suc k) m e = ap (λ (ms : List Move). x ∷ ms) (take-suc xs k m e)

pub take-step : (ms : List Move) (k : ℕ) (m : Move) → slice_get ms k ≡ Some m → take (k + 1) ms ≡ take k ms ++ m ∷ []
take-step ms k m e = let same : k + 1 ≡ suc k = omega arith in
    ap (λ (n : ℕ). take n ms) same ∙ take-suc ms k m e

-- The record was played again up to a move: the board is that of the moves before it, the stones are those that it and
-- the later ones took, and no earlier board was the one that is sought.
pub record IsReplayed (game : GameRecord) (wanted : List Cell) (k : ℕ) (now : List Cell)
    (stones : List TakenStone) : Type 0 where
  pub board_is : now ≡ board_of (first_moves k game)
  pub stones_are : stones ≡ stack_from now k (drop k game.moves)
  pub points : ArePoints now stones
  pub none : (j : ℕ) → j < k → wanted ≢ board_of (first_moves j game)

-- the next move's stones are at the front
pub taken-next : (game : GameRecord) (wanted now : List Cell) (k : ℕ) (stones : List TakenStone) (m : Move)
    → IsReplayed game wanted k now stones → slice_get game.moves k ≡ Some m
    → AreTakenBy now m.colour m.vertex k stones
taken-next game wanted now k stones m r e = record {
  later = stack_from (after now m) (k + 1) (drop (k + 1) game.moves);
  are = r.stones_are ∙ ap (stack_from now k) (drop-step game.moves k m e);
  others =
      all-where (λ (t : TakenStone). k + 1 ≤ t.number) (λ (t : TakenStone). k < t.number) (λ t h. omega arith)
      (stack_from (after now m) (k + 1) (drop (k + 1) game.moves))
      (numbers-from (after now m) (k + 1) (drop (k + 1) game.moves) (k + 1) (omega arith));
}

pub open-next : (game : GameRecord) (wanted now : List Cell) (k : ℕ) (stones : List TakenStone) (m : Move) → IsGame game
    → IsReplayed game wanted k now stones → slice_get game.moves k ≡ Some m → IsVacant now m.vertex
open-next game wanted now k stones m g r e =
    subst (λ (b : List Cell). IsVacant b m.vertex) (sym r.board_is)
    (legal-open (first_moves k game) m.colour m.vertex (g.legal k m e))

pub IsReplayed-more : (game : GameRecord) (wanted now new : List Cell) (k : ℕ) (stones left : List TakenStone)
    (m : Move)
    → IsReplayed game wanted k now stones → slice_get game.moves k ≡ Some m → wanted ≢ now
    → new ≡ after_vertex now m.colour m.vertex → left ≡ later_than k stones → ArePoints new left
    → IsReplayed game wanted (k + 1) new left
unfolding taken-next
IsReplayed-more game wanted now new k stones left m r e other_board new_is left_is points =
    let t = taken-next game wanted now k stones m r e in
    record {
      board_is =
          new_is ∙ ap (λ (b : List Cell). after_vertex b m.colour m.vertex) r.board_is
          ∙ sym (board-push game.size game.handicap (take k game.moves) m)
          ∙ ap (board game.size game.handicap) (sym (take-step game.moves k m e));
      stones_are =
          left_is ∙ ap (later_than k) t.are
          ∙ later-all k (taken_places now m.colour m.vertex) t.later t.others
          ∙ ap (λ (b : List Cell). stack_from b (k + 1) (drop (k + 1) game.moves)) (sym new_is);
      points = points;
      none = λ j less. by_order j (grind (arith, less));
    }
  where
    by_order : (j : ℕ) → (j < k) ⊎ (j ≡ k) → wanted ≢ board_of (first_moves j game)
    by_order j (inl below) = r.none j below
    by_order j (inr same) = λ h. other_board (h ∙ ap (λ (i : ℕ). board_of (first_moves i game)) same ∙ sym r.board_is)

-- ---- the stones that were taken

points-taken : (b : List Cell) (n : ℕ) (ps : List ℕ) → AllByRecursion (λ (q : ℕ). at b q ≢ Edge) ps
    → ArePoints b (taken_at n ps)
points-taken b n [] all = tt
points-taken b n (p ∷ ps) all = (all.0, points-taken b n ps all.1)

points-more : (game : GameRecord) (c : Colour) (v : Vertex) → IsVacant (board_of game) v
    → ArePoints (board_of game) (stack_of game)
    → ArePoints (after_vertex (board_of game) c v)
    (stack_of game ++ taken_at (length game.moves) (taken_places (board_of game) c v))
points-more game c Pass empty all = all-append (λ (t : TakenStone). at (board_of game) t.place ≢ Edge) (stack_of game)
    [] all tt
points-more game c (At p) empty all =
    let b = board_of game in
    let cells = set b p (stone c) in
    all-append (λ (t : TakenStone). at (play b c p) t.place ≢ Edge) (stack_of game)
    (taken_at (length game.moves) (captured_places cells (other c)))
    (points-where b (play b c p) (stack_of game)
    (λ q k e. k ((SameEdge-play b c p (empty-point b p empty)).back q e)) all)
    (points-taken (play b c p) (length game.moves) (captured_places cells (other c))
    (all-where (IsCaptured cells (other c)) (λ (q : ℕ). at (play b c p) q ≢ Edge)
    (λ q h. empty-point (play b c p) q (taken-empty b c p q h)) (captured_places cells (other c))
    (all-captured cells (other c) (range_with_len 0 (length cells)))))

-- they stood on points of the board
points-game : (game : GameRecord) → IsGame game → ArePoints (board_of game) (stack_of game)
points-game = by_moves (λ (game : GameRecord). ArePoints (board_of game) (stack_of game))
    (λ game g none. subst (ArePoints (board_of game)) (sym (stack-start game none)) tt)
    (λ game c v b all.
    subst (λ (cs : List Cell). ArePoints cs (stack_of (with_move game c v))) (sym (board-with_move game c v))
    (subst (ArePoints (after_vertex (board_of game) c v)) (sym (stack_of-with_move game c v))
    (points-more game c v (legal-open game c v b.legal) all)))

-- the record is played again from the first board
pub IsReplayed-start : (game : GameRecord) (wanted now : List Cell) → IsGame game → now ≡ start game.size game.handicap
    → HasSize game.size now → IsReplayed game wanted 0 now (stack_of game)
unfolding board stack_of
IsReplayed-start game wanted now g is has =
    let o = IsOrderly-game game g in
    record {
      board_is = is;
      stones_are = ap (λ (b : List Cell). stack_from b 0 game.moves) (sym is);
      points =
          points-where (board_of game) now (stack_of game) (λ q k. (has q).1 ((o.has_size q).0 k))
          (points-game game g);
      none = λ j less. absurd (omega (arith, less));
    }

-- a board that was reached is one of the record's
pub repeats-found : (game : GameRecord) (wanted now : List Cell) (k : ℕ) (stones : List TakenStone)
    → IsReplayed game wanted k now stones → k ≤ length game.moves → now ≡ wanted → RepeatsAny game wanted
repeats-found game wanted now k stones r within same =
    record { number = k; within = within; same = sym same ∙ r.board_is }

-- where none was before the last, the last decides
pub repeats-last : (game : GameRecord) (wanted now : List Cell) (k : ℕ) (stones : List TakenStone) (b : Bool)
    → IsReplayed game wanted k now stones → k ≡ length game.moves → IsTrue b ↔ (now ≡ wanted)
    → IsTrue b ↔ RepeatsAny game wanted
repeats-last game wanted now k stones b r all test = (
  (λ yes. repeats-found game wanted now k stones r (omega (arith, all)) (test.0 yes)),
  (λ h. let within = h.within in by_order h.number h.same (grind (arith, within, all))),
)
  where
    by_order : (j : ℕ) → wanted ≡ board_of (first_moves j game) → (j < k) ⊎ (j ≡ k) → IsTrue b
    by_order j same (inl below) = absurd (r.none j below same)
    by_order j same (inr last) =
        test.1 (r.board_is ∙ ap (λ (i : ℕ). board_of (first_moves i game)) (sym last) ∙ sym same)

-- ---- the board after a play

pub room-for_board : (board : List Cell) (c : Colour) (p : ℕ) (stack : List TakenStone) → length board ≡ 702
    → stack ≡ []
    → length stack + captures board c p ≤ 2009
unfolding captures captured_count
room-for_board board c p stack long none =
    let few = count_by-le-length (is_captured (set board p (stone c)) (other c))
    (range_with_len 0 (length (set board p (stone c)))) in
    let range = length-range_with_len 0 (length (set board p (stone c))) in
    let same = length-set board p (stone c) in
    omega (arith, few, range, same, long, ap length none)

-- ---- laws of the ko rules

pub allowed-new : (game : GameRecord) (c : Colour) (v : Vertex) → IsLegal (under Simple game) c v
    → ((j : ℕ) → j ≤ length game.moves → board_of (with_move game c v) ≢ board_of (first_moves j game))
    → IsLegal (under Positional game) c v
allowed-new game c Pass l fresh = l
allowed-new game c (At p) l fresh = record {
  on_board = l.on_board;
  empty = l.empty;
  free = l.free;
  no_ko = λ r. fresh r.number r.within (board-push game.size game.handicap game.moves move ∙ r.same);
}
  where
    move : Move
    move = record { colour = c; vertex = At p }

take-take : (ms : List Move) (j k : ℕ) → j ≤ k → take j (take k ms) ≡ take j ms
take-take ms zero k h = refl
take-take ms (suc j) zero h = absurd (omega (arith, h))
take-take [] (suc j) (suc k) h = refl
take-take (x ∷ xs) (suc j) (suc k) h = ap (λ (ms : List Move). x ∷ ms) (take-take xs j k (omega (arith, h)))

pub never-back : (game : GameRecord) (j k p : ℕ) (c : Colour) → IsGame game → game.rule ≡ Positional → j ≤ k
    → slice_get game.moves k ≡ Some (record { colour = c; vertex = At p })
    → board_of (first_moves (k + 1) game) ≢ board_of (first_moves j game)
never-back game j k p c g positional within e same =
    legal.no_ko (subst (λ (rule : KoRule). RepeatsBy rule (first_moves k game) next) (sym positional) (record {
      number = j;
      within =
          let below = slice_get_within game.moves k move e in
          let long = length-take-le k game.moves (omega (arith, below)) in omega (arith, within, long);
      same =
          sym (board-push game.size game.handicap (take k game.moves) move)
          ∙ ap (board game.size game.handicap) (sym (take-step game.moves k move e)) ∙ same
          ∙ ap (board game.size game.handicap) (sym (take-take game.moves j k within));
    }))
  where
    move : Move
    move = record { colour = c; vertex = At p }

    next : List Cell
    next = play (board_of (first_moves k game)) c p

    legal : IsLegal (first_moves k game) c (At p)
    legal = g.legal k move e
