-- Steps of a rollout, in terms of what it keeps.
use Rattle.std.proofs.Common.{◌≡◌, ℕ, zero, ◌+◌, ◌-◌, ◌<◌, ◌≤◌, Bool, false, List, [], ◌∷◌, ◌++◌, length, get_or}
use Rattle.std.proofs.Common.{Option, Some, None, Contains, refl, sym, ◌∙◌, ap, subst, arith}
use Rattle.std.specs.Prelude.{◌≢◌, slice_get, slice_set}
use Rattle.std.specs.List.{swap, swap_remove}
use Rattle.std.proofs.lemmas.List.{length-append, length_push, get_or_push}
use Rattle.std.proofs.lemmas.Option.{get_or_from_slice_get}
use Rattle.go_base.specs.Colour.{other}
use Rattle.go_base.specs.Point.{IsOn}
use Rattle.go_base.specs.Size.{most_size}
use Rattle.go_base.specs.declared.colours.Colour.{Colour}
use Rattle.go_base.specs.declared.vertices.Vertex.TheVariants.{At}
use Rattle.go_board.specs.declared.board.Cell.{Cell}
use Rattle.go_board.specs.declared.board.Cell.TheVariants.{Empty}
use Rattle.go_board.specs.declared.rollout.Rollout.{Rollout}
use Rattle.go_board.specs.Board.{at, stone}
use Rattle.go_board.specs.Candidates.{IsCandidate}
use Rattle.go_board.specs.Chain.{IsFree}
use Rattle.go_board.specs.Eye.{IsOwnEye}
use Rattle.go_board.specs.Game.{GameRecord, IsGame, HasRoom, IsLegal, board_of, with_move}
use Rattle.go_board.specs.KoPoint.{IsOnlyKoPoint}
use Rattle.go_board.specs.Play.{play, captures}
use Rattle.go_board.specs.Playouts.{IsPlayout, ends, goes_on}
use Rattle.go_board.specs.private.ChainId.{AreFree}
use Rattle.go_board.specs.private.Frame.{IsFramed}
use Rattle.go_board.specs.private.Ko.{TakesOnly}
use Rattle.go_board.specs.private.Playouts.{IsOrderOf, IsWithTaken}
use Rattle.go_board.specs.private.Rollouts.{IsScratch, IsRolloutOf, IsKoOf, EndsIn, IsKoPlace, places_taken}
use Rattle.go_board.proofs.boards.Cells.{empty-point}
use Rattle.go_board.proofs.drawing.Orders.{order-swap, order-empty, order-room, contains-got}
use Rattle.go_board.proofs.drawing.Scratches.{scratch-legal, legal-scratch, scratch-played, taken-places}
use Rattle.go_board.proofs.drawing.Turns.{PlaysOn}
use Rattle.go_board.proofs.records.EveryGame.{IsOrderly-game, framed-game, board-with_move}
use Rattle.go_board.proofs.records.Moves.{IsGame-with_move}
use Rattle.go_board.proofs.records.TakenStack.{places-count}

-- ---- what the board has

pub scratch-free : {game : GameRecord} {c : Colour} {board : List Cell} {order : List ℕ} {ko : Option ℕ}
    {passed finished : Bool} {moves : ℕ} → IsScratch game c board order ko passed finished moves → AreFree board
scratch-free {game} s = subst AreFree (sym s.board_is) (IsOrderly-game game s.game_is).free

pub scratch-framed : {game : GameRecord} {c : Colour} {board : List Cell} {order : List ℕ} {ko : Option ℕ}
    {passed finished : Bool} {moves : ℕ} → IsScratch game c board order ko passed finished moves → IsFramed board
scratch-framed {game} s = subst IsFramed (sym s.board_is) (framed-game game s.game_is)

pub empty-inside : (board : List Cell) (p : ℕ) → IsFramed board → at board p ≡ Empty → IsOn most_size p
empty-inside board p f e = f.inside p (empty-point board p e)

-- ---- the order

-- what is on an index of the order is empty
pub scratch-empty : {game : GameRecord} {c : Colour} {board : List Cell} {order : List ℕ} {ko : Option ℕ}
    {passed finished : Bool} {moves : ℕ} (i p : ℕ) → IsScratch game c board order ko passed finished moves
    → slice_get order i ≡ Some p → at board p ≡ Empty
scratch-empty {game} {c} {board} {order} i p s drawn =
    subst (λ (b : List Cell). at b p ≡ Empty) (sym s.board_is)
    (order-empty (board_of game) order p s.order_is (contains-got order i p drawn))

-- a point was put aside
pub scratch-swapped : {game : GameRecord} {c : Colour} {board : List Cell} {order : List ℕ} {ko : Option ℕ}
    {passed finished : Bool} {moves : ℕ} (i j : ℕ) (left : List ℕ)
    → IsScratch game c board order ko passed finished moves → i < length order → j < length order
    → left ≡ swap order i j → IsScratch game c board left ko passed finished moves
scratch-swapped {game} {order = order} i j left s first second is = record {
  game_is = s.game_is;
  simple = s.simple;
  board_is = s.board_is;
  order_is = subst (IsOrderOf (board_of game)) (sym is) (order-swap (board_of game) order i j first second s.order_is);
  ko_is = s.ko_is;
  passed_is = s.passed_is;
  finished_is = s.finished_is;
  moves_is = s.moves_is;
}

-- there is room for the points of the stones that a play takes
pub scratch-room : {game : GameRecord} {c : Colour} {board : List Cell} {order : List ℕ} {ko : Option ℕ}
    {passed finished : Bool} {moves : ℕ} (i p : ℕ) (left : List ℕ)
    → IsScratch game c board order ko passed finished moves
    → HasRoom game → IsCandidate game c p → slice_get order i ≡ Some p → left ≡ swap_remove order i p
    → length left + captures board c p ≤ 702
unfolding captures
scratch-room {game} {c} {board} {order} i p left s room candidate drawn is =
    let legal = candidate.legal in
    let fits = order-room game c p i order (IsGame-with_move game c (At p) s.game_is room legal) legal s.order_is drawn
    (places_taken (board_of game) c p) (taken-places game c p s.game_is room legal) in
    let many : length (places_taken (board_of game) c p) ≡ captures (board_of game) c p =
    places-count (slice_set (board_of game) p (stone c)) (other c) in
    let same : captures board c p ≡ captures (board_of game) c p = ap (λ (b : List Cell). captures b c p) s.board_is in
    let long : length left ≡ length (swap_remove order i p) = ap length is in
    omega (arith, fits, many, same, long)

-- one index has one point
pub got-one : (order : List ℕ) (i p q : ℕ) → slice_get order i ≡ Some p → slice_get order i ≡ Some q → p ≡ q
got-one order i p q first second = cc

-- ---- candidates

pub scratch-candidate : {game : GameRecord} {c : Colour} {board : List Cell} {order : List ℕ} {ko : Option ℕ}
    {passed finished : Bool} {moves : ℕ} (p : ℕ) → IsScratch game c board order ko passed finished moves
    → at board p ≡ Empty → ¬ IsOwnEye board c p → ko ≢ Some p → IsFree (play board c p) p → IsCandidate game c p
scratch-candidate {game} {c} p s empty no_eye away free = record {
  legal = scratch-legal p s empty free away;
  no_eye = subst (λ (b : List Cell). ¬ IsOwnEye b c p) s.board_is no_eye;
}

pub eye-refused : {game : GameRecord} {c : Colour} {board : List Cell} {order : List ℕ} {ko : Option ℕ}
    {passed finished : Bool} {moves : ℕ} (p : ℕ) → IsScratch game c board order ko passed finished moves
    → IsOwnEye board c p → ¬ IsCandidate game c p
eye-refused {game} {c} p s eye candidate =
    candidate.no_eye (subst (λ (b : List Cell). IsOwnEye b c p) s.board_is eye)

pub ko-refuses : {game : GameRecord} {c : Colour} {board : List Cell} {order : List ℕ} {ko : Option ℕ}
    {passed finished : Bool} {moves : ℕ} (p : ℕ) → IsScratch game c board order ko passed finished moves
    → ko ≡ Some p → ¬ IsCandidate game c p
ko-refuses p s is candidate = (legal-scratch p s candidate.legal).1 is

pub candidate-free : {game : GameRecord} {c : Colour} {board : List Cell} {order : List ℕ} {ko : Option ℕ}
    {passed finished : Bool} {moves : ℕ} (p : ℕ) → IsScratch game c board order ko passed finished moves
    → IsCandidate game c p → IsFree (play board c p) p
candidate-free p s candidate = (legal-scratch p s candidate.legal).0

-- ---- the ko point

-- the last point of the order is the one place
last-one : (order had places : List ℕ) (q n : ℕ) → order ≡ had ++ places → 1 ≡ length places → n ≡ length order
    → slice_get order (n - 1) ≡ Some q → places ≡ q ∷ []
last-one order had [] q n is long all last = absurd (omega (arith, long))
last-one order had (a ∷ []) q n is long all last =
    let many : length order ≡ length had + 1 = ap length is ∙ length_push had a in
    let index : length had ≡ n - 1 = omega (arith, many, all) in
    let got : get_or order (n - 1) 0 ≡ q = get_or_from_slice_get order (n - 1) q 0 last in
    let same : a ≡ q = sym (get_or_push had a 0 (n - 1) index) ∙ sym (ap (λ (ps : List ℕ). get_or ps (n - 1) 0) is)
    ∙ got in
    ap (λ (k : ℕ). k ∷ []) same
last-one order had (a ∷ b ∷ rest) q n is long all last = absurd (omega (arith, long))

pub ends-long : (board : List Cell) (order : List ℕ) (many : ℕ) (places : List ℕ) → EndsIn board order many places
    → many ≡ 1 → 1 ≤ length order
ends-long board order many places e one =
    let long = e.long in
    let all = ap length e.order_is ∙ length-append e.had places in
    omega (arith, long, all, one)

pub last-empty : (board : List Cell) (order : List ℕ) (many : ℕ) (places : List ℕ) (q n : ℕ)
    → EndsIn board order many places → many ≡ 1 → n ≡ length order → slice_get order (n - 1) ≡ Some q
    → at board q ≡ Empty
last-empty board order many places q n e one all last =
    let is = last-one order e.had places q n e.order_is (sym one ∙ e.long) all last in
    e.empty q (subst (λ (ps : List ℕ). Contains ps q) (sym is) (zero, omega arith, refl))

pub ko-many : (board : List Cell) (c : Colour) (p many : ℕ) (order places : List ℕ)
    → EndsIn board order many places → many ≢ 1 → IsKoOf board c p places None
ko-many board c p many order places e away = record {
  some = λ q is. cc;
  back = λ q is only. absurd (away (e.long ∙ ap length is));
}

pub ko-some : (board : List Cell) (c theirs : Colour) (p q n : ℕ) (order places : List ℕ) (many : ℕ)
    → EndsIn board order many places → many ≡ 1 → n ≡ length order → slice_get order (n - 1) ≡ Some q
    → theirs ≡ other c → TakesOnly board theirs q p → IsKoOf board c p places (Some q)
ko-some board c theirs p q n order places many e one all last mover only =
    let is = last-one order e.had places q n e.order_is (sym one ∙ e.long) all last in
    record {
      some = λ r same.
          let equal : q ≡ r = cc in (
            is ∙ ap (λ (k : ℕ). k ∷ []) equal,
            subst (λ (k : ℕ). TakesOnly board (other c) k p) equal
                (subst (λ (d : Colour). TakesOnly board d q p) mover only),
          );
      back = λ r same takes.
          let both : q ∷ [] ≡ r ∷ [] = sym is ∙ same in cc;
    }

pub ko-none : (board : List Cell) (c theirs : Colour) (p q n : ℕ) (order places : List ℕ) (many : ℕ)
    → EndsIn board order many places → many ≡ 1 → n ≡ length order → slice_get order (n - 1) ≡ Some q
    → theirs ≡ other c → ¬ TakesOnly board theirs q p → IsKoOf board c p places None
ko-none board c theirs p q n order places many e one all last mover not =
    let is = last-one order e.had places q n e.order_is (sym one ∙ e.long) all last in
    record {
      some = λ r same. cc;
      back = λ r same takes.
          let both : r ∷ [] ≡ q ∷ [] = sym same ∙ is in
          let equal : r ≡ q = cc in
          absurd (not (subst (λ (d : Colour). TakesOnly board d q p) (sym mover)
          (subst (λ (k : ℕ). TakesOnly board (other c) k p) equal takes)));
    }

-- the one ko point of a colour
pub ko-place : (game : GameRecord) (c : Colour) (point place : ℕ) → IsOnlyKoPoint game c (Some point) → place ≡ point
    → IsKoPlace game c (Some place)
ko-place game c point place only same p empty = (
  (λ r. let one = (only p).0 (record { empty = empty; repeats = r }) in ap Some (same ∙ sym one)),
  (λ e.
      let one : place ≡ p = cc in
      ((only p).1 (sym one ∙ same)).repeats),
)

pub no-ko_place : (game : GameRecord) (c : Colour) → IsOnlyKoPoint game c None → IsKoPlace game c None
no-ko_place game c none p empty =
    ((λ r. absurd (none p (record { empty = empty; repeats = r }))), (λ e. cc))

-- ---- a play

-- the places of the stones that a play takes are empty after it
taken-empty : (game : GameRecord) (c : Colour) (p q : ℕ) → IsGame game → HasRoom game → IsLegal game c (At p)
    → Contains (places_taken (board_of game) c p) q → at (play (board_of game) c p) q ≡ Empty
taken-empty game c p q g room legal h =
    let t = ((taken-places game c p g room legal).each q).0 h in
    ap (λ (b : List Cell). at b q) (sym (board-with_move game c (At p))) ∙ t.gone

pub ends-in : {game : GameRecord} {c : Colour} {board : List Cell} {order : List ℕ} {ko : Option ℕ}
    {passed finished : Bool} {moves : ℕ} (p : ℕ) (removed left : List ℕ) (after : List Cell) (taken : ℕ)
    → IsScratch game c board order ko passed finished moves → HasRoom game → IsCandidate game c p
    → after ≡ play board c p → left ≡ removed ++ places_taken board c p → taken ≡ captures board c p
    → EndsIn after left taken (places_taken board c p)
unfolding captures
ends-in {game} {c} {board} p removed left after taken s room candidate after_is left_is taken_is = record {
  had = removed;
  order_is = left_is;
  long = taken_is ∙ sym (places-count (slice_set board p (stone c)) (other c));
  empty = λ q h.
      ap (λ (b : List Cell). at b q) (after_is ∙ ap (λ (b : List Cell). play b c p) s.board_is)
      ∙ taken-empty game c p q s.game_is room candidate.legal
      (subst (λ (b : List Cell). Contains (places_taken b c p) q) s.board_is h);
}

pub rollout-played : {game : GameRecord} {c : Colour} {board : List Cell} {order : List ℕ} {ko : Option ℕ}
    {passed finished : Bool} {moves : ℕ} (i place p : ℕ) (removed left : List ℕ) (after : List Cell) (taken : ℕ)
    (next : Option ℕ) → IsScratch game c board order ko passed finished moves → HasRoom game
    → slice_get order i ≡ Some p → IsCandidate game c p → slice_get order i ≡ Some place
    → removed ≡ swap_remove order i place → after ≡ play board c place
    → left ≡ removed ++ places_taken board c place → taken ≡ captures board c place
    → ((places : List ℕ) → EndsIn after left taken places → IsKoOf after c place places next)
    → IsScratch (with_move game c (At p)) (other c) after left next false false (moves + 1)
    × (left ≡ swap_remove order i p ++ places_taken board c p)
rollout-played {game} {c} {board} {order} {moves = moves} i place p removed left after taken next s room drawn candidate
    got removed_is after_is left_is taken_is next_is =
    let same : p ≡ place = got-one order i p place drawn got in
    let there : IsCandidate game c place = subst (λ (k : ℕ). IsCandidate game c k) same candidate in
    let whole : left ≡ swap_remove order i place ++ places_taken board c place =
    left_is ∙ ap (λ (ps : List ℕ). ps ++ places_taken board c place) removed_is in
    let ko = subst (λ (b : List Cell). IsKoOf b c place (places_taken board c place) next) after_is
    (next_is (places_taken board c place)
    (ends-in place removed left after taken s room there after_is left_is taken_is)) in
    let kept = scratch-played place i after left next s room there.legal got after_is whole ko in (
      subst (λ (k : ℕ). IsScratch (with_move game c (At k)) (other c) after left next false false (moves + 1))
          (sym same) kept,
      subst (λ (k : ℕ). left ≡ swap_remove order i k ++ places_taken board c k) (sym same) whole,
    )

-- what the board keeps
pub after-framed : {game : GameRecord} {c : Colour} {board : List Cell} {order : List ℕ} {ko : Option ℕ}
    {passed finished : Bool} {moves : ℕ} (p : ℕ) (after : List Cell)
    → IsScratch game c board order ko passed finished moves → HasRoom game → IsCandidate game c p
    → after ≡ play board c p → IsFramed after
after-framed {game} {c} p after s room candidate is =
    subst IsFramed
    (board-with_move game c (At p) ∙ sym (is ∙ ap (λ (b : List Cell). play b c p) s.board_is))
    (framed-game (with_move game c (At p)) (IsGame-with_move game c (At p) s.game_is room candidate.legal))

pub after-free : {game : GameRecord} {c : Colour} {board : List Cell} {order : List ℕ} {ko : Option ℕ}
    {passed finished : Bool} {moves : ℕ} (p : ℕ) (after : List Cell)
    → IsScratch game c board order ko passed finished moves → HasRoom game → IsCandidate game c p
    → after ≡ play board c p → AreFree after
after-free {game} {c} p after s room candidate is =
    subst AreFree
    (board-with_move game c (At p) ∙ sym (is ∙ ap (λ (b : List Cell). play b c p) s.board_is))
    (IsOrderly-game (with_move game c (At p)) (IsGame-with_move game c (At p) s.game_is room candidate.legal)).free

-- ---- a playout

-- what a playout of a rollout has reached
pub record IsReached {W : Type 0} (gives : W → ℕ → W → Type 0) (game : GameRecord) (c : Colour) (begun : List ℕ)
    (limit : ℕ) (old : W) (mover : Colour) (now : Rollout) (left : ℕ) (then : W) : Type 0 where
  pub on : GameRecord
  pub kept : IsRolloutOf on mover now
  pub rest : PlaysOn gives game c begun limit old on mover now.order left then

-- a playout leaves komi as it was
pub playout-komi : {game : GameRecord} {c : Colour} {order words : List ℕ} {limit : ℕ} {after : GameRecord}
    → IsPlayout game c order limit words after → after.komi ≡ game.komi
playout-komi (ends over) = refl
playout-komi (goes_on v left on drawn rest) = playout-komi rest

-- the taken points came behind
pub with-taken : {game : GameRecord} {c : Colour} {board : List Cell} {order : List ℕ} {ko : Option ℕ}
    {passed finished : Bool} {moves : ℕ} (p : ℕ) (removed left : List ℕ)
    → IsScratch game c board order ko passed finished moves → HasRoom game → IsCandidate game c p
    → left ≡ removed ++ places_taken board c p → IsWithTaken (with_move game c (At p)) removed left
with-taken {game} {c} p removed left s room candidate is = record {
  taken = places_taken (board_of game) c p;
  are = taken-places game c p s.game_is room candidate.legal;
  is = is ∙ ap (λ (b : List Cell). removed ++ places_taken b c p) s.board_is;
}
