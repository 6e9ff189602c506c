-- What one more move does to the record and the board.
use Rattle.std.proofs.Common.{◌≡◌, ℕ, zero, suc, ◌+◌, ◌-◌, ◌<◌, ◌≤◌, List, [], ◌∷◌, ◌++◌, length, refl, sym, ◌∙◌, ap}
use Rattle.std.proofs.Common.{subst, arith, inl, inr}
use Rattle.std.specs.Prelude.{ℤ, ◌⊎◌, Some, slice_get}
use Rattle.std.proofs.lemmas.List.{take-append-le, take_at, length_push, nil_from_length}
use Rattle.go_base.specs.Komi.{IsKomi}
use Rattle.go_base.specs.declared.colours.Colour.{Colour}
use Rattle.go_base.specs.declared.vertices.Vertex.{Vertex}
use Rattle.go_base.specs.declared.vertices.Vertex.TheVariants.{Pass, At}
use Rattle.go_base.specs.declared.moves.Move.{Move}
use Rattle.go_board.specs.Game.{GameRecord, HasRoom, start, board, first_moves, without_last, with_move, after, IsGame}
use Rattle.go_board.specs.Game.{board_of, RepeatsBy, IsLegal}
use Rattle.go_board.specs.Play.{play}
use Rattle.go_board.specs.declared.board.Cell.{Cell}
use Rattle.go_board.specs.declared.rules.KoRule.{KoRule}
use Rattle.go_board.specs.declared.rules.KoRule.TheVariants.{Simple, Positional}
use Rattle.go_board.specs.Refusals.{RefusesVertex}
use Rattle.go_board.specs.declared.faults.PlayFault.{PlayFault}
use Rattle.go_board.specs.declared.faults.PlayFault.TheVariants.{Full, OffBoard, Occupied, Suicide, Ko}
use Rattle.std.proofs.lemmas.Option.{slice_get_within}
use Rattle.std.proofs.lemmas.List.Sums.{fold-append}

-- ---- a game with one move more

pub board-push : (size handicap : ℕ) (moves : List Move) (m : Move)
    → board size handicap (moves ++ m ∷ []) ≡ after (board size handicap moves) m
unfolding board
board-push size handicap moves m = fold-append after (start size handicap) moves (m ∷ [])

-- the games of a game's first moves are those of the longer one
pub first_moves-with_move : (game : GameRecord) (c : Colour) (v : Vertex) (k : ℕ) → k ≤ length game.moves
    → first_moves k (with_move game c v) ≡ first_moves k game
first_moves-with_move game c v k h =
    ap (λ (ms : List Move). let g : GameRecord = record game { moves = ms } in g)
    (take-append-le k game.moves (record { colour = c; vertex = v } ∷ []) h)

pub first_moves-all : (game : GameRecord) (c : Colour) (v : Vertex)
    → first_moves (length game.moves) (with_move game c v) ≡ game
first_moves-all game c v =
    ap (λ (ms : List Move). let g : GameRecord = record game { moves = ms } in g)
    (take_at game.moves (record { colour = c; vertex = v } ∷ []) (length game.moves) refl)

-- the longer game without its last move
pub without_last-with_move : (game : GameRecord) (c : Colour) (v : Vertex) → without_last (with_move game c v) ≡ game
without_last-with_move game c v =
    let n : length (with_move game c v).moves - 1 ≡ length game.moves =
    omega (arith, length_push game.moves (record { colour = c; vertex = v })) in
    ap (λ (k : ℕ). first_moves k (with_move game c v)) n ∙ first_moves-all game c v

slice_get-push : (ms : List Move) (m x : Move) (k : ℕ) → slice_get (ms ++ m ∷ []) k ≡ Some x
    → ((k < length ms) × (slice_get ms k ≡ Some x)) ⊎ ((k ≡ length ms) × (x ≡ m))
slice_get-push [] m x zero e = inr (omega arith, cc)
slice_get-push [] m x (suc k) e = cc
slice_get-push (y ∷ ms) m x zero e = inl (omega arith, e)
slice_get-push (y ∷ ms) m x (suc k) e = elim (slice_get-push ms m x k e) [
  | inl old ↦ let h = old.0 in inl (omega arith, old.1)
  | inr new ↦ let h = new.0 in inr (omega arith, new.1)
]

pub IsGame-with_move : (game : GameRecord) (c : Colour) (v : Vertex) → IsGame game → HasRoom game → IsLegal game c v
    → IsGame (with_move game c v)
IsGame-with_move game c v g room legal =
    let m : Move = record { colour = c; vertex = v } in
    record {
      size = g.size;
      komi = g.komi;
      handicap = g.handicap;
      few = rw length_push (omega arith);
      legal = λ k x e. elim (slice_get-push game.moves m x k e) [
        | inl old ↦
            let h = old.0 in
            subst (λ (before : GameRecord). IsLegal before x.colour x.vertex)
            (sym (first_moves-with_move game c v k (omega arith))) (g.legal k x old.1)
        | inr new ↦
            subst (λ (n : ℕ). IsLegal (first_moves n (with_move game c v)) x.colour x.vertex) (sym new.0)
            (subst (λ (before : GameRecord). IsLegal before x.colour x.vertex) (sym (first_moves-all game c v))
            (subst (λ (y : Move). IsLegal game y.colour y.vertex) (sym new.1) legal))
      ];
    }

-- ---- a game with another komi

repeats-komi : (rule : KoRule) (game : GameRecord) (komi : ℤ) (next : List Cell)
    → RepeatsBy rule (record game { komi = komi }) next → RepeatsBy rule game next
repeats-komi Simple game komi next r = record { moved = r.moved; same = r.same }
repeats-komi Positional game komi next r = record { number = r.number; within = r.within; same = r.same }

IsLegal-komi : (game : GameRecord) (komi : ℤ) (c : Colour) (v : Vertex) → IsLegal game c v
    → IsLegal (record game { komi = komi }) c v
IsLegal-komi game komi c Pass l = l
IsLegal-komi game komi c (At p) l =
    record {
      on_board = l.on_board;
      empty = l.empty;
      free = l.free;
      no_ko = λ r. l.no_ko (repeats-komi game.rule game komi (play (board_of game) c p) r);
    }

pub IsGame-komi : (game : GameRecord) (komi : ℤ) → IsKomi komi → IsGame game → IsGame (record game { komi = komi })
IsGame-komi game komi is g = record {
  size = g.size;
  komi = is;
  handicap = g.handicap;
  few = g.few;
  legal = λ k m e. IsLegal-komi (first_moves k game) komi m.colour m.vertex (g.legal k m e);
}

-- ---- a game without its last move

pub slice_get-longer : (ms : List Move) (m x : Move) (k : ℕ) → slice_get ms k ≡ Some x
    → slice_get (ms ++ m ∷ []) k ≡ Some x
slice_get-longer [] m x k e = cc
slice_get-longer (y ∷ ms) m x zero e = e
slice_get-longer (y ∷ ms) m x (suc k) e = slice_get-longer ms m x k e

pub slice_get-end : (ms : List Move) (m : Move) → slice_get (ms ++ m ∷ []) (length ms) ≡ Some m
slice_get-end [] m = refl
slice_get-end (y ∷ ms) m = slice_get-end ms m

-- what holds before a move of a game
pub record IsBeforeMove (game : GameRecord) (c : Colour) (v : Vertex) : Type 0 where
  pub game_is : IsGame game
  pub room : HasRoom game
  pub legal : IsLegal game c v

pub IsBeforeMove-from : (game : GameRecord) (c : Colour) (v : Vertex) → IsGame (with_move game c v)
    → IsBeforeMove game c v
IsBeforeMove-from game c v g =
    let m : Move = record { colour = c; vertex = v } in
    let long : length (with_move game c v).moves ≡ length game.moves + 1 = length_push game.moves m in
    let few = g.few in
    record {
      game_is = record {
        size = g.size;
        komi = g.komi;
        handicap = g.handicap;
        few = omega (arith, long, few);
        legal = λ k x e.
            let below = slice_get_within game.moves k x e in
            subst (λ (before : GameRecord). IsLegal before x.colour x.vertex)
            (first_moves-with_move game c v k (omega (arith, below)))
            (g.legal k x (slice_get-longer game.moves m x k e));
      };
      room = omega (arith, long, few);
      legal =
          subst (λ (before : GameRecord). IsLegal before c v) (first_moves-all game c v)
          (g.legal (length game.moves) m (slice_get-end game.moves m));
    }

-- a game whose moves end with this one is the game before it with that move
pub with-last : (game : GameRecord) (ms : List Move) (m : Move) → game.moves ≡ ms ++ m ∷ []
    → with_move (record game { moves = ms }) m.colour m.vertex ≡ game
with-last game ms m e = ap (λ (xs : List Move). let g : GameRecord = record game { moves = xs } in g) (sym e)

record EndsWith (ms : List Move) : Type 0 where
  before : List Move
  last : Move
  is : ms ≡ before ++ last ∷ []

ends-with : (m : Move) (ms : List Move) → EndsWith (m ∷ ms)
ends-with m [] = record { before = []; last = m; is = refl }
ends-with m (k ∷ ms) =
    let rest = ends-with k ms in
    record { before = m ∷ rest.before; last = rest.last; is = ap (λ (xs : List Move). m ∷ xs) rest.is }

-- from the game before the last move to the whole game
last-step : (P : GameRecord → Type 0)
    → ((game : GameRecord) (c : Colour) (v : Vertex) → IsBeforeMove game c v → P game → P (with_move game c v))
    → (n : ℕ) (game : GameRecord) (ms : List Move) → game.moves ≡ ms → length ms ≡ suc n → IsGame game
    → ((before : GameRecord) → length before.moves ≡ n → IsGame before → P before) → P game
last-step P more n game [] e long g earlier = absurd (omega (arith, long))
last-step P more n game (m ∷ ms) e long g earlier =
    let ends = ends-with m ms in
    let is = with-last game ends.before ends.last (e ∙ ends.is) in
    let before : GameRecord = record game { moves = ends.before } in
    let b = IsBeforeMove-from before ends.last.colour ends.last.vertex (subst IsGame (sym is) g) in
    let shorter : length (m ∷ ms) ≡ length ends.before + 1 = ap length ends.is ∙ length_push ends.before ends.last in
    subst P is (more before ends.last.colour ends.last.vertex b
    (earlier before (omega (arith, long, shorter)) b.game_is))

by_length : (P : GameRecord → Type 0) → ((game : GameRecord) → IsGame game → game.moves ≡ [] → P game)
    → ((game : GameRecord) (c : Colour) (v : Vertex) → IsBeforeMove game c v → P game → P (with_move game c v))
    → (n : ℕ) (game : GameRecord) → length game.moves ≡ n → IsGame game → P game
by_length P none more zero game long g = none game g (nil_from_length game.moves long)
by_length P none more (suc n) game long g =
    last-step P more n game game.moves refl long g (λ before l b. by_length P none more n before l b)

-- What holds of a game without moves, and of a game with one move more than one of which it holds, holds of all.
pub by_moves : (P : GameRecord → Type 0) → ((game : GameRecord) → IsGame game → game.moves ≡ [] → P game)
    → ((game : GameRecord) (c : Colour) (v : Vertex) → IsBeforeMove game c v → P game → P (with_move game c v))
    → (game : GameRecord) → IsGame game → P game
by_moves P none more game g = by_length P none more (length game.moves) game refl g

-- ---- what is refused isn't legal

-- a legal move isn't refused
pub legal-or_refused : (game : GameRecord) (c : Colour) (v : Vertex) (fault : PlayFault) → IsLegal game c v
    → RefusesVertex game c v fault → ⊥
legal-or_refused game c Pass fault l r = r
legal-or_refused game c (At p) Full l r = r
legal-or_refused game c (At p) OffBoard l r = r l.on_board
legal-or_refused game c (At p) Occupied l r = r.1 l.empty
legal-or_refused game c (At p) Suicide l r = (r.1).1 l.free
legal-or_refused game c (At p) Ko l r = l.no_ko ((r.1).1).1
