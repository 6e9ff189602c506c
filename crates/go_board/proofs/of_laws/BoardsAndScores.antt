-- The laws of the game: which board a move leaves, what it takes, and what counts for whom.
use Rattle.std.proofs.Common.{◌≡◌, ℕ, zero, suc, ◌<◌, List, [], ◌∷◌, length, refl, sym, ◌∙◌, ap, subst, arith, inl, inr}
use Rattle.std.proofs.Common.{Bool, cond, get_or-set_other, get_or-set_same, Contains}
use Rattle.std.specs.Prelude.{◌⊎◌, ◌≢◌, Some}
use Rattle.std.specs.List.{AllByRecursion}
use Rattle.std.proofs.Math.ListN.{set, length-set}
use Rattle.std.proofs.lemmas.List.{ext_get_or}
use Rattle.std.proofs.lemmas.List.Elements.{Contains-append_right}
use Rattle.std.proofs.lemmas.List.FromFn.{length-map-range_with_len}
use Rattle.go_base.specs.Colour.{other}
use Rattle.go_base.specs.Decide.{number?}
use Rattle.go_base.specs.Handicap.{handicap_points}
use Rattle.go_base.specs.Point.{IsOn}
use Rattle.go_base.specs.declared.colours.Colour.{Colour}
use Rattle.go_base.specs.declared.colours.Colour.TheVariants as colour
use Rattle.go_base.specs.declared.vertices.Vertex.{Vertex}
use Rattle.go_base.specs.declared.vertices.Vertex.TheVariants.{Pass, At}
use Rattle.go_board.specs.declared.board.Cell.{Cell}
use Rattle.go_board.specs.declared.board.Cell.TheVariants.{Edge, Empty, Black, White}
use Rattle.go_board.specs.Board.{at, stone, stone_of, stone_at, empty_board, with_black, place_count}
use Rattle.go_board.specs.Chain.{Touches, IsCaptured}
use Rattle.go_board.specs.Counting.{CountsFor}
use Rattle.go_board.specs.Game.{GameRecord, IsGame, IsLegal, start, board_of, with_move}
use Rattle.go_board.specs.Play.{is_captured, left_at, without_captured, captured_count, play, captures}
use Rattle.go_board.specs.Taken.{captures_of_vertex, taken_from, taken}
use Rattle.go_board.specs.Area.{is_counted, area, score}
use Rattle.go_board.specs.Laws.{IsOfSoMany, IsLeftByPlay, IsLeftBy, IsFirstBoard, BelongsTo, MoveTakes}
use Rattle.go_board.specs.Laws.{AddsTaken, IsScore}
use Rattle.go_board.specs.decisions.Board.{on?}
use Rattle.go_board.specs.decisions.Chain.{captured?}
use Rattle.go_board.specs.decisions.Counting.{counts_for?}
use Rattle.go_board.proofs.boards.Cells.{stone-point}
use Rattle.go_board.proofs.captures.CapturedStones.{holds-yes, holds-no, in_list, at-without_captured, at-play}
use Rattle.go_board.proofs.boards.EmptyBoard.{HasSize-empty_board, length-empty_board}
use Rattle.go_board.proofs.boards.HandicapPoints.{points-on}
use Rattle.go_board.proofs.captures.FreeStones.{empty-on}
use Rattle.go_board.proofs.scores.HowMany.{many-passing}
use Rattle.go_board.proofs.records.EveryGame.{length-with_black, board-start, board-with_move, IsOrderly-game}
use Rattle.go_board.proofs.records.TakenCounts.{taken-push}
use Rattle.std.proofs.lemmas.Bool.{cases_eq}
use Rattle.go_board.proofs.captures.CapturedStones.{holds-true}
use Rattle.go_board.proofs.General.{by_dec}

-- ---- what a play leaves

pub play-leaves : (board : List Cell) (c : Colour) (p : ℕ) → at board p ≡ Empty
    → IsLeftByPlay board c p (play board c p)
unfolding play without_captured
play-leaves board c p empty =
    let with_stone : List Cell = set board p (stone c) in
    let there : (q : ℕ) → at (play board c p) q ≡ left_at with_stone (other c) q =
    at-without_captured with_stone (other c) in
    let cell : ℕ → Bool → Cell = λ q b. cond b Empty (at with_stone q) in
    record {
      long =
          length-map-range_with_len (left_at with_stone (other c)) 0 (length with_stone) ∙ length-set board p (stone c);
      played = at-play board c p (λ e. let bad = sym empty ∙ e in cc);
      taken = λ q h. there q ∙ ap (cell q) (holds-yes (captured? with_stone (other c) q) h);
      others = λ q away out. there q ∙ ap (cell q) (holds-no (captured? with_stone (other c) q) out)
          ∙ get_or-set_other board p q (stone c) Edge away;
    }

-- two boards that are left so hold the same
same-left : (old : List Cell) (c : Colour) (p : ℕ) (new more : List Cell) → IsLeftByPlay old c p new
    → IsLeftByPlay old c p more → new ≡ more
same-left old c p new more a b = ext_get_or Edge new more (a.long ∙ sym b.long) (λ q _. elim (cases_eq q p) [
  | inl same ↦ subst (λ (r : ℕ). at new r ≡ at more r) (sym same) (a.played ∙ sym b.played)
  | inr away ↦ by_dec (captured? (set old p (stone c)) (other c) q) (λ h. a.taken q h ∙ sym (b.taken q h))
      (λ k. a.others q away k ∙ sym (b.others q away k))
])

pub left-there : (game : GameRecord) (c : Colour) (v : Vertex) (board : List Cell) → IsLegal game c v
    → board ≡ board_of (with_move game c v) → IsLeftBy (board_of game) c v board
left-there game c Pass board l e = e ∙ board-with_move game c Pass
left-there game c (At p) board l e =
    subst (IsLeftByPlay (board_of game) c p) (sym (e ∙ board-with_move game c (At p)))
    (play-leaves (board_of game) c p l.empty)

pub left-back : (game : GameRecord) (c : Colour) (v : Vertex) (board : List Cell) → IsLegal game c v
    → IsLeftBy (board_of game) c v board → board ≡ board_of (with_move game c v)
left-back game c Pass board l e = e ∙ sym (board-with_move game c Pass)
left-back game c (At p) board l left =
    same-left (board_of game) c p board (play (board_of game) c p) left (play-leaves (board_of game) c p l.empty)
    ∙ sym (board-with_move game c (At p))

-- ---- the first board

pub Contains-cases : (x : ℕ) (xs : List ℕ) (q : ℕ) → Contains (x ∷ xs) q → (x ≡ q) ⊎ Contains xs q
Contains-cases x xs q (zero, below, is) = inl is
Contains-cases x xs q (suc k, below, is) = inr (k, omega arith, is)

Contains-here : (x : ℕ) (xs : List ℕ) (q : ℕ) → x ≡ q → Contains (x ∷ xs) q
Contains-here x xs q same = (0, omega arith, same)

contains? : (xs : List ℕ) (q : ℕ) → Dec (Contains xs q)
contains? [] q = no (λ h. let below = h.1 in absurd (omega arith))
contains? (x ∷ xs) q = step (number? x q) (contains? xs q)
  where
    step : Dec (x ≡ q) → Dec (Contains xs q) → Dec (Contains (x ∷ xs) q)
    step (yes same) d = yes (Contains-here x xs q same)
    step (no away) (yes h) = yes (Contains-append_right (x ∷ []) xs q h)
    step (no away) (no out) = no (λ h. elim (Contains-cases x xs q h) [ inl same ↦ away same | inr later ↦ out later ])

-- a black stone stays one
black-stays : (board : List Cell) (points : List ℕ) (q : ℕ) → at board q ≡ Black
    → at (with_black board points) q ≡ Black
black-stays board [] q is = is
black-stays board (p ∷ ps) q is = black-stays (set board p Black) ps q (elim (cases_eq q p) [
  | inl same ↦
      let point : at board p ≢ Edge = λ e. let bad = sym is ∙ ap (at board) same ∙ e in cc in
      ap (at (set board p Black)) same ∙ get_or-set_same board p Black Edge (in_list board p point)
  | inr away ↦ get_or-set_other board p q Black Edge away ∙ is
])

-- each of the points gets one
black-there : (board : List Cell) (points : List ℕ) (q : ℕ) → ((p : ℕ) → Contains points p → p < length board)
    → Contains points q → at (with_black board points) q ≡ Black
black-there board [] q inside h = let below = h.1 in absurd (omega arith)
black-there board (p ∷ ps) q inside h = elim (Contains-cases p ps q h) [
  | inl same ↦ black-stays (set board p Black) ps q
      (ap (at (set board p Black)) (sym same)
      ∙ get_or-set_same board p Black Edge (inside p (Contains-here p ps p refl)))
  | inr later ↦ black-there (set board p Black) ps q
      (λ r k. let below = inside r (Contains-append_right (p ∷ []) ps r k) in
      let long = length-set board p Black in
      omega (arith, below, long))
      later
]

-- and all else stays
others-stay : (board : List Cell) (points : List ℕ) (q : ℕ) → ¬ Contains points q
    → at (with_black board points) q ≡ at board q
others-stay board [] q out = refl
others-stay board (p ∷ ps) q out =
    others-stay (set board p Black) ps q (λ h. out (Contains-append_right (p ∷ []) ps q h))
    ∙ get_or-set_other board p q Black Edge (λ same. out (Contains-here p ps q (sym same)))

all-on : (size : ℕ) (points : List ℕ) (q : ℕ) → AllByRecursion (λ p. IsOn size p) points → Contains points q
    → IsOn size q
all-on size [] q all h = let below = h.1 in absurd (omega arith)
all-on size (p ∷ ps) q all h = elim (Contains-cases p ps q h) [
  | inl same ↦ subst (IsOn size) same all.0
  | inr later ↦ all-on size ps q all.1 later
]

none-there : (size q : ℕ) → Contains (handicap_points size 0) q → IsOn size q
unfolding handicap_points
none-there size q h = let below = h.1 in absurd (omega arith)

points-inside : (game : GameRecord) → IsGame game → (q : ℕ) → Contains (handicap_points game.size game.handicap) q
    → IsOn game.size q
points-inside game g q h = elim g.handicap [
  | inl none ↦ none-there game.size q (subst (λ (n : ℕ). Contains (handicap_points game.size n) q) none h)
  | inr allowed ↦ all-on game.size (handicap_points game.size game.handicap) q
      (points-on game.size game.handicap g.size allowed) h
]

is_edge : (this : Cell) → ¬ (this ≢ Edge) → this ≡ Edge
is_edge Edge k = refl
is_edge Empty k = absurd (k (λ e. cc))
is_edge Black k = absurd (k (λ e. cc))
is_edge White k = absurd (k (λ e. cc))

start-first : (game : GameRecord) → IsGame game → IsFirstBoard game (start game.size game.handicap)
unfolding start
start-first game g =
    let points = handicap_points game.size game.handicap in
    let bare = empty_board game.size in
    let most = g.size.most in
    let has = HasSize-empty_board game.size most in
    let on : (q : ℕ) → IsOn game.size q → q < length bare = λ q o. in_list bare q ((has q).1 o) in
    let edge-there : (q : ℕ) → ¬ IsOn game.size q → at bare q ≡ Edge =
    λ q off. is_edge (at bare q) (λ held. off ((has q).0 held)) in
    record {
      long = length-with_black bare points ∙ length-empty_board game.size;
      handicap = λ q h. black-there bare points q (λ p k. on p (points-inside game g p k)) h;
      others = λ q o out. others-stay bare points q out ∙ empty-on game.size q most o;
      round = λ q off. others-stay bare points q (λ h. off (points-inside game g q h)) ∙ edge-there q off;
    }

held-inside : (this : Cell) (c : Colour) → stone_of this ≡ Some c → this ≢ Edge
held-inside Edge c e = λ k. cc
held-inside Empty c e = λ k. cc
held-inside Black c e = λ k. cc
held-inside White c e = λ k. cc

pub stones-on : (game : GameRecord) (p : ℕ) (c : Colour) → IsGame game → stone_at (board_of game) p ≡ Some c
    → IsOn game.size p
stones-on game p c g holds =
    ((IsOrderly-game game g).has_size p).0 (held-inside (at (board_of game) p) c holds)

same-first : (game : GameRecord) (new more : List Cell) → IsFirstBoard game new → IsFirstBoard game more → new ≡ more
same-first game new more a b = ext_get_or Edge new more (a.long ∙ sym b.long)
    (λ q _. by_case q (on? game.size q) (contains? (handicap_points game.size game.handicap) q))
  where
    by_case : (q : ℕ) → Dec (IsOn game.size q) → Dec (Contains (handicap_points game.size game.handicap) q)
        → at new q ≡ at more q
    by_case q d (yes h) = a.handicap q h ∙ sym (b.handicap q h)
    by_case q (yes on) (no out) = a.others q on out ∙ sym (b.others q on out)
    by_case q (no off) (no out) = a.round q off ∙ sym (b.round q off)

pub first-there : (game : GameRecord) (board : List Cell) → IsGame game → game.moves ≡ [] → board ≡ board_of game
    → IsFirstBoard game board
first-there game board g none e = subst (IsFirstBoard game) (sym (e ∙ board-start game none)) (start-first game g)

pub first-back : (game : GameRecord) (board : List Cell) → IsGame game → game.moves ≡ [] → IsFirstBoard game board
    → board ≡ board_of game
first-back game board g none first =
    same-first game board (start game.size game.handicap) first (start-first game g) ∙ sym (board-start game none)

-- ---- what a move takes

many-captured : (board : List Cell) (c : Colour) → IsOfSoMany (IsCaptured board c) (captured_count board c)
unfolding captured_count
many-captured board c = many-passing (IsCaptured board c) (is_captured board c) (length board)
    (λ q below h. holds-true (captured? board c q) h)
    (λ q h. (in_list board q (λ e. stone-point c (sym h.0 ∙ e)), holds-yes (captured? board c q) h))

many-taken : (board : List Cell) (c : Colour) (v : Vertex)
    → IsOfSoMany (MoveTakes board c v) (captures_of_vertex board c v)
unfolding captures
many-taken board c Pass = record {
  list = [];
  each = λ q. ((λ h. let below = h.1 in absurd (omega arith)), (λ h. absurd h));
  once = λ i j d earlier below. absurd (omega arith);
  long = refl;
}
many-taken board c (At p) = many-captured (set board p (stone c)) (other c)

pub adds-taken : (game : GameRecord) (c : Colour) (v : Vertex) → AddsTaken game c v
adds-taken game colour.Black v = record {
  many = captures_of_vertex (board_of game) colour.Black v;
  are = many-taken (board_of game) colour.Black v;
  own = taken-push game colour.Black v colour.Black;
  others = taken-push game colour.Black v colour.White ∙ omega arith;
}
adds-taken game colour.White v = record {
  many = captures_of_vertex (board_of game) colour.White v;
  are = many-taken (board_of game) colour.White v;
  own = taken-push game colour.White v colour.White;
  others = taken-push game colour.White v colour.Black ∙ omega arith;
}

pub none-first : (game : GameRecord) (c : Colour) → game.moves ≡ [] → taken game c ≡ 0
unfolding taken
none-first game c none = ap (taken_from (start game.size game.handicap) c) none

-- ---- what counts for whom

only_one : (board : List Cell) (p : ℕ) (c d : Colour) → ¬ Touches board p (stone (other c)) → Touches board p (stone d)
    → d ≡ c
only_one board p colour.Black colour.Black out touch = refl
only_one board p colour.White colour.White out touch = refl
only_one board p colour.Black colour.White out touch = absurd (out touch)
only_one board p colour.White colour.Black out touch = absurd (out touch)

other-differs : (c : Colour) → other c ≢ c
other-differs colour.Black = λ e. cc
other-differs colour.White = λ e. cc

pub counts-belongs : (board : List Cell) (c : Colour) (p : ℕ) → CountsFor board c p → BelongsTo board c p
counts-belongs board c p (inl here) = inl here
counts-belongs board c p (inr h) = inr (h.0, (h.1).0, (λ d touch. only_one board p c d (h.1).1 touch))

pub belongs-counts : (board : List Cell) (c : Colour) (p : ℕ) → BelongsTo board c p → CountsFor board c p
belongs-counts board c p (inl here) = inl here
belongs-counts board c p (inr h) = inr (h.0, (h.1, (λ touch. other-differs c (h.2 (other c) touch))))

-- what belongs to a colour is on the list
belongs-inside : (board : List Cell) (c : Colour) (p : ℕ) → BelongsTo board c p → p < length board
belongs-inside board c p (inl here) = in_list board p (λ e. stone-point c (sym here ∙ e))
belongs-inside board c p (inr h) = in_list board p (λ e. let bad = sym h.0 ∙ e in cc)

many-belong : (board : List Cell) (c : Colour) → length board ≡ place_count
    → IsOfSoMany (BelongsTo board c) (area board c)
unfolding area
many-belong board c long = many-passing (BelongsTo board c) (is_counted board c) place_count
    (λ q below h. counts-belongs board c q (holds-true (counts_for? board c q) h))
    (λ q h. (
      subst (λ (n : ℕ). q < n) long (belongs-inside board c q h),
      holds-yes (counts_for? board c q) (belongs-counts board c q h),
    ))

pub score-is : (game : GameRecord) → IsGame game → IsScore game (score game)
unfolding score
score-is game g =
    let o = IsOrderly-game game g in
    record {
      black = area (board_of game) colour.Black;
      white = area (board_of game) colour.White;
      black_is = many-belong (board_of game) colour.Black o.long;
      white_is = many-belong (board_of game) colour.White o.long;
      result_is = refl;
    }
