-- The games of earlier boards, and the values of their planes.
use Rattle.std.proofs.Common.{◌≡◌, ℕ, ◌+◌, ◌*◌, ◌-◌, ◌<◌, ◌≤◌, leb, List, length, take, drop, replicate}
use Rattle.std.proofs.Common.{sym, ap, ◌∙◌, subst, arith, rules, tests}
use Rattle.std.specs.Prelude.{IsTrue}
use Rattle.std.proofs.Math.Nat.{add-mul}
use Rattle.std.proofs.lemmas.Bool.{leb-true}
use Rattle.std.proofs.lemmas.List.{take_all, take-take, length-take-le, length-drop}
use Rattle.std.proofs.lemmas.Slice.{take-put_mid}
use borrow.Rule.Slice.PartMut.{put_mid}
use Rattle.go_base.specs.declared.colours.Colour.{Colour}
use Rattle.go_base.specs.declared.moves.Move.{Move}
use Rattle.go_board.specs.Game.{GameRecord, first_moves, without_last}
use Rattle.vintsaky_calls.specs.Batches.{ArePlanesOf, no_board, older, AreEarlierPlanes, AreStonePlanes}

-- the game of a number of moves ago
abbrev pub ago_of : ℕ → GameRecord → GameRecord
ago_of ago game = first_moves (length game.moves - ago) game

-- no move ago that is the game itself
pub none_ago : (game : GameRecord) → game ≡ ago_of 0 game
none_ago game =
    ap (λ (moves : List Move). record game { moves = moves })
    (sym (take_all (length game.moves - 0) game.moves (omega arith)))

-- and then one more
pub one_more_ago : (game : GameRecord) (ago : ℕ) → without_last (ago_of ago game) ≡ ago_of (ago + 1) game
one_more_ago game ago =
    let left = length game.moves - ago in
    let long : length (take left game.moves) ≡ left = length-take-le left game.moves (omega arith) in
    let fewer : length (take left game.moves) - 1 ≡ length game.moves - (ago + 1) = omega (arith, long) in
    ap (λ (moves : List Move). record game { moves = moves })
    (ap (λ n. take n (take left game.moves)) fewer
    ∙ take-take (length game.moves - (ago + 1)) left game.moves (omega arith))

-- the planes of no board
pub no_planes : {A : Type 0} {zero one : A} {game : GameRecord} {c : Colour} (count : ℕ) (values : List A)
    → ArePlanesOf zero one game c 0 (take (0 * count) values)
no_planes {zero = zero} {one = one} {game = game} {c = c} count values =
    let none : 0 ≡ 0 * count = omega arith in
    subst (λ (k : ℕ). ArePlanesOf zero one game c 0 (take k values)) none no_board

-- the planes of a board end within those of all boards
pub ends_within : (ago earlier count : ℕ) → ago < 1 + earlier → ago * count + count ≤ (1 + earlier) * count
ends_within ago earlier count below =
    let more = earlier - ago in
    let all : 1 + earlier ≡ (ago + 1) + more = omega arith in
    let whole = ap (λ k. k * count) all ∙ add-mul (ago + 1) more count in
    omega (arith, whole, add-mul ago 1 count)

-- how many values a part has
pub part_long : {A : Type 0} (at count : ℕ) (values : List A) → at + count ≤ length values
    → length (take ((at + count) - at) (drop at values)) ≡ count
part_long at count values within =
    let same : (at + count) - at ≡ count = omega arith in
    length-take-le ((at + count) - at) (drop at values) (omega (arith, length-drop at values)) ∙ same

-- whether there is a board so many moves ago, its planes are as they should be
pub earlier_planes : {A : Type 0} (zero one : A) (game before : GameRecord) (c : Colour) (ago many : ℕ)
    (values : List A) → before ≡ ago_of ago game → many ≡ length game.moves
    → (IsTrue (leb ago many) → AreStonePlanes zero one before c values)
    → (¬ IsTrue (leb ago many) → values ≡ replicate (2 * (before.size * before.size)) zero)
    → AreEarlierPlanes zero one game c ago values
earlier_planes zero one game before c ago many values is long there empty = record {
  there = λ le.
      let within : ago ≤ many = omega (arith, le, long) in
      subst (λ (g : GameRecord). AreStonePlanes zero one g c values) is (there (search (rules, tests)));
  empty = λ less.
      empty (λ e. absurd (omega (arith, less, long, leb-true ago many e)))
      ∙ ap (λ (g : GameRecord). replicate (2 * (g.size * g.size)) zero) is;
}

-- the planes of one board more are there
pub one_board_more : {A : Type 0} {zero one : A} {game : GameRecord} {c : Colour} {ago : ℕ} (count k : ℕ)
    (values part : List A) → ArePlanesOf zero one game c ago (take (ago * count) values)
    → AreEarlierPlanes zero one game c ago part → length part ≡ count → ago * count ≤ length values
    → ArePlanesOf zero one game c (ago + 1) (take ((ago + 1) * count) (put_mid (ago * count) k values part))
one_board_more {zero = zero} {one = one} {game = game} {c = c} {ago = ago} count k values part before next long within =
    let end : (ago + 1) * count ≡ ago * count + count = omega (arith, add-mul ago 1 count) in
    subst (λ l. ArePlanesOf zero one game c (ago + 1) l)
    (sym (take-put_mid (ago * count) k values part ((ago + 1) * count) (omega (arith, end, long)) within))
    (older before next)

-- the planes of the board alone
pub only_planes : {A : Type 0} (zero one : A) (game : GameRecord) (c : Colour) (earlier : ℕ) (values : List A)
    → earlier ≡ 0 → AreStonePlanes zero one game c values → ArePlanesOf zero one game c (1 + earlier) values
only_planes zero one game c earlier values none planes =
    let boards : 0 + 1 ≡ 1 + earlier = omega (arith, none) in
    let next : AreEarlierPlanes zero one game c 0 values = record {
      there = λ le. subst (λ (g : GameRecord). AreStonePlanes zero one g c values) (none_ago game) planes;
      empty = λ less. absurd (omega (arith, less));
    } in
    subst (λ n. ArePlanesOf zero one game c n values) boards (older no_board next)
