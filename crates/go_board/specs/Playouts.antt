-- Playouts: both colours in turn play points that words draw, as long as there are any.
use Rattle.std.specs.Prelude.{◌≡◌, ℕ, ◌*◌, ◌-◌, ◌/◌, ◌^◌, ◌<◌, ◌⊎◌, ◌↔◌, ℤ, List, [], ◌∷◌, ◌++◌, Contains}
use Rattle.std.specs.Prelude.{length, slice_get, Some}
use Rattle.std.specs.List.{AllPairs, swap, swap_remove}
use Rattle.go_base.specs.Colour.{other}
use Rattle.go_base.specs.declared.colours.Colour.{Colour}
use Rattle.go_base.specs.declared.vertices.Vertex.{Vertex}
use Rattle.go_base.specs.declared.vertices.Vertex.TheVariants.{Pass, At}
use Rattle.go_board.specs.declared.board.Cell.TheVariants.{Empty}
use Rattle.go_board.specs.Area.{score}
use Rattle.go_board.specs.Board.{at}
use Rattle.go_board.specs.Candidates.{IsCandidate}
use Rattle.go_board.specs.Game.{GameRecord, HasRoom, IsFinished, board_of, with_move}
use Rattle.go_board.specs.LastTaken.{AreTakenByLast}

-- ---- words

-- From the old state on a source gives these words one after the other, and is then in the new state.
pub data GivesWords {W : Type 0} (gives : W → ℕ → W → Type 0) : W → List ℕ → W → Type 0 where
  none : {w : W} → GivesWords gives w [] w
  next : {old now new : W} {word : ℕ} {words : List ℕ} → gives old word now → GivesWords gives now words new
      → GivesWords gives old (word ∷ words) new

-- ---- the order

-- The order at the beginning: the empty points of the board, and no other, row by row from A1 and each once.
pub record AreEmptyPoints (game : GameRecord) (order : List ℕ) : Type 0 where
  pub each : (p : ℕ) → Contains order p ↔ (at (board_of game) p ≡ Empty)
  pub in_order : AllPairs (λ p q. p < q) order

-- The place that a word draws among the first n of an order, from 0: the upper half of its 64 bits is taken as so many
-- parts of 2 ^ 32, and that share of n is rounded down.
abbrev pub drawn_place : ℕ → ℕ → ℕ
drawn_place n word = word / 2 ^ 32 * n / 2 ^ 32

-- a word of 64 bits draws this point among the first n of the order: it is on that place
abbrev pub IsDrawn : List ℕ → ℕ → ℕ → ℕ → Type 0
IsDrawn order n word p = (word < 2 ^ 64) × (slice_get order (drawn_place n word) ≡ Some p)

-- the order without that point, and the last of the whole order in its place
abbrev pub without_drawn : List ℕ → ℕ → ℕ → ℕ → List ℕ
without_drawn order n word p = swap_remove order (drawn_place n word) p

-- the order with that point put aside: it and the last of the first n are exchanged
abbrev pub with_aside : List ℕ → ℕ → ℕ → List ℕ
with_aside order n word = swap order (drawn_place n word) (n - 1)

-- ---- a turn

-- Of the first n points of the order these words draw the vertex that a colour plays in the game, and leave the order
-- `left` after it. With none to draw from that is a pass, without a word. A candidate that is drawn is played: it leaves
-- the order, and the points of the stones that the play takes come behind. A point that is no candidate is put aside,
-- and the next word draws among one less.
pub data Draws (game : GameRecord) (c : Colour) : ℕ → List ℕ → List ℕ → Vertex → List ℕ → Type 0 where
  passes : {order : List ℕ} → Draws game c 0 order [] Pass order
  plays : {n : ℕ} {order : List ℕ} {word p : ℕ} {taken : List ℕ} → 0 < n → IsDrawn order n word p
      → IsCandidate game c p → AreTakenByLast (with_move game c (At p)) taken
      → Draws game c n order (word ∷ []) (At p) (without_drawn order n word p ++ taken)
  puts_aside : {n : ℕ} {order : List ℕ} {word : ℕ} {words : List ℕ} {v : Vertex} {left : List ℕ} (p : ℕ) → 0 < n
      → IsDrawn order n word p → ¬ IsCandidate game c p
      → Draws game c (n - 1) (with_aside order n word) words v left → Draws game c n order (word ∷ words) v left

-- a turn of a colour draws from the whole order
abbrev pub IsTurn : GameRecord → Colour → List ℕ → List ℕ → Vertex → List ℕ → Type 0
IsTurn game c order words v left = Draws game c (length order) order words v left

-- ---- a playout

-- A playout that may make `limit` moves more ends here: the game is finished, no move is left to make, or the record is
-- full.
abbrev pub Ends : GameRecord → ℕ → Type 0
Ends game limit = IsFinished game ⊎ (limit ≡ 0) ⊎ ¬ HasRoom game

-- A playout of at most `limit` moves from the game, in which the colour moves first: these words draw the turns, and
-- `after` is the game after them.
pub data IsPlayout : GameRecord → Colour → List ℕ → ℕ → List ℕ → GameRecord → Type 0 where
  ends : {game : GameRecord} {c : Colour} {order : List ℕ} {limit : ℕ} → Ends game limit
      → IsPlayout game c order limit [] game
  goes_on : {game : GameRecord} {c : Colour} {order : List ℕ} {limit : ℕ} {drawn words : List ℕ} {after : GameRecord}
      (v : Vertex) (left : List ℕ) → ¬ Ends game limit → IsTurn game c order drawn v left
      → IsPlayout (with_move game c v) (other c) left (limit - 1) words after
      → IsPlayout game c order limit (drawn ++ words) after

-- A playout from the game by words of a source, whose state is `old` before them and `new` after them.
pub record IsPlayedOut {W : Type 0} (gives : W → ℕ → W → Type 0) (game : GameRecord) (c : Colour) (limit : ℕ) (old : W)
    (after : GameRecord) (new : W) : Type 0 where
  pub order : List ℕ
  pub words : List ℕ
  pub empty : AreEmptyPoints game order
  pub given : GivesWords gives old words new
  pub playout : IsPlayout game c order limit words after

-- the score of the game after such a playout
pub record IsRolledOut {W : Type 0} (gives : W → ℕ → W → Type 0) (game : GameRecord) (c : Colour) (limit : ℕ) (old : W)
    (result : ℤ) (new : W) : Type 0 where
  pub after : GameRecord
  pub playout : IsPlayedOut gives game c limit old after new
  pub result_is : result ≡ score after
