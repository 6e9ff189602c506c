-- The hashes of a game's boards, which are kept where its ko rule asks for all of them.
use Rattle.std.specs.Prelude.{◌≡◌, ℕ, ◌+◌, ◌≤◌, List, [], ◌∷◌, ◌++◌, length, slice_index}
use Rattle.go_board.specs.declared.rules.KoRule.{KoRule}
use Rattle.go_board.specs.declared.rules.KoRule.TheVariants.{Simple, Positional}
use Rattle.go_board.specs.Game.{GameRecord, board_of, first_moves}
use Rattle.go_board.specs.Hash.{hash_of}

-- how many boards a game has at most
abbrev pub most_boards : ℕ
most_boards = 2001

-- with the hash of one board more, where the rule asks for it
abbrev pub added : KoRule → List ℕ → ℕ → List ℕ
added Simple hashes hash = hashes
added Positional hashes hash = hashes ++ hash ∷ []

-- one for each number of the game's first moves, from none to all: the hash of the board after these
pub record AreAllHashes (game : GameRecord) (hashes : List ℕ) : Type 0 where
  pub long : length hashes ≡ length game.moves + 1
  pub each : (k : ℕ) → k ≤ length game.moves
      → slice_index hashes k ≡ hash_of game.size (board_of (first_moves k game))

-- Under positional ko these are all. Simple ko compares with the board before the last move alone, and has none.
abbrev pub AreHashesBy : KoRule → GameRecord → List ℕ → Type 0
AreHashesBy Simple game hashes = hashes ≡ []
AreHashesBy Positional game hashes = AreAllHashes game hashes

-- what a game keeps
abbrev pub AreHashes : GameRecord → List ℕ → Type 0
AreHashes game hashes = AreHashesBy game.rule game hashes
