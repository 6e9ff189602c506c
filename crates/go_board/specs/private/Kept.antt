-- What the fields of `Game` keep.
use Rattle.std.specs.Prelude.{◌≡◌}
use Rattle.go_base.specs.declared.colours.Colour.TheVariants.{Black, White}
use Rattle.go_board.specs.declared.game.Game.TheInside.{Inside}
use Rattle.go_board.specs.private.Frame.{HasSize}
use Rattle.go_board.specs.Game.{GameRecord, IsGame, board_of}
use Rattle.go_board.specs.private.Ko.{IsKo}
use Rattle.go_board.specs.private.ChainId.{AreFree}
use Rattle.go_board.specs.private.TakenStack.{stack_of}
use Rattle.go_board.specs.private.PastHashes.{AreHashes}
use Rattle.go_board.specs.Taken.{taken}

abbrev pub record_of : Inside → GameRecord
record_of f = record { size = f.size; komi = f.komi; rule = f.rule; handicap = f.handicap; moves = f.moves.items }

-- The board, with its chains, is that of the record, and so are the ko point, the taken stones and the hashes. That the ids and
-- the pseudo-liberties are those of the board's chains is a fact of the types `Chains` and `Stones`.
pub record IsKept (f : Inside) : Type 0 where
  pub game : IsGame (record_of f)
  pub board_is : f.chains ≡ board_of (record_of f)
  pub has_size : HasSize f.size f.chains
  pub free : AreFree f.chains
  pub ko_is : IsKo (record_of f) f.ko
  pub stack_is : f.stack ≡ stack_of (record_of f)
  pub black_is : f.taken_by_black ≡ taken (record_of f) Black
  pub white_is : f.taken_by_white ≡ taken (record_of f) White
  pub hashes_are : AreHashes (record_of f) f.hashes
