-- Many games, each with a handle.
use denote.RawPtr.{Ptr}
use Rattle.std.specs.Prelude.{List, map}
use Rattle.go_board.specs.Game.{GameRecord}
use Rattle.vintsaky.specs.declared.game.GameHandle.{GameHandle}

-- the games of the handles
abbrev pub games_of : List GameHandle → List GameRecord
games_of handles = map (λ h. h.value) handles

-- the places in memory of the handles' games; a call that leaves these as they were leaves each handle the game of its
-- own memory, and doesn't swap two handles whose games are equal
abbrev pub places_of : List GameHandle → List Ptr
places_of handles = map (λ h. h.at) handles
