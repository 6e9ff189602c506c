-- What a policy may choose. (Own; the standard leaves to the engine how it finds a move.)
use Rattle.std.specs.Prelude.{⊤}
use Rattle.go_base.specs.declared.colours.Colour.{Colour}
use Rattle.go_board.specs.Game.{GameRecord, IsLegal}
use Rattle.go_base.specs.declared.choices.Choice.{Choice}
use Rattle.go_base.specs.declared.choices.Choice.TheVariants.{Resign, Play}

-- What a policy may do when it is asked for a colour's move in a game: its state before, its choice, and its state
-- after.
abbrev pub May : Type 0 → Type 1
May P = P → GameRecord → Colour → Choice → P → Type 0

-- the choice is to resign, or a vertex that is legal for the colour
abbrev pub IsLawful : GameRecord → Colour → Choice → Type 0
IsLawful game colour Resign = ⊤
IsLawful game colour (Play vertex) = IsLegal game colour vertex
