-- The list of the points that a policy chooses among, and the move that one of them is.
use Rattle.std.specs.Prelude.{ℕ, List, map, Option, Some, None}
use Rattle.std.specs.List.{range_with_len, flat_map, filter}
use Rattle.go_base.specs.Point.{point}
use Rattle.go_base.specs.declared.colours.Colour.{Colour}
use Rattle.go_base.specs.declared.vertices.Vertex.TheVariants.{Pass, At}
use Rattle.go_base.specs.Decide.{holds}
use Rattle.go_board.specs.Game.{GameRecord}
use Rattle.go_base.specs.declared.choices.Choice.{Choice}
use Rattle.go_base.specs.declared.choices.Choice.TheVariants.{Play}
use Rattle.gtp_session.specs.decisions.Candidate.{candidate?}

-- the points of a row, from column A on
abbrev pub row_points : ℕ → ℕ → List ℕ
row_points size row = map (λ column. point column row) (range_with_len 1 size)

-- the points of a board of this size, in the order A1, B1, .., A2, B2, ...
unfoldable pub points_of : ℕ → List ℕ
points_of size = flat_map (row_points size) (range_with_len 1 size)

-- The candidates for a colour, in that order.
unfoldable pub candidates : GameRecord → Colour → List ℕ
candidates game colour = filter (λ p. holds (candidate? game colour p)) (points_of game.size)

-- the play on a point, or a pass where there is none
abbrev pub play_or_pass : Option ℕ → Choice
play_or_pass (Some p) = Play (At p)
play_or_pass None = Play Pass
