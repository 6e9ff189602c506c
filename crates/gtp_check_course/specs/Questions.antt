-- What a step of a lesson asks.
use Rattle.std.specs.Prelude.{◌≡◌, ◌≢◌, ℕ, ◌+◌, ◌-◌, ◌*◌, ◌/◌, ◌%◌, ◌==◌, nat_le, nat_lt, ◌||◌, ◌&&◌, if◌then◌else◌}
use Rattle.std.specs.Prelude.{Bool, true, false, not, min, ◌<◌, List, [], length, slice_get, Option, None, Some}
use Rattle.rand_pcg.specs.Lcg.{Lcg}
use Rattle.go_base.specs.Colour.{other}
use Rattle.go_base.specs.Handicap.{handicap_points}
use Rattle.go_base.specs.Point.{IsOn, column_of, row_of}
use Rattle.go_base.specs.Size.{most_size}
use Rattle.go_base.specs.declared.colours.Colour.{Colour}
use Rattle.go_base.specs.declared.colours.Colour.TheVariants.{Black, White}
use Rattle.go_base.specs.declared.moves.Move.{Move}
use Rattle.go_base.specs.declared.vertices.Vertex.{Vertex}
use Rattle.go_base.specs.declared.vertices.Vertex.TheVariants.{Pass, At}
use Rattle.go_board.specs.Game.{GameRecord, IsLegal}
use Rattle.gtp_wire.specs.declared.commands.Command.{Command}
use Rattle.gtp_wire.specs.declared.commands.Command.TheVariants as command
use Rattle.gtp_check_judge.specs.declared.asking.CheckCommand.TheVariants.{Match, FinalScore, ListCommands}
use Rattle.gtp_check_judge.specs.declared.asking.CheckCommand.TheVariants.{PlayInFull, GenmoveInFull, Faulty, Required}
use Rattle.gtp_check_course.specs.declared.actions.Question.{Question}
use Rattle.gtp_check_course.specs.declared.actions.Question.TheVariants.{Ask, Probe, Size, Found, Fresh, Restart, Kill}
use Rattle.gtp_check_course.specs.declared.actions.Question.TheVariants.{Nothing}
use Rattle.gtp_check_course.specs.declared.boards.Board.{Board}
use Rattle.gtp_check_course.specs.declared.draws.Draws.{Draws}
use Rattle.gtp_check_course.specs.declared.scenes.Way.{Way}
use Rattle.gtp_check_course.specs.declared.stretches.Stretch.{Stretch}
use Rattle.gtp_check_course.specs.declared.stretches.Stretch.TheVariants as stretch
use Rattle.gtp_check_course.specs.Draws.{drawn_below, generator_of_step, past_words}
use Rattle.gtp_check_course.specs.Scenes.{Acts, crossing, is_first, turned, turned_act, turned_colour}

-- a command of a match
abbrev pub asks : Command → Question
asks now = Ask (Match now)

abbrev pub plays : Colour → Vertex → Question
plays colour vertex = asks (command.Play (record { colour = colour; vertex = vertex }))

-- a move on a point, which is taken back where it is legal; nothing where there is no point
abbrev pub probes : Colour → Vertex → Question
probes colour Pass = Nothing
probes colour (At p) = Probe (record { colour = colour; vertex = At p })

-- Black for an even number, and White for an odd one
abbrev pub colour_of : ℕ → Colour
colour_of number = if number % 2 == 0 then Black else White

-- ---- scenes

-- two handicap stones, if the games of the scene begin with them
abbrev pub given_asked : Bool → Question
given_asked true = asks (command.FixedHandicap 2)
given_asked false = Nothing

abbrev pub last_of : Acts → Option (Colour × ℕ × ℕ)
last_of acts = slice_get acts (length acts - 1)

-- the move of an act, if there is one
abbrev pub act_asked : Board → Option (Colour × ℕ × ℕ) → Question
act_asked board None = Nothing
act_asked board (Some act) = asks (command.Play (turned_act board.way act board.size))

-- a pass after the act, of the other colour
abbrev pub pass_asked : Board → Option (Colour × ℕ × ℕ) → Question
pass_asked board None = Nothing
pass_asked board (Some act) = plays (other (turned_act board.way act board.size).colour) Pass

-- a pass of the colour that acted
abbrev pub actor_pass_asked : Board → Option (Colour × ℕ × ℕ) → Question
actor_pass_asked board None = Nothing
actor_pass_asked board (Some act) = plays (turned_act board.way act board.size).colour Pass

-- a move of the other colour in the far corner
abbrev pub elsewhere_asked : Board → Option (Colour × ℕ × ℕ) → Question
elsewhere_asked board None = Nothing
elsewhere_asked board (Some act) =
    plays (other (turned_act board.way act board.size).colour) (turned board.way board.size board.size board.size)

-- a probe of the point of an act, if there is one
abbrev pub own_asked : Board → ℕ → Option (Colour × ℕ × ℕ) → Question
own_asked board step None = Nothing
own_asked board step (Some act) = probes (colour_of step) (turned board.way act.1 act.2 board.size)

-- ---- the size of scenes

-- Two steps for each size from 5 to 25, while no size of scenes is known: that size is asked for, and whether it was
-- taken is seen.
abbrev pub seek_asked : ℕ → Bool → Question
seek_asked step is_sought =
    if not is_sought then Nothing
    else if step % 2 == 0 then asks (command.Boardsize (min (5 + step / 2) most_size))
    else Found (min (5 + step / 2) most_size)

-- ---- points

-- how many lines of the corner are asked each way
abbrev pub lines : ℕ
lines = 6

-- a probe of a point of the scene's corner, row by row, in both colours; nothing past the edge
abbrev pub corner_asked : Board → ℕ → Question
corner_asked board step =
    if nat_lt board.size (step / 2 % lines + 1) || nat_lt board.size (step / 2 / lines + 1) then Nothing
    else probes (colour_of step) (turned board.way (step / 2 % lines + 1) (step / 2 / lines + 1) board.size)

-- the corners, and the points next to two of them that the board doesn't have
abbrev pub edge_point : ℕ → ℕ → Vertex
edge_point step size =
    if step == 0 then crossing size size
    else if step == 1 then crossing (size + 1) 1
    else if step == 2 then crossing 1 (size + 1)
    else if step == 3 then crossing size 1
    else if step == 4 then crossing 1 size
    else crossing 1 1

-- the points of the most handicap stones that a size has
abbrev pub star_points : ℕ → List ℕ
star_points size =
    if nat_le 9 size && size % 2 == 1 then handicap_points size 9
    else if nat_le 7 size then handicap_points size 4
    else []

abbrev pub star_asked : ℕ → Option ℕ → Question
star_asked step None = Nothing
star_asked step (Some p) = probes (colour_of step) (At p)

-- White's move next to a point, if there is one: on its left, on its right, below it and above it
abbrev pub next_to : ℕ → ℕ → Vertex
next_to step p =
    if step == 0 then crossing (column_of p - 1) (row_of p)
    else if step == 1 then crossing (column_of p + 1) (row_of p)
    else if step == 2 then crossing (column_of p) (row_of p - 1)
    else crossing (column_of p) (row_of p + 1)

abbrev pub surround_asked : ℕ → Option ℕ → Question
surround_asked step None = Nothing
surround_asked step (Some p) = plays White (next_to step p)

-- ---- a move that was made

-- a play on a point; nothing where there is no point
abbrev pub plays_on : Colour → Vertex → Question
plays_on colour Pass = Nothing
plays_on colour (At p) = plays colour (At p)

-- a play on the point of a move, first in one colour and then in the other
abbrev pub on_move_asked : ℕ → Option Move → Question
on_move_asked step None = Nothing
on_move_asked step (Some move) = plays_on (colour_of step) move.vertex

-- a play of the other colour next to the point of a move: on its left, on its right, below it and above it
abbrev pub around_point_asked : ℕ → Colour → Vertex → Question
around_point_asked step colour Pass = Nothing
around_point_asked step colour (At p) = plays_on colour (next_to step p)

abbrev pub around_asked : ℕ → Option Move → Question
around_asked step None = Nothing
around_asked step (Some move) = around_point_asked step (other move.colour) move.vertex

-- ---- each point, long waits, and empty boards

-- the crossing of this number, row by row, on a board of this size
abbrev pub crossing_of : ℕ → ℕ → Vertex
crossing_of number size = crossing (number % size + 1) (number / size + 1)

-- Three steps for each point of the board, row by row: a move on it, of Black and of White in turn; a probe of it by
-- the other colour, whose move is refused there; and an `undo`.
abbrev pub points_asked : ℕ → ℕ → Question
points_asked step size =
    if nat_le size (step / 3 / size) then Nothing
    else if step % 3 == 0 then plays (colour_of (step / 3)) (crossing_of (step / 3) size)
    else if step % 3 == 1 then probes (other (colour_of (step / 3))) (crossing_of (step / 3) size)
    else asks command.Undo

-- a probe of the point of an act by the colour of the act, if there is one
abbrev pub retake_asked : Board → Option (Colour × ℕ × ℕ) → Question
retake_asked board None = Nothing
retake_asked board (Some act) =
    probes (turned_act board.way act board.size).colour (turned_act board.way act board.size).vertex

-- the number of the move whose stone is taken in the first scene of kos
abbrev pub retaken : ℕ
retaken = 2

-- passes of Black and of White in turn, and after each of them a probe of the point of that act
abbrev pub waits_asked : Board → ℕ → Option (Colour × ℕ × ℕ) → Question
waits_asked board step act = if step % 2 == 0 then plays (colour_of (step / 2)) Pass else retake_asked board act

-- an `undo`, while the game has moves
abbrev pub emptied_asked : ℕ → Question
emptied_asked moves = if nat_lt 0 moves then asks command.Undo else Nothing

-- the same in the first of the sixteen ways alone
abbrev pub all_back_asked : Way → ℕ → Question
all_back_asked way moves = if is_first way then emptied_asked moves else Nothing

-- ---- the engine's own moves

-- By the number of moves it is Black's turn or White's. Of five steps the third asks for a move of the other colour,
-- and the last takes a move back.
abbrev pub genmove_asked : ℕ → ℕ → Question
genmove_asked step moves =
    if step % 5 == 4 then asks command.Undo
    else if step % 5 == 2 then asks (command.Genmove (other (colour_of moves)))
    else asks (command.Genmove (colour_of moves))

-- a move of the engine's own, of the colour that plays this one's moves
abbrev pub choice_asked : Board → Colour → Question
choice_asked board colour = asks (command.Genmove (turned_colour board.way colour))

-- ---- colours that are written in full (the standard's topic color: it is one of white, w, black and b)

-- the move of an act, if there is one
abbrev pub act_in_full : Board → Option (Colour × ℕ × ℕ) → Question
act_in_full board None = Nothing
act_in_full board (Some act) = Ask (PlayInFull (turned_act board.way act board.size))

-- a move of the engine's own, of the colour that plays this one's moves
abbrev pub choice_in_full : Board → Colour → Question
choice_in_full board colour = Ask (GenmoveInFull (turned_colour board.way colour))

-- ---- full boards

-- One stone of White is in the corner, and Black has all points but three: the point beside it, and two corners. Beside
-- it Black takes the stone. From size 3 on White has no legal point.
abbrev pub is_gap : ℕ → ℕ → ℕ → Bool
is_gap column row size =
    column == 2 && row == 1 || column == size && row == size || column == 1 && row == size

-- the move of a step, row by row, if it has one
abbrev pub filled_act : ℕ → ℕ → Option (Colour × ℕ × ℕ)
filled_act step size =
    if nat_le size (step / size) || is_gap (step % size + 1) (step / size + 1) size then None
    else if step == 0 then Some (White, 1, 1)
    else Some (Black, step % size + 1, step / size + 1)

-- Black plays the three points.
abbrev pub gap_act : ℕ → ℕ → Colour × ℕ × ℕ
gap_act step size =
    if step == 0 then (Black, 2, 1)
    else if step == 1 then (Black, size, size)
    else (Black, 1, size)

-- Black takes White's stone, and fills all but the last corner. Then White takes all stones of Black by that one.
abbrev pub swept_act : ℕ → ℕ → Colour × ℕ × ℕ
swept_act step size =
    if step == 0 then (Black, 2, 1)
    else if step == 1 then (Black, 1, 1)
    else if step == 2 then (Black, size, size)
    else (White, 1, size)

-- ---- kos on a board that is filled

-- The act's point, the gaps and the far corner stay empty.
abbrev pub is_left_empty : Board → Colour × ℕ × ℕ → ℕ → ℕ → Bool
is_left_empty board act column row =
    column == act.1 && row == act.2 || column == board.gaps.first.0 && row == board.gaps.first.1
    || column == board.gaps.second.0 && row == board.gaps.second.1 || column == board.size && row == board.size

-- The colour that acts plays on all other points, row by row. Where a stone of the scene is, the move is refused.
abbrev pub sealed_asked : ℕ → Board → Option (Colour × ℕ × ℕ) → Question
sealed_asked step board None = Nothing
sealed_asked step board (Some act) =
    if nat_le board.size (step / board.size)
    || is_left_empty board act (step % board.size + 1) (step / board.size + 1) then Nothing
    else act_asked board (Some (act.0, step % board.size + 1, step / board.size + 1))

-- a move of the engine's own, of the colour that didn't act
abbrev pub answer_asked : Board → Option (Colour × ℕ × ℕ) → Question
answer_asked board None = Nothing
answer_asked board (Some act) = asks (command.Genmove (other (turned_act board.way act board.size).colour))

-- ---- drawn moves

-- the colour that a step draws: by its first word
abbrev pub drawn_colour : Lcg → Colour
drawn_colour generator = colour_of (drawn_below generator 0 2)

-- the generator of the words after the first one, by which points are drawn
abbrev pub after_colour : Lcg → Lcg
after_colour generator = past_words 1 generator

-- The point of a board of this size that two words of a generator draw: the word of this number draws its column, and
-- the next one its row.
abbrev pub drawn_point : Lcg → ℕ → ℕ → Vertex
drawn_point generator number size =
    crossing (drawn_below generator number size + 1) (drawn_below generator (number + 1) size + 1)

-- the vertex is a point of a board of this size
abbrev pub IsPointOf : ℕ → Vertex → Type 0
IsPointOf size vertex = (p : ℕ) × IsOn size p × (vertex ≡ At p)

-- The vertex is the first of these candidates that is legal for the colour.
pub record IsFirstLegal (game : GameRecord) (colour : Colour) (candidates : ℕ → Vertex) (vertex : Vertex) : Type 0 where
  pub legal : IsLegal game colour vertex
  pub number : ℕ
  pub is : vertex ≡ candidates number
  pub before : (k : ℕ) → k < number → IsLegal game colour (candidates k) → ⊥

-- each point of a board of this size, row by row from the lowest, and then a pass
abbrev pub point_or_pass : ℕ → ℕ → Vertex
point_or_pass size number = if nat_lt number (size * size) then crossing_of number size else Pass

-- how many points are drawn for a move
abbrev pub tries : ℕ
tries = 30

-- What is tried for a move: thirty points, of which each is drawn by the next two words; then each point of the board;
-- then a pass.
abbrev pub candidate : Lcg → ℕ → ℕ → Vertex
candidate generator size number =
    if nat_lt number tries then drawn_point generator (2 * number) size
    else point_or_pass size (number - tries)

-- The vertex of a drawn move, by the words of this generator: the first candidate that is legal for the colour. A pass
-- is legal, and it comes after all points of the board.
pub record IsDrawn (game : GameRecord) (colour : Colour) (generator : Lcg) (vertex : Vertex) : Type 0 where
  pub first : IsFirstLegal game colour (candidate generator game.size) vertex
  pub passes_last : vertex ≡ Pass → (p : ℕ) → IsOn game.size p → IsLegal game colour (At p) → ⊥

-- a drawn move: the colour is drawn by the first word, and its vertex by those after it
abbrev pub IsDrawnMove : GameRecord → Lcg → Question → Type 0
IsDrawnMove game generator question =
    (vertex : Vertex) × IsDrawn game (drawn_colour generator) (after_colour generator) vertex
    × (question ≡ plays (drawn_colour generator) vertex)

-- a probe of a drawn point of the board: the colour is drawn by the first word, and the point by the next two
pub record IsProbe (game : GameRecord) (generator : Lcg) (question : Question) : Type 0 where
  pub point : ℕ
  pub on_board : IsOn game.size point
  pub drawn : drawn_point (after_colour generator) 0 game.size ≡ At point
  pub asked : question ≡ probes (drawn_colour generator) (At point)

-- ---- all stretches

-- a step of a stretch: its number, counted from 0, and the words that it draws
pub record Step : Type 0 where
  pub number : ℕ
  pub draws : Draws

-- What a step of a stretch asks on this board, where the game is this one.
abbrev pub IsQuestion : Stretch → Step → Board → GameRecord → Question → Type 0
IsQuestion stretch.Fresh step board game question = question ≡ Fresh
IsQuestion stretch.Seek step board game question = question ≡ seek_asked step.number board.is_sought
IsQuestion stretch.Size step board game question = question ≡ asks (command.Boardsize board.size)
IsQuestion stretch.Taken step board game question = question ≡ Size board.size
IsQuestion stretch.OtherSize step board game question = question ≡ asks (command.Boardsize board.other_size)
IsQuestion stretch.OtherTaken step board game question = question ≡ Size board.other_size
IsQuestion stretch.Komi step board game question = question ≡ asks (command.Komi board.komi)
IsQuestion stretch.OtherKomi step board game question = question ≡ asks (command.Komi board.other_komi)
IsQuestion stretch.Inexact step board game question = question ≡ asks (command.Komi board.inexact_komi)
IsQuestion stretch.Clear step board game question = question ≡ asks command.ClearBoard
IsQuestion stretch.Given step board game question = question ≡ given_asked board.has_handicap
IsQuestion stretch.Moves step board game question = question ≡ act_asked board (slice_get board.scene.now step.number)
IsQuestion stretch.MovesInFull step board game question =
    question ≡ act_in_full board (slice_get board.scene.now step.number)
IsQuestion stretch.Own step board game question =
    question ≡ own_asked board step.number (slice_get board.scene.now (step.number / 2))
IsQuestion stretch.Corner step board game question = question ≡ corner_asked board step.number
IsQuestion stretch.Pass step board game question = question ≡ pass_asked board (last_of board.scene.now)
IsQuestion stretch.ActorPass step board game question = question ≡ actor_pass_asked board (last_of board.scene.now)
IsQuestion stretch.Sealed step board game question =
    question ≡ sealed_asked step.number board (last_of board.scene.now)
IsQuestion stretch.Answer step board game question = question ≡ answer_asked board (last_of board.scene.now)
IsQuestion stretch.Act step board game question = question ≡ act_asked board (last_of board.scene.now)
IsQuestion stretch.Elsewhere step board game question = question ≡ elsewhere_asked board (last_of board.scene.now)
IsQuestion stretch.Undo step board game question = question ≡ asks command.Undo
IsQuestion stretch.Edges step board game question =
    question ≡ probes (colour_of step.number) (edge_point step.number board.size)
IsQuestion stretch.Handicap step board game question = question ≡ asks (command.FixedHandicap board.stones)
IsQuestion (stretch.Stones stones) step board game question = question ≡ asks (command.FixedHandicap stones)
IsQuestion stretch.Stars step board game question =
    question ≡ star_asked step.number (slice_get (star_points game.size) (step.number / 2))
IsQuestion stretch.Score step board game question = question ≡ Ask FinalScore
IsQuestion stretch.Surround step board game question =
    question ≡ surround_asked step.number (slice_get (star_points game.size) 0)
IsQuestion stretch.Points step board game question = question ≡ points_asked step.number board.size
IsQuestion (stretch.Passes steps) step board game question = question ≡ plays (colour_of step.number) Pass
IsQuestion (stretch.Waits steps) step board game question =
    question ≡ waits_asked board step.number (slice_get board.scene.now retaken)
IsQuestion (stretch.Drawn steps) step board game question = IsDrawnMove game (generator_of_step step.draws) question
IsQuestion (stretch.Probed steps) step board game question =
    (step.number % 3 ≡ 0 → IsDrawnMove game (generator_of_step step.draws) question)
    × (step.number % 3 ≢ 0 → IsProbe game (generator_of_step step.draws) question)
IsQuestion (stretch.Back steps) step board game question = question ≡ asks command.Undo
IsQuestion (stretch.Emptied steps) step board game question = question ≡ emptied_asked (length game.moves)
IsQuestion (stretch.AllBack steps) step board game question =
    question ≡ all_back_asked board.way (length game.moves)
IsQuestion (stretch.Genmoves steps) step board game question = question ≡ genmove_asked step.number (length game.moves)
IsQuestion stretch.Filled step board game question = question ≡ act_asked board (filled_act step.number board.size)
IsQuestion stretch.Gaps step board game question = question ≡ act_asked board (Some (gap_act step.number board.size))
IsQuestion stretch.Swept step board game question = question ≡ act_asked board (Some (swept_act step.number board.size))
IsQuestion (stretch.Chosen colour) step board game question = question ≡ choice_asked board colour
IsQuestion (stretch.OnMove number) step board game question =
    question ≡ on_move_asked step.number (slice_get game.moves number)
IsQuestion (stretch.AroundMove number) step board game question =
    question ≡ around_asked step.number (slice_get game.moves number)
IsQuestion (stretch.ChosenInFull colour) step board game question = question ≡ choice_in_full board colour
IsQuestion stretch.List step board game question = question ≡ Ask ListCommands
IsQuestion (stretch.Faulty command) step board game question = question ≡ Ask (Faulty command)
IsQuestion (stretch.Required command) step board game question = question ≡ Ask (Required command)
IsQuestion stretch.Restart step board game question = question ≡ Restart
IsQuestion stretch.Kill step board game question = question ≡ Kill
