-- What holds of every course.
use Rattle.std.specs.Prelude.{Bool, false, ◌≡◌, ℕ, ◌+◌, ◌*◌, ◌<◌, ◌≤◌, List, [], ◌∷◌, length, slice_get, Option, Some}
use Rattle.go_base.specs.Handicap.{AllowsHandicap}
use Rattle.go_base.specs.Colour.{other}
use Rattle.go_base.specs.Size.{most_size}
use Rattle.go_base.specs.declared.colours.Colour.{Colour}
use Rattle.go_base.specs.declared.colours.Colour.TheVariants.{Black, White}
use Rattle.go_base.specs.declared.moves.Move.{Move}
use Rattle.go_board.specs.Game.{GameRecord}
use Rattle.go_board.specs.Refusals.{RefusesVertex}
use Rattle.go_board.specs.declared.faults.PlayFault.{PlayFault}
use Rattle.gtp_wire.specs.declared.commands.Command.TheVariants as command
use Rattle.gtp_check_judge.specs.declared.asking.CheckCommand.{CheckCommand}
use Rattle.gtp_check_judge.specs.declared.asking.CheckCommand.TheVariants.{FinalScore}
use Rattle.gtp_check_judge.specs.Asking.{IsPlayOf}
use Rattle.gtp_check_judge.specs.declared.exam.Exam.{Exam}
use Rattle.gtp_check_course.specs.declared.actions.Action.{Action}
use Rattle.gtp_check_course.specs.declared.actions.Action.TheVariants.{Start, Restart, Kill, Ask, Wait, Skip, Done}
use Rattle.gtp_check_course.specs.declared.actions.Question.{Question}
use Rattle.gtp_check_course.specs.declared.actions.Question.TheVariants.{Nothing}
use Rattle.gtp_check_course.specs.declared.boards.Board.{Board}
use Rattle.gtp_check_course.specs.declared.draws.Draws.{Draws}
use Rattle.gtp_check_course.specs.declared.lessons.Lesson.{Lesson}
use Rattle.gtp_check_course.specs.declared.lessons.Lesson.TheVariants as lesson
use Rattle.gtp_check_course.specs.declared.stretches.Stretch.{Stretch}
use Rattle.gtp_check_course.specs.declared.stretches.Stretch.TheVariants as stretch
use Rattle.gtp_check_course.specs.declared.unasked.Unasked.{Unasked}
use Rattle.gtp_check_course.specs.Course.{Course, GoesTo, IsIn, Leaves, begun, spares, with_finding}
use Rattle.gtp_check_course.specs.Boards.{IsBoard}
use Rattle.gtp_check_course.specs.Kos.{IsKo}
use Rattle.gtp_check_course.specs.Lessons.{number_of, parts_of, stretches_of}
use Rattle.gtp_check_course.specs.Questions.{IsQuestion, asks, given_asked, last_of, probes}
use Rattle.gtp_check_course.specs.Scenes.{Acts, scene_of, scenes_of, turned, turned_act, turned_colour}
use Rattle.gtp_check_course.specs.Stretches.{steps_of}

-- ---- a course is bounded

-- a command that is asked, a step that asks nothing, and the end of an engine each count as one
abbrev pub counted : Action → ℕ
counted (Ask command) = 1
counted Restart = 1
counted Kill = 1
counted Skip = 1
counted Start = 0
counted Wait = 0
counted Done = 0

abbrev pub starts : Action → ℕ
starts Start = 1
starts _ = 0

-- The calls on a course of these lessons: how many of them asked a command, asked nothing or ended an engine, how many
-- starts there were, and the course after them. Whatever the engine has answered, each call of `next` goes on. A part
-- may be left at any time, and something may be found in an earlier one.
pub data Walks (lessons : List Lesson) (scene_size : Option ℕ) (seed : ℕ) (unasked : Unasked)
    : ℕ → ℕ → Course → Type 0 where
  begins : Walks lessons scene_size seed unasked 0 0 (begun lessons scene_size seed unasked)
  goes : {asked started : ℕ} {old new : Course} (exam : Exam) (action : Action)
      → Walks lessons scene_size seed unasked asked started old → GoesTo old exam action new
      → Walks lessons scene_size seed unasked (counted action + asked) (starts action + started) new
  leaves : {asked started : ℕ} {old new : Course}
      → Walks lessons scene_size seed unasked asked started old → Leaves old new
      → Walks lessons scene_size seed unasked asked started new
  finds : {asked started : ℕ} {old : Course} (is_loss : Bool) → Walks lessons scene_size seed unasked asked started old
      → Walks lessons scene_size seed unasked asked started (with_finding is_loss old)

-- No more commands are asked, steps passed over and engines ended, all together, than the lessons have steps at most,
-- and five after each start.
abbrev pub EveryCourseIsBounded : Type 0
EveryCourseIsBounded = (lessons : List Lesson) (scene_size : Option ℕ) (seed : ℕ) (unasked : Unasked)
    (asked started : ℕ) (course : Course) → Walks lessons scene_size seed unasked asked started course
    → IsIn course.lessons course.place
    → asked ≤ 67200000 * (length lessons + 1) + 5 * (started + 1)

-- ---- what isn't asked

-- What isn't asked is left out throughout: where scores aren't asked, no `final_score` is; and no `play` is, however its
-- colour is written, that the examiner's game refuses for a cause which isn't asked.
pub record NothingUnaskedIsAsked : Type 0 where
  pub plays : (lessons : List Lesson) (scene_size : Option ℕ) (seed : ℕ) (unasked : Unasked) (asked started : ℕ)
      (old new : Course) (exam : Exam) (command : CheckCommand) (move : Move) (fault : PlayFault)
      → Walks lessons scene_size seed unasked asked started old → IsPlayOf move command
      → GoesTo old exam (Ask command) new → RefusesVertex exam.game move.colour move.vertex fault
      → spares unasked fault ≡ false
  pub scores : (lessons : List Lesson) (scene_size : Option ℕ) (seed : ℕ) (unasked : Unasked) (asked started : ℕ)
      (old new : Course) (exam : Exam) → Walks lessons scene_size seed unasked asked started old
      → GoesTo old exam (Ask FinalScore) new → unasked.score ≡ false

-- ---- what stretches ask

-- The step of this number of a stretch asks this, whatever is drawn, and whatever the game is.
pub record AsksAt (stretch : Stretch) (board : Board) (step : ℕ) (question : Question) : Type 0 where
  pub within : step < steps_of stretch
  pub is : (draws : Draws) (game : GameRecord)
      → IsQuestion stretch (record { number = step; draws = draws }) board game question

-- The stretch asks the moves of the board's scene, in their order, each so.
abbrev pub AsksEachMove : (Move → Question) → Stretch → Board → Type 0
AsksEachMove asked stretch board = (number : ℕ) (act : Colour × ℕ × ℕ) → slice_get board.scene.now number ≡ Some act
    → AsksAt stretch board number (asked (turned_act board.way act board.size))

abbrev pub PlaysEachMove : Stretch → Board → Type 0
PlaysEachMove stretch board = AsksEachMove (λ move. asks (command.Play move)) stretch board

-- Stretches of the part come one right after the other, from this number on. The first step of each asks this, in this
-- order.
pub data AsksInTurn (lesson : Lesson) (part : ℕ) (board : Board) : ℕ → List Question → Type 0 where
  none : {number : ℕ} → AsksInTurn lesson part board number []
  next : {number : ℕ} {question : Question} {later : List Question} (stretch : Stretch)
      → slice_get (stretches_of lesson part) number ≡ Some stretch → AsksAt stretch board 0 question
      → AsksInTurn lesson part board (number + 1) later → AsksInTurn lesson part board number (question ∷ later)

-- ---- each lesson has a start of its own

-- Each lesson but the first of all begins with a start of the engine, where it comes after another one.
abbrev pub EachLessonBeginsAnew : Type 0
EachLessonBeginsAnew = (now : Lesson) → 1 ≤ number_of now → slice_get (stretches_of now 0) 0 ≡ Some stretch.Fresh

-- ---- each rule is asked after a handicap

-- The stretch probes the point of each move of the board's scene, for Black and then for White.
abbrev pub ProbesEachMove : Stretch → Board → Type 0
ProbesEachMove stretch board = (number : ℕ) (act : Colour × ℕ × ℕ) → slice_get board.scene.now number ≡ Some act
    → AsksAt stretch board (number * 2) (probes Black (turned board.way act.1 act.2 board.size))
    × AsksAt stretch board (number * 2 + 1) (probes White (turned board.way act.1 act.2 board.size))

-- Four stretches of the part come one right after the other. The board is cleared, and the game begins so, which its
-- size allows; the moves of the scene are asked; and the points of these moves are probed in both colours: a play on a
-- stone, where stones are or were taken, and where a play is ko or suicide.
pub record AsksScene (lesson : Lesson) (part : ℕ) (begins : Question) (Allows : ℕ → Type 0) (board : Board)
    : Type 0 where
  pub allowed : Allows board.size
  pub number : ℕ
  pub clears : AsksInTurn lesson part board number (asks command.ClearBoard ∷ begins ∷ [])
  pub moves : Stretch
  pub has_moves : slice_get (stretches_of lesson part) (number + 2) ≡ Some moves
  pub plays_each : PlaysEachMove moves board
  pub own : Stretch
  pub has_own : slice_get (stretches_of lesson part) (number + 3) ≡ Some own
  pub probes_each : ProbesEachMove own board

-- A part of the lesson asks this scene in a game that begins so.
pub record HasPart (lesson : Lesson) (acts : Acts) (begins : Question) (Allows : ℕ → Type 0) : Type 0 where
  pub part : ℕ
  pub within : part < parts_of lesson
  pub is_scene : scene_of lesson part ≡ acts
  pub asks_scene : (known : Option ℕ) (board : Board) → IsBoard lesson part known board
      → AsksScene lesson part begins Allows board

-- Each scene of the lesson is asked in an even game, and in one that begins with two handicap stones.
abbrev pub IsAskedInBoth : Lesson → Type 0
IsAskedInBoth lesson = (number : ℕ) (acts : Acts) → slice_get (scenes_of lesson) number ≡ Some acts
    → HasPart lesson acts Nothing (λ size. Unit {0})
    × HasPart lesson acts (asks (command.FixedHandicap 2)) (λ size. AllowsHandicap size 2)

-- Each rule that a scene is about is asked in games with a handicap and without one.
pub record EachRuleIsAskedInBoth : Type 0 where
  pub ko : IsAskedInBoth lesson.Ko
  pub captures : IsAskedInBoth lesson.Captures
  pub suicide : IsAskedInBoth lesson.Suicide
  pub joining : IsAskedInBoth lesson.Joining

-- ---- each ko is answered

-- The crossing stays empty, where the colour of this act has the rest of the board: it is that of the act, one of the
-- two gaps, or the far corner.
pub data StaysEmpty (board : Board) (act : Colour × ℕ × ℕ) : ℕ → ℕ → Type 0 where
  acts : StaysEmpty board act act.1 act.2
  first : StaysEmpty board act board.gaps.first.0 board.gaps.first.1
  second : StaysEmpty board act board.gaps.second.0 board.gaps.second.1
  corner : StaysEmpty board act board.size board.size

-- the move of the act's colour on a crossing
abbrev pub fills : Board → Colour × ℕ × ℕ → ℕ → ℕ → Question
fills board act column row = asks (command.Play (turned_act board.way (act.0, column, row) board.size))

-- A step of the stretch asks nothing, or fills a crossing that doesn't stay empty.
pub data Fills (stretch : Stretch) (board : Board) (act : Colour × ℕ × ℕ) (step : ℕ) : Type 0 where
  nothing : AsksAt stretch board step Nothing → Fills stretch board act step
  plays : (column row : ℕ) → ¬ StaysEmpty board act column row → AsksAt stretch board step (fills board act column row)
      → Fills stretch board act step

-- The stretch has the act's colour play on all crossings of the board but those that stay empty, and on no other.
pub record Seals (stretch : Stretch) (board : Board) (act : Colour × ℕ × ℕ) : Type 0 where
  pub all : (column row : ℕ) → 1 ≤ column → column ≤ board.size → 1 ≤ row → row ≤ board.size
      → ¬ StaysEmpty board act column row
      → (step : ℕ) × AsksAt stretch board step (fills board act column row)
  pub only : (step : ℕ) → step < steps_of stretch → Fills stretch board act step

-- Ten stretches of the part come one right after the other. The board is cleared; a handicap is asked for, if the game
-- begins with one; the moves of the scene are asked, and the last of them, the act, is taken back; the act's colour
-- fills the board; it acts, and nothing else is asked; and the engine is asked for a move of the other colour. That is
-- taken back, the points of the scene's moves are probed, where the retake is, and the engine is asked again.
pub record AsksForAnswer (lesson : Lesson) (part : ℕ) (board : Board) (act : Colour × ℕ × ℕ) : Type 0 where
  pub number : ℕ
  pub clears : AsksInTurn lesson part board number
      (asks command.ClearBoard ∷ given_asked board.has_handicap ∷ [])
  pub moves : Stretch
  pub has_moves : slice_get (stretches_of lesson part) (number + 2) ≡ Some moves
  pub plays_each : PlaysEachMove moves board
  pub takes_back : AsksInTurn lesson part board (number + 3) (asks command.Undo ∷ [])
  pub seal : Stretch
  pub has_seal : slice_get (stretches_of lesson part) (number + 4) ≡ Some seal
  pub seals : Seals seal board act
  pub acts : Stretch
  pub has_acts : slice_get (stretches_of lesson part) (number + 5) ≡ Some acts
  pub alone : steps_of acts ≡ 1
  pub plays : AsksAt acts board 0 (asks (command.Play (turned_act board.way act board.size)))
  pub answers : AsksInTurn lesson part board (number + 6)
      (asks (command.Genmove (other (turned_colour board.way act.0))) ∷ asks command.Undo ∷ [])
  pub own : Stretch
  pub has_own : slice_get (stretches_of lesson part) (number + 8) ≡ Some own
  pub probes_each : ProbesEachMove own board
  pub answers_again : AsksInTurn lesson part board (number + 9)
      (asks (command.Genmove (other (turned_colour board.way act.0))) ∷ [])

-- Each part of the lesson of kos has a ko: the last move of its scene, the act, takes it. A move of the other colour is
-- asked for right after the act, on a board where hardly a point is empty, and again after that move is taken back.
abbrev pub EachKoIsAnswered : Type 0
EachKoIsAnswered = (part : ℕ) (board : Board) → part < parts_of lesson.Ko → board.scene.now ≡ scene_of lesson.Ko part
    → 1 ≤ board.size → board.size ≤ most_size
    → (act : Colour × ℕ × ℕ) × (last_of board.scene.now ≡ Some act) × IsKo board.scene.now act
    × AsksForAnswer lesson.Ko part board act
