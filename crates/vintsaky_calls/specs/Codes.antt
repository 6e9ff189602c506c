-- The numbers that represent colours, vertices, ko rules and causes in the calls of the library.
use Rattle.std.specs.Prelude.{◌≡◌, ◌≢◌, ℕ, ◌+◌, ◌*◌, Result, Ok, Err}
use Rattle.go_base.specs.Point.{IsOn, column_of, row_of}
use Rattle.go_base.specs.Size.{most_size}
use Rattle.go_base.specs.declared.colours.Colour.{Colour}
use Rattle.go_base.specs.declared.colours.Colour.TheVariants.{Black, White}
use Rattle.go_base.specs.declared.vertices.Vertex.{Vertex}
use Rattle.go_base.specs.declared.vertices.Vertex.TheVariants.{Pass, At}
use Rattle.go_board.specs.declared.faults.PlayFault.{PlayFault}
use Rattle.go_board.specs.declared.faults.PlayFault.TheVariants as play_fault
use Rattle.go_board.specs.declared.rules.KoRule.{KoRule}
use Rattle.go_board.specs.declared.rules.KoRule.TheVariants.{Simple, Positional}
use Rattle.gtp_session.specs.declared.events.ChoiceFault.{ChoiceFault}
use Rattle.gtp_session.specs.declared.events.ChoiceFault.TheVariants as choice_fault
use Rattle.gtp_session.specs.declared.events.AnswerFault.{AnswerFault}
use Rattle.gtp_session.specs.declared.events.AnswerFault.TheVariants as answer_fault
use Rattle.gtp_session.specs.declared.events.CommandFault.{CommandFault}
use Rattle.gtp_session.specs.declared.events.CommandFault.TheVariants as command_fault
use Rattle.vintsaky_calls.specs.declared.causes.Cause.{Cause}
use Rattle.vintsaky_calls.specs.declared.causes.Cause.TheVariants as cause

-- 1 is Black, 2 is White
abbrev pub colour_code : Colour → ℕ
colour_code Black = 1
colour_code White = 2

-- the number represents no colour
abbrev pub NoColour : ℕ → Type 0
NoColour n = (colour : Colour) → n ≢ colour_code colour

-- 1 is simple ko, 2 is positional superko
abbrev pub rule_code : KoRule → ℕ
rule_code Simple = 1
rule_code Positional = 2

-- the number represents no ko rule
abbrev pub NoRule : ℕ → Type 0
NoRule n = (rule : KoRule) → n ≢ rule_code rule

-- the number of a point: 256 times its row, and its column
abbrev pub point_code : ℕ → ℕ
point_code p = 256 * row_of p + column_of p

-- 0 is a pass
abbrev pub vertex_code : Vertex → ℕ
vertex_code Pass = 0
vertex_code (At p) = point_code p

-- a pass, or a point of the largest board
abbrev pub IsVertex : Vertex → Type 0
IsVertex Pass = Unit {0}
IsVertex (At p) = IsOn most_size p

-- the number represents this vertex
pub record IsCodeOf (n : ℕ) (vertex : Vertex) : Type 0 where
  pub code : n ≡ vertex_code vertex
  pub is : IsVertex vertex

-- the number represents no vertex
abbrev pub NoVertex : ℕ → Type 0
NoVertex n = (vertex : Vertex) → IsVertex vertex → n ≢ vertex_code vertex

-- the number of each cause
abbrev pub cause_code : Cause → ℕ
cause_code cause.BadColour = 1
cause_code cause.BadVertex = 2
cause_code cause.BadRule = 3
cause_code cause.BadSize = 4
cause_code cause.BadKomi = 5
cause_code cause.BadText = 6
cause_code cause.NoRoom = 7
cause_code cause.Full = 8
cause_code cause.OffBoard = 9
cause_code cause.Occupied = 10
cause_code cause.Suicide = 11
cause_code cause.Ko = 12
cause_code cause.NothingToUndo = 13
cause_code cause.NotEmpty = 14
cause_code cause.BadHandicap = 15
cause_code cause.NoMove = 16
cause_code cause.NoStone = 17
cause_code cause.NotAsked = 18
cause_code cause.NoWord = 19
cause_code cause.NoId = 20
cause_code cause.BadLength = 21
cause_code cause.BadByte = 22
cause_code cause.OnlyDigits = 23
cause_code cause.InTable = 24
cause_code cause.AddedBefore = 25
cause_code cause.TooMany = 26
cause_code cause.BadMaxMoves = 27
cause_code cause.BadMaxRestarts = 28
cause_code cause.NotNext = 29
cause_code cause.NotOver = 30
cause_code cause.NoLine = 31
cause_code cause.BadCommand = 32
cause_code cause.BadId = 33
cause_code cause.Down = 34
cause_code cause.IsOver = 35
cause_code cause.BadReason = 36

-- the number represents no cause
abbrev pub NoCause : ℕ → Type 0
NoCause n = (why : Cause) → n ≢ cause_code why

-- what a call comes to: it is done, or it is refused for a cause
abbrev pub CallResult : Type 0
CallResult = Result (Unit {0}) Cause

-- its number: 0 where it was done
abbrev pub result_code : CallResult → ℕ
result_code (Ok _) = 0
result_code (Err why) = cause_code why

-- what an export returns: the number of what its call comes to
pub record Returns (number : ℕ) (Call : CallResult → Type 0) : Type 0 where
  pub made : CallResult
  pub number_is : number ≡ result_code made
  pub call : Call made

-- the cause of a play that is refused
abbrev pub play_cause : PlayFault → Cause
play_cause play_fault.Full = cause.Full
play_cause play_fault.OffBoard = cause.OffBoard
play_cause play_fault.Occupied = cause.Occupied
play_cause play_fault.Suicide = cause.Suicide
play_cause play_fault.Ko = cause.Ko

-- the cause of a choice that is refused
abbrev pub choice_cause : ChoiceFault → Cause
choice_cause choice_fault.NotAsked = cause.NotAsked
choice_cause (choice_fault.Illegal fault) = play_cause fault

-- the cause of an answer that is refused
abbrev pub answer_cause : AnswerFault → Cause
answer_cause answer_fault.NotAsked = cause.NotAsked
answer_cause answer_fault.BadText = cause.BadText

-- the cause of a command that isn't added
abbrev pub command_cause : CommandFault → Cause
command_cause command_fault.BadLength = cause.BadLength
command_cause command_fault.BadByte = cause.BadByte
command_cause command_fault.OnlyDigits = cause.OnlyDigits
command_cause command_fault.InTable = cause.InTable
command_cause command_fault.AddedBefore = cause.AddedBefore
command_cause command_fault.TooMany = cause.TooMany
