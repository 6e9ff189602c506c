-- What is right, in sentences that hang on neither board nor vertex. (Own.)
use Rattle.std.specs.Prelude.{ℕ, List, codes}
use Rattle.go_board.specs.declared.faults.HandicapFault.TheVariants.{NotEmpty, BadNumber}
use Rattle.gtp_check_judge.specs.declared.asking.CheckCommand.{CheckCommand}
use Rattle.gtp_check_judge.specs.declared.asking.CheckCommand.TheVariants.{ListCommands, Required}
use Rattle.gtp_check_judge.specs.declared.asking.FaultyCommand.{FaultyCommand}
use Rattle.gtp_check_judge.specs.declared.asking.FaultyCommand.TheVariants as faulty
use Rattle.gtp_check_judge.specs.declared.dues.Cause.{Cause}
use Rattle.gtp_check_judge.specs.declared.dues.Cause.TheVariants.{BadMove, BadHandicap, NoMoves, BadCommand}
use Rattle.gtp_check_judge.specs.declared.judging.Kind.{Kind}
use Rattle.gtp_check_judge.specs.declared.judging.Kind.TheVariants as kind
use Rattle.gtp_wire.specs.declared.commands.Command.{Command}
use Rattle.gtp_wire.specs.declared.commands.Command.TheVariants.{Komi, ClearBoard, FixedHandicap}

-- why a right engine takes a command of a match
abbrev pub command_sentence : Command → List ℕ
command_sentence (FixedHandicap stones) =
    codes "the board is empty, no move was made, and the size allows this number of stones"
command_sentence (Komi komi) = codes "a komi that floats of 32 bits have exactly is taken"
command_sentence ClearBoard = codes "a board can be cleared at any time"
command_sentence _ = codes "the command succeeds"

-- Why a right engine takes a command that isn't one of a match. (The standard requires `list_commands` of every engine.)
abbrev pub other_sentence : CheckCommand → List ℕ
other_sentence ListCommands = codes "each engine has list_commands"
other_sentence (Required required) = codes "each engine has this command, and it never fails"
other_sentence _ = codes "the command succeeds"

-- why a right engine refuses a command that has to fail
abbrev pub faulty_sentence : FaultyCommand → List ℕ
faulty_sentence faulty.Unknown = codes "a failure: no engine has this command"
faulty_sentence faulty.UnknownWithArguments = codes "a failure: no engine has this command"
faulty_sentence faulty.Boardsize = codes "a failure, which changes nothing: a size is a number"
faulty_sentence faulty.Komi = codes "a failure, which changes nothing: a komi is a number"
faulty_sentence faulty.PlayNowhere = codes "a failure, which changes nothing: a play has a colour and a vertex"
faulty_sentence faulty.PlayOutside = codes "a failure, which changes nothing: no board has this point"
faulty_sentence faulty.Genmove = codes "a failure, which changes nothing: a colour is b, w, black or white"

-- why a right engine refuses a command
abbrev pub cause_sentence : Cause → List ℕ
cause_sentence (BadMove fault) = codes "the move isn't legal"
cause_sentence (BadHandicap NotEmpty) = codes "a handicap is placed on an empty board alone, before any move"
cause_sentence (BadHandicap BadNumber) = codes "the size doesn't allow this number of handicap stones"
cause_sentence NoMoves = codes "there is no move to take back"
cause_sentence (BadCommand command) = faulty_sentence command

-- what a right engine writes in place of what was wrong
abbrev pub kind_sentence : Kind → List ℕ
kind_sentence kind.Refused = codes "the command succeeds"
kind_sentence (kind.Took cause) = cause_sentence cause
kind_sentence kind.OtherPoints = codes "the points of a handicap are fixed by the size and the number"
kind_sentence kind.NoMove = codes "a genmove succeeds; a player who has no move passes or resigns"
kind_sentence kind.NoVertex = codes "a genmove answers a vertex of the board, pass, or resign"
kind_sentence (kind.Unlawful fault) = codes "the move isn't legal"
kind_sentence kind.Unlisted =
    codes "each of these has a row of its own: protocol_version name version known_command list_commands quit boardsize clear_board komi play genmove"
kind_sentence kind.NoScore = codes "a score is B+ or W+ and the points, or 0"
kind_sentence kind.OtherScore =
    codes "it scored the empty board of this size three times alike with one komi: its scores differ as the komis do"
kind_sentence kind.WrongId = codes "a reply has the id of the oldest unanswered command"
kind_sentence kind.Unasked = codes "each command has one reply"
kind_sentence kind.NoStatus = codes "a reply begins with = or ?, and ends with two newlines"
kind_sentence kind.Overlong =
    codes "two newlines end a reply, within 8,192 bytes: twogtp and this check read no more, though the standard sets no limit"
