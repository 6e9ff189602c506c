-- What is due to a command: what every right engine answers to it, by the rules of the game, and by the moves that were
-- taken back.
use Rattle.std.specs.Prelude.{◌≡◌, ℕ, ℤ, ◌≤◌, ◌<◌, ◌||◌, nat_lt, Bool, true, false, List, [], length, if◌then◌else◌}
use Rattle.std.specs.List.{list_any}
use Rattle.go_base.specs.Int.{most_int}
use Rattle.go_base.specs.Size.{IsSize}
use Rattle.go_base.specs.Komi.{IsKomi}
use Rattle.go_base.specs.Handicap.{AllowsHandicap}
use Rattle.go_base.specs.declared.moves.Move.{Move}
use Rattle.go_base.specs.declared.vertices.Vertex.{Vertex}
use Rattle.go_base.specs.declared.vertices.Vertex.TheVariants.{Pass, At}
use Rattle.go_board.specs.Game.{GameRecord, HasRoom, IsLegal, IsFinished}
use Rattle.go_board.specs.Refusals.{Refuses, IsTouched, RefusesHandicap}
use Rattle.gtp_wire.specs.declared.commands.Command.{Command}
use Rattle.gtp_wire.specs.declared.commands.Command.TheVariants.{Boardsize, Komi, ClearBoard, FixedHandicap, Play}
use Rattle.gtp_wire.specs.declared.commands.Command.TheVariants.{Genmove, Undo, Quit}
use Rattle.gtp_session.specs.CommandAnswers.{after_command}
use Rattle.gtp_check_judge.specs.declared.asking.CheckCommand.{CheckCommand}
use Rattle.gtp_check_judge.specs.declared.asking.CheckCommand.TheVariants.{Match, FinalScore, Name, Version}
use Rattle.gtp_check_judge.specs.declared.asking.CheckCommand.TheVariants.{KnownCommand, PlayInFull, GenmoveInFull, ListCommands}
use Rattle.gtp_check_judge.specs.declared.asking.CheckCommand.TheVariants.{Faulty, Required}
use Rattle.gtp_check_judge.specs.declared.dues.Due.{Due}
use Rattle.gtp_check_judge.specs.declared.dues.Due.TheVariants.{Succeeds, Fails, Places, Resizes, Scores, AnyReply}
use Rattle.gtp_check_judge.specs.declared.dues.Due.TheVariants.{Chooses, MayUndo, Lists}
use Rattle.gtp_check_judge.specs.declared.dues.Cause.TheVariants.{BadMove, BadHandicap, NoMoves, BadCommand}
use Rattle.gtp_check_judge.specs.Komis.{is_exact_komi}
use Rattle.gtp_check_judge.specs.RightEngine.{RightEngine, none_made}

-- a play on a point, and no pass
abbrev pub is_point : Vertex → Bool
is_point Pass = false
is_point (At p) = true

-- one of the moves is a play on a point
abbrev pub has_play : List Move → Bool
has_play moves = list_any (λ move. is_point move.vertex) moves

-- No move was made, or a stone was put on the board. Of the moves a pass puts none.
abbrev pub may_place : GameRecord → Bool
may_place game =
    none_made game.moves || (nat_lt 0 game.handicap || has_play game.moves)

-- What may be asked in a game. (What an engine answers is the table of its commands; what a check asks is our own.) A
-- `play` or a `genmove` is asked only where the record has room: the standard has no limit of a record, and engines may
-- have one. A `genmove` isn't asked after two passes: then a match is over, and engines differ. A number of handicap
-- stones is an int. A handicap isn't asked after passes alone: the standard asks only for an empty board, so engines
-- differ. No `quit` is asked, after which nothing is to be heard.
abbrev pub MayBeSaid : GameRecord → Command → Type 0
MayBeSaid game (Boardsize size) = Unit {0}
MayBeSaid game (Komi komi) = Unit {0}
MayBeSaid game ClearBoard = Unit {0}
MayBeSaid game (FixedHandicap stones) = (stones ≤ most_int) × (may_place game ≡ true)
MayBeSaid game (Play move) = HasRoom game
MayBeSaid game (Genmove colour) = HasRoom game × ¬ IsFinished game
MayBeSaid game Undo = Unit {0}
MayBeSaid game Quit = ⊥

-- no move was made, and no handicap was placed: so no stone is on the board
pub record IsFresh (game : GameRecord) : Type 0 where
  pub no_moves : game.moves ≡ []
  pub no_handicap : game.handicap ≡ 0

-- The score only of an empty board: of others engines judge by rules of their own, as which stones are dead. A command
-- whose colour is written in full, where the same command of a match may be. The rest always.
abbrev pub MayBeAsked : GameRecord → CheckCommand → Type 0
MayBeAsked game (Match command) = MayBeSaid game command
MayBeAsked game FinalScore = IsFresh game
MayBeAsked game Name = Unit {0}
MayBeAsked game Version = Unit {0}
MayBeAsked game (KnownCommand known) = Unit {0}
MayBeAsked game ListCommands = Unit {0}
MayBeAsked game (Faulty command) = Unit {0}
MayBeAsked game (Required command) = Unit {0}
MayBeAsked game (PlayInFull move) = MayBeSaid game (Play move)
MayBeAsked game (GenmoveInFull colour) = MayBeSaid game (Genmove colour)

-- a `fixed_handicap`: the points, where no stone is on the board, no move was made, and the size allows the number; or
-- a failure, for its cause
abbrev pub HandicapDue : GameRecord → ℕ → Due → Type 0
HandicapDue game stones (Places size count) =
    (size ≡ game.size) × (count ≡ stones) × (¬ IsTouched game) × AllowsHandicap game.size stones
HandicapDue game stones (Fails (BadHandicap fault)) = RefusesHandicap game stones fault
HandicapDue game stones (Fails (BadMove fault)) = ⊥
HandicapDue game stones (Fails NoMoves) = ⊥
HandicapDue game stones (Fails (BadCommand command)) = ⊥
HandicapDue game stones Succeeds = ⊥
HandicapDue game stones (Resizes size) = ⊥
HandicapDue game stones (Scores size komi) = ⊥
HandicapDue game stones AnyReply = ⊥
HandicapDue game stones (Chooses colour) = ⊥
HandicapDue game stones MayUndo = ⊥
HandicapDue game stones Lists = ⊥

-- a `play`: a success where the move is legal, or a failure, for the rule that it breaks
abbrev pub PlayDue : GameRecord → Move → Due → Type 0
PlayDue game move Succeeds = IsLegal game move.colour move.vertex × HasRoom game
PlayDue game move (Fails (BadMove fault)) = Refuses game move.colour move.vertex fault
PlayDue game move (Fails (BadHandicap fault)) = ⊥
PlayDue game move (Fails NoMoves) = ⊥
PlayDue game move (Fails (BadCommand command)) = ⊥
PlayDue game move (Places size count) = ⊥
PlayDue game move (Resizes size) = ⊥
PlayDue game move (Scores size komi) = ⊥
PlayDue game move AnyReply = ⊥
PlayDue game move (Chooses colour) = ⊥
PlayDue game move MayUndo = ⊥
PlayDue game move Lists = ⊥

-- An `undo`: a failure where there is no move. Else a success, where none has succeeded since the last move; and where
-- one has, either, since the engine may keep no more of the history.
abbrev pub UndoDue : RightEngine → Due → Type 0
UndoDue engine (Fails NoMoves) = engine.game.moves ≡ []
UndoDue engine Succeeds = (engine.undone ≡ false) × (0 < length engine.game.moves)
UndoDue engine MayUndo = (engine.undone ≡ true) × (0 < length engine.game.moves)
UndoDue engine (Fails (BadMove fault)) = ⊥
UndoDue engine (Fails (BadHandicap fault)) = ⊥
UndoDue engine (Fails (BadCommand command)) = ⊥
UndoDue engine (Places size count) = ⊥
UndoDue engine (Resizes size) = ⊥
UndoDue engine (Scores size komi) = ⊥
UndoDue engine AnyReply = ⊥
UndoDue engine (Chooses colour) = ⊥
UndoDue engine Lists = ⊥

-- a `komi`: a success where every engine has to take it, and else any reply
abbrev pub komi_due : ℤ → Due
komi_due komi = if is_exact_komi komi then Succeeds else AnyReply

-- What is due to a command of a match. A `boardsize` may be refused: an engine plays the sizes that it likes.
abbrev pub IsDueTo : RightEngine → Command → Due → Type 0
IsDueTo engine (Boardsize size) due = (due ≡ Resizes size) × IsSize size
IsDueTo engine (Komi komi) due = (due ≡ komi_due komi) × IsKomi komi
IsDueTo engine ClearBoard due = due ≡ Succeeds
IsDueTo engine (FixedHandicap stones) due = HandicapDue engine.game stones due
IsDueTo engine (Play move) due = PlayDue engine.game move due
IsDueTo engine (Genmove colour) due = (due ≡ Chooses colour) × HasRoom engine.game
IsDueTo engine Undo due = UndoDue engine due
IsDueTo engine Quit due = ⊥

-- What is due to a command. To a `final_score` a score of the board, on which no stone is, with this komi, or a
-- failure; to `name`, `version` and `known_command` a reply, be it a success or a failure, and whatever it says; to
-- `list_commands` a list. A colour may be written in one letter or in full, and what is due is the same. What no engine
-- can read has to fail, and what every engine has may not.
abbrev pub IsDue : RightEngine → CheckCommand → Due → Type 0
IsDue engine (Match command) due = IsDueTo engine command due
IsDue engine FinalScore due =
    (due ≡ Scores engine.game.size engine.game.komi) × IsFresh engine.game × IsKomi engine.game.komi
IsDue engine Name due = due ≡ AnyReply
IsDue engine Version due = due ≡ AnyReply
IsDue engine (KnownCommand known) due = due ≡ AnyReply
IsDue engine ListCommands due = due ≡ Lists
IsDue engine (Faulty command) due = due ≡ Fails (BadCommand command)
IsDue engine (Required command) due = due ≡ Succeeds
IsDue engine (PlayInFull move) due = IsDueTo engine (Play move) due
IsDue engine (GenmoveInFull colour) due = IsDueTo engine (Genmove colour) due

-- the game after a command that goes well
abbrev pub after_check : GameRecord → CheckCommand → GameRecord
after_check game (Match command) = after_command game command
after_check game FinalScore = game
after_check game Name = game
after_check game Version = game
after_check game (KnownCommand known) = game
after_check game ListCommands = game
after_check game (Faulty command) = game
after_check game (Required command) = game
after_check game (PlayInFull move) = after_command game (Play move)
after_check game (GenmoveInFull colour) = after_command game (Genmove colour)

-- The game of a right engine once it has answered so. What a `genmove` adds, and whether a `boardsize` or an `undo` is
-- refused, isn't known before. Its komi is the last that was asked, also where any reply is due: what an engine makes
-- of that komi nobody asks.
abbrev pub after_due : GameRecord → CheckCommand → Due → GameRecord
after_due game command Succeeds = after_check game command
after_due game command (Places size count) = after_check game command
after_due game command (Fails cause) = game
after_due game command (Resizes size) = game
after_due game command (Scores size komi) = game
after_due game command AnyReply = after_check game command
after_due game command (Chooses colour) = game
after_due game command MayUndo = game
after_due game command Lists = game

-- whether an `undo` has succeeded since the last move, once a command whose success is due was answered
abbrev pub undone_once : Bool → CheckCommand → Bool
undone_once undone (Match Undo) = true
undone_once undone (Match (Play move)) = false
undone_once undone (Match (Genmove colour)) = undone
undone_once undone (Match (Boardsize size)) = undone
undone_once undone (Match (Komi komi)) = undone
undone_once undone (Match ClearBoard) = undone
undone_once undone (Match (FixedHandicap stones)) = undone
undone_once undone (Match Quit) = undone
undone_once undone FinalScore = undone
undone_once undone Name = undone
undone_once undone Version = undone
undone_once undone (KnownCommand known) = undone
undone_once undone ListCommands = undone
undone_once undone (Faulty command) = undone
undone_once undone (Required command) = undone
undone_once undone (PlayInFull move) = false
undone_once undone (GenmoveInFull colour) = undone

-- the same once a right engine has answered what is due
abbrev pub undone_due : Bool → CheckCommand → Due → Bool
undone_due undone command Succeeds = undone_once undone command
undone_due undone command (Places size count) = undone
undone_due undone command (Fails cause) = undone
undone_due undone command (Resizes size) = undone
undone_due undone command (Scores size komi) = undone
undone_due undone command AnyReply = undone
undone_due undone command (Chooses colour) = undone
undone_due undone command MayUndo = undone
undone_due undone command Lists = undone

-- A right engine once it has answered so. What it thinks of an empty board isn't known before a `final_score` is
-- answered.
abbrev pub engine_after : RightEngine → CheckCommand → Due → RightEngine
engine_after engine command due =
    record {
      game = after_due engine.game command due;
      undone = undone_due engine.undone command due;
      opinion = engine.opinion;
    }
