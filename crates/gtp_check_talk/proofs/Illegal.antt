-- What is due to a command tells whether it is a `play` that isn't legal.
use Rattle.std.proofs.Common.{◌≡◌, ◌∙◌, ℕ, Bool, true, false, refl, ap, arith}
use Rattle.std.specs.Prelude.{◌↔◌, IsTrue, if◌then◌else◌}
use Rattle.go_base.specs.declared.colours.Colour.{Colour}
use Rattle.go_base.specs.declared.moves.Move.{Move}
use Rattle.go_base.specs.declared.vertices.Vertex.{Vertex}
use Rattle.go_base.specs.declared.vertices.Vertex.TheVariants.{Pass, At}
use Rattle.go_board.specs.Game.{GameRecord, HasRoom, IsLegal}
use Rattle.go_board.specs.Refusals.{Refuses}
use Rattle.go_board.specs.declared.faults.PlayFault.{PlayFault}
use Rattle.go_board.specs.declared.faults.PlayFault.TheVariants.{Full, OffBoard, Occupied, Suicide, Ko}
use Rattle.gtp_wire.specs.declared.commands.Command.{Command}
use Rattle.gtp_wire.specs.declared.commands.Command.TheVariants.{Boardsize, Komi, ClearBoard, FixedHandicap, Play}
use Rattle.gtp_wire.specs.declared.commands.Command.TheVariants.{Genmove, Undo, Quit}
use Rattle.gtp_check_judge.specs.declared.asking.CheckCommand.{CheckCommand}
use Rattle.gtp_check_judge.specs.declared.asking.CheckCommand.TheVariants.{Match, FinalScore, Name, Version}
use Rattle.gtp_check_judge.specs.declared.asking.CheckCommand.TheVariants.{KnownCommand, PlayInFull, GenmoveInFull}
use Rattle.gtp_check_judge.specs.declared.asking.CheckCommand.TheVariants.{ListCommands}
use Rattle.gtp_check_judge.specs.declared.asking.CheckCommand.TheVariants.{Faulty, Required}
use Rattle.gtp_check_judge.specs.declared.dues.Due.{Due}
use Rattle.gtp_check_judge.specs.declared.dues.Due.TheVariants.{Succeeds, Fails, Places, Resizes, Scores, AnyReply}
use Rattle.gtp_check_judge.specs.declared.dues.Due.TheVariants.{Chooses, MayUndo, Lists}
use Rattle.gtp_check_judge.specs.declared.dues.Cause.TheVariants.{BadMove, BadHandicap, NoMoves, BadCommand}
use Rattle.gtp_check_judge.specs.Dues.{HandicapDue, IsDue, IsDueTo, MayBeAsked, MayBeSaid, PlayDue, UndoDue}
use Rattle.gtp_check_judge.specs.Komis.{is_exact_komi}
use Rattle.gtp_check_judge.specs.RightEngine.{RightEngine}
use Rattle.gtp_check_talk.specs.Dialogues.{IsIllegal}
use Rattle.gtp_check_talk.specs.private.Illegal.{is_bad_move}

-- what is refused isn't legal
not_legal : (game : GameRecord) (c : Colour) (v : Vertex) (fault : PlayFault) → HasRoom game → Refuses game c v fault
    → ¬ IsLegal game c v
not_legal game c v Full room refused legal = absurd (omega (arith, room, refused))
not_legal game c Pass OffBoard room refused legal = refused.1
not_legal game c Pass Occupied room refused legal = refused.1
not_legal game c Pass Suicide room refused legal = refused.1
not_legal game c Pass Ko room refused legal = refused.1
not_legal game c (At p) OffBoard room refused legal = refused.1 legal.on_board
not_legal game c (At p) Occupied room refused legal = refused.1.1 legal.empty
not_legal game c (At p) Suicide room refused legal = refused.1.1.1 legal.free
not_legal game c (At p) Ko room refused legal = legal.no_ko refused.1.1.1.1

of_play : (game : GameRecord) (move : Move) (due : Due) → HasRoom game → PlayDue game move due
    → IsTrue (is_bad_move due) ↔ (¬ IsLegal game move.colour move.vertex)
of_play game move Succeeds room is = (λ yes. absurd (cc yes), λ illegal. absurd (illegal is.0))
of_play game move (Fails (BadMove fault)) room is =
    (λ yes. not_legal game move.colour move.vertex fault room is, λ illegal. refl)
of_play game move (Fails (BadHandicap fault)) room is = absurd is
of_play game move (Fails NoMoves) room is = absurd is
of_play game move (Fails (BadCommand command)) room is = absurd is
of_play game move (Places size count) room is = absurd is
of_play game move (Resizes size) room is = absurd is
of_play game move (Scores size komi) room is = absurd is
of_play game move AnyReply room is = absurd is
of_play game move (Chooses colour) room is = absurd is
of_play game move MayUndo room is = absurd is
of_play game move Lists room is = absurd is

-- another command has no bad move
none : (due : Due) → is_bad_move due ≡ false → IsTrue (is_bad_move due) ↔ ⊥
none due is_none = (λ yes. cc (yes, is_none), λ never. absurd never)

no_move : (due other : Due) → due ≡ other → is_bad_move other ≡ false → IsTrue (is_bad_move due) ↔ ⊥
no_move due other is is_none = none due (ap is_bad_move is ∙ is_none)

of_handicap : (game : GameRecord) (stones : ℕ) (due : Due) → HandicapDue game stones due → is_bad_move due ≡ false
of_handicap game stones (Places size count) is = refl
of_handicap game stones (Fails (BadHandicap fault)) is = refl
of_handicap game stones (Fails (BadMove fault)) is = absurd is
of_handicap game stones (Fails NoMoves) is = absurd is
of_handicap game stones (Fails (BadCommand command)) is = absurd is
of_handicap game stones Succeeds is = absurd is
of_handicap game stones (Resizes size) is = absurd is
of_handicap game stones (Scores size komi) is = absurd is
of_handicap game stones AnyReply is = absurd is
of_handicap game stones (Chooses colour) is = absurd is
of_handicap game stones MayUndo is = absurd is
of_handicap game stones Lists is = absurd is

of_undo : (engine : RightEngine) (due : Due) → UndoDue engine due → is_bad_move due ≡ false
of_undo engine (Fails NoMoves) is = refl
of_undo engine Succeeds is = refl
of_undo engine MayUndo is = refl
of_undo engine (Fails (BadMove fault)) is = absurd is
of_undo engine (Fails (BadHandicap fault)) is = absurd is
of_undo engine (Fails (BadCommand command)) is = absurd is
of_undo engine (Places size count) is = absurd is
of_undo engine (Resizes size) is = absurd is
of_undo engine (Scores size komi) is = absurd is
of_undo engine AnyReply is = absurd is
of_undo engine (Chooses colour) is = absurd is
of_undo engine Lists is = absurd is

of_komi : (is_exact : Bool) → is_bad_move (if is_exact then Succeeds else AnyReply) ≡ false
of_komi true = refl
of_komi false = refl

of_match : (engine : RightEngine) (now : Command) (due : Due) → MayBeSaid engine.game now → IsDueTo engine now due
    → IsTrue (is_bad_move due) ↔ IsIllegal engine.game (Match now)
of_match engine (Play move) due may is = of_play engine.game move due may is
of_match engine (Boardsize size) due may is = no_move due (Resizes size) is.0 refl
of_match engine (Komi komi) due may is = none due (ap is_bad_move is.0 ∙ of_komi (is_exact_komi komi))
of_match engine ClearBoard due may is = no_move due Succeeds is refl
of_match engine (FixedHandicap stones) due may is = none due (of_handicap engine.game stones due is)
of_match engine (Genmove colour) due may is = no_move due (Chooses colour) is.0 refl
of_match engine Undo due may is = none due (of_undo engine due is)
of_match engine Quit due may is = absurd is

-- what is due says whether a command is a `play` that isn't legal
pub illegal_by : (engine : RightEngine) (command : CheckCommand) (due : Due) → MayBeAsked engine.game command
    → IsDue engine command due → IsTrue (is_bad_move due) ↔ IsIllegal engine.game command
illegal_by engine (Match now) due may is = of_match engine now due may is
illegal_by engine FinalScore due may is = no_move due (Scores engine.game.size engine.game.komi) is.0 refl
illegal_by engine Name due may is = no_move due AnyReply is refl
illegal_by engine Version due may is = no_move due AnyReply is refl
illegal_by engine (KnownCommand known) due may is = no_move due AnyReply is refl
illegal_by engine ListCommands due may is = no_move due Lists is refl
illegal_by engine (Faulty faulty) due may is = no_move due (Fails (BadCommand faulty)) is refl
illegal_by engine (Required required) due may is = no_move due Succeeds is refl
illegal_by engine (PlayInFull move) due may is = of_play engine.game move due may is
illegal_by engine (GenmoveInFull colour) due may is = no_move due (Chooses colour) is.0 refl
