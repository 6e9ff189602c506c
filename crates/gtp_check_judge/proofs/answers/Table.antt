-- What is due is what the table of the engine's commands answers.
use Rattle.std.proofs.Common.{◌≡◌, ℕ, true, false, List, length, Option, Some, refl, sym, ap, subst}
use Rattle.std.proofs.Common.{arith, ◌∙◌}
use Rattle.std.specs.Prelude.{codes}
use Rattle.go_base.specs.Size.{IsSize}
use Rattle.go_base.specs.Vertex.{IsVertex}
use Rattle.go_base.specs.Handicap.{AllowsHandicap}
use Rattle.go_base.specs.declared.colours.Colour.{Colour}
use Rattle.go_base.specs.declared.choices.Choice.{Choice}
use Rattle.go_base.specs.declared.moves.Move.{Move}
use Rattle.go_base.specs.declared.vertices.Vertex.{Vertex}
use Rattle.go_base.specs.declared.vertices.Vertex.TheVariants.{Pass, At}
use Rattle.go_base.proofs.spellings.ReadBack.{int_reads, colour_reads, vertex_reads}
use Rattle.go_board.specs.Game.{GameRecord, HasRoom, IsLegal}
use Rattle.go_board.specs.Refusals.{Refuses, RefusesVertex, IsTouched, RefusesHandicap}
use Rattle.go_board.specs.declared.faults.PlayFault.{PlayFault}
use Rattle.go_board.specs.declared.faults.PlayFault.TheVariants.{Full, OffBoard, Occupied, Suicide, Ko}
use Rattle.go_board.specs.declared.faults.HandicapFault.{HandicapFault}
use Rattle.go_board.specs.declared.faults.HandicapFault.TheVariants.{NotEmpty, BadNumber}
use Rattle.gtp_wire.specs.declared.commands.Command.{Command}
use Rattle.gtp_check_judge.specs.declared.asking.CheckCommand.{CheckCommand}
use Rattle.gtp_check_judge.specs.declared.asking.CheckCommand.TheVariants.{Match, FinalScore, Name, Version}
use Rattle.gtp_check_judge.specs.declared.asking.CheckCommand.TheVariants.{KnownCommand, PlayInFull, GenmoveInFull, ListCommands}
use Rattle.gtp_check_judge.specs.declared.asking.CheckCommand.TheVariants.{Faulty, Required}
use Rattle.gtp_check_judge.specs.declared.asking.FaultyCommand.{FaultyCommand}
use Rattle.gtp_check_judge.specs.declared.asking.FaultyCommand.TheVariants as faulty
use Rattle.gtp_check_judge.specs.declared.asking.RequiredCommand.{RequiredCommand}
use Rattle.gtp_check_judge.specs.declared.asking.RequiredCommand.TheVariants as required
use Rattle.gtp_wire.specs.declared.commands.Command.TheVariants.{Boardsize, Komi, ClearBoard, FixedHandicap, Play}
use Rattle.gtp_wire.specs.declared.commands.Command.TheVariants.{Genmove, Undo, Quit}
use Rattle.gtp_wire.specs.Commands.{IsWritable, IsInLimits}
use Rattle.gtp_session.specs.Commands.{Answer, answer, fails, row_of, move_refusal}
use Rattle.gtp_session.specs.Commands.{handicap_refusal}
use Rattle.gtp_session.proofs.table.Causes.{Settles, MoveSettles, StonesSettle, refused, move_settles, stones_settle}
use Rattle.gtp_session.proofs.table.Causes.{undo_settles}
use Rattle.gtp_session.proofs.table.LinesOfWords.{move_reads}
use Rattle.gtp_session.proofs.table.Rows.{row_refused}
use Rattle.gtp_session.specs.CommandAnswers.{line_of_command, after_command, GoesWell}
use Rattle.gtp_session.proofs.engines.Sent.{well_answer, undo_answer}
use Rattle.gtp_check_judge.specs.declared.dues.Due.{Due}
use Rattle.gtp_check_judge.specs.declared.dues.Due.TheVariants.{Succeeds, Fails, Places, Resizes, Scores, AnyReply}
use Rattle.gtp_check_judge.specs.declared.dues.Due.TheVariants.{Chooses, MayUndo, Lists}
use Rattle.gtp_check_judge.specs.declared.dues.Cause.TheVariants.{BadMove, BadHandicap, NoMoves, BadCommand}
use Rattle.gtp_check_judge.specs.Asking.{line_of_check, IsCheckWritable, IsCheckInLimits}
use Rattle.gtp_check_judge.specs.RightEngine.{RightEngine}
use Rattle.gtp_check_judge.specs.Dues.{IsDue, IsDueTo, after_check}
use Rattle.gtp_session.specs.declared.commands.CommandName.TheVariants as name
use Rattle.gtp_check_judge.proofs.commands.InFull.{play_answer, genmove_answer_in_full}
use Rattle.gtp_check_judge.proofs.commands.Komis.{of_komi}

-- ---- a move that is refused is not legal

pub vertex_unlawful : (game : GameRecord) (c : Colour) (v : Vertex) (fault : PlayFault)
    → RefusesVertex game c v fault → IsLegal game c v → ⊥
vertex_unlawful game c Pass fault h legal = h
vertex_unlawful game c (At p) Full h legal = h
vertex_unlawful game c (At p) OffBoard h legal = h legal.on_board
vertex_unlawful game c (At p) Occupied h legal = h.1 legal.empty
vertex_unlawful game c (At p) Suicide h legal = h.1.1 legal.free
vertex_unlawful game c (At p) Ko h legal = legal.no_ko h.1.1.1

move_unlawful : (game : GameRecord) (c : Colour) (v : Vertex) (fault : PlayFault)
    → Refuses game c v fault → HasRoom game → IsLegal game c v → ⊥
move_unlawful game c v Full h room legal = omega (arith, h, room)
move_unlawful game c v OffBoard h room legal = vertex_unlawful game c v OffBoard h.1 legal
move_unlawful game c v Occupied h room legal = vertex_unlawful game c v Occupied h.1 legal
move_unlawful game c v Suicide h room legal = vertex_unlawful game c v Suicide h.1 legal
move_unlawful game c v Ko h room legal = vertex_unlawful game c v Ko h.1 legal

stones_unlawful : (game : GameRecord) (stones : ℕ) (fault : HandicapFault) → RefusesHandicap game stones fault
    → (IsTouched game → ⊥) → AllowsHandicap game.size stones → ⊥
stones_unlawful game stones NotEmpty h un allows = un h
stones_unlawful game stones BadNumber h un allows = h.1 allows

-- ---- what is due is answered

-- the answer has the status that is due, and leaves the game after it
abbrev pub AnswersTo : GameRecord → Command → Due → Answer → Type 0
AnswersTo game command Succeeds given = (given.ok ≡ true) × (given.game ≡ after_command game command)
AnswersTo game command (Places size stones) given = (given.ok ≡ true) × (given.game ≡ after_command game command)
AnswersTo game command (Fails cause) given = (given.ok ≡ false) × (given.game ≡ game)
AnswersTo game command (Resizes size) given = (given.ok ≡ true) × (given.game ≡ after_command game command)
AnswersTo game command (Scores s k) given = (given.ok ≡ true) × (given.game ≡ game)
AnswersTo game command AnyReply given = (given.ok ≡ true) × (given.game ≡ after_command game command)
AnswersTo game command MayUndo given = (given.ok ≡ true) × (given.game ≡ after_command game command)
AnswersTo game command Lists given = (given.ok ≡ true) × (given.game ≡ game)
AnswersTo game command (Chooses colour) given = Unit {0}

well : (game : GameRecord) (id : Option ℕ) (command : Command) (ch : Choice) → GoesWell game command
    → AnswersTo game command Succeeds (answer game (line_of_command id command) ch)
well game id command ch goes =
    let e = well_answer game id command ch goes in (ap (λ (a : Answer). a.ok) e, ap (λ (a : Answer). a.game) e)

failed : (game : GameRecord) (command : Command) (given : Answer) (cause : List ℕ) → given ≡ fails game cause
    → AnswersTo game command (Fails NoMoves) given
failed game command given cause e = (ap (λ (a : Answer). a.ok) e, ap (λ (a : Answer). a.game) e)

refused_play : (game : GameRecord) (id : Option ℕ) (move : Move) (ch : Choice) → IsVertex move.vertex
    → (HasRoom game → IsLegal game move.colour move.vertex → ⊥)
    → AnswersTo game (Play move) (Fails NoMoves) (answer game (line_of_command id (Play move)) ch)
refused_play game id move ch is un = by (move_settles game move)
  where
    refused : (cause : List ℕ) → move_refusal game move ≡ Some cause
        → AnswersTo game (Play move) (Fails NoMoves) (answer game (line_of_command id (Play move)) ch)
    refused cause why =
        failed game (Play move) (answer game (line_of_command id (Play move)) ch) cause
        (row_refused (row_of name.Play) game _ move ch cause
        (move_reads _ _ move.colour move.vertex (colour_reads move.colour) (vertex_reads move.vertex is)) why)

    by : MoveSettles game move (move_refusal game move)
        → AnswersTo game (Play move) (Fails NoMoves) (answer game (line_of_command id (Play move)) ch)
    by (MoveSettles.full fills why) = refused (codes "record full") why
    by (MoveSettles.room takes (Settles.free legal none)) = absurd (un takes legal)
    by (MoveSettles.room takes (Settles.against not why)) = refused (codes "illegal move") why

refused_stones : (game : GameRecord) (id : Option ℕ) (stones : ℕ) (ch : Choice) → IsWritable (FixedHandicap stones)
    → ((IsTouched game → ⊥) → AllowsHandicap game.size stones → ⊥)
    → AnswersTo game (FixedHandicap stones) (Fails NoMoves) (answer game (line_of_command id (FixedHandicap stones)) ch)
refused_stones game id stones ch int un = by (stones_settle game stones)
  where
    refused : (cause : List ℕ) → handicap_refusal game stones ≡ Some cause
        → AnswersTo game (FixedHandicap stones) (Fails NoMoves) (answer game (line_of_command id
        (FixedHandicap stones)) ch)
    refused cause why =
        failed game (FixedHandicap stones) (answer game (line_of_command id (FixedHandicap stones)) ch) cause
        (row_refused (row_of name.FixedHandicap) game _ stones ch cause (int_reads stones int) why)

    by : StonesSettle game stones (handicap_refusal game stones)
        → AnswersTo game (FixedHandicap stones) (Fails NoMoves) (answer game (line_of_command id
        (FixedHandicap stones)) ch)
    by (StonesSettle.touched on why) = refused (codes "board not empty") why
    by (StonesSettle.empty bare (Settles.free allows none)) = absurd (un bare allows)
    by (StonesSettle.empty bare (Settles.against not why)) = refused (codes "invalid number of stones") why

undo_nothing : (game : GameRecord) (id : Option ℕ) (ch : Choice) → length game.moves ≡ 0
    → AnswersTo game Undo (Fails NoMoves) (answer game (line_of_command id Undo) ch)
undo_nothing game id ch none =
    failed game Undo (answer game (line_of_command id Undo) ch) (codes "cannot undo")
    (row_refused (row_of name.Undo) game _ tt ch (codes "cannot undo") refl
    (refused (undo_settles game) (λ some. omega (arith, some, none))))

-- in a game of one of the sizes the table answers what is due
pub match_answered : (engine : RightEngine) (id : Option ℕ) (command : Command) (due : Due) (ch : Choice)
    → IsSize engine.game.size
    → IsWritable command → IsInLimits command → IsDueTo engine command due
    → AnswersTo engine.game command due (answer engine.game (line_of_command id command) ch)
match_answered engine id (Boardsize size) (Resizes s) ch is w l h = well engine.game id (Boardsize size) ch h.1
match_answered engine id (Boardsize size) (Scores s k) ch is w l h = absurd (cc (h.0))
match_answered engine id (Boardsize size) AnyReply ch is w l h = absurd (cc (h.0))
match_answered engine id (Boardsize size) Succeeds ch is w l h = absurd (cc (h.0))
match_answered engine id (Boardsize size) (Fails cause) ch is w l h = absurd (cc (h.0))
match_answered engine id (Boardsize size) (Places s n) ch is w l h = absurd (cc (h.0))
match_answered engine id (Boardsize size) (Chooses c) ch is w l h = tt
match_answered engine id (Boardsize size) MayUndo ch is w l h = absurd (cc (h.0))
match_answered engine id (Boardsize size) Lists ch is w l h = absurd (cc (h.0))
match_answered engine id (Komi komi) Succeeds ch is w l h = well engine.game id (Komi komi) ch h.1
match_answered engine id (Komi komi) (Fails cause) ch is w l h = absurd (of_komi komi (Fails cause) h.0)
match_answered engine id (Komi komi) (Places s n) ch is w l h = absurd (of_komi komi (Places s n) h.0)
match_answered engine id (Komi komi) (Resizes s) ch is w l h = absurd (of_komi komi (Resizes s) h.0)
match_answered engine id (Komi komi) (Scores s k) ch is w l h = absurd (of_komi komi (Scores s k) h.0)
match_answered engine id (Komi komi) AnyReply ch is w l h = well engine.game id (Komi komi) ch h.1
match_answered engine id (Komi komi) (Chooses c) ch is w l h = tt
match_answered engine id (Komi komi) MayUndo ch is w l h = absurd (of_komi komi MayUndo h.0)
match_answered engine id (Komi komi) Lists ch is w l h = absurd (of_komi komi Lists h.0)
match_answered engine id ClearBoard Succeeds ch is w l h = well engine.game id ClearBoard ch tt
match_answered engine id ClearBoard (Fails cause) ch is w l h = absurd (cc h)
match_answered engine id ClearBoard (Places s n) ch is w l h = absurd (cc h)
match_answered engine id ClearBoard (Resizes s) ch is w l h = absurd (cc h)
match_answered engine id ClearBoard (Scores s k) ch is w l h = absurd (cc h)
match_answered engine id ClearBoard AnyReply ch is w l h = absurd (cc h)
match_answered engine id ClearBoard (Chooses c) ch is w l h = tt
match_answered engine id ClearBoard MayUndo ch is w l h = absurd (cc h)
match_answered engine id ClearBoard Lists ch is w l h = absurd (cc h)
match_answered engine id (FixedHandicap stones) (Places size count) ch is w l h =
    well engine.game id (FixedHandicap stones) ch (h.2, (h.3, is))
match_answered engine id (FixedHandicap stones) (Fails (BadHandicap fault)) ch is w l h =
    refused_stones engine.game id stones ch w (stones_unlawful engine.game stones fault h)
match_answered engine id (FixedHandicap stones) (Fails (BadMove fault)) ch is w l h = absurd h
match_answered engine id (FixedHandicap stones) (Fails NoMoves) ch is w l h = absurd h
match_answered engine id (FixedHandicap stones) (Fails (BadCommand command)) ch is w l h = absurd h
match_answered engine id (FixedHandicap stones) Succeeds ch is w l h = absurd h
match_answered engine id (FixedHandicap stones) (Resizes s) ch is w l h = absurd h
match_answered engine id (FixedHandicap stones) (Scores s k) ch is w l h = absurd h
match_answered engine id (FixedHandicap stones) AnyReply ch is w l h = absurd h
match_answered engine id (FixedHandicap stones) (Chooses c) ch is w l h = tt
match_answered engine id (FixedHandicap stones) MayUndo ch is w l h = absurd h
match_answered engine id (FixedHandicap stones) Lists ch is w l h = absurd h
match_answered engine id (Play move) Succeeds ch is w l h = well engine.game id (Play move) ch (h.1, (h.0, is))
match_answered engine id (Play move) (Fails (BadMove fault)) ch is w l h =
    refused_play engine.game id move ch l (move_unlawful engine.game move.colour move.vertex fault h)
match_answered engine id (Play move) (Fails (BadHandicap fault)) ch is w l h = absurd h
match_answered engine id (Play move) (Fails NoMoves) ch is w l h = absurd h
match_answered engine id (Play move) (Fails (BadCommand command)) ch is w l h = absurd h
match_answered engine id (Play move) (Places s n) ch is w l h = absurd h
match_answered engine id (Play move) (Resizes s) ch is w l h = absurd h
match_answered engine id (Play move) (Scores s k) ch is w l h = absurd h
match_answered engine id (Play move) AnyReply ch is w l h = absurd h
match_answered engine id (Play move) (Chooses c) ch is w l h = tt
match_answered engine id (Play move) MayUndo ch is w l h = absurd h
match_answered engine id (Play move) Lists ch is w l h = absurd h
match_answered engine id (Genmove colour) Succeeds ch is w l h = absurd (cc (h.0))
match_answered engine id (Genmove colour) (Fails cause) ch is w l h = absurd (cc (h.0))
match_answered engine id (Genmove colour) (Places s n) ch is w l h = absurd (cc (h.0))
match_answered engine id (Genmove colour) (Resizes s) ch is w l h = absurd (cc (h.0))
match_answered engine id (Genmove colour) (Scores s k) ch is w l h = absurd (cc (h.0))
match_answered engine id (Genmove colour) AnyReply ch is w l h = absurd (cc (h.0))
match_answered engine id (Genmove colour) (Chooses c) ch is w l h = tt
match_answered engine id (Genmove colour) MayUndo ch is w l h = absurd (cc (h.0))
match_answered engine id (Genmove colour) Lists ch is w l h = absurd (cc (h.0))
match_answered engine id Undo Succeeds ch is w l h =
    let e = undo_answer engine.game id ch h.1 in (ap (λ (a : Answer). a.ok) e, ap (λ (a : Answer). a.game) e)
match_answered engine id Undo MayUndo ch is w l h =
    let e = undo_answer engine.game id ch h.1 in (ap (λ (a : Answer). a.ok) e, ap (λ (a : Answer). a.game) e)
match_answered engine id Undo Lists ch is w l h = absurd h
match_answered engine id Undo (Fails NoMoves) ch is w l h =
    undo_nothing engine.game id ch (ap length h)
match_answered engine id Undo (Fails (BadMove fault)) ch is w l h = absurd h
match_answered engine id Undo (Fails (BadHandicap fault)) ch is w l h = absurd h
match_answered engine id Undo (Fails (BadCommand command)) ch is w l h = absurd h
match_answered engine id Undo (Places s n) ch is w l h = absurd h
match_answered engine id Undo (Resizes s) ch is w l h = absurd h
match_answered engine id Undo (Scores s k) ch is w l h = absurd h
match_answered engine id Undo AnyReply ch is w l h = absurd h
match_answered engine id Undo (Chooses c) ch is w l h = tt
match_answered engine id Quit due ch is w l h = absurd h

-- the same of each command that a check asks
abbrev pub AnswersSo : GameRecord → CheckCommand → Due → Answer → Type 0
AnswersSo game command Succeeds given = (given.ok ≡ true) × (given.game ≡ after_check game command)
AnswersSo game command (Places size stones) given = (given.ok ≡ true) × (given.game ≡ after_check game command)
AnswersSo game command (Fails cause) given = (given.ok ≡ false) × (given.game ≡ game)
AnswersSo game command (Resizes size) given = (given.ok ≡ true) × (given.game ≡ after_check game command)
AnswersSo game command (Scores s k) given = (given.ok ≡ true) × (given.game ≡ game)
AnswersSo game command AnyReply given = (given.ok ≡ true) × (given.game ≡ after_check game command)
AnswersSo game command MayUndo given = (given.ok ≡ true) × (given.game ≡ after_check game command)
AnswersSo game command Lists given = (given.ok ≡ true) × (given.game ≡ game)
AnswersSo game command (Chooses colour) given = Unit {0}

-- the command is of a match, or does the same
match_so : (game : GameRecord) (command : Command) (check : CheckCommand) (due : Due) (given : Answer)
    → after_check game check ≡ after_command game command → AnswersTo game command due given
    → AnswersSo game check due given
match_so game command check Succeeds given same h = (h.0, h.1 ∙ sym same)
match_so game command check (Places size stones) given same h = (h.0, h.1 ∙ sym same)
match_so game command check (Fails cause) given same h = h
match_so game command check (Resizes size) given same h = (h.0, h.1 ∙ sym same)
match_so game command check (Scores s k) given same h = h
match_so game command check AnyReply given same h = (h.0, h.1 ∙ sym same)
match_so game command check MayUndo given same h = (h.0, h.1 ∙ sym same)
match_so game command check Lists given same h = h
match_so game command check (Chooses colour) given same h = h

-- what no engine can read fails
faulty_answered : (game : GameRecord) (id : ℕ) (command : FaultyCommand) (ch : Choice)
    → AnswersSo game (Faulty command) (Fails NoMoves) (answer game (line_of_check id (Faulty command)) ch)
faulty_answered game id faulty.Unknown ch = (refl, refl)
faulty_answered game id faulty.UnknownWithArguments ch = (refl, refl)
faulty_answered game id faulty.Boardsize ch = (refl, refl)
faulty_answered game id faulty.Komi ch = (refl, refl)
faulty_answered game id faulty.PlayNowhere ch = (refl, refl)
faulty_answered game id faulty.PlayOutside ch = (refl, refl)
faulty_answered game id faulty.Genmove ch = (refl, refl)

-- what every engine has succeeds
required_answered : (game : GameRecord) (id : ℕ) (command : RequiredCommand) (ch : Choice)
    → AnswersSo game (Required command) Succeeds (answer game (line_of_check id (Required command)) ch)
required_answered game id required.ProtocolVersion ch = (refl, refl)
required_answered game id required.Name ch = (refl, refl)
required_answered game id required.Version ch = (refl, refl)
required_answered game id required.KnownCommand ch = (refl, refl)

pub due_answered : (engine : RightEngine) (id : ℕ) (command : CheckCommand) (due : Due) (ch : Choice)
    → IsSize engine.game.size
    → IsCheckWritable command → IsCheckInLimits command → IsDue engine command due
    → AnswersSo engine.game command due (answer engine.game (line_of_check id command) ch)
due_answered engine id (Match command) due ch is w l h =
    match_so engine.game command (Match command) due (answer engine.game (line_of_command (Some id) command) ch) refl
    (match_answered engine (Some id) command due ch is w l h)
due_answered engine id FinalScore due ch is w l h =
    subst (λ (d : Due). AnswersSo engine.game FinalScore d (answer engine.game (line_of_check id FinalScore) ch))
    (sym h.0)
    (refl, refl)
due_answered engine id Name due ch is w l h =
    subst (λ (d : Due). AnswersSo engine.game Name d (answer engine.game (line_of_check id Name) ch)) (sym h)
    (refl, refl)
due_answered engine id Version due ch is w l h =
    subst (λ (d : Due). AnswersSo engine.game Version d (answer engine.game (line_of_check id Version) ch)) (sym h)
    (refl, refl)
due_answered engine id (KnownCommand k) due ch is w l h =
    subst (λ (d : Due). AnswersSo engine.game (KnownCommand k) d (answer engine.game (line_of_check id
    (KnownCommand k)) ch)) (sym h)
    (refl, refl)
due_answered engine id ListCommands due ch is w l h =
    subst (λ (d : Due). AnswersSo engine.game ListCommands d (answer engine.game (line_of_check id
    ListCommands) ch)) (sym h)
    (refl, refl)
due_answered engine id (Faulty command) due ch is w l h =
    subst (λ (d : Due). AnswersSo engine.game (Faulty command) d (answer engine.game (line_of_check id
    (Faulty command)) ch)) (sym h)
    (faulty_answered engine.game id command ch)
due_answered engine id (Required command) due ch is w l h =
    subst (λ (d : Due). AnswersSo engine.game (Required command) d (answer engine.game (line_of_check id
    (Required command)) ch)) (sym h)
    (required_answered engine.game id command ch)
due_answered engine id (PlayInFull move) due ch is w l h =
    subst (AnswersSo engine.game (PlayInFull move) due) (sym (play_answer engine.game id move ch))
    (match_so engine.game (Play move) (PlayInFull move) due (answer engine.game (line_of_command (Some id) (Play move)) ch)
    refl (match_answered engine (Some id) (Play move) due ch is w l h))
due_answered engine id (GenmoveInFull colour) due ch is w l h =
    subst (AnswersSo engine.game (GenmoveInFull colour) due) (sym (genmove_answer_in_full engine.game id colour ch))
    (match_so engine.game (Genmove colour) (GenmoveInFull colour) due
    (answer engine.game (line_of_command (Some id) (Genmove colour)) ch) refl
    (match_answered engine (Some id) (Genmove colour) due ch is w l h))
