-- What an engine answers to the commands that a controller sends.
use Rattle.std.proofs.Common.{◌≡◌, ℕ, ◌<◌, ◌≤◌, [], length, List, Option, Some, false, refl, sym, ◌∙◌, ap, subst, arith}
use Rattle.std.specs.Prelude.{codes, IfSome}
use Rattle.go_base.specs.Size.{most_size}
use Rattle.go_base.specs.Colour.{colour_of, written_colour}
use Rattle.go_base.specs.Vertex.{IsVertex, vertex_of, written_vertex}
use Rattle.go_base.specs.declared.choices.Choice.{Choice}
use Rattle.go_base.specs.declared.colours.Colour.{Colour}
use Rattle.go_base.specs.declared.moves.Move.{Move}
use Rattle.go_base.specs.declared.vertices.Vertex.{Vertex}
use Rattle.go_base.specs.declared.vertices.Vertex.TheVariants.{Pass, At}
use Rattle.go_base.proofs.board_points.HandicapPoints.{handicap_bounds}
use Rattle.go_base.proofs.spellings.ReadBack.{size_reads, int_reads, komi_reads, colour_reads, vertex_reads}
use Rattle.go_board.specs.Game.{GameRecord, HasRoom, IsLegal, without_last}
use Rattle.gtp_wire.specs.declared.commands.Command.{Command}
use Rattle.gtp_wire.specs.declared.commands.Command.TheVariants.{Boardsize, Komi, ClearBoard, FixedHandicap, Play}
use Rattle.gtp_wire.specs.declared.commands.Command.TheVariants.{Genmove, Undo, Quit}
use Rattle.gtp_wire.specs.Commands.{IsWritable, IsInLimits}
use Rattle.gtp_wire.specs.Replies.{IsReplyText}
use Rattle.gtp_session.specs.declared.commands.CommandName.TheVariants as command
use Rattle.gtp_session.specs.Policy.{IsLawful}
use Rattle.gtp_session.specs.Commands.{Answer, answer, answer_choice, asked, asked_by, asked_unless, ends, fails}
use Rattle.gtp_session.specs.Commands.{move_of, row_of, succeeds}
use Rattle.gtp_session.specs.CommandAnswers.{line_of_command, after_command, success_text, GoesWell}
use Rattle.gtp_session.specs.Sent.{MayBeSent}
use Rattle.gtp_session.specs.Spoken.{IsLawfulAt}
use Rattle.gtp_session.proofs.table.Causes.{unrefused, move_unrefused, move_illegal, stones_unrefused, size_settles}
use Rattle.gtp_session.proofs.table.Causes.{full_settles, move_settles, stones_settle, undo_settles}
use Rattle.gtp_session.proofs.table.LinesOfWords.{move_reads}
use Rattle.gtp_session.proofs.table.Rows.{row_done, row_refused}
use Rattle.gtp_session.proofs.reply_texts.Spoken.{choice_fits, empty_fits, answer_good}
use Rattle.gtp_session.proofs.reply_texts.NeatTexts.{handicap_fits}

pub vertex_of_legal : (game : GameRecord) (colour : Colour) (v : Vertex) → IsLegal game colour v
    → game.size ≤ most_size → IsVertex v
vertex_of_legal game colour Pass legal most = tt
vertex_of_legal game colour (At p) legal most =
    let on = legal.on_board in
    record { left = on.left; right = omega (arith, on.right); bottom = on.bottom; top = omega (arith, on.top) }

pub well_may_be_sent : (game : GameRecord) (command : Command) → GoesWell game command → MayBeSent game command
well_may_be_sent game (Boardsize size) well = well
well_may_be_sent game (Komi komi) well = well
well_may_be_sent game ClearBoard well = well
well_may_be_sent game (FixedHandicap stones) well = well
well_may_be_sent game (Play move) well =
    (well.0, (vertex_of_legal game move.colour move.vertex well.1.0 well.1.1.most, well.1.1))
well_may_be_sent game (Genmove colour) well = absurd well
well_may_be_sent game Undo well = absurd well
well_may_be_sent game Quit well = absurd well

-- ---- it can be written

pub may_be_written : (game : GameRecord) (command : Command) → MayBeSent game command
    → IsWritable command × IsInLimits command
may_be_written game (Boardsize size) sent = (tt, sent)
may_be_written game (Komi komi) sent = (tt, sent)
may_be_written game ClearBoard sent = (tt, tt)
may_be_written game (FixedHandicap stones) sent = (omega (arith, (handicap_bounds game.size stones sent.1.0).most), tt)
may_be_written game (Play move) sent = (tt, sent.1.0)
may_be_written game (Genmove colour) sent = (tt, tt)
may_be_written game Undo sent = (tt, tt)
may_be_written game Quit sent = absurd sent

-- ---- the answer

-- an `undo` takes the last move back
pub undo_answer : (game : GameRecord) (id : Option ℕ) (ch : Choice) → 0 < length game.moves
    → answer game (line_of_command id Undo) ch ≡ succeeds (without_last game) []
undo_answer game id ch some = row_done (row_of command.Undo) game _ tt ch refl (unrefused (undo_settles game) some)

-- the move of a `play` is read
move_is_read : (move : Move) → IsVertex move.vertex
    → move_of (colour_of (written_colour move.colour)) (vertex_of (written_vertex move.vertex)) ≡ Some move
move_is_read move is = move_reads _ _ move.colour move.vertex (colour_reads move.colour) (vertex_reads move.vertex is)

-- a script command is answered by its success, whatever a policy chooses
pub well_answer : (game : GameRecord) (id : Option ℕ) (command : Command) (choice : Choice) → GoesWell game command
    → answer game (line_of_command id command) choice ≡ succeeds (after_command game command)
    (success_text game command)
well_answer game id (Boardsize size) ch well =
    row_done (row_of command.Boardsize) game _ size ch (size_reads size well)
    (unrefused (size_settles size) (well.least, well.most))
well_answer game id (Komi komi) ch well = row_done (row_of command.Komi) game _ komi ch (komi_reads komi well) refl
well_answer game id ClearBoard ch well = refl
well_answer game id (FixedHandicap stones) ch well =
    row_done (row_of command.FixedHandicap) game _ stones ch
    (int_reads stones (omega (arith, (handicap_bounds game.size stones well.1.0).most)))
    (stones_unrefused (stones_settle game stones) well.0 well.1.0)
well_answer game id (Play move) ch well =
    row_done (row_of command.Play) game _ move ch
    (move_is_read move (vertex_of_legal game move.colour move.vertex well.1.0 well.1.1.most))
    (move_unrefused (move_settles game move) well.0 well.1.0)
well_answer game id (Genmove colour) ch well = absurd well
well_answer game id Undo ch well = absurd well
well_answer game id Quit ch well = absurd well

-- a move that isn't legal is refused
pub play_refused : (game : GameRecord) (id : Option ℕ) (move : Move) (choice : Choice) → HasRoom game
    → IsVertex move.vertex → ¬ IsLegal game move.colour move.vertex
    → answer game (line_of_command id (Play move)) choice ≡ fails game (codes "illegal move")
play_refused game id move ch room is un =
    row_refused (row_of command.Play) game _ move ch _ (move_is_read move is)
    (move_illegal (move_settles game move) room un)

-- a `genmove` is answered by the choice
pub genmove_answer : (game : GameRecord) (id : Option ℕ) (colour : Colour) (choice : Choice) → HasRoom game
    → answer game (line_of_command id (Genmove colour)) choice ≡ answer_choice game colour choice
genmove_answer game id colour ch room =
    row_done (row_of command.Genmove) game _ colour ch (colour_reads colour) (unrefused (full_settles game) room)

-- and asks the policy for its colour
pub genmove_asks : (game : GameRecord) (id : Option ℕ) (colour : Colour) → HasRoom game
    → asked game (line_of_command id (Genmove colour)) ≡ Some colour
genmove_asks game id colour room =
    ap (asked_by (row_of command.Genmove) game) (colour_reads colour)
    ∙ ap (λ (cause : Option (List ℕ)). asked_unless cause colour) (unrefused (full_settles game) room)

-- ---- the end

-- no command that may be sent ends the session
pub goes_on : (game : GameRecord) (id : Option ℕ) (command : Command) → MayBeSent game command
    → ends (line_of_command id command) ≡ false
goes_on game id (Boardsize size) sent = refl
goes_on game id (Komi komi) sent = refl
goes_on game id ClearBoard sent = refl
goes_on game id (FixedHandicap stones) sent = refl
goes_on game id (Play move) sent = refl
goes_on game id (Genmove colour) sent = refl
goes_on game id Undo sent = refl
goes_on game id Quit sent = absurd sent

-- ---- the text of the answer

success_fits : (game : GameRecord) (command : Command) → GoesWell game command → IsReplyText (success_text game command)
success_fits game (Boardsize size) well = empty_fits
success_fits game (Komi komi) well = empty_fits
success_fits game ClearBoard well = empty_fits
success_fits game (FixedHandicap stones) well = handicap_fits game.size stones well.1.1 well.1.0
success_fits game (Play move) well = empty_fits
success_fits game (Genmove colour) well = absurd well
success_fits game Undo well = absurd well
success_fits game Quit well = absurd well

well_spoken : (game : GameRecord) (id : Option ℕ) (command : Command) (choice : Choice) → GoesWell game command
    → IsReplyText (answer game (line_of_command id command) choice).text
well_spoken game id command choice well =
    subst (λ (a : Answer). IsReplyText a.text) (sym (well_answer game id command choice well))
    (success_fits game command well)

-- the answer to a command that may be sent has a text that a reply may have
pub answer_spoken : (game : GameRecord) (id : Option ℕ) (command : Command) (choice : Choice) → MayBeSent game command
    → IsLawfulAt game (line_of_command id command) choice
    → IsReplyText (answer game (line_of_command id command) choice).text
answer_spoken game id (Boardsize size) choice sent lawful = well_spoken game id (Boardsize size) choice sent
answer_spoken game id (Komi komi) choice sent lawful = well_spoken game id (Komi komi) choice sent
answer_spoken game id ClearBoard choice sent lawful = well_spoken game id ClearBoard choice tt
answer_spoken game id (FixedHandicap stones) choice sent lawful = well_spoken game id (FixedHandicap stones) choice sent
answer_spoken game id (Play move) choice sent lawful =
    (answer_good game (line_of_command id (Play move)) choice sent.1.1 lawful).text
answer_spoken game id (Genmove colour) choice sent lawful =
    let chosen = subst (λ (o : Option Colour). IfSome o (λ d. IsLawful game d choice))
    (genmove_asks game id colour sent.0) lawful in
    subst (λ (a : Answer). IsReplyText a.text) (sym (genmove_answer game id colour choice sent.0))
    (choice_fits game colour choice sent.1 chosen)
answer_spoken game id Undo choice sent lawful =
    subst (λ (a : Answer). IsReplyText a.text) (sym (undo_answer game id choice sent)) empty_fits
answer_spoken game id Quit choice sent lawful = absurd sent
