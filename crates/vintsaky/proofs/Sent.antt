-- The types of the objects own no token of a thread, so each may go to another thread: a type may as its fields may.
use denote.Param.Send.{IsSend, sendable}
use denote.Param.SendFields.{as_row_send, declared_send, variants_send, array_field_send}
use Rattle.go_base.specs.contracts.colours.Colour as colour_type
use Rattle.go_base.specs.contracts.sizes.Size as size_type
use Rattle.go_base.specs.contracts.sizes.Size.TheInside as size_fields
use Rattle.go_base.specs.contracts.komis.Komi as komi_type
use Rattle.go_base.specs.contracts.komis.Komi.TheInside as komi_fields
use Rattle.go_base.specs.contracts.points.Point as point_type
use Rattle.go_base.specs.contracts.points.Point.TheInside as point_fields
use Rattle.go_base.specs.contracts.vertices.Vertex as vertex_type
use Rattle.go_base.specs.contracts.moves.Move as move_type
use Rattle.go_board.specs.contracts.rules.KoRule as ko_rule_type
use Rattle.go_board.specs.contracts.board.Cell as cell_type
use Rattle.go_board.specs.contracts.board.Board as board_type
use Rattle.go_board.specs.contracts.board.Board.TheInside as board_fields
use Rattle.go_board.specs.contracts.chain_ids.ChainIds as chain_ids_type
use Rattle.go_board.specs.contracts.chain_ids.ChainIds.TheInside as chain_ids_fields
use Rattle.go_board.specs.contracts.pseudo_liberties.PseudoLiberties as pseudo_liberties_type
use Rattle.go_board.specs.contracts.pseudo_liberties.PseudoLiberties.TheInside as pseudo_liberties_fields
use Rattle.go_board.specs.contracts.stones.Stones as stones_type
use Rattle.go_board.specs.contracts.stones.Stones.TheInside as stones_fields
use Rattle.go_board.specs.contracts.chains.Chains as chains_type
use Rattle.go_board.specs.contracts.chains.Chains.TheInside as chains_fields
use Rattle.go_board.specs.contracts.ko.Ko as ko_type
use Rattle.go_board.specs.contracts.taken_stack.TakenStone as taken_stone_type
use Rattle.go_board.specs.contracts.taken_stack.TakenStack as taken_stack_type
use Rattle.go_board.specs.contracts.taken_stack.TakenStack.TheInside as taken_stack_fields
use Rattle.go_board.specs.contracts.past_hashes.PastHashes as past_hashes_type
use Rattle.go_board.specs.contracts.past_hashes.PastHashes.TheInside as past_hashes_fields
use Rattle.go_board.specs.contracts.game.Game as game_type
use Rattle.go_board.specs.contracts.game.Game.TheInside as game_fields
use Rattle.gtp_wire.specs.contracts.commands.Command as command_type
use Rattle.gtp_wire.specs.contracts.lines.Stage as stage_type
use Rattle.gtp_wire.specs.contracts.lines.LineReader as line_reader_type
use Rattle.gtp_wire.specs.contracts.lines.LineReader.TheInside as line_reader_fields
use Rattle.gtp_wire.specs.contracts.command_line.CommandLine as command_line_type
use Rattle.gtp_wire.specs.contracts.command_line.CommandLine.TheInside as command_line_fields
use Rattle.gtp_wire.specs.contracts.lines.Line as line_type
use Rattle.gtp_wire.specs.contracts.replies.ReplyFault as reply_fault_type
use Rattle.gtp_wire.specs.contracts.reply_reader.Phase as phase_type
use Rattle.gtp_wire.specs.contracts.reply_reader.ReplyReader as reply_reader_type
use Rattle.gtp_wire.specs.contracts.reply_reader.ReplyReader.TheInside as reply_reader_fields
use Rattle.gtp_wire.specs.contracts.replies.Reply as reply_type
use Rattle.gtp_match.specs.contracts.setup.Setup as setup_type
use Rattle.gtp_match.specs.contracts.setup.Setup.TheInside as setup_fields
use Rattle.gtp_match.specs.contracts.verdicts.ForfeitCause as forfeit_cause_type
use Rattle.gtp_match.specs.contracts.verdicts.Verdict as verdict_type
use Rattle.gtp_match.specs.contracts.unanswered.SentCommand as sent_command_type
use Rattle.gtp_match.specs.contracts.unanswered.Unanswered as unanswered_type
use Rattle.gtp_match.specs.contracts.unanswered.Unanswered.TheInside as unanswered_fields
use Rattle.gtp_match.specs.contracts.sides.EngineRun as engine_run_type
use Rattle.gtp_match.specs.contracts.sides.SideState as side_state_type
use Rattle.gtp_match.specs.contracts.sides.Sides as sides_type
use Rattle.gtp_match.specs.contracts.retakes.Retakes as retakes_type
use Rattle.gtp_match.specs.contracts.retakes.Retakes.TheInside as retakes_fields
use Rattle.gtp_match.specs.contracts.controller.Controller as controller_type
use Rattle.gtp_match.specs.contracts.matches.Match as match_type
use Rattle.gtp_match.specs.contracts.matches.Match.TheInside as match_fields
use Rattle.gtp_match.specs.contracts.referee.rulings.Ruling as ruling_type
use Rattle.gtp_match.specs.contracts.referee.rulings.Ruled as ruled_type
use Rattle.gtp_match.specs.contracts.referee.refereed.RefereedMatch as refereed_type
use Rattle.gtp_match.specs.contracts.referee.refereed.RefereedMatch.TheInside as refereed_fields
use Rattle.gtp_session.specs.contracts.events.Wait as wait_type
use Rattle.gtp_session.specs.contracts.own_commands.OwnName as own_name_type
use Rattle.gtp_session.specs.contracts.own_commands.OwnName.TheInside as own_name_fields
use Rattle.gtp_session.specs.contracts.own_commands.OwnCommands as own_commands_type
use Rattle.gtp_session.specs.contracts.own_commands.OwnCommands.TheInside as own_commands_fields
use Rattle.gtp_session.specs.contracts.steps.Steps as steps_type
use Rattle.gtp_session.specs.contracts.steps.Steps.TheInside as steps_fields
use Rattle.vintsaky_calls.specs.contracts.replies.Replies as replies_type
use Rattle.vintsaky_calls.specs.contracts.lines.Lines as lines_type

ruleset of_fields = (sendable, as_row_send, declared_send, variants_send, array_field_send)

-- ---- go_base

colour : IsSend colour_type.the_row
colour = search of_fields depth 20

size_inside : IsSend size_fields.the_row
size_inside = declared_send size_fields.the_type (search of_fields depth 20)

size : IsSend size_type.the_row
size = search (of_fields, size_inside) depth 20

komi_inside : IsSend komi_fields.the_row
komi_inside = declared_send komi_fields.the_type (search of_fields depth 20)

komi : IsSend komi_type.the_row
komi = search (of_fields, komi_inside) depth 20

point_inside : IsSend point_fields.the_row
point_inside = declared_send point_fields.the_type (search of_fields depth 20)

point : IsSend point_type.the_row
point = search (of_fields, point_inside) depth 20

vertex : IsSend vertex_type.the_row
vertex = search (of_fields, point) depth 20

move : IsSend move_type.the_row
move = declared_send move_type.the_type (search (of_fields, colour, vertex) depth 20)

-- ---- go_board

ko_rule : IsSend ko_rule_type.the_row
ko_rule = search of_fields depth 20

cell : IsSend cell_type.the_row
cell = search of_fields depth 20

board_inside : IsSend board_fields.the_row
board_inside = declared_send board_fields.the_type (search (of_fields, cell) depth 20)

board : IsSend board_type.the_row
board = search (of_fields, board_inside) depth 20

chain_ids_inside : IsSend chain_ids_fields.the_row
chain_ids_inside = declared_send chain_ids_fields.the_type (search of_fields depth 20)

chain_ids : IsSend chain_ids_type.the_row
chain_ids = search (of_fields, chain_ids_inside) depth 20

pseudo_liberties_inside : IsSend pseudo_liberties_fields.the_row
pseudo_liberties_inside = declared_send pseudo_liberties_fields.the_type (search of_fields depth 20)

pseudo_liberties : IsSend pseudo_liberties_type.the_row
pseudo_liberties = search (of_fields, pseudo_liberties_inside) depth 20

stones_inside : IsSend stones_fields.the_row
stones_inside = declared_send stones_fields.the_type (search (of_fields, board, chain_ids, pseudo_liberties) depth 20)

stones : IsSend stones_type.the_row
stones = search (of_fields, stones_inside) depth 20

chains_inside : IsSend chains_fields.the_row
chains_inside = declared_send chains_fields.the_type (search (of_fields, stones) depth 20)

chains : IsSend chains_type.the_row
chains = search (of_fields, chains_inside) depth 20

ko : IsSend ko_type.the_row
ko = declared_send ko_type.the_type (search (of_fields, point) depth 20)

taken_stone : IsSend taken_stone_type.the_row
taken_stone = declared_send taken_stone_type.the_type (search of_fields depth 20)

taken_stack_inside : IsSend taken_stack_fields.the_row
taken_stack_inside = declared_send taken_stack_fields.the_type (search (of_fields, taken_stone) depth 20)

taken_stack : IsSend taken_stack_type.the_row
taken_stack = search (of_fields, taken_stack_inside) depth 20

past_hashes_inside : IsSend past_hashes_fields.the_row
past_hashes_inside = declared_send past_hashes_fields.the_type (search of_fields depth 20)

past_hashes : IsSend past_hashes_type.the_row
past_hashes = search (of_fields, past_hashes_inside) depth 20

game_inside : IsSend game_fields.the_row
game_inside =
    declared_send game_fields.the_type
    (search (of_fields, size, komi, ko_rule, move, chains, ko, taken_stack, past_hashes) depth 20)

pub game : IsSend game_type.the_row
game = search (of_fields, game_inside) depth 20

-- ---- gtp_wire

command : IsSend command_type.the_row
command = search (of_fields, size, komi, move, colour) depth 20

stage : IsSend stage_type.the_row
stage = search of_fields depth 20

line_reader_inside : IsSend line_reader_fields.the_row
line_reader_inside = declared_send line_reader_fields.the_type (search (of_fields, stage) depth 20)

line_reader : IsSend line_reader_type.the_row
line_reader = search (of_fields, line_reader_inside) depth 20

command_line_inside : IsSend command_line_fields.the_row
command_line_inside = declared_send command_line_fields.the_type (search of_fields depth 20)

command_line : IsSend command_line_type.the_row
command_line = search (of_fields, command_line_inside) depth 20

line : IsSend line_type.the_row
line = search (of_fields, command_line) depth 20

reply_fault : IsSend reply_fault_type.the_row
reply_fault = search of_fields depth 20

phase : IsSend phase_type.the_row
phase = search of_fields depth 20

reply_reader_inside : IsSend reply_reader_fields.the_row
reply_reader_inside = declared_send reply_reader_fields.the_type (search (of_fields, phase, reply_fault) depth 20)

reply_reader : IsSend reply_reader_type.the_row
reply_reader = search (of_fields, reply_reader_inside) depth 20

reply : IsSend reply_type.the_row
reply = declared_send reply_type.the_type (search of_fields depth 20)

-- ---- gtp_match

setup_inside : IsSend setup_fields.the_row
setup_inside = declared_send setup_fields.the_type (search (of_fields, size, komi) depth 20)

setup : IsSend setup_type.the_row
setup = search (of_fields, setup_inside) depth 20

forfeit_cause : IsSend forfeit_cause_type.the_row
forfeit_cause = search of_fields depth 20

verdict : IsSend verdict_type.the_row
verdict = search (of_fields, colour, forfeit_cause) depth 20

sent_command : IsSend sent_command_type.the_row
sent_command = declared_send sent_command_type.the_type (search (of_fields, command) depth 20)

unanswered_inside : IsSend unanswered_fields.the_row
unanswered_inside = declared_send unanswered_fields.the_type (search (of_fields, sent_command) depth 20)

unanswered : IsSend unanswered_type.the_row
unanswered = search (of_fields, unanswered_inside) depth 20

engine_run : IsSend engine_run_type.the_row
engine_run = declared_send engine_run_type.the_type (search (of_fields, unanswered, reply_reader) depth 20)

side_state : IsSend side_state_type.the_row
side_state = declared_send side_state_type.the_type (search (of_fields, engine_run) depth 20)

sides : IsSend sides_type.the_row
sides = declared_send sides_type.the_type (search (of_fields, side_state) depth 20)

retakes_inside : IsSend retakes_fields.the_row
retakes_inside = declared_send retakes_fields.the_type (search of_fields depth 20)

retakes : IsSend retakes_type.the_row
retakes = search (of_fields, retakes_inside) depth 20

controller : IsSend controller_type.the_row
controller = declared_send controller_type.the_type (search (of_fields, setup, game, verdict, sides, colour, retakes) depth 20)

match_inside : IsSend match_fields.the_row
match_inside = declared_send match_fields.the_type (search (of_fields, controller, reply) depth 20)

match : IsSend match_type.the_row
match = search (of_fields, match_inside) depth 20

-- ---- gtp_match: the referee

ruling : IsSend ruling_type.the_row
ruling = search of_fields depth 20

ruled : IsSend ruled_type.the_row
ruled = declared_send ruled_type.the_type (search (of_fields, colour, ruling) depth 20)

refereed_inside : IsSend refereed_fields.the_row
refereed_inside = declared_send refereed_fields.the_type (search (of_fields, match, ruled) depth 20)

pub refereed : IsSend refereed_type.the_row
refereed = search (of_fields, refereed_inside) depth 20

-- ---- gtp_session

wait : IsSend wait_type.the_row
wait = search (of_fields, colour) depth 20

own_name_inside : IsSend own_name_fields.the_row
own_name_inside = declared_send own_name_fields.the_type (search of_fields depth 20)

own_name : IsSend own_name_type.the_row
own_name = search (of_fields, own_name_inside) depth 20

own_commands_inside : IsSend own_commands_fields.the_row
own_commands_inside = declared_send own_commands_fields.the_type (search (of_fields, own_name) depth 20)

own_commands : IsSend own_commands_type.the_row
own_commands = search (of_fields, own_commands_inside) depth 20

steps_inside : IsSend steps_fields.the_row
steps_inside = declared_send steps_fields.the_type (search (of_fields, line_reader, line, wait, game, own_commands) depth 20)

pub steps : IsSend steps_type.the_row
steps = search (of_fields, steps_inside) depth 20

-- ---- vintsaky_calls

pub replies : IsSend replies_type.the_row
replies = declared_send replies_type.the_type (search (of_fields, reply_reader, reply) depth 20)

pub lines : IsSend lines_type.the_row
lines = declared_send lines_type.the_type (search (of_fields, line_reader, line) depth 20)
