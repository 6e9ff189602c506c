use Rattle.std.proofs.Common.{rules, refl}
use Rattle.gtp_session.proofs.answers.execute.Goals as goal

-- A command without a function of its own answers a text. One with a function answers as that function ensures.

pub returns-in-ProtocolVersion : goal.returns-in-ProtocolVersion
returns-in-ProtocolVersion c = rw (c.in-Some.is, c.in-ProtocolVersion.is) refl

pub returns-in-Name : goal.returns-in-Name
returns-in-Name c = rw (c.in-Some.is, c.in-Name.is) refl

pub returns-in-Version : goal.returns-in-Version
returns-in-Version c = rw (c.in-Some.is, c.in-Version.is) refl

pub returns-in-KnownCommand : goal.returns-in-KnownCommand
returns-in-KnownCommand c =
    rw (c.in-Some.is, c.in-KnownCommand.is) (c.known_command.ensures c.args.game.now c.args.choice)

pub returns-in-ListCommands : goal.returns-in-ListCommands
returns-in-ListCommands c = rw (c.in-Some.is, c.in-ListCommands.is) refl

pub returns-in-Quit : goal.returns-in-Quit
returns-in-Quit c = rw (c.in-Some.is, c.in-Quit.is) refl

pub returns-in-Boardsize : goal.returns-in-Boardsize
returns-in-Boardsize c = rw (c.in-Some.is, c.in-Boardsize.is) (c.boardsize.ensures c.args.choice)

pub returns-in-ClearBoard : goal.returns-in-ClearBoard
returns-in-ClearBoard c =
    rw (c.in-Some.is, c.in-ClearBoard.is) (c.clear_board.ensures c.args.line.now.words c.args.choice)

pub returns-in-Komi : goal.returns-in-Komi
returns-in-Komi c = rw (c.in-Some.is, c.in-Komi.is) (c.komi.ensures c.args.choice)

pub returns-in-Play : goal.returns-in-Play
returns-in-Play c = rw (c.in-Some.is, c.in-Play.is) (c.play.ensures c.args.choice)

pub genmove-requires : goal.genmove-requires
genmove-requires c = rw (c.in-Some.is, c.in-Genmove.is) at c.requires

pub returns-in-Genmove : goal.returns-in-Genmove
returns-in-Genmove c = rw (c.in-Some.is, c.in-Genmove.is) c.genmove.ensures

pub returns-in-FixedHandicap : goal.returns-in-FixedHandicap
returns-in-FixedHandicap c = rw (c.in-Some.is, c.in-FixedHandicap.is) (c.fixed_handicap.ensures c.args.choice)

pub returns-in-Undo : goal.returns-in-Undo
returns-in-Undo c = rw (c.in-Some.is, c.in-Undo.is) (c.undo.ensures c.args.line.now.words c.args.choice)

pub returns-in-FinalScore : goal.returns-in-FinalScore
returns-in-FinalScore c = rw (c.in-Some.is, c.in-FinalScore.is) (search rules)

pub returns-in-Showboard : goal.returns-in-Showboard
returns-in-Showboard c = rw (c.in-Some.is, c.in-Showboard.is) refl
