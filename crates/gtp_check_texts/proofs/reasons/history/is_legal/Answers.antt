use Rattle.go_board.specs.decisions.Game.{legal?}
use Rattle.gtp_check_texts.proofs.Earlier.{as_decided}
use Rattle.gtp_check_texts.proofs.reasons.history.is_legal.Goals as goal

pub returns : goal.returns
returns c =
    as_decided (legal? c.args.game.now c.args.colour c.args.vertex) c.legal.result c.legal.ensures.legal
