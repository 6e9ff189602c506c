use Rattle.std.proofs.Common.{sym, arith, ◌∙◌}
use Rattle.go_board.specs.Game.{board_of}
use Rattle.go_board.specs.decisions.Game.{stone?}
use Rattle.go_board.proofs.captures.CapturedStones.{holds-no}
use Rattle.gtp_check_texts.proofs.StonesOnBoards.{blank-rows}
use Rattle.gtp_check_texts.proofs.board.has_stone.Goals as goal

pub returns : goal.returns
returns c =
    let game = c.args.game.now in
    let past = c.loop-row-test.false in
    let end = c.get-row-end.ensures.value ∙ c.size.ensures.size in
    sym (holds-no (stone? (board_of game)) (blank-rows game c.size.ensures.game
    (λ row least most. c.loop-row.invariant row least (omega (arith, past, end, most)))))
