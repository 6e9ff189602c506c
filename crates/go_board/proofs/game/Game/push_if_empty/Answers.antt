use Rattle.std.proofs.Common.{◌≡◌, ◌∙◌, ap, sym, List}
use Rattle.go_board.specs.declared.board.Cell.{Cell}
use Rattle.go_board.specs.Board.{at}
use Rattle.go_board.specs.Game.{board_of}
use Rattle.go_board.specs.private.ChainId.{is_empty}
use Rattle.go_board.proofs.drawing.Orders.{empty-more, empty-skip}
use Rattle.go_board.proofs.game.Game.push_if_empty.Goals as goal

pub returns : goal.returns
returns c =
    let cell : c.at.result ≡ at (board_of c.args.self.now) c.args.place =
    c.at.ensures
    ∙ ap (λ (b : List Cell). at b c.args.place) (c.self.invariant.board_is ∙ ap board_of c.self.view_is) in
    empty-more (board_of c.args.self.now) c.args.place c.args.order.now c.push.new.self c.requires.before
    (ap is_empty (sym cell) ∙ sym (c.if-not-is_empty.ensures)) c.push.ensures

pub returns-then-not-is_empty : goal.returns-then-not-is_empty
returns-then-not-is_empty c =
    let cell : c.at.result ≡ at (board_of c.args.self.now) c.args.place =
    c.at.ensures
    ∙ ap (λ (b : List Cell). at b c.args.place) (c.self.invariant.board_is ∙ ap board_of c.self.view_is) in
    empty-skip (board_of c.args.self.now) c.args.place c.args.order.now c.requires.before
    (ap is_empty (sym cell) ∙ sym (c.if-not-is_empty.ensures))
