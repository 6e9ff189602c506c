use Rattle.std.proofs.Common.{sym, ◌∙◌, arith}
use Rattle.std.proofs.lemmas.Bool.{false≢true}
use Rattle.go_board.proofs.drawing.Turns.{played-on, played-end, room-left, some-left}
use Rattle.go_board.proofs.game.Game.play_on.Goals as goal

pub loop-mover-init : goal.loop-mover-init
loop-mover-init g c = record { order = c.requires; rest = λ after new p. p }

pub take_turn-requires : goal.take_turn-requires
take_turn-requires g c = record {
  game = c.playout_ends.ensures.game;
  room = room-left c.loop-mover.self c.loop-mover.left
      (λ e. false≢true (sym c.loop-mover-test.true ∙ c.playout_ends.ensures.ends.1 e));
  order = c.loop-mover.invariant.order;
}

pub overflow_sub-left : goal.overflow_sub-left
overflow_sub-left g c =
    let some = some-left c.loop-mover.self c.loop-mover.left
    (λ e. false≢true (sym c.loop-mover-test.true ∙ c.playout_ends.ensures.ends.1 e)) in
    omega (arith, some)

pub loop-mover-smaller : goal.loop-mover-smaller
loop-mover-smaller g c =
    let some = some-left c.loop-mover.self c.loop-mover.left
    (λ e. false≢true (sym c.loop-mover-test.true ∙ c.playout_ends.ensures.ends.1 e)) in
    omega (arith, some)

pub loop-mover-preserved : goal.loop-mover-preserved
loop-mover-preserved g c = record {
  order = c.take_turn.ensures.order;
  rest = played-on g.W.Words.gives c.args.self.now c.args.colour c.args.order.now c.args.limit c.args.words.now
      c.loop-mover.self c.loop-mover.mover c.other-theirs.result c.loop-mover.order c.loop-mover.left c.loop-mover.words
      c.take_turn.new.self c.take_turn.new.order c.take_turn.new.words c.loop-mover.invariant.rest
      (λ e. false≢true (sym c.loop-mover-test.true ∙ c.playout_ends.ensures.ends.1 e)) c.take_turn.ensures.turn
      c.other-theirs.ensures;
}

pub returns : goal.returns
returns g c =
    c.loop-mover.invariant.rest c.loop-mover.self c.loop-mover.words
    (played-end g.W.Words.gives c.loop-mover.self c.loop-mover.mover c.loop-mover.order c.loop-mover.left
    c.loop-mover.words (c.playout_ends.ensures.ends.0 c.loop-mover-test.false))
