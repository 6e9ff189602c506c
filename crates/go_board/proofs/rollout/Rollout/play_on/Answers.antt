use Rattle.std.proofs.Common.{sym, ◌∙◌, subst, arith}
use Rattle.std.proofs.lemmas.Bool.{false≢true}
use Rattle.go_base.specs.declared.colours.Colour.{Colour}
use Rattle.go_board.specs.Playouts.{Ends}
use Rattle.go_board.specs.private.Rollouts.{IsRolloutOf}
use Rattle.go_board.proofs.drawing.Turns.{played-on, played-end, room-left, some-left}
use Rattle.go_board.proofs.rollout.Rollout.play_on.Goals as goal

pub loop-mover-init : goal.loop-mover-init
loop-mover-init g c game kept = record { on = game; kept = kept; rest = λ after new p. p }

pub take_turn-requires : goal.take_turn-requires
take_turn-requires g c =
    let r = c.loop-mover.invariant c.requires.0 c.requires.1 in (
      r.on,
      r.kept,
      room-left r.on c.loop-mover.left
          (λ e. false≢true (sym c.loop-mover-test.true ∙ (c.ends.ensures r.on c.loop-mover.mover r.kept).1 e)),
    )

pub overflow_sub-left : goal.overflow_sub-left
overflow_sub-left g c =
    let r = c.loop-mover.invariant c.requires.0 c.requires.1 in
    let some = some-left r.on c.loop-mover.left
    (λ e. false≢true (sym c.loop-mover-test.true ∙ (c.ends.ensures r.on c.loop-mover.mover r.kept).1 e)) in
    omega (arith, some)

pub loop-mover-smaller : goal.loop-mover-smaller
loop-mover-smaller g c =
    let r = c.loop-mover.invariant c.requires.0 c.requires.1 in
    let some = some-left r.on c.loop-mover.left
    (λ e. false≢true (sym c.loop-mover-test.true ∙ (c.ends.ensures r.on c.loop-mover.mover r.kept).1 e)) in
    omega (arith, some)

pub loop-mover-preserved : goal.loop-mover-preserved
loop-mover-preserved g c game kept =
    let r = c.loop-mover.invariant game kept in
    let more : ¬ Ends r.on c.loop-mover.left = λ e. false≢true (sym c.loop-mover-test.true ∙ (c.ends.ensures r.on c.loop-mover.mover r.kept).1 e) in
    let t = c.take_turn.ensures r.on r.kept (room-left r.on c.loop-mover.left more) in
    record {
      on = t.after;
      kept = subst (λ (d : Colour). IsRolloutOf t.after d c.take_turn.new.self) (sym c.other-theirs.ensures) t.kept;
      rest = played-on g.W.Words.gives game c.args.colour c.args.self.now.order c.args.limit c.args.words.now r.on
          c.loop-mover.mover c.other-theirs.result c.loop-mover.self.order c.loop-mover.left c.loop-mover.words t.after
          c.take_turn.new.self.order c.take_turn.new.words r.rest more t.turn c.other-theirs.ensures;
    }

pub returns : goal.returns
returns g c game kept =
    let r = c.loop-mover.invariant game kept in
    record {
      after = r.on;
      playout = r.rest r.on c.loop-mover.words
          (played-end g.W.Words.gives r.on c.loop-mover.mover c.loop-mover.self.order c.loop-mover.left
          c.loop-mover.words ((c.ends.ensures r.on c.loop-mover.mover r.kept).0 c.loop-mover-test.false));
      board_is = r.kept.board_is;
    }
