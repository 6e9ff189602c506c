use Rattle.std.proofs.Common.{◌∙◌, ◌-◌, Bool, ap, sym, arith, if◌then◌else◌}
use Rattle.gtp_check_shortening.specs.Shortening.{is_clear}
use Rattle.gtp_check_shortening.proofs.Games.{left_here, starts_here, starts_later, starts_nowhere}
use Rattle.gtp_check_shortening.proofs.flat.start_of.Goals as goal
use Rattle.gtp_check_shortening.proofs.flat.start_of.Goals.{then-is_clear, else-is_clear}

pub returns-then-left-games-clause-start : goal.returns-then-left-games-clause-start
returns-then-left-games-clause-start c =
    starts_here c.args.games c.loop-index.index c.if-is_clear.left c.args.talk.now c.index-talk-index.result
    c.loop-index-test.true c.index-talk-index.is c.loop-index.invariant.start
    (left_here c.loop-index.index c.loop-index.left c.if-is_clear.left c.args.talk.now c.index-talk-index.result
    c.is_clear.result c.loop-index-test.true c.index-talk-index.is c.loop-index.invariant.left
    (c.is_clear.ensures ∙ ap is_clear c.role_of.ensures)
    (elim c.if-is_clear.branch [
      | then-is_clear w ↦ w.left-is ∙ w.saturating_sub-left.ensures
          ∙ ap (λ (b : Bool). if b then c.loop-index.left - 1 else c.loop-index.left) (sym w.if-is_clear.true)
      | else-is_clear w ↦ w.left-is
          ∙ ap (λ (b : Bool). if b then c.loop-index.left - 1 else c.loop-index.left) (sym w.if-is_clear.false)
    ]))
    c.if-left-games.true

pub loop-index-preserved : goal.loop-index-preserved
loop-index-preserved c =
    let left = left_here c.loop-index.index c.loop-index.left c.if-is_clear.left c.args.talk.now
    c.index-talk-index.result
    c.is_clear.result c.loop-index-test.true c.index-talk-index.is c.loop-index.invariant.left
    (c.is_clear.ensures ∙ ap is_clear c.role_of.ensures)
    (elim c.if-is_clear.branch [
      | then-is_clear w ↦ w.left-is ∙ w.saturating_sub-left.ensures
          ∙ ap (λ (b : Bool). if b then c.loop-index.left - 1 else c.loop-index.left) (sym w.if-is_clear.true)
      | else-is_clear w ↦ w.left-is
          ∙ ap (λ (b : Bool). if b then c.loop-index.left - 1 else c.loop-index.left) (sym w.if-is_clear.false)
    ])
    in
    record {
      left = left;
      start = starts_later c.args.games c.loop-index.index c.if-is_clear.left c.args.talk.now c.index-talk-index.result
          c.loop-index-test.true c.index-talk-index.is c.loop-index.invariant.start left c.if-left-games.false;
    }

pub returns-clause-start : goal.returns-clause-start
returns-clause-start c =
    starts_nowhere c.args.games c.loop-index.index c.args.talk.now (omega arith)
    (omega (arith, c.loop-index-test.false))
    c.loop-index.invariant.start
