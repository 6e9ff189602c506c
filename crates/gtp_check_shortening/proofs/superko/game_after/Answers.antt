use Rattle.std.proofs.Common.{◌∙◌, ap, sym, ◌+◌, arith, drop}
use Rattle.std.proofs.lemmas.List.{at_drop_all}
use Rattle.gtp_check_shortening.specs.Superko.{after_all}
use Rattle.gtp_check_shortening.proofs.Games.{from_here, known_more, known_none}
use Rattle.gtp_check_shortening.proofs.superko.game_after.Goals as goal

pub returns-then-not-follow : goal.returns-then-not-follow
returns-then-not-follow c =
    sym (c.loop-said.invariant
    ∙ ap (after_all c.loop-said.game) (from_here c.args.talk.now c.loop-said.said-index c.said-item.result
    c.loop-said-test.true c.said-item.is)
    ∙ known_none c.loop-said.game c.said-item.result (drop (c.loop-said.said-index + 1) c.args.talk.now)
    (c.follow.ensures.unknown c.if-not-follow.true))

pub loop-said-preserved : goal.loop-said-preserved
loop-said-preserved c =
    c.loop-said.invariant
    ∙ ap (after_all c.loop-said.game) (from_here c.args.talk.now c.loop-said.said-index c.said-item.result
    c.loop-said-test.true c.said-item.is)
    ∙ known_more c.loop-said.game c.follow.new.game c.said-item.result
    (drop (c.loop-said.said-index + 1) c.args.talk.now) (c.follow.ensures.known c.if-not-follow.false)

pub returns : goal.returns
unfolding after_all
returns c =
    sym (c.loop-said.invariant
    ∙ at_drop_all (after_all c.loop-said.game) c.args.talk.now c.loop-said.said-index
    (omega (arith, c.loop-said-test.false)))
