use Rattle.gtp_check_app.specs.Trials.{most_between, own_spaced}
use Rattle.gtp_check_app.proofs.Spacing.{all_own, own_ends, own_more}
use Rattle.std.proofs.Common.{arith, refl}
use Rattle.gtp_check_app.proofs.trials.own_spaced.Goals as goal

pub returns-then-rest-asked : goal.returns-then-rest-asked
returns-then-rest-asked c =
    own_ends c.args.commands.now c.loop-own.own c.loop-own.left c.loop-own.rest c.asked_with-asked.result
    (own_spaced most_between c.args.commands.now c.args.count) c.index-commands-own.result c.loop-own-test.true
    c.index-commands-own.is c.asked_with-asked.ensures c.loop-own.invariant c.if-rest-asked.true

pub loop-own-preserved : goal.loop-own-preserved
loop-own-preserved c =
    own_more c.args.commands.now c.loop-own.own c.loop-own.left c.loop-own.rest c.asked_with-asked.result
    (own_spaced most_between c.args.commands.now c.args.count) c.index-commands-own.result c.loop-own-test.true
    c.index-commands-own.is c.asked_with-asked.ensures c.loop-own.invariant c.left_after-left.result _
    c.if-rest-asked.false c.left_after-left.ensures refl

pub returns : goal.returns
returns c =
    let all = all_own c.args.commands.now c.loop-own.own c.loop-own.left c.loop-own.rest
    (own_spaced most_between c.args.commands.now c.args.count) c.loop-own-test.false c.loop-own.invariant in
    omega (arith, all, c.loop-own-test.false, c.loop-own.auto.own-end)
