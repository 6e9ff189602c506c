use Rattle.std.proofs.Common.{◌≡◌, ◌∙◌, ap, arith, false, sym, length, take, [], List, None}
use Rattle.std.proofs.lemmas.List.{length-take, take_all}
use Rattle.gtp_check_shortening.specs.declared.flat.Shortening.{Shortening}
use Rattle.gtp_check_shortening.specs.Shortening.{shortenings}
use Rattle.gtp_check_app.specs.Trials.{those_for}
use Rattle.gtp_check_app.proofs.Trying.{added, full, passed}
use Rattle.gtp_check_app.proofs.complaining.shortenings_of.Goals as goal
use Rattle.gtp_check_app.proofs.complaining.shortenings_of.Goals.{then-len-trials+in_ok-is_for+then-branch+in_ok-push}
use Rattle.gtp_check_app.proofs.complaining.shortenings_of.Goals.{else-len-trials}
use Rattle.gtp_check_app.proofs.complaining.shortenings_of.Goals.{}
use Rattle.gtp_check_app.proofs.complaining.shortenings_of.Goals.{else-len-trials-via-then-len-trials+in_ok-is_for+else-branch}
use Rattle.gtp_check_app.proofs.complaining.shortenings_of.Goals.{else-len-trials-via-else-len-trials}

pub loop-shortening-init : goal.loop-shortening-init
unfolding those_for
loop-shortening-init c = c.new-tried.ensures.items ∙ sym (take_all c.args.trials [] (omega arith))

pub loop-shortening-preserved : goal.loop-shortening-preserved
loop-shortening-preserved c =
    let other : Shortening = record { games = 0; is_whole = false; kept = None } in
    let talk = c.args.talk.now in
    let index = c.loop-shortening.shortening-index in
    let tried = c.loop-shortening.tried.items in
    elim c.if-len-trials.branch [
      | then-len-trials+in_ok-is_for+then-branch+in_ok-push w ↦
          let may = rw c.shortenings-all.ensures at w.in_ok-is_for.ensures in
          rw (w.tried-is, w.in_ok-push.ensures.items, c.shortenings-all.ensures)
          (added c.args.trials talk shortenings index other tried c.loop-shortening-test.true
          c.loop-shortening.invariant (omega (arith, w.if-len-trials.true, c.len.ensures)) (sym may ∙ w.if-branch.true))
      | else-len-trials w ↦ elim w.else-len-trials.branch [
        | else-len-trials-via-then-len-trials+in_ok-is_for+else-branch more ↦
            let may = rw c.shortenings-all.ensures at more.in_ok-is_for.ensures in
            rw w.tried-is
            (passed c.args.trials talk shortenings index other tried c.loop-shortening-test.true
            c.loop-shortening.invariant (sym may ∙ more.if-branch.false))
        | else-len-trials-via-else-len-trials more ↦
            rw w.tried-is
            (full c.args.trials talk shortenings index other tried c.loop-shortening-test.true
            c.loop-shortening.invariant (omega (arith, more.if-len-trials.false, c.len.ensures)))
      ]
    ]

pub returns : goal.returns
returns c =
    let whole = take_all c.loop-shortening.shortening-index shortenings c.loop-shortening-test.false in
    let count : length c.loop-shortening.tried.items
    ≡ length (take c.args.trials (those_for c.args.talk.now (take c.loop-shortening.shortening-index shortenings))) =
    ap length c.loop-shortening.invariant in
    record {
      those = c.loop-shortening.invariant
          ∙ ap (λ (all : List Shortening). take c.args.trials (those_for c.args.talk.now all)) whole;
      few = omega (
        arith,
        count,
        c.ranges.trials.fits,
        length-take c.args.trials
            (those_for c.args.talk.now (take c.loop-shortening.shortening-index shortenings)),
      );
    }
