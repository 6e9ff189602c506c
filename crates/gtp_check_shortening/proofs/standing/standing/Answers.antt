use Rattle.std.proofs.Common.{◌∙◌, ap, sym, ◌-◌, arith, drop, length}
use Rattle.gtp_check_shortening.specs.declared.flat.Role.{Role}
use Rattle.gtp_check_shortening.specs.Shortening.{standing_back, taken_back, taken_by}
use Rattle.gtp_check_shortening.proofs.Games.{from_end, nothing_is_taken, nothing_stands, standing_more, taken_more}
use Rattle.gtp_check_shortening.proofs.standing.standing.Goals as goal

pub loop-done-init : goal.loop-done-init
loop-done-init c = record {
  back = nothing_stands c.args.game.now c.args.talk.now c.new-commands.result.items c.new-commands.ensures.items;
  taken = nothing_is_taken c.args.talk.now;
  few = omega arith;
}

pub loop-done-preserved : goal.loop-done-preserved
loop-done-preserved c =
    let said = c.index-talk-talk.result in
    let later = drop (length c.args.talk.now - c.loop-done.done) c.args.talk.now in
    let here = from_end c.args.talk.now c.loop-done.done said c.loop-done-test.true c.index-talk-talk.is in
    record {
      back = standing_more c.args.game.now c.loop-done.commands.items c.as_slice.result.now c.add_if.new.commands.items
          said later
          c.loop-done.taken_back c.stays_on-stay.result c.then_some.result
          c.loop-done.invariant.back c.loop-done.invariant.taken c.as_slice.ensures.value c.stays_on-stay.ensures
          c.then_some.ensures c.in_ok-add_if.ensures
          ∙ ap (standing_back c.args.game.now) (sym here);
      taken = c.taken_by-taken_back.ensures.taken
          ∙ ap (λ (role : Role). taken_by role c.loop-done.taken_back) c.role_of.ensures
          ∙ ap (taken_by _) c.loop-done.invariant.taken ∙ taken_more said later ∙ ap taken_back (sym here);
      few = omega (arith, c.taken_by-taken_back.ensures.few, c.loop-done.invariant.few);
    }
