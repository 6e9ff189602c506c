use Rattle.std.proofs.Common.{◌∙◌, ap, sym, ◌-◌, arith, drop, length}
use Rattle.gtp_check_shortening.specs.declared.flat.Role.{Role}
use Rattle.gtp_check_shortening.specs.Shortening.{flat, stays, taken_back, taken_by}
use Rattle.gtp_check_shortening.proofs.Games.{flat_more, from_end, nothing_is_taken, nothing_stays, taken_more}
use Rattle.gtp_check_shortening.proofs.flat.flat.Goals as goal

pub loop-done-init : goal.loop-done-init
loop-done-init c = record {
  back = nothing_stays c.args.talk.now c.new-commands.result.items c.new-commands.ensures.items;
  taken = nothing_is_taken c.args.talk.now;
  few = omega arith;
}

pub loop-done-preserved : goal.loop-done-preserved
loop-done-preserved c =
    let said = c.index-talk-talk.result in
    let later = drop (length c.args.talk.now - c.loop-done.done) c.args.talk.now in
    let here = from_end c.args.talk.now c.loop-done.done said c.loop-done-test.true c.index-talk-talk.is in
    record {
      back = flat_more c.loop-done.commands.items c.add_if.new.commands.items said later c.stays.result
          c.then_some.result
          c.loop-done.invariant.back
          (c.stays.ensures ∙ ap (λ (role : Role). stays role c.loop-done.taken_back) c.role_of-role.ensures
          ∙ ap (stays _) c.loop-done.invariant.taken)
          c.then_some.ensures c.in_ok-add_if.ensures
          ∙ ap flat (sym here);
      taken = c.taken_by-taken_back.ensures.taken
          ∙ ap (λ (role : Role). taken_by role c.loop-done.taken_back) c.role_of-role.ensures
          ∙ ap (taken_by _) c.loop-done.invariant.taken ∙ taken_more said later ∙ ap taken_back (sym here);
      few = omega (arith, c.taken_by-taken_back.ensures.few, c.loop-done.invariant.few);
    }
