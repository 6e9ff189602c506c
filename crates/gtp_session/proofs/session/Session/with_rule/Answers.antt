use Rattle.std.proofs.Common.{refl}
use Rattle.gtp_session.proofs.engines.Replying.{lines-nothing}
use Rattle.gtp_session.proofs.session.Session.with_rule.Goals as goal

pub invariant_of-result : goal.invariant_of-result
invariant_of-result g c = rw c.new.ensures (record {
  waits_not = refl;
  unread = lines-nothing;
  name = refl;
  version = refl;
  commands = refl;
})
