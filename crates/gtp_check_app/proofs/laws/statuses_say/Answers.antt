use Rattle.gtp_check_app.specs.Sequence.{known_of}
use Rattle.gtp_check_app.proofs.InStatus.{say}
use Rattle.gtp_check_app.proofs.laws.statuses_say.Goals as goal

pub returns : goal.returns
returns g c = say (known_of g.P.Process g.O.WriteOnce g.E.WriteOnce) (record {
  just = c.complaints_are_justified.ensures;
  lost = c.losses_are_no_wrong_answers.ensures;
  stays = c.ko_rules_stay.ensures;
  silent = c.silent_conversations_are_right.ensures;
}) c.a_pass_is_earned.ensures
