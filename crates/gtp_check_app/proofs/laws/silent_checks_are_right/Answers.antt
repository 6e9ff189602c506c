use Rattle.gtp_check_app.specs.Sequence.{known_of}
use Rattle.gtp_check_app.proofs.OverTurns.{silent_checks}
use Rattle.gtp_check_app.proofs.laws.silent_checks_are_right.Goals as goal

pub returns : goal.returns
returns g c = silent_checks (known_of g.P.Process g.O.WriteOnce g.E.WriteOnce) (record {
  just = c.complaints_are_justified.ensures;
  lost = c.losses_are_no_wrong_answers.ensures;
  stays = c.ko_rules_stay.ensures;
  silent = c.silent_conversations_are_right.ensures;
})
