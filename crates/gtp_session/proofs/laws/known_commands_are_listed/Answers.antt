use Rattle.gtp_session.proofs.stepping.OwnNames.{known_is_listed}
use Rattle.gtp_session.proofs.laws.known_commands_are_listed.Goals as goal

pub returns : goal.returns
returns c = known_is_listed
