use Rattle.gtp_wire.proofs.first_answers.OneAnswer.{no_reply_in_reply}
use Rattle.gtp_wire.proofs.laws.no_reply_begins_another.Goals as goal

pub returns : goal.returns
returns c raw b more short long = no_reply_in_reply raw b more short long
