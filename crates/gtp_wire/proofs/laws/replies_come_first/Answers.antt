use Rattle.gtp_wire.proofs.first_answers.OneAnswer.{reply_is_first}
use Rattle.gtp_wire.proofs.laws.replies_come_first.Goals as goal

pub returns : goal.returns
returns c raw later value reply = reply_is_first raw later value reply
