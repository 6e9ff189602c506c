use Rattle.std.proofs.lemmas.List.Elements.{All-from_recursion}
use Rattle.gtp_session.specs.Engine.{WrittenReply}
use Rattle.gtp_session.specs.Spoken.{IsSpoken}
use Rattle.gtp_session.proofs.reply_texts.Spoken.{replies_spoken}
use Rattle.gtp_session.proofs.laws.each_reply_is_one.Goals as goal

pub returns : goal.returns
returns g c old new text replies is given =
    All-from_recursion (λ (r : WrittenReply). IsSpoken r.text) replies
    (replies_spoken g.P.Policy.may g.met.P.Policy.lawful old new text replies is given)
