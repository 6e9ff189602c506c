use Rattle.std.proofs.lemmas.List.{take_min}
use Rattle.gtp_check_talk.proofs.notes.beginning_of.Goals as goal

pub returns-then-reply : goal.returns-then-reply
returns-then-reply c =
    rw c.push.ensures.bytes (rw c.new-text.ensures (rw c.deref.ensures.0 (rw c.min.ensures (rw c.len.ensures.value
    (rw c.if-reply.true (take_min 80 c.args.reply.now.text.items))))))
