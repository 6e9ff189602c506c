use Rattle.std.proofs.Common.{◌≡◌, ◌∙◌, ℕ, List, length, subst, arith, length-append, lit<}
use Rattle.std.proofs.lemmas.Bool.Decides.{nat_tests}
use Rattle.std.proofs.lemmas.List.{nil_from_length}
use Rattle.gtp_wire.specs.Replies.{IsReply}
use Rattle.gtp_wire.proofs.reply_reader.read_after_held.Goals as goal

pub push-requires : goal.push-requires
push-requires c = (lit< tt, omega (arith, c.requires.fits, length-append c.args.held.now.items c.args.piece.now))

pub returns-then-is_empty : goal.returns-then-is_empty
returns-then-is_empty c =
    let none : length c.args.held.now.items ≡ 0 = grind (arith, nat_tests) in
    rw (nil_from_length c.args.held.now.items none) c.read_reply.ensures

pub returns : goal.returns
returns c =
    let P : List ℕ → Type 0 = λ t. IsReply t c.read_reply-2.new.reply in
    subst P (c.deref.ensures.0 ∙ c.push.ensures.bytes) c.read_reply-2.ensures
