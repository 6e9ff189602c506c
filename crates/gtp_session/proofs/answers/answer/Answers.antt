use Rattle.std.proofs.Common.{ap, sym, subst, ◌∙◌, ◌≡◌, ◌≤◌, length, ℕ, Option}
use Rattle.std.specs.Prelude.{IfSome}
use Rattle.gtp_wire.specs.Replies.{most_text_bytes, written_reply}
use Rattle.gtp_session.specs.Commands.{Answer, asked_by_named, named_command}
use Rattle.gtp_session.specs.Policy.{IsLawful}
use Rattle.gtp_session.specs.private.Outcome.{answer_of}
use Rattle.gtp_session.proofs.reply_texts.Spoken.{named_good}
use Rattle.gtp_session.proofs.answers.answer.Goals as goal

pub execute-outcome-requires : goal.execute-outcome-requires
execute-outcome-requires c =
    let named : c.args.command ≡ named_command c.in-Command.line.words = rw c.in-Command.is at c.requires.named in
    rw named (rw c.in-Command.is at c.requires.lawful)

pub write_outcome-requires-in-Command : goal.write_outcome-requires-in-Command
write_outcome-requires-in-Command c =
    let named : c.args.command ≡ named_command c.in-Command.line.words = rw c.in-Command.is at c.requires.named in
    let lawful : IfSome (asked_by_named c.args.game.now c.args.command c.in-Command.line.words)
    (λ colour. IsLawful c.args.game.now colour c.args.choice) =
    rw named (rw c.in-Command.is at c.requires.lawful) in
    subst (λ (a : Answer). length a.text ≤ most_text_bytes) (sym c.execute-outcome.ensures)
    (named_good c.args.game.now c.args.command c.in-Command.line.words c.args.choice c.size.ensures.game.size
    lawful).text.fits

pub returns-in-Command-clause-game : goal.returns-in-Command-clause-game
returns-in-Command-clause-game c =
    let named : c.args.command ≡ named_command c.in-Command.line.words = rw c.in-Command.is at c.requires.named in
    rw (c.in-Command.is, ← named) (ap (λ (a : Answer). a.game) c.execute-outcome.ensures)

pub returns-in-Command-clause-reply : goal.returns-in-Command-clause-reply
returns-in-Command-clause-reply c =
    let named : c.args.command ≡ named_command c.in-Command.line.words = rw c.in-Command.is at c.requires.named in
    let given = answer_of c.execute-outcome.new.game c.execute-outcome.result in
    rw (c.in-Command.is, ← named)
    (c.write_outcome-in-Command.ensures
    ∙ ap (λ (id : Option ℕ). written_reply given.ok id given.text) c.id.ensures.value
    ∙ ap (λ (a : Answer). written_reply a.ok c.in-Command.line.id a.text) c.execute-outcome.ensures)
