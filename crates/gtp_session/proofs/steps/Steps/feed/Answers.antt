use Rattle.std.proofs.Common.{refl, sym, ap, ◌∙◌, ◌≡◌, None}
use Rattle.go_base.specs.declared.choices.Choice.TheVariants.{Resign}
use Rattle.gtp_session.specs.Steps.{after_wait, author_text_to, replied_by, with_line}
use Rattle.gtp_session.specs.declared.events.Wait.TheVariants as wait
use Rattle.gtp_session.specs.declared.events.Event.TheVariants as event
use Rattle.gtp_session.specs.private.StepsFields.{state_in}
use Rattle.gtp_session.proofs.stepping.Kept.{answered_kept, waiting_kept, with_line_kept}
use Rattle.gtp_session.proofs.stepping.Waits.{after_wait-waits, by-nothing, lawful_at-none, reads_on}
use Rattle.gtp_session.proofs.steps.Steps.feed.Goals as goal

pub returns-in-Some-awaited-clause-reads : goal.returns-in-Some-awaited-clause-reads
returns-in-Some-awaited-clause-reads c =
    let s = state_in c.self.inside in
    let read = with_line s c.feed_into-used.new.line c.feed_into-used.new.self in
    let waits = c.in-Some-awaited.ensures.some in
    λ _. rw (← c.self.view_is)
    (reads_on s _ c.args.input.now c.feed_into-used.result.used c.feed_into-used.new.line c.feed_into-used.new.self
    c.wait_of-wait.result c.in-Some-awaited.event (sym c.wait_of-wait.ensures) waits.0
    (rw c.if-not-found.false at c.feed_into-used.ensures.reads)
    (sym (after_wait-waits read c.wait_of-wait.result waits.1) ∙ ap (after_wait read) c.wait_of-wait.ensures))

pub invariant_of-self-in-Some-awaited : goal.invariant_of-self-in-Some-awaited
invariant_of-self-in-Some-awaited c =
    waiting_kept (with_line (state_in c.self.inside) c.feed_into-used.new.line c.feed_into-used.new.self)
    c.wait_of-wait.result
    (with_line_kept (state_in c.self.inside) c.args.input.now c.feed_into-used.result.used c.feed_into-used.new.line
    c.feed_into-used.new.self c.self.invariant
    (record { goes_on = c.if-self.false; waits_not = c.in_default.ensures.none })
    (rw c.if-not-found.false at c.feed_into-used.ensures.reads))
    c.if-self.false c.wait_of-wait.ensures

pub invariant_of-self-in-Some-text_for : goal.invariant_of-self-in-Some-text_for
invariant_of-self-in-Some-text_for c =
    with_line_kept (state_in c.self.inside) c.args.input.now c.feed_into-used.result.used c.feed_into-used.new.line
    c.feed_into-used.new.self c.self.invariant
    (record { goes_on = c.if-self.false; waits_not = c.in_default.ensures.none })
    (rw c.if-not-found.false at c.feed_into-used.ensures.reads)

pub returns-in-Some-text_for-clause-reads : goal.returns-in-Some-text_for-clause-reads
returns-in-Some-text_for-clause-reads c =
    let s = state_in c.self.inside in
    let read = with_line s c.feed_into-used.new.line c.feed_into-used.new.self in
    let asks = sym c.wait_of-wait.ensures ∙ c.in_default-awaited.ensures.none in
    let set = c.in-Some-text_for.ensures read refl in
    λ _. rw (← c.self.view_is)
    (reads_on s c.reply_set.new.self c.args.input.now c.feed_into-used.result.used c.feed_into-used.new.line
    c.feed_into-used.new.self wait.Nothing event.Reply asks refl
    (rw c.if-not-found.false at c.feed_into-used.ensures.reads)
    (c.reply_set.ensures ∙ ap (replied_by read) (sym set) ∙ ap (after_wait read) (sym asks)))

pub answer-self-inside-requires-clause-lawful : goal.answer-self-inside-requires-clause-lawful
answer-self-inside-requires-clause-lawful c =
    let s = c.self.inside in
    let asks = by-nothing _ _ (sym c.wait_of-wait.ensures ∙ c.in_default-awaited.ensures.none) in
    lawful_at-none s.game c.feed_into-used.new.line Resign asks

pub invariant_of-self-in-None : goal.invariant_of-self-in-None
invariant_of-self-in-None c =
    let s = state_in c.self.inside in
    let read = with_line s c.feed_into-used.new.line c.feed_into-used.new.self in
    let asks = by-nothing _ _ (sym c.wait_of-wait.ensures ∙ c.in_default-awaited.ensures.none) in
    let given = c.answer-self-inside in
    answered_kept read Resign s.wait given.new.game given.result given.new.reply.items
    (with_line_kept s c.args.input.now c.feed_into-used.result.used c.feed_into-used.new.line
    c.feed_into-used.new.self c.self.invariant
    (record { goes_on = c.if-self.false; waits_not = c.in_default.ensures.none })
    (rw c.if-not-found.false at c.feed_into-used.ensures.reads))
    given.ensures.size (lawful_at-none s.game read.line Resign asks) c.in_default.ensures.none given.ensures.reply

pub returns-in-None-clause-reads : goal.returns-in-None-clause-reads
returns-in-None-clause-reads c =
    let s = state_in c.self.inside in
    let read = with_line s c.feed_into-used.new.line c.feed_into-used.new.self in
    let asks = sym c.wait_of-wait.ensures ∙ c.in_default-awaited.ensures.none in
    let given = c.answer-self-inside in
    let new = record read { wait = s.wait; game = given.new.game; ended = given.result; reply = given.new.reply.items } in
    let answered : new ≡ replied_by read None =
    rw (given.ensures.game, given.ensures.reply, given.ensures.ends, c.in_default.ensures.none) refl in
    let set : author_text_to read read.line ≡ None = c.in-None.ensures read refl in
    λ _. rw (← c.self.view_is)
    (reads_on s new c.args.input.now c.feed_into-used.result.used c.feed_into-used.new.line
    c.feed_into-used.new.self wait.Nothing event.Reply asks refl
    (rw c.if-not-found.false at c.feed_into-used.ensures.reads)
    (answered ∙ ap (replied_by read) (sym set) ∙ ap (after_wait read) (sym asks)))
