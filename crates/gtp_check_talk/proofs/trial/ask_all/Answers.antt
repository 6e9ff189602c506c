use Rattle.std.proofs.Common.{◌≡◌, ◌∙◌, ◌-◌, ◌++◌, ap, refl, subst, sym, arith, List, length, take, drop}
use Rattle.std.proofs.lemmas.List.{length-drop, length-take-le}
use Rattle.std.proofs.lemmas.List.Elements.{All-nil}
use Rattle.gtp_check_talk.specs.declared.said.Said.{Said}
use Rattle.gtp_check_talk.specs.Dialogues.{AreFor, begins_so, dialogue, exchanges_so, trial_of}
use Rattle.gtp_check_talk.specs.Said.{commands_of}
use Rattle.gtp_check_talk.proofs.Asked.{asked_exam, asked_on, asked_purposes, asked_talk}
use Rattle.gtp_check_talk.proofs.Conversations.{with_another}
use Rattle.gtp_check_talk.proofs.Trials.{asks_first, exchanged_talk, next_may_not, next_of, some_more_of}
use Rattle.gtp_check_talk.proofs.Turns.{turned}
use Rattle.gtp_check_talk.proofs.trial.ask_all.Goals as goal

pub loop-asked-init : goal.loop-asked-init
loop-asked-init g c = record {
  spares = begins_so;
  check = refl;
  up = c.requires.up;
  first = λ none. ap (λ (talk : List Said). commands_of talk ++ c.args.trial.now.commands.now) none;
  purposes = λ none.
      subst (AreFor c.args.trial.now.purpose) (sym none) (All-nil (λ (said : Said). said.purpose ≡
      c.args.trial.now.purpose));
}

pub returns-then-owes_nothing-clause-ends : goal.returns-then-owes_nothing-clause-ends
returns-then-owes_nothing-clause-ends g c =
    asked_on (trial_of c.args.trial.now)
    (dialogue c.loop-asked.engine c.loop-asked.examiner.exam c.loop-asked.notes) g.P.Process
    (dialogue c.args.engine.now c.args.examiner.now.exam c.args.notes.now)
    (dialogue c.ask_some.new.engine c.ask_some.new.examiner.exam c.ask_some.new.notes)
    c.loop-asked.invariant.spares c.in_ok-asked.ensures.asks

pub returns-then-owes_nothing-clause-first : goal.returns-then-owes_nothing-clause-first
returns-then-owes_nothing-clause-first g c = λ none.
    let from = dialogue c.loop-asked.engine c.loop-asked.examiner.exam c.loop-asked.notes in
    let now = dialogue c.ask_some.new.engine c.ask_some.new.examiner.exam c.ask_some.new.notes in
    let asks = c.in_ok-asked.ensures.asks in
    record {
      order = asks_first c.args.trial.now.commands.now (drop c.in_ok-asked.asked c.loop-asked.rest.now)
          c.ask_some.new.engine.talk.items
          (some_more_of (commands_of c.loop-asked.engine.talk.items) (commands_of c.ask_some.new.engine.talk.items)
          c.loop-asked.rest.now (drop c.in_ok-asked.asked c.loop-asked.rest.now) c.args.trial.now.commands.now
          c.in_ok-asked.asked (c.loop-asked.invariant.first none) (asked_talk (trial_of c.args.trial.now) from now asks)
          refl);
      purposes = asked_purposes (trial_of c.args.trial.now) from now asks (c.loop-asked.invariant.purposes none);
    }

pub returns-then-owes_nothing-clause-all : goal.returns-then-owes_nothing-clause-all
returns-then-owes_nothing-clause-all g c = λ none.
    let from = dialogue c.loop-asked.engine c.loop-asked.examiner.exam c.loop-asked.notes in
    let now = dialogue c.ask_some.new.engine c.ask_some.new.examiner.exam c.ask_some.new.notes in
    let asks = c.in_ok-asked.ensures.asks in
    let sent = c.owes_nothing.ensures.sent c.if-owes_nothing.true in
    let next = next_of (commands_of c.loop-asked.engine.talk.items) c.loop-asked.rest.now c.args.trial.now.commands.now
    c.ask_some.new.engine.talk.items c.in_ok-asked.asked (c.loop-asked.invariant.first none)
    (asked_talk (trial_of c.args.trial.now) from now asks) c.in_ok-asked.ensures.few in
    record {
      first = returns-then-owes_nothing-clause-first g c none;
      next = rw next
          (next_may_not c.args.trial.now.unasked c.ask_some.new.examiner.exam c.ask_some.new.engine.talk.items
          c.ask_some.new.engine.waiting.items _ sent c.in_ok-asked.ensures.most);
      up = (asked_exam (trial_of c.args.trial.now) from now asks).up ∙ c.loop-asked.invariant.up;
      sent = sent;
      answered = c.owes_nothing.ensures.answered c.if-owes_nothing.true;
    }

pub returns-in-Some-clause-ends : goal.returns-in-Some-clause-ends
returns-in-Some-clause-ends g c = record {
  before = dialogue c.ask_some.new.engine c.ask_some.new.examiner.exam c.ask_some.new.notes;
  spares = asked_on (trial_of c.args.trial.now)
      (dialogue c.loop-asked.engine c.loop-asked.examiner.exam c.loop-asked.notes) g.P.Process
      (dialogue c.args.engine.now c.args.examiner.now.exam c.args.notes.now)
      (dialogue c.ask_some.new.engine c.ask_some.new.examiner.exam c.ask_some.new.notes)
      c.loop-asked.invariant.spares c.in_ok-asked.ensures.asks;
  exchanged = c.in-Some.ensures.exchanged;
}

pub returns-in-Some-clause-first : goal.returns-in-Some-clause-first
returns-in-Some-clause-first g c = λ none.
    let from = dialogue c.loop-asked.engine c.loop-asked.examiner.exam c.loop-asked.notes in
    let now = dialogue c.ask_some.new.engine c.ask_some.new.examiner.exam c.ask_some.new.notes in
    let asks = c.in_ok-asked.ensures.asks in
    let same = exchanged_talk g.P.Process (dialogue c.ask_some.new.engine c.ask_some.new.examiner.exam
    c.ask_some.new.notes)
    {after = dialogue c.exchange.new.self c.exchange.new.examiner.exam c.exchange.new.notes} c.in-Some.ensures.exchanged
    in
    record {
      order = asks_first c.args.trial.now.commands.now (drop c.in_ok-asked.asked c.loop-asked.rest.now)
          c.exchange.new.self.talk.items
          (ap (λ (talk : List Said). commands_of talk ++ drop c.in_ok-asked.asked c.loop-asked.rest.now) same
          ∙ some_more_of (commands_of c.loop-asked.engine.talk.items)
          (commands_of c.ask_some.new.engine.talk.items) c.loop-asked.rest.now
          (drop c.in_ok-asked.asked c.loop-asked.rest.now) c.args.trial.now.commands.now c.in_ok-asked.asked
          (c.loop-asked.invariant.first none) (asked_talk (trial_of c.args.trial.now) from now asks) refl);
      purposes = subst (AreFor c.args.trial.now.purpose) (sym same)
          (asked_purposes (trial_of c.args.trial.now) from now asks (c.loop-asked.invariant.purposes none));
    }

pub loop-asked-smaller : goal.loop-asked-smaller
loop-asked-smaller g c =
    let count = length-take-le c.in_ok-asked.asked c.loop-asked.rest.now c.in_ok-asked.ensures.few in
    let later : length c.split_at.result.1.now ≡ length c.loop-asked.rest.now - c.in_ok-asked.asked =
    ap length c.split_at.ensures.back ∙ length-drop c.in_ok-asked.asked c.loop-asked.rest.now in
    (turned g.P.Process (trial_of c.args.trial.now) (dialogue c.loop-asked.engine c.loop-asked.examiner.exam
    c.loop-asked.notes)
    (dialogue c.ask_some.new.engine c.ask_some.new.examiner.exam c.ask_some.new.notes)
    (take c.in_ok-asked.asked c.loop-asked.rest.now) (length c.loop-asked.rest.now) (length c.split_at.result.1.now)
    (dialogue c.exchange.new.self c.exchange.new.examiner.exam c.exchange.new.notes)
    (omega (arith, count, later, c.in_ok-asked.ensures.few)) c.loop-asked.invariant.up c.in_ok-asked.ensures.asks
    (c.owes_nothing.ensures.owes c.if-owes_nothing.false) c.in_default.ensures.exchanged).less

pub loop-asked-preserved : goal.loop-asked-preserved
loop-asked-preserved g c =
    let before = c.loop-asked.invariant in
    let from = dialogue c.loop-asked.engine c.loop-asked.examiner.exam c.loop-asked.notes in
    let now = dialogue c.ask_some.new.engine c.ask_some.new.examiner.exam c.ask_some.new.notes in
    let asks = c.in_ok-asked.ensures.asks in
    let same = exchanged_talk g.P.Process (dialogue c.ask_some.new.engine c.ask_some.new.examiner.exam
    c.ask_some.new.notes)
    {after = dialogue c.exchange.new.self c.exchange.new.examiner.exam c.exchange.new.notes}
    c.in_default.ensures.exchanged in
    let count = length-take-le c.in_ok-asked.asked c.loop-asked.rest.now c.in_ok-asked.ensures.few in
    let later : length c.split_at.result.1.now ≡ length c.loop-asked.rest.now - c.in_ok-asked.asked =
    ap length c.split_at.ensures.back ∙ length-drop c.in_ok-asked.asked c.loop-asked.rest.now in
    record {
      spares = exchanges_so
          (asked_on (trial_of c.args.trial.now) from g.P.Process
          (dialogue c.args.engine.now c.args.examiner.now.exam c.args.notes.now) now before.spares asks)
          c.in_default.ensures.exchanged;
      check = with_another c.args.examiner.now c.ask_some.new.examiner c.exchange.new.examiner
          (with_another c.args.examiner.now c.loop-asked.examiner c.ask_some.new.examiner before.check
          c.ask_some.ensures.check)
          c.exchange.ensures.check;
      up = (turned g.P.Process (trial_of c.args.trial.now) from now
          (take c.in_ok-asked.asked c.loop-asked.rest.now) (length c.loop-asked.rest.now)
          (length c.split_at.result.1.now)
          (dialogue c.exchange.new.self c.exchange.new.examiner.exam c.exchange.new.notes)
          (omega (arith, count, later, c.in_ok-asked.ensures.few)) before.up asks
          (c.owes_nothing.ensures.owes c.if-owes_nothing.false) c.in_default.ensures.exchanged).up;
      first = λ none.
          ap (λ (talk : List Said). commands_of talk ++ c.split_at.result.1.now) same
          ∙ some_more_of (commands_of c.loop-asked.engine.talk.items)
          (commands_of c.ask_some.new.engine.talk.items) c.loop-asked.rest.now
          c.split_at.result.1.now c.args.trial.now.commands.now c.in_ok-asked.asked (before.first none)
          (asked_talk (trial_of c.args.trial.now) from now asks) c.split_at.ensures.back;
      purposes = λ none. subst (AreFor c.args.trial.now.purpose) (sym same)
          (asked_purposes (trial_of c.args.trial.now) from now asks (before.purposes none));
    }
