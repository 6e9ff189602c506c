use Rattle.std.proofs.Common.{ap, refl, sym, subst, ◌∙◌, List, [], ◌∷◌, ◌++◌, take}
use Rattle.std.proofs.lemmas.List.{take_more}
use Rattle.gtp_check_judge.specs.declared.asking.CheckCommand.{CheckCommand}
use Rattle.gtp_check_talk.specs.Dialogues.{dialogue, trial_of}
use Rattle.gtp_check_talk.specs.private.Asking.{AreAsked, none, one_more}
use Rattle.gtp_check_talk.proofs.Conversations.{with_another}
use Rattle.gtp_check_talk.proofs.trial.ask_some.Goals as goal

pub loop-index-init : goal.loop-index-init
loop-index-init g c = record { asks = none; check = refl }

pub loop-index-preserved : goal.loop-index-preserved
loop-index-preserved g c =
    let before = c.loop-index.invariant in
    let more = take_more c.args.commands.now c.loop-index.index c.index-commands-index.result c.loop-index-test.true
    ∙ ap (λ (command : CheckCommand). take c.loop-index.index c.args.commands.now ++ command ∷ [])
    (sym c.index-commands-index.is) in
    record {
      asks = subst
          (λ (asked : List CheckCommand). AreAsked (trial_of c.args.trial.now)
          (dialogue c.args.engine.now c.args.examiner.now.exam c.args.notes.now) asked
          (dialogue c.ask.new.self c.ask.new.examiner.exam c.ask.new.notes))
          (sym more)
          (one_more {last = dialogue c.ask.new.self c.ask.new.examiner.exam c.ask.new.notes}
          c.index-commands-index.result before.asks (c.is_held_back.ensures.wanted c.if-is_held_back.false)
          c.in_ok-ask.ensures.asked);
      check = with_another c.args.examiner.now c.loop-index.examiner c.ask.new.examiner before.check
          c.ask.ensures.check;
    }
