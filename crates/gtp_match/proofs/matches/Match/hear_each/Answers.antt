use Rattle.std.proofs.Common.{◌∙◌, ◌++◌, [], sym, subst, Option, None}
use Rattle.std.specs.Option.{option_to_list}
use Rattle.std.proofs.lemmas.List.{take_rest}
use Rattle.gtp_match.specs.declared.losses.Loss.{Loss}
use Rattle.gtp_match.specs.Reporting.{HearsChunk}
use Rattle.gtp_match.proofs.hearing.Exactly.{none_left, some_left}
use Rattle.gtp_match.proofs.reporting.AllBytes.{chunk_faulty, chunk_more, chunk_is, chunk_end}
use Rattle.gtp_match.proofs.reporting.AllBytes.{first_of_all, first_of_none}
use Rattle.gtp_match.proofs.reporting.AllBytes.{shows_first, loss_shown}
use Rattle.gtp_match.proofs.reporting.RetakeOnce.{reports, none_again, idle_after, listed, listed_end, listed_alone}
use Rattle.gtp_match.proofs.reporting.RetakeOnce.{shows_either, retake_shown}
use Rattle.gtp_match.proofs.matches.Match.hear_each.Goals as goal

pub returns-then-is_some-clause-heard : goal.returns-then-is_some-clause-heard
returns-then-is_some-clause-heard c =
    let r = reports _ _ _ _ _ _ _ _ c.hear_once-used.ensures.heard.hears in
    rw (c.hear_once-used.ensures.heard.retakes, c.hear_once-used.ensures.heard.losses)
    (chunk_is (sym (listed_end c.loop-rest.report.retake _
    (none_again _ _ c.args.side c.loop-rest.report.retake _ r c.loop-rest.invariant.idle)))
    (c.loop-rest.invariant.heard c.hear_once-used.result.fault _ _ c.hear_once-used.new.self
    (chunk_faulty c.args.side c.loop-rest.self c.hear_once-used.new.self c.loop-rest.rest.now
    c.hear_once-used.result.used c.hear_once-used.result.fault _ _ (sym c.is_some.ensures ∙ c.if-is_some.true)
    (some_left c.loop-rest.rest.now (sym c.is_empty.ensures ∙ c.loop-rest-test.true))
    c.hear_once-used.ensures.heard.hears)))

pub returns-then-is_some-clause-loss_shown : goal.returns-then-is_some-clause-loss_shown
returns-then-is_some-clause-loss_shown c =
    rw c.hear_once-used.ensures.heard.losses
    (shows_first c.loop-rest.report.loss _ c.loop-rest.invariant.loss_shown
    (loss_shown _ _ _ _ _ _ _ _ c.hear_once-used.ensures.sound c.hear_once-used.ensures.heard.hears))

pub returns-then-is_some-clause-retake_shown : goal.returns-then-is_some-clause-retake_shown
returns-then-is_some-clause-retake_shown c =
    rw c.hear_once-used.ensures.heard.retakes
    (shows_either c.loop-rest.report.retake _ c.loop-rest.invariant.retake_shown
    (retake_shown _ _ _ _ _ _ _ _ c.hear_once-used.ensures.sound c.hear_once-used.ensures.heard.hears))

pub loop-rest-preserved : goal.loop-rest-preserved
loop-rest-preserved c =
    let r = reports _ _ _ _ _ _ _ _ c.hear_once-used.ensures.heard.hears in
    let more = some_left c.loop-rest.rest.now (sym c.is_empty.ensures ∙ c.loop-rest-test.true) in
    let no_fault = sym c.is_some.ensures ∙ c.if-is_some.false in
    rw (c.hear_once-used.ensures.heard.losses, c.hear_once-used.ensures.heard.retakes) (record {
      heard = λ shown retakes later new is_given.
          rw (first_of_all c.loop-rest.report.loss _ later)
          (chunk_is (sym (listed c.loop-rest.report.retake _ retakes
          (none_again _ _ c.args.side c.loop-rest.report.retake _ r c.loop-rest.invariant.idle)))
          (c.loop-rest.invariant.heard shown _ _ new
          (chunk_more c.args.side c.loop-rest.self c.hear_once-used.new.self new c.loop-rest.rest.now _
          c.hear_once-used.result.used c.hear_once-used.result.fault shown _ _ retakes later no_fault more
          c.hear_once-used.ensures.heard.hears (take_rest c.loop-rest.rest.now c.hear_once-used.result.used) is_given)));
      idle = λ some.
          idle_after _ _ c.args.side c.loop-rest.report.retake _ c.hear_once-used.ensures.sound r
          c.loop-rest.invariant.idle some;
      loss_shown =
          shows_first c.loop-rest.report.loss _ c.loop-rest.invariant.loss_shown
          (loss_shown _ _ _ _ _ _ _ _ c.hear_once-used.ensures.sound c.hear_once-used.ensures.heard.hears);
      retake_shown =
          shows_either c.loop-rest.report.retake _ c.loop-rest.invariant.retake_shown
          (retake_shown _ _ _ _ _ _ _ _ c.hear_once-used.ensures.sound c.hear_once-used.ensures.heard.hears);
    })

pub returns-clause-heard : goal.returns-clause-heard
returns-clause-heard c =
    chunk_is (listed_alone c.loop-rest.report.retake)
    (subst (λ (loss : Option Loss). HearsChunk c.args.side c.args.self.now c.args.bytes.now None
    (option_to_list c.loop-rest.report.retake ++ []) loss c.loop-rest.self)
    (first_of_none c.loop-rest.report.loss)
    (c.loop-rest.invariant.heard None [] None c.loop-rest.self
    (chunk_end c.args.side c.loop-rest.self c.loop-rest.rest.now
    (none_left c.loop-rest.rest.now (sym c.is_empty.ensures ∙ c.loop-rest-test.false)))))
