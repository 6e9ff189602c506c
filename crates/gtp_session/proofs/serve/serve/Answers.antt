use Rattle.std.proofs.Common.{rules, ◌≡◌, ◌≢◌, arith, refl, sym, ◌∙◌, true, false, Err}
use Rattle.byte_streams.proofs.CallCounts.{raised-none}
use Rattle.gtp_session.specs.Serving.{CameOut}
use Rattle.gtp_session.specs.declared.fault.Fault.TheVariants.{Off}
use Rattle.gtp_session.specs.declared.serve.ServeFault.TheVariants.{TooManyReads}
use Rattle.gtp_session.proofs.serving.Conversation.{GivesAtLeast-nothing, Conversation-nothing}
use Rattle.gtp_session.proofs.faults.UnderFaults.{FaultyConversation-nothing}
use Rattle.gtp_session.proofs.serving.Outcomes.{WentOn-more, came_out_after, came_out_all}
use Rattle.gtp_session.proofs.serve.serve.Goals as goal

pub loop-turn-init : goal.loop-turn-init
loop-turn-init g c =
    record {
      conversation = Conversation-nothing g.P.Policy.may c.args.session.now _ _ c.ended.ensures.unread;
      is_open = search rules;
      read = record { reads = sym (raised-none _); ends = refl; failures = refl };
      gave = GivesAtLeast-nothing _;
      well = record { held = refl; flushed = λ h. h };
    }

pub loop-turn-preserved : goal.loop-turn-preserved
loop-turn-preserved g c =
    let more : c.serve_within-answer.result ≡ Err TooManyReads = search rules in
    WentOn-more g.P.Policy.may c.loop-turn.invariant (rw more at c.serve_within-answer.ensures.came_out)

pub returns-then-ended-clause-came_out : goal.returns-then-ended-clause-came_out
returns-then-ended-clause-came_out g c =
    CameOut.quit 0 0 (omega arith) (record { reads = sym (raised-none _); ends = refl; failures = refl })
    (record { held = refl; flushed = λ h. h })
    (FaultyConversation-nothing g.P.Policy.may Off c.args.session.now _ _ c.ended.ensures.unread)
    (sym c.ended.ensures.ended ∙ c.if-ended.true)
    (λ was_open. let e : true ≡ false = sym (sym c.ended.ensures.ended ∙ c.if-ended.true) ∙ was_open in cc)

pub returns-then-ne-clause-came_out : goal.returns-then-ne-clause-came_out
returns-then-ne-clause-came_out g c =
    let last : c.serve_within-answer.result ≢ Err TooManyReads = search rules in
    came_out_after g.P.Policy.may c.loop-turn.invariant (omega arith) c.serve_within-answer.ensures.came_out last

pub returns-clause-came_out : goal.returns-clause-came_out
returns-clause-came_out g c = came_out_all g.P.Policy.may (omega arith) c.loop-turn.invariant
