use Rattle.std.proofs.Common.{◌≡◌, ◌∙◌, List, ℕ, Option, Some, None, arith, refl}
use Rattle.std.specs.Prelude.{MatchOption}
use Rattle.go_base.specs.declared.colours.Colour.{Colour}
use Rattle.gtp_match.specs.declared.controller.Controller.{Controller}
use Rattle.gtp_match.specs.declared.sides.EngineRun.{EngineRun}
use Rattle.gtp_match.specs.Controller.{next_text}
use Rattle.twogtp_app.specs.Speaking.{command_for, none, one_more}
use Rattle.twogtp_app.proofs.streams.SentAhead.{full_waits, one_more_is_sent}
use Rattle.twogtp_app.proofs.next_commands.take_commands.Goals as goal

-- what is sent is the text of the next command
is_command : (c : Controller) (side : Colour) (up : Option EngineRun) (text : List ℕ)
    → MatchOption up ⊥ (λ engine. text ≡ next_text c side engine) → text ≡ command_for c side up
is_command c side None text sent = absurd sent
is_command c side (Some engine) text sent = sent

pub loop-number-init : goal.loop-number-init
loop-number-init c = rw c.new-text.ensures (none, omega arith, omega arith)

pub push-requires : goal.push-requires
push-requires c = let so_far = c.loop-number.invariant.1 in omega (arith, so_far)

pub loop-number-preserved : goal.loop-number-preserved
loop-number-preserved c =
    let game = c.loop-number.game in
    let so_far = c.loop-number.invariant.1 in
    let unanswered = c.loop-number.invariant.2 in
    let next = c.if-not-is_to_send.ensures.yes refl in
    let more = one_more_is_sent game c.args.side c.if-not-is_to_send.ensures.sound next in
    let text = c.deref.ensures.0 ∙ is_command game c.args.side _ _ c.send.ensures.text in (
      rw (c.push.ensures.bytes, text, c.send.ensures.sent) (one_more c.loop-number.invariant.0 next),
      omega (arith, c.push.ensures.len, so_far),
      rw c.send.ensures.sent (omega (arith, unanswered, more)),
    )

pub returns-then-not-is_to_send : goal.returns-then-not-is_to_send
returns-then-not-is_to_send c = record {
  number = c.loop-number._number;
  takes = c.loop-number.invariant.0;
  all = c.if-not-is_to_send.ensures.no refl;
}

pub returns : goal.returns
returns c =
    let taken = c.loop-number.invariant.2 in
    record {
      number = c.loop-number._number;
      takes = c.loop-number.invariant.0;
      all = full_waits c.loop-number.game c.args.side (omega (arith, taken));
    }
