use Rattle.std.proofs.Common.{◌∙◌, length, None, sym, subst}
use Rattle.gtp_match.specs.Reporting.{HearsOnce}
use Rattle.gtp_match.specs.declared.controller.Controller.{Controller}
use Rattle.gtp_match.proofs.soundness.Heard.{hears_sound, may_hear, none_of}
use Rattle.gtp_match.proofs.hearing.Exactly.{wider, uses_one}
use Rattle.gtp_match.proofs.reporting.Exact.{once_exact}
use Rattle.gtp_match.proofs.reporting.Once.{adds_nothing, over_once}
use Rattle.gtp_match.proofs.matches.Match.hear_once.Goals as goal

pub hear-requires-clause-may : goal.hear-requires-clause-may
hear-requires-clause-may c =
    may_hear c.self.inside.state c.args.side c.self.invariant
    (none_of c.self.inside.state.verdict (sym c.is_some.ensures ∙ c.if-is_some.false))

pub invariant_of-self : goal.invariant_of-self
invariant_of-self c =
    hears_sound c.self.inside.state c.args.side c.args.bytes.now c.hear.result.used c.hear.result.fault
    c.hear.new.self c.self.invariant
    (wider c.self.inside.state c.args.side c.args.bytes.now c.hear.result.used c.hear.result.fault c.hear.new.self
    (once_exact _ _ _ _ _ _ _ _ c.hear.ensures.heard.hears))

pub returns-then-is_some-clause-heard : goal.returns-then-is_some-clause-heard
returns-then-is_some-clause-heard c =
    rw c.unbroken.ensures
    (adds_nothing _ _ _ _ _ _
    (subst (λ (x : Controller). HearsOnce x c.args.side c.args.bytes.now (length c.args.bytes.now) None None None x)
    c.self.view_is
    (over_once c.self.inside.state c.args.side c.args.bytes.now (sym c.is_some.ensures ∙ c.if-is_some.true))))

pub returns-clause-progress : goal.returns-clause-progress
returns-clause-progress c some =
    uses_one c.self.inside.state c.args.side c.args.bytes.now c.hear.result.used c.hear.result.fault c.hear.new.self
    c.self.invariant (once_exact _ _ _ _ _ _ _ _ c.hear.ensures.heard.hears) some
