use Rattle.std.proofs.Common.{◌++◌, ◌∙◌, sym, ap, List, ℕ}
use Rattle.gtp_session.specs.Engine.{output_of}
use Rattle.gtp_session.proofs.engines.Replying.{Replies-then}
use Rattle.gtp_session.proofs.serving.Conversation.{output_of-append}
use Rattle.gtp_session.proofs.laws.texts_join.Goals as goal

pub returns-clause-replies : goal.returns-clause-replies
returns-clause-replies g c a b d text next replies more p q = Replies-then g.P.Policy.may p q

pub returns-clause-outputs : goal.returns-clause-outputs
returns-clause-outputs g c a b d text next out more p q = (
  p.0 ++ q.0,
  Replies-then g.P.Policy.may p.1 q.1,
  ap (λ (t : List ℕ). t ++ more) p.2 ∙ ap (λ (t : List ℕ). output_of p.0 ++ t) q.2 ∙ sym (output_of-append p.0 q.0),
)
