use Rattle.std.proofs.Common.{rules}
use Rattle.gtp_session.proofs.answers.play.Goals as goal

pub returns-in-Err : goal.returns-in-Err
returns-in-Err c = λ choice. rw (← c.in-Some.ensures, ← c.in-Some-vertex_argument.ensures) (search rules)
