use Rattle.gtp_session.proofs.serving.Outcomes.{WentOn}
use Rattle.gtp_session.proofs.serve.serve.Given as goal

abbrev pub invariant-loop-turn : goal.invariant-loop-turn
invariant-loop-turn g l =
    WentOn g.P.Policy.may l._turn l.fn.session l.session
    (g.R.Incoming.shown l.fn.reader) (g.R.Incoming.shown l.reader)
    (g.W.Outgoing.shown l.fn.writer) (g.W.Outgoing.shown l.writer)
