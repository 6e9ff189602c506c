use Rattle.std.proofs.Common.{sym, ◌∙◌}
use Rattle.gtp_session.proofs.answers.genmove.Goals as goal

pub make_choice-requires-clause-lawful : goal.make_choice-requires-clause-lawful
make_choice-requires-clause-lawful c =
    rw (← c.in-Some.ensures, sym c.is_full.ensures ∙ c.if-is_full.false) at c.requires
