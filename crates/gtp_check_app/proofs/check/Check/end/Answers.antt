use Rattle.gtp_check_app.proofs.Gathering.{where_value}
use Rattle.gtp_check_app.proofs.check.Check.end.Goals as goal

pub returns-clause-text : goal.returns-clause-text
returns-clause-text g c =
    where_value c.last_lines-lines.result c.last_lines-lines.ensures
    (λ text is. record { ending = c.ending.result; is = c.ending.ensures; text_is = is })
