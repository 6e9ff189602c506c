use Rattle.gtp_check_talk.proofs.Talks.{found_in}
use Rattle.gtp_check_talk.proofs.laws.complaints_are_justified.Goals as goal

pub returns : goal.returns
returns g c rule process first kind after ends =
    found_in g.P.Process rule process first c.findings_are_justified.ensures kind after ends
