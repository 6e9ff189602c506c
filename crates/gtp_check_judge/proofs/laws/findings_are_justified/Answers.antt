use Rattle.gtp_check_judge.proofs.talks.Findings.{justified}
use Rattle.gtp_check_judge.proofs.laws.findings_are_justified.Goals as goal

pub returns : goal.returns
returns c rule sent came said old new bytes used read finding talk h =
    justified rule sent came said old new bytes used read finding talk h
