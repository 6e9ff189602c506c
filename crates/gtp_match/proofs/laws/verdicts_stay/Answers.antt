use Rattle.gtp_match.proofs.endings.GivenOnce.{verdicts_stay, once_stays, all_stay}
use Rattle.gtp_match.proofs.laws.verdicts_stay.Goals as goal

pub returns : goal.returns
returns ctx = record {
  over = λ c last calls v. verdicts_stay calls c last v;
  once = once_stays;
  all = λ c new s. all_stay s c new;
}
