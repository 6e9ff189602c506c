use Rattle.gtp_check_judge.proofs.talks.Silence.{right_so_far}
use Rattle.gtp_check_judge.proofs.laws.silence_says_all_is_right.Goals as goal

pub returns : goal.returns
returns c rule sent came said exam talk = right_so_far rule sent came said exam talk
