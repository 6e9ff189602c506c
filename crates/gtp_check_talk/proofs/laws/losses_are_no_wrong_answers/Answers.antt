use Rattle.gtp_check_talk.proofs.Silence.{lost}
use Rattle.gtp_check_talk.proofs.laws.losses_are_no_wrong_answers.Goals as goal

pub returns : goal.returns
returns g c rule process first cause after ends =
    lost g.P.Process rule process first c.silence_says_all_is_right.ensures cause after ends
