use Rattle.gtp_check_talk.proofs.Silence.{silent}
use Rattle.gtp_check_talk.proofs.laws.silent_conversations_are_right.Goals as goal

pub returns : goal.returns
returns g c rule process first now converses =
    silent g.P.Process rule process first c.silence_says_all_is_right.ensures now converses
