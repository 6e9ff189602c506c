-- The handle may go to another thread, as the match in its memory may.
use denote.Param.Send.{IsSend, owning_send}
use Rattle.gtp_match.specs.contracts.referee.refereed.RefereedMatch.{the_row as T}
use Rattle.vintsaky.specs.contracts.matches.MatchHandle.{the_row, the_type}
use Rattle.vintsaky.proofs.Sends.{pointer_send, lies_keyless, exits_quietly}
use Rattle.vintsaky.proofs.Sent.{refereed}

pub send : IsSend the_row
send = owning_send the_type (pointer_send, tt) (λ h. lies_keyless T refereed h.at h.value) (exits_quietly the_type (pointer_send, tt))
