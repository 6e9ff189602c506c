-- The handle may go to another thread, as the reader in its memory may.
use denote.Param.Send.{IsSend, owning_send}
use Rattle.vintsaky_calls.specs.contracts.lines.Lines.{the_row as T}
use Rattle.vintsaky.specs.contracts.lines.LinesHandle.{the_row, the_type}
use Rattle.vintsaky.proofs.Sends.{pointer_send, lies_keyless, exits_quietly}
use Rattle.vintsaky.proofs.Sent.{lines}

pub send : IsSend the_row
send = owning_send the_type (pointer_send, tt) (λ h. lies_keyless T lines h.at h.value) (exits_quietly the_type (pointer_send, tt))
