use Rattle.std.proofs.Common.{◌∷◌, [], ◌++◌, ◌∙◌, ℕ, List, ap, codes}
use Rattle.std.specs.Fmt.{decimal}
use Rattle.std.proofs.lemmas.List.{append_assoc}
use Rattle.go_base.specs.Bytes.{newline}
use Rattle.twogtp_app.specs.Why.{line_head, owed_text, retake_text, wrote_text}
use Rattle.gtp_process.proofs.streams.ShownBytes.{joined-5}
use Rattle.twogtp_app.proofs.why_text.retake_line.Goals as goal

pub returns : goal.returns
returns c =
    let head = line_head c.args.number c.args.side in
    let retake = c.args.retake.now in
    let refused = codes "the play was refused (retake " in
    rw c.push-3.ensures.bytes (rw c.push_wrote.ensures.bytes (rw c.push-2.ensures.bytes (rw c.push_number.ensures.bytes
    (rw c.push.ensures.bytes (rw c.push_owed.ensures.bytes (rw c.begin_line-line.ensures.bytes (rw c.deref.ensures.0
    (ap (λ (l : List ℕ). l ++ newline ∷ [])
    (joined-5 head (owed_text retake.owed) refused (decimal retake.count) (codes " of 3)")
    (wrote_text retake.owed.bytes.items))
    ∙ append_assoc head (retake_text retake) (newline ∷ [])))))))))
