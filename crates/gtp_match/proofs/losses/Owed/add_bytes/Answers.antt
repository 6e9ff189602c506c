use Rattle.std.proofs.Common.{◌≡◌, ◌≤◌, ◌-◌, ◌++◌, ◌∙◌, ℕ, List, ap, arith, length, subst, take}
use Rattle.std.proofs.lemmas.List.{take_all, take_min}
use Rattle.gtp_match.specs.declared.losses.Owed.{Owed}
use Rattle.gtp_match.proofs.reporting.Once.{take_joined}
use Rattle.gtp_match.proofs.losses.Owed.add_bytes.Goals as goal

pub returns : goal.returns
returns c =
    let old = c.args.self.now.bytes.items in
    let text = c.args.text.now in
    let few : length old ≤ 80 = omega (arith, c.len-room.ensures.value, c.len-room.ensures.fits) in
    let rest : take c.min.result text ≡ take (80 - length old) text =
    rw c.min.ensures (rw c.len-room.ensures.value (take_min (80 - length old) text)) in
    let joined : old ++ take (80 - length old) text ≡ take 80 (old ++ text) =
    subst (λ (t : List ℕ). t ++ take (80 - length t) text ≡ take 80 (old ++ text)) (take_all 80 old few)
    (take_joined 80 old text) in
    ap (λ (t : List ℕ). let o : Owed = record c.args.self.now { bytes = record { items = t } } in o)
    (c.push.ensures.bytes ∙ ap (λ (t : List ℕ). old ++ t) rest ∙ joined)
