-- `vintsaky_lines_place` meets its contract: a reader of command lines is placed.
use Rattle.vintsaky_calls.specs.contracts.lines.Lines.{the_row}
use Rattle.vintsaky_calls.proofs.lines.Lines.TheLaws.{the_row_laws}
use Rattle.vintsaky_calls.proofs.lines.Lines.new.Met.{met}
use Rattle.vintsaky_calls.specs.Lines.{fresh_lines}
use Rattle.vintsaky.specs.declared.lines.LinesHandle.{LinesHandle}
use Rattle.vintsaky.specs.contracts.lines.LinesHandle.{the_type, the_codes}
use Rattle.vintsaky.specs.contracts.lines.exports.vintsaky_lines_place as f
use Rattle.vintsaky.proofs.Handles.{places}
use Rattle.vintsaky.proofs.Steps.{refl}
use Rattle.vintsaky.proofs.lines.exports.vintsaky_lines_place.Code as code
use Rattle.vintsaky.proofs.lines.exports.vintsaky_lines_place.Statement.{statement}

pub vintsaky_lines_place_spec : {M : Type 1} → statement M
vintsaky_lines_place_spec 𝓤 𝓛 𝓜 𝓡 wired =
    places the_type.name the_row _ LinesHandle (λ h. h.at) (λ h. h.value) (λ p v. record { at = p; value = v })
    (λ d. refl) (λ p v. refl) (λ p v. refl) (λ v g. refl) the_codes 𝓤 𝓛 𝓜 𝓡 (the_row_laws.lawful 𝓛) fresh_lines
    _ f.Key.name (met 𝓤 𝓛 𝓜 𝓡 (code.calls-vintsaky_calls::lines::Lines::new 𝓡.env wired))
    (code.unfolded 𝓤 𝓛.H 𝓜 𝓡 wired)
