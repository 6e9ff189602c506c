-- `get_mut` meets its contract: a match is borrowed.
use Rattle.gtp_match.specs.contracts.referee.refereed.RefereedMatch.{the_row}
use Rattle.vintsaky.specs.declared.matches.MatchHandle.{MatchHandle}
use Rattle.vintsaky.specs.contracts.matches.MatchHandle.{the_type, the_codes}
use Rattle.vintsaky.specs.contracts.matches.MatchHandle.get_mut as f
use Rattle.vintsaky.proofs.Handles.{borrows}
use Rattle.vintsaky.proofs.Steps.{refl}
use Rattle.vintsaky.proofs.matches.MatchHandle.get_mut.Code as code
use Rattle.vintsaky.proofs.matches.MatchHandle.get_mut.Statement.{statement}

pub get_mut_spec : {M : Type 1} → statement M
get_mut_spec 𝓤 𝓛 𝓜 𝓡 wired =
    borrows the_type.name the_row _ MatchHandle (λ h. h.at) (λ h. h.value) (λ p v. record { at = p; value = v })
    (λ d. refl) (λ p v. refl) (λ p v. refl) (λ v g. refl) the_codes 𝓤 𝓛 𝓜 𝓡 f.Key.name _ _ _
    (code.unfolded 𝓤 𝓛.H 𝓜 𝓡 wired)
