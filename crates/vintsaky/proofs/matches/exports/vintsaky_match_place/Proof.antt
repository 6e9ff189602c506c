-- `vintsaky_match_place` meets its contract: a match is placed.
use Rattle.gtp_match.specs.contracts.referee.refereed.RefereedMatch.{the_row}
use Rattle.gtp_match.proofs.referee.refereed.RefereedMatch.TheLaws.{the_row_laws}
use Rattle.vintsaky.specs.Fresh.{fresh_match}
use Rattle.vintsaky.specs.declared.matches.MatchHandle.{MatchHandle}
use Rattle.vintsaky.specs.contracts.matches.MatchHandle.{the_type, the_codes}
use Rattle.vintsaky.specs.contracts.matches.exports.vintsaky_match_place as f
use Rattle.vintsaky.proofs.Handles.{places}
use Rattle.vintsaky.proofs.Steps.{refl}
use Rattle.vintsaky.proofs.matches.exports.fresh_match.Met.{met}
use Rattle.vintsaky.proofs.matches.exports.vintsaky_match_place.Code as code
use Rattle.vintsaky.proofs.matches.exports.vintsaky_match_place.Statement.{statement}

pub vintsaky_match_place_spec : {M : Type 1} → statement M
vintsaky_match_place_spec 𝓤 𝓛 𝓜 𝓡 wired =
    places the_type.name the_row _ MatchHandle (λ h. h.at) (λ h. h.value) (λ p v. record { at = p; value = v })
    (λ d. refl) (λ p v. refl) (λ p v. refl) (λ v g. refl) the_codes 𝓤 𝓛 𝓜 𝓡 (the_row_laws.lawful 𝓛) fresh_match
    _ f.Key.name (met 𝓤 𝓛 𝓜 𝓡 (code.calls-vintsaky::matches::exports::fresh_match 𝓡.env wired))
    (code.unfolded 𝓤 𝓛.H 𝓜 𝓡 wired)
