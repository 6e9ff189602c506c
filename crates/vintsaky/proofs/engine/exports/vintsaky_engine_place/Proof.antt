-- `vintsaky_engine_place` meets its contract: an engine is placed.
use Rattle.gtp_session.specs.contracts.steps.Steps.{the_row}
use Rattle.gtp_session.proofs.steps.Steps.TheLaws.{the_row_laws}
use Rattle.vintsaky.specs.Fresh.{fresh_engine}
use Rattle.vintsaky.specs.declared.engine.EngineHandle.{EngineHandle}
use Rattle.vintsaky.specs.contracts.engine.EngineHandle.{the_type, the_codes}
use Rattle.vintsaky.specs.contracts.engine.exports.vintsaky_engine_place as f
use Rattle.vintsaky.proofs.Handles.{places}
use Rattle.vintsaky.proofs.Steps.{refl}
use Rattle.vintsaky.proofs.engine.exports.fresh_engine.Met.{met}
use Rattle.vintsaky.proofs.engine.exports.vintsaky_engine_place.Code as code
use Rattle.vintsaky.proofs.engine.exports.vintsaky_engine_place.Statement.{statement}

pub vintsaky_engine_place_spec : {M : Type 1} → statement M
vintsaky_engine_place_spec 𝓤 𝓛 𝓜 𝓡 wired =
    places the_type.name the_row _ EngineHandle (λ h. h.at) (λ h. h.value) (λ p v. record { at = p; value = v })
    (λ d. refl) (λ p v. refl) (λ p v. refl) (λ v g. refl) the_codes 𝓤 𝓛 𝓜 𝓡 (the_row_laws.lawful 𝓛) fresh_engine
    _ f.Key.name (met 𝓤 𝓛 𝓜 𝓡 (code.calls-vintsaky::engine::exports::fresh_engine 𝓡.env wired))
    (code.unfolded 𝓤 𝓛.H 𝓜 𝓡 wired)
