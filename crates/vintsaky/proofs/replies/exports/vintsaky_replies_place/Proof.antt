-- `vintsaky_replies_place` meets its contract: a reader of replies is placed.
use Rattle.vintsaky_calls.specs.contracts.replies.Replies.{the_row}
use Rattle.vintsaky_calls.proofs.replies.Replies.TheLaws.{the_row_laws}
use Rattle.vintsaky_calls.proofs.replies.Replies.new.Met.{met}
use Rattle.vintsaky_calls.specs.Replies.{fresh_replies}
use Rattle.vintsaky.specs.declared.replies.RepliesHandle.{RepliesHandle}
use Rattle.vintsaky.specs.contracts.replies.RepliesHandle.{the_type, the_codes}
use Rattle.vintsaky.specs.contracts.replies.exports.vintsaky_replies_place as f
use Rattle.vintsaky.proofs.Handles.{places}
use Rattle.vintsaky.proofs.Steps.{refl}
use Rattle.vintsaky.proofs.replies.exports.vintsaky_replies_place.Code as code
use Rattle.vintsaky.proofs.replies.exports.vintsaky_replies_place.Statement.{statement}

pub vintsaky_replies_place_spec : {M : Type 1} → statement M
vintsaky_replies_place_spec 𝓤 𝓛 𝓜 𝓡 wired =
    places the_type.name the_row _ RepliesHandle (λ h. h.at) (λ h. h.value) (λ p v. record { at = p; value = v })
    (λ d. refl) (λ p v. refl) (λ p v. refl) (λ v g. refl) the_codes 𝓤 𝓛 𝓜 𝓡 (the_row_laws.lawful 𝓛) fresh_replies
    _ f.Key.name (met 𝓤 𝓛 𝓜 𝓡 (code.calls-vintsaky_calls::replies::Replies::new 𝓡.env wired))
    (code.unfolded 𝓤 𝓛.H 𝓜 𝓡 wired)
