-- `vintsaky_game_place` meets its contract: a game is placed.
use Rattle.go_board.specs.contracts.game.Game.{the_row}
use Rattle.go_board.proofs.game.Game.TheLaws.{the_row_laws}
use Rattle.vintsaky.specs.Fresh.{fresh_game}
use Rattle.vintsaky.specs.declared.game.GameHandle.{GameHandle}
use Rattle.vintsaky.specs.contracts.game.GameHandle.{the_type, the_codes}
use Rattle.vintsaky.specs.contracts.game.exports.vintsaky_game_place as f
use Rattle.vintsaky.proofs.Handles.{places}
use Rattle.vintsaky.proofs.Steps.{refl}
use Rattle.vintsaky.proofs.game.exports.fresh_game.Met.{met}
use Rattle.vintsaky.proofs.game.exports.vintsaky_game_place.Code as code
use Rattle.vintsaky.proofs.game.exports.vintsaky_game_place.Statement.{statement}

pub vintsaky_game_place_spec : {M : Type 1} → statement M
vintsaky_game_place_spec 𝓤 𝓛 𝓜 𝓡 wired =
    places the_type.name the_row _ GameHandle (λ h. h.at) (λ h. h.value) (λ p v. record { at = p; value = v })
    (λ d. refl) (λ p v. refl) (λ p v. refl) (λ v g. refl) the_codes 𝓤 𝓛 𝓜 𝓡 (the_row_laws.lawful 𝓛) fresh_game
    _ f.Key.name (met 𝓤 𝓛 𝓜 𝓡 (code.calls-vintsaky::game::exports::fresh_game 𝓡.env wired))
    (code.unfolded 𝓤 𝓛.H 𝓜 𝓡 wired)
