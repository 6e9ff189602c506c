-- The last command of a conversation.
use Rattle.std.proofs.Common.{◌≡◌, ◌∙◌, ◌++◌, ◌∷◌, ◌+◌, ◌-◌, ◌==◌, ℕ, List, [], Bool, Option, None, Some, ap, arith, get_or}
use Rattle.std.proofs.Common.{if◌then◌else◌, length, slice_get, sym, take}
use Rattle.std.specs.Prelude.{option_and_then}
use Rattle.std.proofs.Math.Seq.{get_or-append_seam, take-append_seam}
use Rattle.std.proofs.lemmas.Option.{slice_get-get_or}
use Rattle.go_board.specs.Game.{GameRecord, fresh_game_under}
use Rattle.go_board.specs.declared.rules.KoRule.{KoRule}
use Rattle.gtp_check_talk.specs.declared.said.Said.{Said}
use Rattle.gtp_check_shortening.specs.Superko.{after_all, game_before, on_size}

last_at : (talk before : List Said) (last : Said) → talk ≡ before ++ last ∷ [] → length before + 1 ≡ length talk
    → slice_get talk (length talk - 1) ≡ Some last
last_at talk before last is count =
    slice_get-get_or talk (length talk - 1) last (omega (arith, count))
    ∙ ap (λ (one : Said). Some one)
    (ap (λ (n : ℕ). get_or talk n last) (omega (arith, count))
    ∙ ap (λ (all : List Said). get_or all (length before) last) is
    ∙ get_or-append_seam before last [] last)

front_of : (talk before : List Said) (last : Said) → talk ≡ before ++ last ∷ [] → length before + 1 ≡ length talk
    → take (length talk - 1) talk ≡ before
front_of talk before last is count =
    ap (λ (n : ℕ). take n talk) (omega (arith, count))
    ∙ ap (λ (all : List Said). take (length before) all) is
    ∙ take-append_seam before (last ∷ [])

-- the game in which the last command was asked
pub game_at_end : (rule : KoRule) (talk before : List Said) (last : Said) (known : Option GameRecord) (game : GameRecord)
    (same : Bool) → talk ≡ before ++ last ∷ [] → length before + 1 ≡ length talk
    → known ≡ after_all (fresh_game_under rule) before → known ≡ Some game → same ≡ (game.size == last.size)
    → (if same then Some game else None) ≡ game_before rule talk
game_at_end rule talk before last known game same is count after some equal =
    sym (ap (λ (one : Option Said). option_and_then
    (λ ending. option_and_then (λ one. on_size ending.size one)
    (after_all (fresh_game_under rule) (take (length talk - 1) talk))) one)
    (last_at talk before last is count)
    ∙ ap (λ (part : List Said). option_and_then (λ one. on_size last.size one)
    (after_all (fresh_game_under rule) part)) (front_of talk before last is count)
    ∙ ap (λ (one : Option GameRecord). option_and_then (λ one. on_size last.size one) one) (sym after ∙ some)
    ∙ ap (λ (b : Bool). if b then Some game else None) (sym equal))
