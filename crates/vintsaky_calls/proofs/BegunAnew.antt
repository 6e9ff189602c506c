-- A game that is begun anew has its handicap again.
use Rattle.std.proofs.Common.{◌≡◌, ℕ, [], sym, ap, ◌∙◌, subst, inl, inr}
use Rattle.std.specs.Prelude.{◌⊎◌, Result, Ok, Err, OnOk, MatchResult}
use Rattle.arrayvec.specs.ArrayVec.{ArrayVec}
use Rattle.go_base.specs.Handicap.{AllowsHandicap}
use Rattle.go_board.specs.Game.{GameRecord}
use Rattle.go_board.specs.Refusals.{IsTouched, RefusesHandicap}
use Rattle.go_board.specs.declared.faults.HandicapFault.{HandicapFault}
use Rattle.go_board.specs.declared.faults.HandicapFault.TheVariants.{NotEmpty, BadNumber}
use Rattle.gtp_match.proofs.scripts.Opening.{untouched}

pub placed_again : (old cleared new : GameRecord) (stones : ℕ) (r : Result (ArrayVec ℕ) HandicapFault)
    → (old.handicap ≡ 0) ⊎ AllowsHandicap old.size old.handicap → stones ≡ old.handicap → (stones ≡ 0 → ⊥)
    → cleared ≡ record old { handicap = 0; moves = [] } → OnOk r (new ≡ record cleared { handicap = stones })
    → MatchResult r (λ _. (¬ IsTouched cleared) × AllowsHandicap cleared.size stones) (RefusesHandicap cleared stones)
    → new ≡ record old { moves = [] }
placed_again old cleared new stones (Ok points) allowed is some empty placed answer =
    placed ∙ ap (λ (g : GameRecord). record g { handicap = stones }) empty
    ∙ ap (λ (n : ℕ). record old { handicap = n; moves = [] }) is
placed_again old cleared new stones (Err NotEmpty) allowed is some empty placed answer =
    absurd (untouched old.size old.komi old.rule (subst IsTouched empty answer))
placed_again old cleared new stones (Err BadNumber) (inl none) is some empty placed answer = absurd (some (is ∙ none))
placed_again old cleared new stones (Err BadNumber) (inr allowed) is some empty placed answer =
    absurd (answer.1 (subst (λ (g : GameRecord). AllowsHandicap g.size stones) (sym empty)
    (subst (λ (n : ℕ). AllowsHandicap old.size n) (sym is) allowed)))
