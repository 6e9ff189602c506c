-- Rulings: that a side loses a match, for time or for a reason.
use Rattle.std.specs.Prelude.{◌≡◌, ℕ, ◌≤◌, ◌==◌, ◌&&◌, ◌||◌, Bool, true, false, nat_le, List, [], ◌∷◌, length}
use Rattle.std.specs.Prelude.{Option, Some, None}
use Rattle.std.specs.List.{list_all, list_any}
use Rattle.std.specs.Str.{bytes_eq}
use Rattle.go_base.specs.Bytes.{space}
use Rattle.gtp_match.specs.ResultLine.{cause_text}
use Rattle.gtp_match.specs.declared.verdicts.ForfeitCause.{ForfeitCause}
use Rattle.gtp_match.specs.declared.verdicts.ForfeitCause.TheVariants.{RefusedPlay, NoMove, NoVertex, IllegalMove}
use Rattle.gtp_match.specs.declared.referee.rulings.Ruled.{Ruled}
use Rattle.gtp_match.specs.declared.referee.rulings.Ruling.{Ruling}
use Rattle.gtp_match.specs.declared.referee.rulings.Ruling.TheVariants.{Time, Reason}

-- the most bytes of a reason
abbrev pub most_reason : ℕ
most_reason = 20

-- a letter from `a` to `z` or from `A` to `Z`, or a space
abbrev pub is_reason_byte : ℕ → Bool
is_reason_byte b = b == space || ((nat_le 97 b && nat_le b 122) || (nat_le 65 b && nat_le b 90))

-- the causes for which a match itself lets a side forfeit
abbrev pub forfeit_causes : List ForfeitCause
forfeit_causes = RefusedPlay ∷ NoMove ∷ NoVertex ∷ IllegalMove ∷ []

-- whether the text is what the line of a match has for one of them
abbrev pub is_forfeit_text : List ℕ → Bool
is_forfeit_text text = list_any (λ cause. bytes_eq text (cause_text cause)) forfeit_causes

-- A text that may be the reason of a ruling: 1 to 20 letters and spaces, which are no cause of a forfeit.
pub record IsReason (text : List ℕ) : Type 0 where
  pub some : 1 ≤ length text
  pub few : length text ≤ most_reason
  pub bytes : list_all is_reason_byte text ≡ true
  pub no_forfeit : is_forfeit_text text ≡ false

-- for what the text lets a side lose: an empty one for time, and any other for itself as the reason
abbrev pub Rules : List ℕ → Ruling → Type 0
Rules text Time = text ≡ []
Rules text (Reason kept) = IsReason text × (kept.items ≡ text)

-- the reason of a ruling: an empty text for time
abbrev pub reason_in : Ruling → List ℕ
reason_in Time = []
reason_in (Reason kept) = kept.items

abbrev pub IsRuling : Ruling → Type 0
IsRuling ruling = Rules (reason_in ruling) ruling

-- the reason of a ruling, if there is one: else an empty text
abbrev pub reason_of : Option Ruled → List ℕ
reason_of None = []
reason_of (Some given) = reason_in given.ruling
