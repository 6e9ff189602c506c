-- Laws of the faults of any text. They are said in the numbers of the bytes, as the standard has them, and in none of
-- the tests and constants of the definitions.
use Rattle.std.specs.Prelude.{◌≡◌, ◌≢◌, ℕ, ◌+◌, ◌<◌, ◌≤◌, ◌⊎◌, List, ◌∷◌, ◌++◌, length, All, Option, Some, Result, Err}
use Rattle.gtp_wire.specs.declared.replies.Reply.{Reply}
use Rattle.gtp_wire.specs.declared.replies.ReplyFault.{ReplyFault}
use Rattle.gtp_wire.specs.declared.replies.ReplyFault.TheVariants.{Overlong, NoStatus}
use Rattle.gtp_wire.specs.Replies.{IsFirst, ReadsFirst, GivesNoAnswer}

-- a control character that is removed: below 32, or 127; but not HT (9) and not LF (10) (the standard, preprocessing)
abbrev pub IsControl : ℕ → Type 0
IsControl b = ((b < 32) ⊎ (b ≡ 127)) × (b ≢ 9) × (b ≢ 10)

-- a byte that is printed, or from 128 on
abbrev pub IsPrinted : ℕ → Type 0
IsPrinted b = (32 ≤ b) × (b ≢ 127)

-- ---- replies (the standard, preprocessing and response structure)

-- what is passed over before a reply: a control character, HT, a newline or a space (own)
abbrev pub IsPassedOver : ℕ → Type 0
IsPassedOver b = IsControl b ⊎ (b ≡ 9) ⊎ (b ≡ 10) ⊎ (b ≡ 32)

-- a byte that begins no reply: printed or from 128 on, and neither a space nor `=` nor `?`
abbrev pub BeginsNone : ℕ → Type 0
BeginsNone b = IsPrinted b × (b ≢ 32) × (b ≢ 61) × (b ≢ 63)

-- `NoStatus` comes at the first byte that begins no reply. `Overlong` comes at byte 8,193 where nothing came before,
-- and nowhere else. (Own.)
pub record FaultsHavePlaces : Type 0 where
  pub no_status : (front : List ℕ) (b : ℕ) (later : List ℕ) → All IsPassedOver front → length front < 8192
      → BeginsNone b → IsFirst (front ++ b ∷ later) (length front + 1) (Err NoStatus)
  pub overlong : (text : List ℕ) (b : ℕ) (later : List ℕ) → length text ≡ 8192 → GivesNoAnswer text
      → IsFirst (text ++ b ∷ later) 8193 (Err Overlong)
  pub place : (text : List ℕ) (count : ℕ) → IsFirst text count (Err Overlong) → count ≡ 8193

-- A fault stays: whatever is read after it, no byte is used, the same fault is returned, and the same is held. (Own.)
abbrev pub FaultsStay : Type 0
FaultsStay = (old piece : List ℕ) (used : ℕ) (fault : ReplyFault) (held : List ℕ)
    (later : List ℕ) (more : ℕ) (got : Option (Result Reply ReplyFault)) (new : List ℕ)
    → ReadsFirst old piece used (Some (Err fault)) held → ReadsFirst held later more got new
    → (more ≡ 0) × (got ≡ Some (Err fault)) × (new ≡ held)
