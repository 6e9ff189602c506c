-- Which text is a number of points.
use Rattle.std.specs.Prelude.{◌≡◌, ℕ, ◌+◌, ◌-◌, ◌*◌, ◌^◌, ◌<◌, ◌≤◌, ◌⊎◌, pos, List, [], ◌++◌, length, codes}
use Rattle.std.specs.Str.Parse.{AllDigits, digits_value}
use Rattle.gtp_check_judge.specs.declared.scores.Score.{Score}
use Rattle.gtp_check_judge.specs.declared.scores.SaidScore.{SaidScore}
use Rattle.gtp_check_judge.specs.declared.scores.SaidScore.TheVariants.{Number, Long}

-- The score of these digits before the point and those after it. Where there are at most nine before it, leading zeros
-- counted, and at most six after it, it is their number in millionths of a point, and what one of the last of them is.
-- Else it is a long one.
pub data IsScoreOf (whole decimals : List ℕ) : SaidScore → Type 0 where
  short : (score : Score) → length whole ≤ 9 → length decimals ≤ 6 → score.unit ≡ 10 ^ (6 - length decimals)
      → score.millionths ≡ pos (1000000 * digits_value 10 whole + score.unit * digits_value 10 decimals)
      → IsScoreOf whole decimals (Number score)
  long : 9 < length whole ⊎ 6 < length decimals → IsScoreOf whole decimals Long

-- what follows the digits before the point: nothing, or a point and these digits
pub data FollowsDigits : List ℕ → List ℕ → Type 0 where
  nothing : FollowsDigits [] []
  point : (decimals : List ℕ) → FollowsDigits (codes "." ++ decimals) decimals

-- The text is a decimal number of points without a sign and without an exponent: digits, and a point and digits or none;
-- at least one digit in all.
pub record SpellsPlainPoints (said : SaidScore) (text : List ℕ) : Type 0 where
  pub whole : List ℕ
  pub rest : List ℕ
  pub decimals : List ℕ
  pub shape : text ≡ whole ++ rest
  pub follows : FollowsDigits rest decimals
  pub digits_before : AllDigits 10 whole
  pub digits_after : AllDigits 10 decimals
  pub some_digit : 0 < length whole + length decimals
  pub value : IsScoreOf whole decimals said

-- the letter of an exponent
pub data MarksExponent : List ℕ → Type 0 where
  small : MarksExponent (codes "e")
  capital : MarksExponent (codes "E")

-- a sign, or none
pub data MayBeSign : List ℕ → Type 0 where
  none : MayBeSign []
  plus : MayBeSign (codes "+")
  minus : MayBeSign (codes "-")

-- an exponent: its letter, a sign or none, and digits, one at least
pub record IsExponent (text : List ℕ) : Type 0 where
  pub letter : List ℕ
  pub sign : List ℕ
  pub digits : List ℕ
  pub shape : text ≡ letter ++ (sign ++ digits)
  pub marks : MarksExponent letter
  pub signed : MayBeSign sign
  pub are_digits : AllDigits 10 digits
  pub some_digit : 0 < length digits

-- What a number says that this follows: it itself where that is nothing, and a long one where it is an exponent, of any
-- value. So none with an exponent is compared.
pub data SaysWith (plain : SaidScore) : List ℕ → SaidScore → Type 0 where
  no_exponent : SaysWith plain [] plain
  exponent : (text : List ℕ) → IsExponent text → SaysWith plain text Long

-- the text is a number of points without a sign before it, and an exponent or none
pub record SpellsPoints (said : SaidScore) (text : List ℕ) : Type 0 where
  pub number : List ℕ
  pub exponent : List ℕ
  pub shape : text ≡ number ++ exponent
  pub plain : SaidScore
  pub spelled : SpellsPlainPoints plain number
  pub value : SaysWith plain exponent said
