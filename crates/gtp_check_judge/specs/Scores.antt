-- What is answered to a `final_score`, as a number, positive where Black leads. (The standard's topic final_score has
-- `B+` or `W+` and the points, or `0`. How it writes a float isn't said: C's and C++'s functions may end one with an
-- exponent.)
use Rattle.std.specs.Prelude.{ℕ, ◌+◌, ◌-◌, ◌*◌, ◌^◌, ◌≤◌, ◌==◌, ◌&&◌, ◌||◌, nat_le, nat_lt, Bool, pos, neg_ℤ}
use Rattle.std.specs.Prelude.{unsigned_abs, List, [], ◌∷◌, length, not, Option, None, Some, if◌then◌else◌}
use Rattle.std.specs.Char.{is_ascii_digit}
use Rattle.std.specs.List.{list_all}
use Rattle.std.specs.Str.Parse.{digits_value}
use Rattle.go_base.specs.Bytes.{plus_sign, minus_sign, decimal_point, digit_0}
use Rattle.go_base.specs.Komi.{decimals_of}
use Rattle.go_base.specs.Text.{front_while, skip_while}
use Rattle.gtp_wire.specs.Words.{reply_words}
use Rattle.gtp_check_judge.specs.declared.scores.SaidScore.{SaidScore}
use Rattle.gtp_check_judge.specs.declared.scores.SaidScore.TheVariants.{Number, Long}

-- `B` and `W`
abbrev pub letter_b : ℕ
letter_b = 66

abbrev pub letter_w : ℕ
letter_w = 87

-- what one of the last of so many digits after the point is, in millionths of a point
abbrev pub unit_of : ℕ → ℕ
unit_of digits = 10 ^ (6 - digits)

-- The score that the digits before the point and those after it are. It is a number where there are at most nine before
-- it, leading zeros counted, and at most six after it. Else it is a long one, which is compared with nothing.
abbrev pub score_of_digits : List ℕ → List ℕ → SaidScore
score_of_digits whole decimals =
    if nat_le (length whole) 9 && nat_le (length decimals) 6
    then Number (record {
      millionths = pos (1000000 * digits_value 10 whole + unit_of (length decimals) * digits_value 10 decimals);
      unit = unit_of (length decimals);
    })
    else Long

-- the score of a whole part and the digits after the point, where there is a digit
abbrev pub score_where : List ℕ → Option (List ℕ) → Option SaidScore
score_where whole None = None
score_where whole (Some decimals) =
    if list_all is_ascii_digit decimals && nat_lt 0 (length whole + length decimals)
    then Some (score_of_digits whole decimals)
    else None

-- the score of a text that has no sign and no exponent: digits, and a point and digits or none
abbrev pub plain_points_of : List ℕ → Option SaidScore
plain_points_of text = score_where (front_while is_ascii_digit text) (decimals_of (skip_while is_ascii_digit text))

-- ---- exponents

-- it isn't the letter of an exponent, `e` or `E`
abbrev pub is_before_exponent : ℕ → Bool
is_before_exponent byte = not (byte == 101 || byte == 69)

-- what is before an exponent, or all of a text without one
abbrev pub before_exponent : List ℕ → List ℕ
before_exponent text = front_while is_before_exponent text

-- what follows the sign of an exponent, which may have none
abbrev pub after_sign : List ℕ → List ℕ
after_sign [] = []
after_sign (byte ∷ digits) = if byte == plus_sign || byte == minus_sign then digits else byte ∷ digits

-- digits, one at least
abbrev pub are_some_digits : List ℕ → Bool
are_some_digits text = list_all is_ascii_digit text && nat_lt 0 (length text)

-- The score of a number with what follows it: nothing, or the letter of an exponent, a sign or none, and digits. The
-- exponent isn't read: such a number is a long one, whatever it is, and so it is compared with nothing.
abbrev pub with_exponent : SaidScore → List ℕ → Option SaidScore
with_exponent said [] = Some said
with_exponent said (letter ∷ exponent) = if are_some_digits (after_sign exponent) then Some Long else None

abbrev pub with_exponent_where : Option SaidScore → List ℕ → Option SaidScore
with_exponent_where None exponent = None
with_exponent_where (Some said) exponent = with_exponent said exponent

-- ---- words

-- the score of a text that has no sign before it: digits, a point and digits or none, and an exponent or none
abbrev pub points_of : List ℕ → Option SaidScore
points_of text = with_exponent_where (plain_points_of (before_exponent text)) (skip_while is_before_exponent text)

-- the points after a letter and a plus
abbrev pub lead_of : List ℕ → Option SaidScore
lead_of [] = None
lead_of (b ∷ points) = if b == plus_sign then points_of points else None

-- White leads by it
abbrev pub negative : SaidScore → SaidScore
negative (Number score) = Number (record { millionths = neg_ℤ score.millionths; unit = score.unit })
negative Long = Long

abbrev pub negated : Option SaidScore → Option SaidScore
negated None = None
negated (Some said) = Some (negative said)

-- it has no digit but zeros
abbrev pub are_only_zeros : List ℕ → Bool
are_only_zeros text = list_all (λ b. b == digit_0 || b == decimal_point) text

-- Without a letter only a zero is a score. It is one whatever its exponent, as `0e0` or C's `0.000000e+00`.
abbrev pub zero_of : List ℕ → Option SaidScore
zero_of text = if are_only_zeros (before_exponent text) then points_of text else None

-- the score that a word is, where it is one: `B+` and points, `W+` and points, or a zero
abbrev pub score_of_word : List ℕ → Option SaidScore
score_of_word [] = None
score_of_word (b ∷ rest) =
    if b == letter_b then lead_of rest
    else (if b == letter_w then negated (lead_of rest) else zero_of (b ∷ rest))

abbrev pub score_of_words : List (List ℕ) → Option SaidScore
score_of_words [] = None
score_of_words (word ∷ []) = score_of_word word
score_of_words (word ∷ more ∷ words) = None

-- the score that the text is, where it is one word that is a score
abbrev pub score_of_text : List ℕ → Option SaidScore
score_of_text text = score_of_words (reply_words text)

-- what can be read as a number is less than two thousand million points, either way
abbrev pub IsInReach : SaidScore → Type 0
IsInReach (Number score) = unsigned_abs score.millionths ≤ 2000000000000000
IsInReach Long = Unit {0}
