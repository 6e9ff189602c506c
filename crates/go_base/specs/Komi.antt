-- Komi, in half points, and the texts that spell it. (The standard's topic komi has a float; that it is kept in half
-- points, its limits and its spellings are own.)
use Rattle.std.specs.Prelude.{◌≡◌, ℕ, ◌+◌, ◌*◌, ◌≤◌, ◌<◌, ◌↔◌, ◌==◌, ◌&&◌, nat_le, nat_lt, Bool, ℤ, pos, neg_ℤ, ◌≤ℤ◌}
use Rattle.std.specs.Prelude.{List, [], ◌∷◌, ◌++◌, length, drop, replicate, Option, Some, None, codes, if◌then◌else◌}
use Rattle.std.specs.Char.{is_ascii_digit}
use Rattle.std.specs.List.{list_all}
use Rattle.std.specs.Str.Parse.{AllDigits, digits_value}
use Rattle.go_base.specs.Bytes.{plus_sign, minus_sign, decimal_point, digit_0, digit_5}
use Rattle.go_base.specs.HalfPoints.{written_half_points}
use Rattle.go_base.specs.Text.{front_while, skip_while}

-- the greatest number of half points, either way: 999,999,999.5 points
abbrev pub most_half_points : ℕ
most_half_points = 1999999999

-- the least and the greatest komi, in half points
abbrev pub least_komi : ℤ
least_komi = neg_ℤ (pos most_half_points)

abbrev pub most_komi : ℤ
most_komi = pos most_half_points

-- the number of half points is a komi
pub record IsKomi (half_points : ℤ) : Type 0 where
  pub least : least_komi ≤ℤ half_points
  pub most : half_points ≤ℤ most_komi

-- ---- the texts of a komi

-- what is before the digits
pub data Sign : Type 0 where
  no_sign : Sign
  plus : Sign
  minus : Sign

abbrev pub sign_text : Sign → List ℕ
sign_text no_sign = []
sign_text plus = codes "+"
sign_text minus = codes "-"

-- the number that a sign makes of another
abbrev pub with_sign : Sign → ℕ → ℤ
with_sign no_sign n = pos n
with_sign plus n = pos n
with_sign minus n = neg_ℤ (pos n)

-- what follows the whole part: nothing; a point and zeros, by their number; or a point, a 5 and zeros
pub data Fraction : Type 0 where
  no_point : Fraction
  zeros : ℕ → Fraction
  half : ℕ → Fraction

abbrev pub fraction_text : Fraction → List ℕ
fraction_text no_point = []
fraction_text (zeros n) = codes "." ++ replicate n digit_0
fraction_text (half n) = codes ".5" ++ replicate n digit_0

-- how many digits are after the point
abbrev pub fraction_digits : Fraction → ℕ
fraction_digits no_point = 0
fraction_digits (zeros n) = n
fraction_digits (half n) = n + 1

abbrev pub fraction_value : Fraction → ℕ
fraction_value no_point = 0
fraction_value (zeros n) = 0
fraction_value (half n) = 1

-- The text spells the number of half points: a sign or none, at most nine digits, and a fraction or none with at most
-- nine digits; there is at least one digit in all.
pub record SpellsKomi (half_points : ℤ) (text : List ℕ) : Type 0 where
  pub sign : Sign
  pub whole : List ℕ
  pub fraction : Fraction
  pub shape : text ≡ sign_text sign ++ (whole ++ fraction_text fraction)
  pub digits : AllDigits 10 whole
  pub few_before : length whole ≤ 9
  pub few_after : fraction_digits fraction ≤ 9
  pub some_digit : 0 < length whole + fraction_digits fraction
  pub value : half_points ≡ with_sign sign (2 * digits_value 10 whole + fraction_value fraction)

-- ---- the same as a function

abbrev pub sign_of : List ℕ → Sign
sign_of [] = no_sign
sign_of (b ∷ bs) = if b == plus_sign then plus else (if b == minus_sign then minus else no_sign)

-- what follows the sign
abbrev pub without_sign : List ℕ → List ℕ
without_sign text = drop (length (sign_text (sign_of text))) text

-- the digits after the point, where what follows the whole part is nothing or begins with a point
abbrev pub decimals_of : List ℕ → Option (List ℕ)
decimals_of [] = Some []
decimals_of (b ∷ bs) = if b == decimal_point then Some bs else None

abbrev pub are_zeros : List ℕ → Bool
are_zeros digits = list_all (λ digit. digit == digit_0) digits

-- the half points of the digits after the point, where they are none, zeros alone, or 5 and zeros
abbrev pub half_of : List ℕ → Option ℕ
half_of [] = Some 0
half_of (b ∷ bs) =
    if are_zeros bs then (if b == digit_0 then Some 0 else (if b == digit_5 then Some 1 else None)) else None

-- the half points of a whole part and the digits after the point, where there is a digit and not too many
abbrev pub half_points_where : List ℕ → List ℕ → Option ℕ → Option ℕ
half_points_where whole decimals None = None
half_points_where whole decimals (Some halves) =
    if nat_lt 0 (length whole + length decimals) && (nat_le (length whole) 9 && nat_le (length decimals) 9)
    then Some (2 * digits_value 10 whole + halves)
    else None

abbrev pub half_points_of_parts : List ℕ → Option (List ℕ) → Option ℕ
half_points_of_parts whole None = None
half_points_of_parts whole (Some decimals) = half_points_where whole decimals (half_of decimals)

-- the half points that a text without a sign spells, where it spells some
abbrev pub unsigned_half_points_of : List ℕ → Option ℕ
unsigned_half_points_of text = half_points_of_parts (front_while is_ascii_digit text)
    (decimals_of (skip_while is_ascii_digit text))

abbrev pub with_sign_where : Sign → Option ℕ → Option ℤ
with_sign_where sign None = None
with_sign_where sign (Some n) = Some (with_sign sign n)

-- the half points that the text spells, where it spells a komi
abbrev pub komi_of : List ℕ → Option ℤ
komi_of text = with_sign_where (sign_of text) (unsigned_half_points_of (without_sign text))

-- ---- laws

-- the function agrees with the relation
abbrev pub KomiOfAgrees : Type 0
KomiOfAgrees = (half_points : ℤ) (text : List ℕ) → SpellsKomi half_points text ↔ (komi_of text ≡ Some half_points)

-- what is written of a komi spells it, and so it is read back
abbrev pub KomisReadBack : Type 0
KomisReadBack = (half_points : ℤ) → IsKomi half_points → SpellsKomi half_points (written_half_points half_points)

-- a text spells at most one komi
abbrev pub SpellsOneKomi : Type 0
SpellsOneKomi = (m n : ℤ) (text : List ℕ) → SpellsKomi m text → SpellsKomi n text → m ≡ n
