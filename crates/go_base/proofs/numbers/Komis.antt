-- The two ways to say which komi a text spells.
use Rattle.std.proofs.Common.{◌≡◌, ℕ, zero, suc, ◌+◌, ◌*◌, ◌/◌, ◌%◌, ◌≤◌, ◌<◌, List, [], ◌∷◌, ◌++◌, length, drop}
use Rattle.std.proofs.Common.{replicate, Option, Some, None, Bool, true, false, ℤ, pos, negsuc, neg_ℤ, refl, sym, subst}
use Rattle.std.proofs.Common.{◌∙◌, ap, cond, ◌==◌, arith, ◌&&◌, inl, inr}
use Rattle.std.specs.Prelude.{codes, nat_le, nat_lt, unwrap_or}
use Rattle.std.specs.Char.{is_ascii_digit, digit_value}
use Rattle.std.specs.Str.Parse.{AllDigits, digits_value}
use Rattle.std.proofs.lemmas.Bool.{cases_Bool, and_parts}
use Rattle.std.proofs.lemmas.List.{length-replicate, length-append, append-nil}
use Rattle.std.proofs.lemmas.Bool.Decides.{nat_tests}
use Rattle.std.proofs.lemmas.Fmt.{decimal_is_IsNumeral, length-decimal-le}
use Rattle.std.proofs.lemmas.Int.{ints}
use Rattle.std.proofs.lemmas.Str.Parse.{digit_from_value, digits_value_short}
use Rattle.go_base.specs.Int.{SpellsInt, int_of, written_int}
use Rattle.go_base.specs.HalfPoints.{written_points, written_half_points}
use Rattle.go_base.specs.Komi.{most_half_points, IsKomi, Sign, no_sign, plus, minus, sign_text, with_sign, Fraction}
use Rattle.go_base.specs.Komi.{no_point, zeros, half, fraction_text, fraction_digits, fraction_value, SpellsKomi}
use Rattle.go_base.specs.Komi.{sign_of, without_sign, decimals_of, are_zeros, half_of}
use Rattle.go_base.specs.Komi.{half_points_where, half_points_of_parts, unsigned_half_points_of, with_sign_where}
use Rattle.go_base.specs.Komi.{komi_of}
use Rattle.go_base.specs.Text.{front_while, skip_while}
use Rattle.go_base.proofs.general.Fronts.{front_while-skip_while, list_all-front_while, front_while-append}
use Rattle.go_base.proofs.general.Fronts.{skip_while-append, digits_model}
use Rattle.go_base.proofs.numbers.Ints.{digit_texts, int_of_spelled, digit_bounds, digit_value-digit}

-- ---- digits

pub front_digits_are : (text : List ℕ) → AllDigits 10 (front_while is_ascii_digit text)
front_digits_are text = digits_model.to _ (list_all-front_while is_ascii_digit text)

pub digits_value_few : (whole : List ℕ) → AllDigits 10 whole → length whole ≤ 9 → digits_value 10 whole ≤ 999999999
digits_value_few whole digits few =
    let small = digits_value_short digit_texts whole 9 (digit_texts.from whole digits) few in
    omega (arith, small)

-- the value of at most nine digits, which may be none
pub value_of_digits : (whole : List ℕ) → AllDigits 10 whole → length whole ≤ 9
    → unwrap_or (int_of whole) 0 ≡ digits_value 10 whole
value_of_digits [] digits few = refl
value_of_digits (b ∷ whole) digits few =
    let value = digits_value_few (b ∷ whole) digits few in
    let spelled : SpellsInt (digits_value 10 (b ∷ whole)) (b ∷ whole) =
    record { numeral = (omega arith, digits); value = refl; limit = omega (arith, value) } in
    ap (λ o. unwrap_or o 0) (int_of_spelled (digits_value 10 (b ∷ whole)) (b ∷ whole) spelled)

-- ---- a fraction

-- the digits after the point
abbrev pub fraction_decimals : Fraction → List ℕ
fraction_decimals no_point = []
fraction_decimals (zeros n) = replicate n 48
fraction_decimals (half n) = 53 ∷ replicate n 48

are_zeros-replicate : (n : ℕ) → are_zeros (replicate n 48) ≡ true
are_zeros-replicate zero = refl
are_zeros-replicate (suc n) = are_zeros-replicate n

half_of-replicate : (n : ℕ) → half_of (replicate n 48) ≡ Some 0
half_of-replicate zero = refl
half_of-replicate (suc n) = ap (λ b. cond b (Some 0) None) (are_zeros-replicate n)

half_of_fraction : (fraction : Fraction) → half_of (fraction_decimals fraction) ≡ Some (fraction_value fraction)
half_of_fraction no_point = refl
half_of_fraction (zeros n) = half_of-replicate n
half_of_fraction (half n) = ap (λ b. cond b (Some 1) None) (are_zeros-replicate n)

decimals_of_fraction : (fraction : Fraction) → decimals_of (fraction_text fraction) ≡ Some (fraction_decimals fraction)
decimals_of_fraction no_point = refl
decimals_of_fraction (zeros n) = refl
decimals_of_fraction (half n) = refl

front_of_fraction : (fraction : Fraction) → front_while is_ascii_digit (fraction_text fraction) ≡ []
front_of_fraction no_point = refl
front_of_fraction (zeros n) = refl
front_of_fraction (half n) = refl

rest_of_fraction : (fraction : Fraction) → skip_while is_ascii_digit (fraction_text fraction) ≡ fraction_text fraction
rest_of_fraction no_point = refl
rest_of_fraction (zeros n) = refl
rest_of_fraction (half n) = refl

pub length_of_fraction : (fraction : Fraction) → length (fraction_decimals fraction) ≡ fraction_digits fraction
length_of_fraction no_point = refl
length_of_fraction (zeros n) = length-replicate {A = ℕ} n 48
length_of_fraction (half n) = omega (arith, length-replicate {A = ℕ} n 48)

-- the fraction that a text is
record IsFraction (rest decimals : List ℕ) (halves : ℕ) : Type 0 where
  pub fraction : Fraction
  pub text_is : rest ≡ fraction_text fraction
  pub value_is : halves ≡ fraction_value fraction
  pub count_is : length decimals ≡ fraction_digits fraction

replicate-zeros : (digits : List ℕ) → are_zeros digits ≡ true → digits ≡ replicate (length digits) 48
replicate-zeros [] all = refl
replicate-zeros (b ∷ digits) all =
    let parts = and_parts (b == 48) (are_zeros digits) all in
    let test : (b == 48) ≡ true = parts.0 in
    let first : b ≡ 48 = grind (arith, nat_tests) in
    let others : digits ≡ replicate (length digits) 48 = replicate-zeros digits parts.1 in
    cc

fraction_by_digit : (d : ℕ) (digits : List ℕ) (halves : ℕ) (all no_half is_half : Bool) → are_zeros digits ≡ all
    → (d == 48) ≡ no_half → (d == 53) ≡ is_half
    → cond all (cond no_half (Some 0) (cond is_half (Some 1) None)) None ≡ Some halves
    → IsFraction (46 ∷ d ∷ digits) (d ∷ digits) halves
fraction_by_digit d digits halves false no_half is_half e0 e1 e2 value = absurd (cc)
fraction_by_digit d digits halves true true is_half e0 e1 e2 value =
    let same : d ≡ 48 = grind (arith, nat_tests) in
    let others : digits ≡ replicate (length digits) 48 = replicate-zeros digits e0 in
    record { fraction = zeros (suc (length digits)); text_is = cc; value_is = cc; count_is = refl }
fraction_by_digit d digits halves true false true e0 e1 e2 value =
    let same : d ≡ 53 = grind (arith, nat_tests) in
    let others : digits ≡ replicate (length digits) 48 = replicate-zeros digits e0 in
    record { fraction = half (length digits); text_is = cc; value_is = cc; count_is = omega arith }
fraction_by_digit d digits halves true false false e0 e1 e2 value = absurd (cc)

fraction_after_point : (digits : List ℕ) (halves : ℕ) → half_of digits ≡ Some halves
    → IsFraction (46 ∷ digits) digits halves
fraction_after_point [] halves value = record { fraction = zeros 0; text_is = refl; value_is = cc; count_is = refl }
fraction_after_point (d ∷ digits) halves value = fraction_by_digit d digits halves _ _ _ refl refl refl value

fraction_of_rest : (rest decimals : List ℕ) (halves : ℕ) → decimals_of rest ≡ Some decimals
    → half_of decimals ≡ Some halves → IsFraction rest decimals halves
fraction_of_rest [] decimals halves is value =
    let none : decimals ≡ [] = cc in
    let zero_value : half_of [] ≡ Some halves = subst (λ (d : List ℕ). half_of d ≡ Some halves) none value in
    record { fraction = no_point; text_is = refl; value_is = cc; count_is = ap length none }
fraction_of_rest (b ∷ digits) decimals halves is value =
    elim (cases_Bool (b == 46)) [
      | inl e ↦
          let point : 46 ≡ b = grind (arith, nat_tests) in
          let given : Some digits ≡ Some decimals = rw e at is in
          let same : digits ≡ decimals = cc in
          subst (λ (d : List ℕ). IsFraction (b ∷ digits) d halves) same
          (subst (λ (c : ℕ). IsFraction (c ∷ digits) digits halves) point
          (fraction_after_point digits halves (subst (λ (d : List ℕ). half_of d ≡ Some halves) (sym same) value)))
      | inr e ↦ let given : None ≡ Some decimals = rw e at is in absurd (cc)
    ]

-- ---- a number without a sign

record SpellsUnsigned (n : ℕ) (text : List ℕ) : Type 0 where
  pub whole : List ℕ
  pub fraction : Fraction
  pub shape : text ≡ whole ++ fraction_text fraction
  pub digits : AllDigits 10 whole
  pub few_before : length whole ≤ 9
  pub few_after : fraction_digits fraction ≤ 9
  pub some_digit : 0 < length whole + fraction_digits fraction
  pub value : n ≡ 2 * digits_value 10 whole + fraction_value fraction

half_points_here : (whole decimals : List ℕ) (points halves : ℕ) → 0 < length whole + length decimals → length whole ≤ 9
    → length decimals ≤ 9
    → points ≡ digits_value 10 whole → half_points_where whole decimals (Some halves) ≡ Some (2 * points + halves)
half_points_here whole decimals points halves some few_before few_after same = grind (arith, nat_tests)

unsigned_of_spelled : (n : ℕ) (text : List ℕ) → SpellsUnsigned n text → unsigned_half_points_of text ≡ Some n
unsigned_of_spelled n text s =
    let f = s.fraction in
    let count = length_of_fraction f in
    let digits = digits_model.from s.whole s.digits in
    ap unsigned_half_points_of s.shape
    ∙ ap (λ w. half_points_of_parts w (decimals_of (skip_while is_ascii_digit (s.whole ++ fraction_text f))))
    (front_while-append is_ascii_digit s.whole (fraction_text f) digits ∙ ap (λ t. s.whole ++ t) (front_of_fraction f)
    ∙ append-nil s.whole)
    ∙ ap (λ r. half_points_of_parts s.whole (decimals_of r))
    (skip_while-append is_ascii_digit s.whole (fraction_text f) digits ∙ rest_of_fraction f)
    ∙ ap (half_points_of_parts s.whole) (decimals_of_fraction f)
    ∙ ap (half_points_where s.whole (fraction_decimals f)) (half_of_fraction f)
    ∙ half_points_here s.whole (fraction_decimals f) (digits_value 10 s.whole) (fraction_value f)
    (omega (arith, count, s.some_digit)) s.few_before (omega (arith, count, s.few_after)) refl
    ∙ ap Some (sym s.value)

-- the number that the code makes of the parts of a text
pub unsigned_read : (text decimals : List ℕ) (points halves : ℕ) → Some decimals ≡ decimals_of (skip_while is_ascii_digit text)
    → Some halves ≡ half_of decimals
    → 0 < length (front_while is_ascii_digit text) + length decimals → length (front_while is_ascii_digit text) ≤ 9 → length decimals ≤ 9
    → points ≡ unwrap_or (int_of (front_while is_ascii_digit text)) 0
    → Some (2 * points + halves) ≡ unsigned_half_points_of text
unsigned_read text decimals points halves decimals_is halves_is some few_before few_after points_is =
    let whole = front_while is_ascii_digit text in
    sym
    (ap (half_points_of_parts whole) (sym decimals_is)
    ∙ ap (half_points_where whole decimals) (sym halves_is)
    ∙ half_points_here whole decimals points halves some few_before few_after
    (points_is ∙ value_of_digits whole (front_digits_are text) few_before))

pub unsigned_read_limit : (text : List ℕ) (points halves : ℕ) → halves ≤ 1 → length (front_while is_ascii_digit text) ≤ 9
    → points ≡ unwrap_or (int_of (front_while is_ascii_digit text)) 0 → 2 * points + halves ≤ most_half_points
unsigned_read_limit text points halves few_halves few_before points_is =
    let whole = front_while is_ascii_digit text in
    omega (
      arith,
      points_is ∙ value_of_digits whole (front_digits_are text) few_before,
      digits_value_few whole (front_digits_are text) few_before,
    )

record HasParts (whole : List ℕ) (rest : Option (List ℕ)) (n : ℕ) : Type 0 where
  pub decimals : List ℕ
  pub halves : ℕ
  pub rest_is : rest ≡ Some decimals
  pub half_is : half_of decimals ≡ Some halves
  pub some_digit : 0 < length whole + length decimals
  pub few_before : length whole ≤ 9
  pub few_after : length decimals ≤ 9
  pub value : n ≡ 2 * digits_value 10 whole + halves

value_where : (b : Bool) (x y : ℕ) → cond b (Some x) None ≡ Some y → (b ≡ true) × (y ≡ x)
value_where true x y e = (refl, cc)
value_where false x y e = absurd (cc)

parts_where : (whole decimals : List ℕ) (half : Option ℕ) (n : ℕ) → half_of decimals ≡ half
    → half_points_where whole decimals half ≡ Some n → HasParts whole (Some decimals) n
parts_where whole decimals None n half_is e = absurd (cc)
parts_where whole decimals (Some halves) n half_is e =
    let h =
    value_where (nat_lt 0 (length whole + length decimals) &&
    (nat_le (length whole) 9 && nat_le (length decimals) 9)) (2 * digits_value 10 whole + halves) n e in
    let test : (nat_lt 0 (length whole + length decimals) && (nat_le (length whole) 9 && nat_le (length decimals) 9))
    ≡ true = h.0 in
    record {
      decimals = decimals;
      halves = halves;
      rest_is = refl;
      half_is = half_is;
      some_digit = grind (arith, nat_tests);
      few_before = grind (arith, nat_tests);
      few_after = grind (arith, nat_tests);
      value = h.1;
    }

parts_of : (whole : List ℕ) (rest : Option (List ℕ)) (n : ℕ) → half_points_of_parts whole rest ≡ Some n
    → HasParts whole rest n
parts_of whole None n e = absurd (cc)
parts_of whole (Some decimals) n e = parts_where whole decimals (half_of decimals) n refl e

spells_unsigned_of : (n : ℕ) (text : List ℕ) → unsigned_half_points_of text ≡ Some n → SpellsUnsigned n text
spells_unsigned_of n text e =
    let whole = front_while is_ascii_digit text in
    let parts = parts_of whole (decimals_of (skip_while is_ascii_digit text)) n e in
    let f = fraction_of_rest (skip_while is_ascii_digit text) parts.decimals parts.halves parts.rest_is parts.half_is in
    record {
      whole = whole;
      fraction = f.fraction;
      shape = front_while-skip_while is_ascii_digit text ∙ ap (λ r. whole ++ r) f.text_is;
      digits = front_digits_are text;
      few_before = parts.few_before;
      few_after = omega (arith, parts.few_after, f.count_is);
      some_digit = omega (arith, parts.some_digit, f.count_is);
      value = omega (arith, parts.value, f.value_is);
    }

-- ---- the sign

sign_before_digits : (whole : List ℕ) (fraction : Fraction) → AllDigits 10 whole
    → sign_of (whole ++ fraction_text fraction) ≡ no_sign
sign_before_digits [] no_point digits = refl
sign_before_digits [] (zeros n) digits = refl
sign_before_digits [] (half n) digits = refl
sign_before_digits (b ∷ whole) fraction digits = let range = digit_from_value b digits.0 in
    let low : 48 ≤ b = range.0 in
    grind (arith, nat_tests)

sign_parts : (sign : Sign) (n : ℕ) (text : List ℕ) → SpellsUnsigned n text
    → (sign_of (sign_text sign ++ text) ≡ sign) × (without_sign (sign_text sign ++ text) ≡ text)
sign_parts no_sign n text s =
    let none : sign_of text ≡ no_sign = ap sign_of s.shape ∙ sign_before_digits s.whole s.fraction s.digits in
    (none, ap (λ g. drop (length (sign_text g)) text) none)
sign_parts plus n text s = (refl, refl)
sign_parts minus n text s = (refl, refl)

sign_split_by : (b : ℕ) (bs : List ℕ) (is_plus is_minus : Bool) → (b == 43) ≡ is_plus → (b == 45) ≡ is_minus
    → let sign =
    cond is_plus plus (cond is_minus minus no_sign) in b ∷ bs
    ≡ sign_text sign ++ drop (length (sign_text sign)) (b ∷ bs)
sign_split_by b bs true is_minus e0 e1 = let same : b ≡ 43 = grind (arith, nat_tests) in ap (λ c. c ∷ bs) same
sign_split_by b bs false true e0 e1 = let same : b ≡ 45 = grind (arith, nat_tests) in ap (λ c. c ∷ bs) same
sign_split_by b bs false false e0 e1 = refl

-- a text is its sign and what comes after it
sign_split : (text : List ℕ) → text ≡ sign_text (sign_of text) ++ without_sign text
sign_split [] = refl
sign_split (b ∷ bs) = sign_split_by b bs _ _ refl refl

-- ---- a komi

-- where a text spells a komi, that is the komi of it
pub komi_of_spelled : (half_points : ℤ) (text : List ℕ) → SpellsKomi half_points text → komi_of text ≡ Some half_points
komi_of_spelled half_points text s =
    let unsigned = s.whole ++ fraction_text s.fraction in
    let n = 2 * digits_value 10 s.whole + fraction_value s.fraction in
    let spelled : SpellsUnsigned n unsigned =
    record {
      whole = s.whole;
      fraction = s.fraction;
      shape = refl;
      digits = s.digits;
      few_before = s.few_before;
      few_after = s.few_after;
      some_digit = s.some_digit;
      value = refl;
    } in
    let parts = sign_parts s.sign n unsigned spelled in
    ap komi_of s.shape
    ∙ ap (λ g. with_sign_where g (unsigned_half_points_of (without_sign (sign_text s.sign ++ unsigned)))) parts.0
    ∙ ap (λ t. with_sign_where s.sign (unsigned_half_points_of t)) parts.1
    ∙ ap (with_sign_where s.sign) (unsigned_of_spelled n unsigned spelled)
    ∙ ap Some (sym s.value)

record HasSigned (sign : Sign) (unsigned : Option ℕ) (half_points : ℤ) : Type 0 where
  pub n : ℕ
  pub unsigned_is : unsigned ≡ Some n
  pub value : half_points ≡ with_sign sign n

with_sign_parts : (sign : Sign) (unsigned : Option ℕ) (half_points : ℤ)
    → with_sign_where sign unsigned ≡ Some half_points
    → HasSigned sign unsigned half_points
with_sign_parts sign None half_points e = absurd (cc)
with_sign_parts sign (Some n) half_points e = record { n = n; unsigned_is = refl; value = cc }

-- the komi of a text is spelled by it
pub spells_komi_of : (half_points : ℤ) (text : List ℕ) → komi_of text ≡ Some half_points → SpellsKomi half_points text
spells_komi_of half_points text e =
    let parts = with_sign_parts (sign_of text) (unsigned_half_points_of (without_sign text)) half_points e in
    let u = spells_unsigned_of parts.n (without_sign text) parts.unsigned_is in
    record {
      sign = sign_of text;
      whole = u.whole;
      fraction = u.fraction;
      shape = sign_split text ∙ ap (λ t. sign_text (sign_of text) ++ t) u.shape;
      digits = u.digits;
      few_before = u.few_before;
      few_after = u.few_after;
      some_digit = u.some_digit;
      value = parts.value ∙ ap (with_sign (sign_of text)) u.value;
    }

-- a text that spells no number after its sign spells no komi
pub no_komi : (text : List ℕ) → None ≡ unsigned_half_points_of (without_sign text) → (half_points : ℤ)
    → SpellsKomi half_points text → ⊥
no_komi text none half_points spelled =
    let e : None ≡ Some half_points =
    ap (with_sign_where (sign_of text)) none ∙ komi_of_spelled half_points text spelled in
    cc

-- the written form of a komi without its sign is short
pub length-written_points : (n : ℕ) → n ≤ most_half_points → length (written_points n) ≤ 11
length-written_points n most =
    let whole = length-decimal-le 9 (n / 2) (omega arith) (omega arith) (omega arith) in
    elim (cases_Bool (n % 2 == 1)) [
      | inl e ↦ rw e (omega (arith, length-append (written_int (n / 2)) (codes ".5"), whole))
      | inr e ↦ rw e (omega (arith, length-append (written_int (n / 2)) [], whole))
    ]

-- a text spells at most one komi
pub one_komi : (m n : ℤ) (text : List ℕ) → SpellsKomi m text → SpellsKomi n text → m ≡ n
one_komi m n text spells_m spells_n =
    let e : Some m ≡ Some n = sym (komi_of_spelled m text spells_m) ∙ komi_of_spelled n text spells_n in
    cc

-- ---- what is written

-- the fraction that is written: a half, or none
abbrev fraction_for : Bool → Fraction
fraction_for b = cond b (half 0) no_point

fraction_text-for : (b : Bool) → cond b (codes ".5") [] ≡ fraction_text (fraction_for b)
fraction_text-for true = refl
fraction_text-for false = refl

fraction_digits-for : (b : Bool) → fraction_digits (fraction_for b) ≤ 9
fraction_digits-for true = omega arith
fraction_digits-for false = omega arith

fraction_value-for : (b : Bool) → fraction_value (fraction_for b) ≡ cond b 1 0
fraction_value-for true = refl
fraction_value-for false = refl

halves_value : (n : ℕ) → n ≡ 2 * (n / 2) + cond (n % 2 == 1) 1 0
halves_value n = grind (arith, nat_tests)

spells_written_points : (n : ℕ) → n ≤ most_half_points → SpellsUnsigned n (written_points n)
spells_written_points n most =
    let is_half = n % 2 == 1 in
    let numeral = decimal_is_IsNumeral (n / 2) (omega arith) in
    record {
      whole = written_int (n / 2);
      fraction = fraction_for is_half;
      shape = ap (λ t. written_int (n / 2) ++ t) (fraction_text-for is_half);
      digits = numeral.0.1;
      few_before = length-decimal-le 9 (n / 2) (omega arith) (omega arith) (omega arith);
      few_after = fraction_digits-for is_half;
      some_digit = omega (arith, numeral.0.0);
      value = omega (arith, numeral.1, halves_value n, fraction_value-for is_half);
    }

komi_of_unsigned : (sign : Sign) (n : ℕ) (text : List ℕ) → SpellsUnsigned n text
    → SpellsKomi (with_sign sign n) (sign_text sign ++ text)
komi_of_unsigned sign n text u =
    record {
      sign = sign;
      whole = u.whole;
      fraction = u.fraction;
      shape = ap (λ t. sign_text sign ++ t) u.shape;
      digits = u.digits;
      few_before = u.few_before;
      few_after = u.few_after;
      some_digit = u.some_digit;
      value = ap (with_sign sign) u.value;
    }

-- what is written of a komi spells it
pub spells_written_komi : (half_points : ℤ) → IsKomi half_points
    → SpellsKomi half_points (written_half_points half_points)
spells_written_komi (pos n) is_komi =
    komi_of_unsigned no_sign n (written_points n) (spells_written_points n (omega (arith, ints, is_komi.most)))
spells_written_komi (negsuc n) is_komi =
    let same : neg_ℤ (pos (n + 1)) ≡ negsuc n = omega (arith, ints) in
    subst (λ (z : ℤ). SpellsKomi z (codes "-" ++ written_points (n + 1))) same
    (komi_of_unsigned minus (n + 1) (written_points (n + 1))
    (spells_written_points (n + 1) (omega (arith, ints, is_komi.least))))
