-- Which text with an exponent, or without one, is read as points.
use Rattle.std.proofs.Common.{◌≡◌, ℕ, true, false, List, [], ◌∷◌, ◌++◌, length, Option, Some, None, refl, sym, ◌∙◌, ap}
use Rattle.std.proofs.Common.{arith}
use Rattle.std.specs.Prelude.{◌==◌, ◌||◌, if◌then◌else◌}
use Rattle.std.specs.Char.{is_ascii_digit}
use Rattle.std.specs.List.{list_all}
use Rattle.std.proofs.lemmas.Bool.{and_parts}
use Rattle.std.proofs.lemmas.Bool.Decides.{nat_tests}
use Rattle.std.proofs.lemmas.List.{append-nil}
use Rattle.go_base.specs.Text.{front_while, skip_while}
use Rattle.go_base.proofs.general.Fronts.{digits_model, front_while-append, skip_while-append}
use Rattle.gtp_check_judge.specs.declared.scores.SaidScore.{SaidScore}
use Rattle.gtp_check_judge.specs.declared.scores.SaidScore.TheVariants.{Long}
use Rattle.gtp_check_judge.specs.Scores.{after_sign, are_some_digits, before_exponent, is_before_exponent}
use Rattle.gtp_check_judge.specs.Scores.{plain_points_of, points_of, with_exponent, with_exponent_where}
use Rattle.gtp_check_judge.specs.AnswerLaws.{FollowsDigits, IsExponent, MarksExponent, MayBeSign, SaysWith}
use Rattle.gtp_check_judge.specs.AnswerLaws.{SpellsPlainPoints, SpellsPoints}
use Rattle.gtp_check_judge.proofs.scoring.PlainPoints.{both_true, if_some, less_is, spelled_plain}

-- ---- what is spelled so is read

digit_before : (b : ℕ) → is_ascii_digit b ≡ true → is_before_exponent b ≡ true
digit_before b e = grind (arith, nat_tests)

digits_before : (digits : List ℕ) → list_all is_ascii_digit digits ≡ true → list_all is_before_exponent digits ≡ true
digits_before [] all = refl
digits_before (b ∷ bs) all =
    let parts = and_parts (is_ascii_digit b) (list_all is_ascii_digit bs) all in
    both_true _ _ (digit_before b parts.0) (digits_before bs parts.1)

both_before : (xs ys : List ℕ) → list_all is_before_exponent xs ≡ true → list_all is_before_exponent ys ≡ true
    → list_all is_before_exponent (xs ++ ys) ≡ true
both_before [] ys all more = more
both_before (x ∷ xs) ys all more =
    let parts = and_parts (is_before_exponent x) (list_all is_before_exponent xs) all in
    both_true _ _ parts.0 (both_before xs ys parts.1 more)

rest_before : (rest decimals : List ℕ) → FollowsDigits rest decimals → list_all is_ascii_digit decimals ≡ true
    → list_all is_before_exponent rest ≡ true
rest_before rest decimals FollowsDigits.nothing all = refl
rest_before rest decimals (FollowsDigits.point d) all = digits_before d all

plain_before : (plain : SaidScore) (number : List ℕ) → SpellsPlainPoints plain number
    → list_all is_before_exponent number ≡ true
plain_before plain number s =
    ap (list_all is_before_exponent) s.shape
    ∙ both_before s.whole s.rest (digits_before s.whole (digits_model.from s.whole s.digits_before))
    (rest_before s.rest s.decimals s.follows (digits_model.from s.decimals s.digits_after))

marked_front : (letter rest : List ℕ) → MarksExponent letter → front_while is_before_exponent (letter ++ rest) ≡ []
marked_front letter rest MarksExponent.small = refl
marked_front letter rest MarksExponent.capital = refl

marked_skip : (letter rest : List ℕ) → MarksExponent letter
    → skip_while is_before_exponent (letter ++ rest) ≡ letter ++ rest
marked_skip letter rest MarksExponent.small = refl
marked_skip letter rest MarksExponent.capital = refl

marked_read : (plain : SaidScore) (letter rest : List ℕ) → MarksExponent letter
    → with_exponent plain (letter ++ rest) ≡ (if are_some_digits (after_sign rest) then Some Long else None)
marked_read plain letter rest MarksExponent.small = refl
marked_read plain letter rest MarksExponent.capital = refl

digit_first : (b : ℕ) (bs : List ℕ) → is_ascii_digit b ≡ true
    → (if b == 43 || b == 45 then bs else b ∷ bs) ≡ b ∷ bs
digit_first b bs e = let none : (b == 43 || b == 45) ≡ false = grind (arith, nat_tests) in rw none refl

sign_skipped : (sign digits : List ℕ) → MayBeSign sign → list_all is_ascii_digit digits ≡ true
    → after_sign (sign ++ digits) ≡ digits
sign_skipped sign digits MayBeSign.plus all = refl
sign_skipped sign digits MayBeSign.minus all = refl
sign_skipped sign [] MayBeSign.none all = refl
sign_skipped sign (b ∷ bs) MayBeSign.none all =
    digit_first b bs (and_parts (is_ascii_digit b) (list_all is_ascii_digit bs) all).0

exponent_read : (plain : SaidScore) (text : List ℕ) → IsExponent text → with_exponent plain text ≡ Some Long
exponent_read plain text is =
    let digits = digits_model.from is.digits is.are_digits in
    ap (with_exponent plain) is.shape ∙ marked_read plain is.letter (is.sign ++ is.digits) is.marks
    ∙ if_some (are_some_digits (after_sign (is.sign ++ is.digits))) Long
    (ap are_some_digits (sign_skipped is.sign is.digits is.signed digits)
    ∙ both_true _ _ digits (less_is 0 (length is.digits) is.some_digit))

exponent_front : (plain : SaidScore) (text : List ℕ) (said : SaidScore) → SaysWith plain text said
    → front_while is_before_exponent text ≡ []
exponent_front plain text said SaysWith.no_exponent = refl
exponent_front plain text said (SaysWith.exponent same is) =
    ap (front_while is_before_exponent) is.shape ∙ marked_front is.letter (is.sign ++ is.digits) is.marks

exponent_skip : (plain : SaidScore) (text : List ℕ) (said : SaidScore) → SaysWith plain text said
    → skip_while is_before_exponent text ≡ text
exponent_skip plain text said SaysWith.no_exponent = refl
exponent_skip plain text said (SaysWith.exponent same is) =
    ap (skip_while is_before_exponent) is.shape ∙ marked_skip is.letter (is.sign ++ is.digits) is.marks
    ∙ sym is.shape

value_read : (plain : SaidScore) (text : List ℕ) (said : SaidScore) → SaysWith plain text said
    → with_exponent plain text ≡ Some said
value_read plain text said SaysWith.no_exponent = refl
value_read plain text said (SaysWith.exponent same is) = exponent_read plain same is

pub number_is : (text : List ℕ) (said : SaidScore) (s : SpellsPoints said text) → before_exponent text ≡ s.number
number_is text said s =
    ap before_exponent s.shape
    ∙ front_while-append is_before_exponent s.number s.exponent (plain_before s.plain s.number s.spelled)
    ∙ ap (λ (t : List ℕ). s.number ++ t) (exponent_front s.plain s.exponent said s.value) ∙ append-nil s.number

rest_is : (text : List ℕ) (said : SaidScore) (s : SpellsPoints said text)
    → skip_while is_before_exponent text ≡ s.exponent
rest_is text said s =
    ap (skip_while is_before_exponent) s.shape
    ∙ skip_while-append is_before_exponent s.number s.exponent (plain_before s.plain s.number s.spelled)
    ∙ exponent_skip s.plain s.exponent said s.value

pub spelled_points : (text : List ℕ) (said : SaidScore) → SpellsPoints said text → points_of text ≡ Some said
spelled_points text said s =
    ap (λ (n : List ℕ). with_exponent_where (plain_points_of n) (skip_while is_before_exponent text))
    (number_is text said s)
    ∙ ap (λ (o : Option SaidScore). with_exponent_where o (skip_while is_before_exponent text))
    (spelled_plain s.number s.plain s.spelled)
    ∙ ap (with_exponent s.plain) (rest_is text said s) ∙ value_read s.plain s.exponent said s.value
