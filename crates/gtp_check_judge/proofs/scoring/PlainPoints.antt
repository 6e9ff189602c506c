-- Which text without an exponent is read as points.
use Rattle.std.proofs.Common.{◌≡◌, ℕ, ◌+◌, ◌*◌, ◌≤◌, ◌<◌, Bool, true, false, List, [], ◌++◌, length, Some, None, refl}
use Rattle.std.proofs.Common.{sym, ◌∙◌, ap, arith, inl, inr}
use Rattle.std.specs.Prelude.{ℤ, pos, ◌&&◌, nat_le, nat_lt, if◌then◌else◌}
use Rattle.std.specs.Char.{is_ascii_digit}
use Rattle.std.specs.List.{list_all}
use Rattle.std.specs.Str.Parse.{digits_value}
use Rattle.std.proofs.lemmas.Bool.Decides.{nat_tests}
use Rattle.std.proofs.lemmas.List.{append-nil}
use Rattle.go_base.specs.Komi.{decimals_of}
use Rattle.go_base.specs.Text.{front_while, skip_while}
use Rattle.go_base.proofs.general.Fronts.{digits_model, front_while-append, skip_while-append}
use Rattle.gtp_check_judge.specs.declared.scores.SaidScore.{SaidScore}
use Rattle.gtp_check_judge.specs.declared.scores.SaidScore.TheVariants.{Number, Long}
use Rattle.gtp_check_judge.specs.Scores.{plain_points_of, score_of_digits}
use Rattle.gtp_check_judge.specs.Scores.{score_where, unit_of}
use Rattle.gtp_check_judge.specs.AnswerLaws.{FollowsDigits, IsScoreOf, SpellsPlainPoints}

upto_is : (a b : ℕ) → a ≤ b → nat_le a b ≡ true
upto_is a b h = grind (arith, nat_tests)

beyond_is : (a b : ℕ) → b < a → nat_le a b ≡ false
beyond_is a b h = grind (arith, nat_tests)

pub less_is : (a b : ℕ) → a < b → nat_lt a b ≡ true
less_is a b h = grind (arith, nat_tests)

-- ---- the score of digits

-- the number of short ones
abbrev number : List ℕ → List ℕ → SaidScore
number whole decimals = Number (record {
  millionths = pos (1000000 * digits_value 10 whole + unit_of (length decimals) * digits_value 10 decimals);
  unit = unit_of (length decimals);
})

and_false : (a b : Bool) → b ≡ false → (a && b) ≡ false
and_false true b e = e
and_false false b e = refl

if_not : (b : Bool) (x y : SaidScore) → b ≡ false → (if b then x else y) ≡ y
if_not false x y e = refl
if_not true x y e = absurd (cc e)

if_is : (b : Bool) (x y : SaidScore) → b ≡ true → (if b then x else y) ≡ x
if_is true x y e = refl
if_is false x y e = absurd (cc e)

pub both_true : (a b : Bool) → a ≡ true → b ≡ true → (a && b) ≡ true
both_true true b e f = f
both_true false b e f = absurd (cc e)

scored_digits : (whole decimals : List ℕ) (said : SaidScore) → IsScoreOf whole decimals said
    → score_of_digits whole decimals ≡ said
scored_digits whole decimals said (IsScoreOf.short score before after unit millionths) =
    if_is (nat_le (length whole) 9 && nat_le (length decimals) 6) (number whole decimals) Long
    (both_true _ _ (upto_is (length whole) 9 before) (upto_is (length decimals) 6 after))
    ∙ ap (λ (z : ℤ). Number (record { millionths = z; unit = unit_of (length decimals) }))
    (ap (λ (u : ℕ). pos (1000000 * digits_value 10 whole + u * digits_value 10 decimals)) (sym unit) ∙ sym millionths)
    ∙ ap (λ (u : ℕ). Number (record { millionths = score.millionths; unit = u })) (sym unit)
scored_digits whole decimals said (IsScoreOf.long (inl far)) =
    if_not (nat_le (length whole) 9 && nat_le (length decimals) 6) (number whole decimals) Long
    (ap (λ (b : Bool). b && nat_le (length decimals) 6) (beyond_is (length whole) 9 far))
scored_digits whole decimals said (IsScoreOf.long (inr far)) =
    if_not (nat_le (length whole) 9 && nat_le (length decimals) 6) (number whole decimals) Long
    (and_false _ _ (beyond_is (length decimals) 6 far))

-- ---- points

-- the parts of a text of digits and what follows them
front_none : (rest decimals : List ℕ) → FollowsDigits rest decimals → front_while is_ascii_digit rest ≡ []
front_none rest decimals FollowsDigits.nothing = refl
front_none rest decimals (FollowsDigits.point d) = refl

skip_all : (rest decimals : List ℕ) → FollowsDigits rest decimals → skip_while is_ascii_digit rest ≡ rest
skip_all rest decimals FollowsDigits.nothing = refl
skip_all rest decimals (FollowsDigits.point d) = refl

decimals_are : (rest decimals : List ℕ) → FollowsDigits rest decimals → decimals_of rest ≡ Some decimals
decimals_are rest decimals FollowsDigits.nothing = refl
decimals_are rest decimals (FollowsDigits.point d) = refl

pub if_some : (b : Bool) (x : SaidScore) → b ≡ true → (if b then Some x else None) ≡ Some x
if_some true x e = refl
if_some false x e = absurd (cc e)

pub spelled_plain : (text : List ℕ) (said : SaidScore) → SpellsPlainPoints said text → plain_points_of text ≡ Some said
spelled_plain text said s =
    let digits = digits_model.from s.whole s.digits_before in
    ap plain_points_of s.shape
    ∙ ap (λ (w : List ℕ). score_where w (decimals_of (skip_while is_ascii_digit (s.whole ++ s.rest))))
    (front_while-append is_ascii_digit s.whole s.rest digits
    ∙ ap (λ (t : List ℕ). s.whole ++ t) (front_none s.rest s.decimals s.follows) ∙ append-nil s.whole)
    ∙ ap (λ (t : List ℕ). score_where s.whole (decimals_of t))
    (skip_while-append is_ascii_digit s.whole s.rest digits ∙ skip_all s.rest s.decimals s.follows)
    ∙ ap (score_where s.whole) (decimals_are s.rest s.decimals s.follows)
    ∙ if_some (list_all is_ascii_digit s.decimals && nat_lt 0 (length s.whole + length s.decimals))
    (score_of_digits s.whole s.decimals)
    (both_true _ _ (digits_model.from s.decimals s.digits_after)
    (less_is 0 (length s.whole + length s.decimals) s.some_digit))
    ∙ ap Some (scored_digits s.whole s.decimals said s.value)
