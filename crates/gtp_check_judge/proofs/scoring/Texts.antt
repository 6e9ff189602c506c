-- A zero, with an exponent or without one, is read as a score.
use Rattle.std.proofs.Common.{◌≡◌, ℕ, ◌≤◌, Bool, true, false, List, [], ◌∷◌, Option, Some, None, refl, ◌∙◌, ap, arith}
use Rattle.std.specs.Prelude.{◌==◌, ◌||◌, if◌then◌else◌}
use Rattle.std.proofs.lemmas.Bool.{and_parts}
use Rattle.std.proofs.lemmas.Bool.Decides.{nat_tests}
use Rattle.gtp_check_judge.specs.declared.scores.SaidScore.{SaidScore}
use Rattle.gtp_check_judge.specs.Scores.{are_only_zeros, before_exponent, is_before_exponent, lead_of, negated}
use Rattle.gtp_check_judge.specs.Scores.{plain_points_of, points_of, score_of_word, zero_of}
use Rattle.gtp_check_judge.specs.AnswerLaws.{SpellsPoints}
use Rattle.gtp_check_judge.proofs.scoring.PlainPoints.{spelled_plain}
use Rattle.gtp_check_judge.proofs.scoring.Exponents.{number_is, spelled_points}

no_letter : (b : ℕ) (black white other : Option SaidScore) → b ≤ 57 → (if b == 66 then black else
    (if b == 87 then white else other)) ≡ other
no_letter b black white other h =
    let no_b : (b == 66) ≡ false = grind (arith, nat_tests) in
    let no_w : (b == 87) ≡ false = grind (arith, nat_tests) in
    rw no_b (rw no_w refl)

zero_first : (b : ℕ) (bs : List ℕ) → are_only_zeros (b ∷ bs) ≡ true → b ≤ 57
zero_first b bs e =
    let first : (b == 48 || b == 46) ≡ true = (and_parts (b == 48 || b == 46) (are_only_zeros bs) e).0 in
    grind (arith, nat_tests)

if_zero : (b : Bool) (x : Option SaidScore) → b ≡ true → (if b then x else None) ≡ x
if_zero true x e = refl
if_zero false x e = absurd (cc e)

nothing_spelled : (said : SaidScore) → points_of [] ≡ Some said → ⊥
nothing_spelled said e = cc e

none_spelled : (plain : SaidScore) → plain_points_of [] ≡ Some plain → ⊥
none_spelled plain e = cc e

-- a zero begins with a digit or a point, also where an exponent follows
zero_begins : (b : ℕ) (bs : List ℕ) (said : SaidScore) (s : SpellsPoints said (b ∷ bs))
    → are_only_zeros (before_exponent (b ∷ bs)) ≡ true → b ≤ 57
zero_begins b bs said s zeros = by (is_before_exponent b) zeros (number_is (b ∷ bs) said s)
  where
    by : (is : Bool) → are_only_zeros (if is then b ∷ before_exponent bs else []) ≡ true
        → (if is then b ∷ before_exponent bs else []) ≡ s.number → b ≤ 57
    by true zeros number = zero_first b (before_exponent bs) zeros
    by false zeros number =
        absurd (none_spelled s.plain (ap plain_points_of number ∙ spelled_plain s.number s.plain s.spelled))

pub zero_read : (text : List ℕ) (said : SaidScore) (s : SpellsPoints said text) → are_only_zeros s.number ≡ true
    → score_of_word text ≡ Some said
zero_read [] said s zeros = absurd (nothing_spelled said (spelled_points [] said s))
zero_read (b ∷ bs) said s zeros =
    let front = ap are_only_zeros (number_is (b ∷ bs) said s) ∙ zeros in
    no_letter b (lead_of bs) (negated (lead_of bs)) (zero_of (b ∷ bs)) (zero_begins b bs said s front)
    ∙ if_zero (are_only_zeros (before_exponent (b ∷ bs))) (points_of (b ∷ bs)) front ∙ spelled_points (b ∷ bs) said s
