-- What an engine writes of a score is read back.
use Rattle.std.proofs.Common.{◌≡◌, ℕ, ◌+◌, ◌*◌, ◌/◌, ◌%◌, ◌≤◌, Bool, true, false, List, [], ◌∷◌, ◌++◌, length}
use Rattle.std.proofs.Common.{Some, refl, sym, ◌∙◌, ap, subst, arith, zero, suc}
use Rattle.std.specs.Prelude.{ℤ, pos, negsuc, neg_ℤ, ◌*ℤ◌, ◌==◌, codes, if◌then◌else◌}
use Rattle.std.specs.Str.Parse.{AllDigits, digits_value}
use Rattle.std.proofs.lemmas.Bool.Decides.{nat_tests}
use Rattle.std.proofs.lemmas.Fmt.{decimal_digit, decimal_is_IsNumeral, length-decimal-le}
use Rattle.std.proofs.lemmas.Int.{ints}
use Rattle.std.proofs.lemmas.List.{append-nil}
use Rattle.go_base.specs.Int.{written_int}
use Rattle.go_base.specs.Komi.{IsKomi, most_half_points}
use Rattle.go_base.specs.HalfPoints.{written_points, score_text}
use Rattle.go_base.proofs.general.Fronts.{digits_model}
use Rattle.go_board.specs.Game.{GameRecord}
use Rattle.go_board.specs.Area.{score}
use Rattle.gtp_wire.specs.Bytes.{is_space}
use Rattle.gtp_wire.specs.private.LineReading.{is_plain}
use Rattle.gtp_wire.proofs.written.OneLine.{IsWord}
use Rattle.gtp_wire.proofs.written.CommandWords.{command_words}
use Rattle.gtp_check_judge.specs.declared.scores.SaidScore.{SaidScore}
use Rattle.gtp_check_judge.specs.declared.scores.SaidScore.TheVariants.{Number}
use Rattle.gtp_check_judge.specs.Dues.{IsFresh}
use Rattle.gtp_check_judge.specs.Scores.{are_only_zeros, negated, score_of_words, score_of_text}
use Rattle.gtp_check_judge.specs.AnswerLaws.{FollowsDigits, IsScoreOf, SaysWith, SpellsPlainPoints, SpellsPoints}
use Rattle.gtp_wire.proofs.texts.ReadBack.{words_of_joined}
use Rattle.gtp_wire.specs.declared.commands.Command.TheVariants as command
use Rattle.gtp_check_judge.proofs.scoring.EmptyBoard.{score_fresh}
use Rattle.gtp_check_judge.proofs.scoring.Exponents.{spelled_points}
use Rattle.gtp_check_judge.proofs.scoring.Texts.{zero_read}

-- this number of half points, written with so many digits
abbrev pub halves : ℤ → ℕ → SaidScore
halves n unit = Number (record { millionths = pos 500000 *ℤ n; unit = unit })

-- ---- points

-- what follows the whole part of a number of half points, and the digits after the point
abbrev half_text : Bool → List ℕ
half_text b = if b then codes ".5" else []

abbrev half_digits : Bool → List ℕ
half_digits b = if b then codes "5" else []

abbrev half_unit : Bool → ℕ
half_unit b = if b then 100000 else 1000000

half_follows : (b : Bool) → FollowsDigits (half_text b) (half_digits b)
half_follows true = FollowsDigits.point (codes "5")
half_follows false = FollowsDigits.nothing

half_is_digits : (b : Bool) → AllDigits 10 (half_digits b)
half_is_digits true = digits_model.to (codes "5") refl
half_is_digits false = tt

whole_halves : (n : ℕ) → (n % 2 == 1) ≡ true → 1000000 * (n / 2) + 100000 * 5 ≡ 500000 * n
whole_halves n e =
    let odd : n % 2 ≡ 1 = grind (arith, nat_tests) in omega (arith, odd)

even_halves : (n : ℕ) → (n % 2 == 1) ≡ false → 1000000 * (n / 2) + 1000000 * 0 ≡ 500000 * n
even_halves n e =
    let even : n % 2 ≡ 0 = grind (arith, nat_tests) in omega (arith, even)

half_scored : (n : ℕ) (whole : List ℕ) (b : Bool) → (n % 2 == 1) ≡ b → length whole ≤ 9
    → digits_value 10 whole ≡ n / 2 → IsScoreOf whole (half_digits b) (halves (pos n) (half_unit b))
half_scored n whole true is few value =
    IsScoreOf.short _ few (omega arith) refl
    (let same : 1000000 * digits_value 10 whole + 100000 * 5 ≡ 500000 * n =
    ap (λ (w : ℕ). 1000000 * w + 100000 * 5) value ∙ whole_halves n is in omega (arith, ints, same))
half_scored n whole false is few value =
    IsScoreOf.short _ few (omega arith) refl
    (let same : 1000000 * digits_value 10 whole + 1000000 * 0 ≡ 500000 * n =
    ap (λ (w : ℕ). 1000000 * w + 1000000 * 0) value ∙ even_halves n is in omega (arith, ints, same))

plain_spelled : (n : ℕ) → n ≤ most_half_points
    → SpellsPlainPoints (halves (pos n) (half_unit (n % 2 == 1))) (written_points n)
plain_spelled n most =
    let numeral = decimal_is_IsNumeral (n / 2) (omega arith) in
    record {
      whole = written_int (n / 2);
      rest = half_text (n % 2 == 1);
      decimals = half_digits (n % 2 == 1);
      shape = refl;
      follows = half_follows (n % 2 == 1);
      digits_before = numeral.0.1;
      digits_after = half_is_digits (n % 2 == 1);
      some_digit = omega (arith, numeral.0.0);
      value =
          half_scored n (written_int (n / 2)) (n % 2 == 1) refl
          (length-decimal-le 9 (n / 2) (omega arith) (omega arith) (omega arith)) numeral.1;
    }

-- our engine writes no exponent
abbrev points_spelled : (n : ℕ) → n ≤ most_half_points
    → SpellsPoints (halves (pos n) (half_unit (n % 2 == 1))) (written_points n)
points_spelled n most = record {
  number = written_points n;
  exponent = [];
  shape = sym (append-nil (written_points n));
  plain = halves (pos n) (half_unit (n % 2 == 1));
  spelled = plain_spelled n most;
  value = SaysWith.no_exponent;
}

points_word : (n : ℕ) → n ≤ most_half_points → IsWord (written_points n)
points_word n most =
    (command_words (command.Komi (pos n)) tt (record {
      least = omega (arith, ints);
      most = omega (
        arith,
        ints,
        most,
      );
    })).1.0

-- a letter and a plus before a word are a word
lead_word : (letter : ℕ) (w : List ℕ) → is_plain letter ≡ true → is_space letter ≡ false → IsWord w
    → IsWord (letter ∷ 43 ∷ w)
lead_word letter w plain whole word = record {
  some = omega arith;
  plain = (plain, (refl, word.plain));
  whole = (whole, (refl, word.whole));
}

-- a score that is read as this number of half points
pub record IsRead (text : List ℕ) (n : ℤ) : Type 0 where
  pub unit : ℕ
  pub read : score_of_text text ≡ Some (halves n unit)

black_leads : (n : ℕ) → n ≤ most_half_points → IsRead (66 ∷ 43 ∷ written_points n) (pos n)
black_leads n most = record {
  unit = half_unit (n % 2 == 1);
  read =
      ap score_of_words (words_of_joined (66 ∷ 43 ∷ written_points n) []
      (lead_word 66 (written_points n) refl refl (points_word n most), tt))
      ∙ spelled_points (written_points n) (halves (pos n) (half_unit (n % 2 == 1))) (points_spelled n most);
}

white_number : (n : ℕ) → neg_ℤ (pos 500000 *ℤ pos n) ≡ pos 500000 *ℤ neg_ℤ (pos n)
white_number n = omega (arith, ints)

white_leads : (n : ℕ) → n ≤ most_half_points → IsRead (87 ∷ 43 ∷ written_points n) (neg_ℤ (pos n))
white_leads n most = record {
  unit = half_unit (n % 2 == 1);
  read =
      ap score_of_words (words_of_joined (87 ∷ 43 ∷ written_points n) []
      (lead_word 87 (written_points n) refl refl (points_word n most), tt))
      ∙ ap negated (spelled_points (written_points n) (halves (pos n) (half_unit (n % 2 == 1))) (points_spelled n most))
      ∙ ap (λ (z : ℤ). Some (Number (record { millionths = z; unit = half_unit (n % 2 == 1) }))) (white_number n);
}

zeros : are_only_zeros (written_points 0) ≡ true
zeros = ap (λ (w : List ℕ). are_only_zeros (w ++ [])) (decimal_digit 0 (omega arith))

even_score : IsRead (score_text (pos zero)) (pos zero)
even_score = record {
  unit = half_unit (0 % 2 == 1);
  read =
      ap score_of_words (words_of_joined (written_points 0) [] (points_word 0 (omega arith), tt))
      ∙ zero_read (written_points 0) (halves (pos 0) (half_unit (0 % 2 == 1))) (points_spelled 0 (omega arith)) zeros;
}

pub score_says : (s : ℤ) → IsKomi s → IsRead (score_text s) s
score_says (pos zero) is = even_score
score_says (pos (suc n)) is = black_leads (suc n) (omega (arith, ints, is.most))
score_says (negsuc n) is =
    let same : neg_ℤ (pos (n + 1)) ≡ negsuc n = omega (arith, ints) in
    subst (IsRead (score_text (negsuc n))) same (white_leads (n + 1) (omega (arith, ints, is.least)))

-- an engine's score of an empty board is read as that of komi alone
pub fresh_score_reads : (game : GameRecord) → IsFresh game → IsKomi game.komi
    → IsRead (score_text (score game)) (neg_ℤ game.komi)
fresh_score_reads game fresh komi =
    subst (λ (s : ℤ). IsRead (score_text s) (neg_ℤ game.komi)) (sym (score_fresh game fresh))
    (score_says (neg_ℤ game.komi) (record {
      least = omega (arith, ints, komi.most);
      most = omega (arith, ints, komi.least);
    }))
