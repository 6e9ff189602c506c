-- The line of a match that a ruling ended is the line of no match that ended by itself.
use Rattle.std.proofs.Common.{◌≡◌, ◌≢◌, ℕ, pos, negsuc, zero, suc, ◌+◌, ◌<◌, ◌/◌, ◌%◌, Bool, true, false}
use Rattle.std.proofs.Common.{List, [], ◌∷◌, ◌++◌, drop, get_or, length, refl, sym, ap, ◌∙◌, arith}
use Rattle.std.proofs.Common.{append_assoc, append-nil}
use Rattle.std.specs.Char.{is_ascii_digit}
use Rattle.std.specs.Fmt.{decimal, digits, digits_onto, digit_glyph}
use Rattle.std.specs.List.{concat, list_all}
use Rattle.std.specs.Prelude.{codes, nat_lt, ◌==◌, if◌then◌else◌}
use Rattle.go_base.specs.declared.colours.Colour.{Colour}
use Rattle.go_base.specs.declared.colours.Colour.TheVariants.{Black, White}
use Rattle.gtp_match.specs.ResultLine.{cause_text, counts_text, verdict_text, won_against}
use Rattle.gtp_match.specs.declared.verdicts.ForfeitCause.{ForfeitCause}
use Rattle.gtp_match.specs.declared.verdicts.ForfeitCause.TheVariants.{RefusedPlay, NoMove, NoVertex, IllegalMove}
use Rattle.gtp_match.specs.declared.verdicts.Verdict.{Verdict}
use Rattle.gtp_match.specs.declared.verdicts.Verdict.TheVariants.{Score, Resign, Limit, Forfeit, Unfit, Abandoned}
use Rattle.gtp_match.specs.referee.Calls.{RulingLinesDiffer}
use Rattle.gtp_match.specs.referee.ResultLine.{ruled_text, ruling_text}
use Rattle.gtp_match.specs.referee.Ruling.{IsRuling, is_reason_byte, is_forfeit_text}
use Rattle.gtp_match.specs.declared.referee.rulings.Ruling.{Ruling}
use Rattle.gtp_match.specs.declared.referee.rulings.Ruling.TheVariants.{Time, Reason}

-- ---- lists up to a byte that they lack

-- two texts whose bytes pass, each before a byte that doesn't: they are the same, and so is what follows
same_before : (p : ℕ → Bool) (c : ℕ) → p c ≡ false → (xs ys s t : List ℕ) → list_all p xs ≡ true
    → list_all p ys ≡ true → xs ++ c ∷ s ≡ ys ++ c ∷ t → (xs ≡ ys) × (s ≡ t)
same_before p c stops [] [] s t all_x all_y e = (refl, ap (drop 1) e)
same_before p c stops [] (y ∷ ys) s t all_x all_y e =
    let head : c ≡ y = ap (λ (l : List ℕ). get_or l 0 0) e in
    absurd (grind (arith, stops, all_y, head))
same_before p c stops (x ∷ xs) [] s t all_x all_y e =
    let head : x ≡ c = ap (λ (l : List ℕ). get_or l 0 0) e in
    absurd (grind (arith, stops, all_x, head))
same_before p c stops (x ∷ xs) (y ∷ ys) s t all_x all_y e =
    let head : x ≡ y = ap (λ (l : List ℕ). get_or l 0 0) e in
    let rest = same_before p c stops xs ys s t (grind (arith, all_x)) (grind (arith, all_y)) (ap (drop 1) e) in
    (ap (λ (b : ℕ). b ∷ xs) head ∙ ap (λ (l : List ℕ). y ∷ l) rest.0, rest.1)

-- ---- decimals

either : (p : ℕ → Bool) (b : Bool) (xs ys : List ℕ) → list_all p xs ≡ true → list_all p ys ≡ true
    → list_all p (if b then xs else ys) ≡ true
either p true xs ys all_x all_y = all_x
either p false xs ys all_x all_y = all_y

glyph : (d : ℕ) → d < 10 → is_ascii_digit (digit_glyph false d) ≡ true
glyph d small = grind (arith, small)

onto_all : (k n : ℕ) (acc : List ℕ) → list_all is_ascii_digit acc ≡ true
    → list_all is_ascii_digit (digits_onto k 10 false n acc) ≡ true
onto_all zero n acc all = all
onto_all (suc k) n acc all =
    let more : list_all is_ascii_digit (digit_glyph false (n % 10) ∷ acc) ≡ true =
    rw (glyph (n % 10) (omega arith)) all in
    either is_ascii_digit (n / 10 == 0) _ _ more (onto_all k (n / 10) _ more)

longer : (b : Bool) (xs ys : List ℕ) → 0 < length xs → 0 < length ys → 0 < length (if b then xs else ys)
longer true xs ys some_x some_y = some_x
longer false xs ys some_x some_y = some_y

onto_some : (k n : ℕ) (acc : List ℕ) → 0 < length acc → 0 < length (digits_onto k 10 false n acc)
onto_some zero n acc some = some
onto_some (suc k) n acc some =
    longer (n / 10 == 0) _ _ (omega arith) (onto_some k (n / 10) (digit_glyph false (n % 10) ∷ acc) (omega arith))

decimal_all : (n : ℕ) → list_all is_ascii_digit (decimal n) ≡ true
unfolding digits
decimal_all n = onto_all 64 n [] refl

decimal_some : (n : ℕ) → 0 < length (decimal n)
unfolding digits
decimal_some n =
    longer (n / 10 == 0) _ _ (omega arith)
    (onto_some 63 (n / 10) (digit_glyph false (n % 10) ∷ []) (omega arith))

first_passes : (p : ℕ → Bool) (l rest : List ℕ) → 0 < length l → list_all p l ≡ true
    → p (get_or (l ++ rest) 0 0) ≡ true
first_passes p [] rest some all = absurd (omega (arith, some))
first_passes p (x ∷ xs) rest some all = grind (arith, all)

first_digit : (n : ℕ) (x rest : List ℕ) → is_ascii_digit (get_or ((decimal n ++ x) ++ rest) 0 0) ≡ true
first_digit n x rest =
    rw (append_assoc (decimal n) x rest)
    (first_passes is_ascii_digit (decimal n) (x ++ rest) (decimal_some n) (decimal_all n))

-- ---- verdicts

first : {a b : List ℕ} → a ≡ b → get_or a 0 0 ≡ get_or b 0 0
first e = ap (λ (l : List ℕ). get_or l 0 0) e

-- `B+` or `W+`, before any text
after_win : (c : Colour) (l s : List ℕ) → drop 2 ((won_against c ++ l) ++ s) ≡ l ++ s
after_win Black l s = refl
after_win White l s = refl

win_is_no_digit : (c : Colour) (l s : List ℕ) → is_ascii_digit (get_or ((won_against c ++ l) ++ s) 0 0) ≡ false
win_is_no_digit Black l s = refl
win_is_no_digit White l s = refl

win_is_capital : (c : Colour) (l s : List ℕ) → nat_lt (get_or ((won_against c ++ l) ++ s) 0 0) 91 ≡ true
win_is_capital Black l s = refl
win_is_capital White l s = refl

small_first : (c : Colour) (l s rest : List ℕ) (b : ℕ) → nat_lt b 91 ≡ false → (won_against c ++ l) ++ s ≢ b ∷ rest
small_first c l s rest b small e =
    let wrong : true ≡ false = sym (win_is_capital c l s) ∙ (ap (λ (n : ℕ). nat_lt n 91) (first e) ∙ small) in cc

no_resignation : (r : Ruling) (s t : List ℕ) → ruling_text r ++ s ≢ 82 ∷ t
no_resignation Time s t e = absurd (omega (arith, first e))
no_resignation (Reason kept) s t e = absurd (omega (arith, first e))

no_points : (r : Ruling) (n : ℕ) (x s t : List ℕ) → ruling_text r ++ s ≢ (decimal n ++ x) ++ t
no_points Time n x s t e =
    let wrong : false ≡ true = ap is_ascii_digit (first e) ∙ first_digit n x t in cc
no_points (Reason kept) n x s t e =
    let wrong : false ≡ true = ap is_ascii_digit (first e) ∙ first_digit n x t in cc

cause_bytes : (cause : ForfeitCause) → list_all is_reason_byte (cause_text cause) ≡ true
cause_bytes RefusedPlay = refl
cause_bytes NoMove = refl
cause_bytes NoVertex = refl
cause_bytes IllegalMove = refl

cause_forfeits : (cause : ForfeitCause) → is_forfeit_text (cause_text cause) ≡ true
cause_forfeits RefusedPlay = refl
cause_forfeits NoMove = refl
cause_forfeits NoVertex = refl
cause_forfeits IllegalMove = refl

no_forfeit : (r : Ruling) → IsRuling r → (cause : ForfeitCause) (s t : List ℕ)
    → ruling_text r ++ s ≢ 70 ∷ 40 ∷ (cause_text cause ++ 41 ∷ []) ++ t
no_forfeit Time is cause s t e = absurd (omega (arith, first e))
no_forfeit (Reason kept) is cause s t e =
    let inner : kept.items ++ 41 ∷ s ≡ cause_text cause ++ 41 ∷ t =
    sym (append_assoc kept.items (41 ∷ []) s) ∙ (ap (drop 2) e ∙ append_assoc (cause_text cause) (41 ∷ []) t) in
    let same = same_before is_reason_byte 41 refl kept.items _ s t is.0.bytes (cause_bytes cause) inner in
    let wrong : false ≡ true = sym is.0.no_forfeit ∙ (ap is_forfeit_text same.0 ∙ cause_forfeits cause) in cc

differ : (loser : Colour) (r : Ruling) → IsRuling r → (v : Verdict) (s t : List ℕ)
    → (won_against loser ++ ruling_text r) ++ s ≢ verdict_text v ++ t
differ loser r is (Score (pos zero)) s t e =
    let wrong : false ≡ true =
    sym (win_is_no_digit loser (ruling_text r) s) ∙ (ap is_ascii_digit (first e) ∙ first_digit 0 [] t) in cc
differ loser r is (Score (pos (suc n))) s t e =
    no_points r (suc n / 2) _ s t (sym (after_win loser (ruling_text r) s) ∙ ap (drop 2) e)
differ loser r is (Score (negsuc n)) s t e =
    no_points r ((n + 1) / 2) _ s t (sym (after_win loser (ruling_text r) s) ∙ ap (drop 2) e)
differ loser r is (Resign side) s t e =
    no_resignation r s t
    (sym (after_win loser (ruling_text r) s) ∙ (ap (drop 2) e ∙ after_win side (82 ∷ []) t))
differ loser r is Limit s t e = small_first loser (ruling_text r) s _ _ refl e
differ loser r is (Forfeit side cause) s t e =
    no_forfeit r is cause s t
    (sym (after_win loser (ruling_text r) s)
    ∙ (ap (drop 2) e ∙ after_win side (70 ∷ 40 ∷ cause_text cause ++ 41 ∷ []) t))
differ loser r is (Unfit side) s t e = small_first loser (ruling_text r) s _ _ refl e
differ loser r is (Abandoned side) s t e = small_first loser (ruling_text r) s _ _ refl e

-- ---- lines

shape : (number : ℕ) (text counts : List ℕ)
    → concat (codes "game " ∷ decimal number ∷ codes ": " ∷ text ∷ []) ++ counts
    ≡ 103 ∷ 97 ∷ 109 ∷ 101 ∷ 32 ∷ (decimal number ++ 58 ∷ 32 ∷ (text ++ counts))
shape number text counts =
    ap (λ (l : List ℕ). 103 ∷ 97 ∷ 109 ∷ 101 ∷ 32 ∷ l)
    (append_assoc (decimal number) (58 ∷ 32 ∷ (text ++ [])) counts
    ∙ ap (λ (l : List ℕ). decimal number ++ 58 ∷ 32 ∷ (l ++ counts)) (append-nil text))

pub ruling_lines_differ : RulingLinesDiffer
ruling_lines_differ number other c ended given verdict is e =
    let after : decimal number ++ 58 ∷ 32 ∷ (ruled_text given ++ counts_text c)
    ≡ decimal other ++ 58 ∷ 32 ∷ (verdict_text verdict ++ counts_text ended) =
    ap (drop 5)
    (sym (shape number (ruled_text given) (counts_text c))
    ∙ (e ∙ shape other (verdict_text verdict) (counts_text ended))) in
    let same = same_before is_ascii_digit 58 refl (decimal number) (decimal other) _ _
    (decimal_all number) (decimal_all other) after in
    differ given.loser given.ruling is verdict (counts_text c) (counts_text ended) (ap (drop 1) same.1)
