-- The lines of a text that are drawn, and the beginnings of texts.
use Rattle.std.proofs.Common.{◌≡◌, ℕ, List, [], ◌∷◌, ◌++◌, take, Bool, true, false, cond}
use Rattle.std.proofs.Common.{refl, sym, ◌∙◌, ap, arith, append_assoc, inl, inr, min}
use Rattle.std.proofs.lemmas.Bool.{cases_lt}
use Rattle.std.proofs.lemmas.List.{length-take, take_all, take-take}
use Rattle.std.specs.List.{slice_split, onto_first, flat_map}
use Rattle.gtp_check_talk.specs.Lines.{is_newline}
use Rattle.gtp_check_texts.specs.Lines.{lines_of, all_but_last}
use Rattle.gtp_check_texts.specs.Board.{comment_line}

-- there is a part always
some_part : (p : ℕ → Bool) (text first : List ℕ)
    → all_but_last (first ∷ slice_split p text) ≡ first ∷ all_but_last (slice_split p text)
some_part p [] first = refl
some_part p (x ∷ text) first = by_test (p x)
  where
    put : (parts : List (List ℕ))
        → all_but_last (first ∷ onto_first x parts) ≡ first ∷ all_but_last (onto_first x parts)
    put [] = refl
    put (part ∷ parts) = refl

    by_test : (b : Bool) → all_but_last (first ∷ cond b ([] ∷ slice_split p text) (onto_first x (slice_split p text)))
        ≡ first ∷ all_but_last (cond b ([] ∷ slice_split p text) (onto_first x (slice_split p text)))
    by_test true = refl
    by_test false = put (slice_split p text)

-- the beginning of a beginning
pub take_shorter : (m n : ℕ) (xs : List ℕ) → take (min m n) xs ≡ take n (take m xs)
take_shorter m n xs = elim (cases_lt m n) [
  | inl less ↦
      let same : min m n ≡ m = omega arith in
      ap (λ (k : ℕ). take k xs) same ∙ sym (take_all n (take m xs) (omega (arith, length-take m xs)))
  | inr more ↦
      let same : min m n ≡ n = omega arith in
      ap (λ (k : ℕ). take k xs) same ∙ sym (take-take n m xs more)
]

-- the lines of a text but the last, each after `# `
abbrev pub drawn : List ℕ → List ℕ
drawn text = flat_map comment_line (all_but_last (lines_of text))

pub drawn-more : (left line more : List ℕ) → lines_of left ≡ line ∷ lines_of more
    → drawn left ≡ comment_line line ++ drawn more
drawn-more left line more is =
    ap (λ (parts : List (List ℕ)). flat_map comment_line (all_but_last parts)) is
    ∙ ap (flat_map comment_line) (some_part is_newline more line)

pub drawn-none : (left : List ℕ) → lines_of left ≡ left ∷ [] → drawn left ≡ []
drawn-none left is = ap (λ (parts : List (List ℕ)). flat_map comment_line (all_but_last parts)) is

-- a line more is drawn
pub drawn-step : (text new left line more whole : List ℕ) → lines_of left ≡ line ∷ lines_of more
    → text ++ drawn left ≡ whole → new ≡ text ++ comment_line line → new ++ drawn more ≡ whole
drawn-step text new left line more whole is so_far pushed =
    ap (λ (t : List ℕ). t ++ drawn more) pushed ∙ append_assoc text (comment_line line) (drawn more)
    ∙ ap (λ (t : List ℕ). text ++ t) (sym (drawn-more left line more is)) ∙ so_far
