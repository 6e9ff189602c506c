-- Texts that are appended one after the other.
use Rattle.std.proofs.Common.{◌≡◌, ◌∙◌, ◌++◌, ◌∷◌, ◌+◌, ◌<◌, ℕ, List, [], ap, sym, append_assoc, length, map, take}
use Rattle.std.proofs.Common.{slice_index_or, refl, zero, suc}
use Rattle.std.proofs.lemmas.List.{append-nil, take_more}
use Rattle.std.proofs.Math.Seq.{take-append-add}
use Rattle.std.specs.List.{concat}

-- the texts of a list, and of one element more
pub concat-push : {A : Type 0} (f : A → List ℕ) (xs : List A) (last : A)
    → concat (map f (xs ++ last ∷ [])) ≡ concat (map f xs) ++ f last
concat-push f [] last = append-nil (f last)
concat-push f (x ∷ xs) last =
    ap (λ (t : List ℕ). f x ++ t) (concat-push f xs last) ∙ sym (append_assoc (f x) (concat (map f xs)) (f last))

-- a loop over a list appends the text of one element more
pub appended-step : {A : Type 0} (f : A → List ℕ) (xs : List A) (k : ℕ) (d : A) (before text : List ℕ) → k < length xs
    → text ≡ before ++ concat (map f (take k xs))
    → text ++ f (slice_index_or xs k d) ≡ before ++ concat (map f (take (k + 1) xs))
appended-step f xs k d before text inside is =
    ap (λ (t : List ℕ). t ++ f (slice_index_or xs k d)) is
    ∙ append_assoc before (concat (map f (take k xs))) (f (slice_index_or xs k d))
    ∙ ap (λ (t : List ℕ). before ++ t) (sym (concat-push f (take k xs) (slice_index_or xs k d))
    ∙ ap (λ part. concat (map f part)) (sym (take_more xs k d inside)))

-- several texts, and one more
concat-end : (parts : List (List ℕ)) (last : List ℕ) → concat (parts ++ last ∷ []) ≡ concat parts ++ last
concat-end [] last = append-nil last
concat-end (part ∷ parts) last =
    ap (λ (t : List ℕ). part ++ t) (concat-end parts last) ∙ sym (append_assoc part (concat parts) last)

-- a text is appended after others
pub one_more : (old text next part : List ℕ) (parts : List (List ℕ)) → text ≡ old ++ concat parts
    → next ≡ text ++ part → next ≡ old ++ concat (parts ++ part ∷ [])
one_more old text next part parts is more =
    more ∙ ap (λ (t : List ℕ). t ++ part) is ∙ append_assoc old (concat parts) part
    ∙ ap (λ (t : List ℕ). old ++ t) (sym (concat-end parts part))

-- the beginning of two texts hangs on no more than the beginning of the first one
pub cut_front : (n : ℕ) (xs ys : List ℕ) → take n (take n xs ++ ys) ≡ take n (xs ++ ys)
cut_front zero xs ys = refl
cut_front (suc n) [] ys = refl
cut_front (suc n) (x ∷ xs) ys = ap (λ (t : List ℕ). x ∷ t) (cut_front n xs ys)

-- the first n of two texts, where the first one leaves so much room
pub joined_cut : (n room : ℕ) (xs ys : List ℕ) → length xs + room ≡ n → xs ++ take room ys ≡ take n (xs ++ ys)
joined_cut n room xs ys is = sym (take-append-add xs ys room) ∙ ap (λ (k : ℕ). take k (xs ++ ys)) is
