-- The words of a command line by their numbers.
use Rattle.std.proofs.lemmas.Option.{slice_get_past}
use Rattle.std.proofs.Common.{◌≡◌, ℕ, ◌+◌, ◌<◌, ◌≤◌, List, [], ◌∷◌, length, length-drop, drop, Option, None}
use Rattle.std.proofs.Common.{true, false, cond, refl, sym, ◌∙◌, ap, arith, add-one}
use Rattle.std.specs.Prelude.{slice_get, is_some}
use Rattle.std.specs.List.{slice_split, count_by}
use Rattle.std.proofs.lemmas.List.Splits.{length-slice_split}
use Rattle.std.proofs.lemmas.List.Sums.{count_by-le-length}
use Rattle.gtp_wire.specs.Bytes.{is_space}
use Rattle.gtp_wire.specs.Words.{words}
use Rattle.gtp_wire.specs.private.LineReading.{HoldsWords}
use Rattle.gtp_wire.proofs.line_reading.WordsOfLines.{words_joined}

pub word_without_id : (id : Option ℕ) (text : List ℕ) (number : ℕ) → HoldsWords text → 0 < length text
    → is_some id ≡ false
    → slice_get (slice_split is_space text) number ≡ slice_get (drop (cond (is_some id) 1 0) (words text)) number
word_without_id id text number joined some none =
    rw none (ap (λ ws. slice_get ws number) (sym (words_joined text joined some)))

slice_get-drop_one : {X : Type 0} (xs : List X) (number index : ℕ) → index ≡ number + 1
    → slice_get xs index ≡ slice_get (drop 1 xs) number
slice_get-drop_one [] number index e = refl
slice_get-drop_one (x ∷ xs) number index e = rw (e, add-one) refl

pub word_with_id : (id : Option ℕ) (text : List ℕ) (number index : ℕ) → HoldsWords text → 0 < length text
    → is_some id ≡ true → index ≡ number + 1
    → slice_get (slice_split is_space text) index ≡ slice_get (drop (cond (is_some id) 1 0) (words text)) number
word_with_id id text number index joined some has e =
    rw has
    (ap (λ ws. slice_get ws index) (sym (words_joined text joined some))
    ∙ slice_get-drop_one (words text) number index e)

-- there are at most as many words as bytes
pub word_past : (id : Option ℕ) (text : List ℕ) (number : ℕ) → HoldsWords text → 0 < length text → is_some id ≡ true
    → length text ≤ number
    → None ≡ slice_get (drop (cond (is_some id) 1 0) (words text)) number
word_past id text number joined some has past =
    let parts : length (words text) ≡ count_by is_space text + 1 =
    ap length (words_joined text joined some) ∙ length-slice_split is_space text in
    rw has
    (sym (slice_get_past (drop 1 (words text)) number
    (omega (arith, length-drop 1 (words text), parts, count_by-le-length is_space text))))
