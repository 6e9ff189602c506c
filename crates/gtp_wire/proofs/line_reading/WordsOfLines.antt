-- The words of a text that grows at its end, and the line that they are.
use Rattle.go_base.proofs.general.Lists.{split_parts, split_between}
use Rattle.std.proofs.Common.{◌≡◌, ℕ, ◌+◌, ◌<◌, ◌≤◌, List, [], ◌∷◌, ◌++◌, length, Some, Bool, true, false, refl, sym}
use Rattle.std.proofs.Common.{◌∙◌, ap, arith, cond, eqb, ltb, inl, inr, ◌&&◌, not, map, append_assoc, append-nil}
use Rattle.std.proofs.Common.{length-append, filter}
use Rattle.std.proofs.lemmas.Bool.{lt-ltb, eqb-true, cases_Bool}
use Rattle.std.proofs.lemmas.List.Elements.{filter-append}
use Rattle.std.proofs.lemmas.List.Splits.{slice_split-cons_yes, slice_split-cons_no, join_with_byte-slice_split}
use Rattle.std.specs.List.{slice_split, onto_first, join_with_byte, AllByRecursion}
use Rattle.gtp_wire.specs.declared.lines.Line.TheVariants.{TooLong}
use Rattle.gtp_wire.specs.Bytes.{is_kept, is_newline, is_space, before_hash, space_for_tab}
use Rattle.gtp_wire.specs.Words.{words}
use Rattle.gtp_wire.specs.Lines.{line_of, line_of_words}
use Rattle.gtp_wire.specs.private.LineReading.{is_plain, HoldsWords}

abbrev pub some_bytes : List ℕ → Bool
some_bytes part = ltb 0 (length part)

-- the words on both sides of a space
pub words_between : (xs ys : List ℕ) → words (xs ++ 32 ∷ ys) ≡ words xs ++ words ys
words_between xs ys =
    ap (filter some_bytes) (split_between is_space xs ys 32 refl)
    ∙ filter-append some_bytes (slice_split is_space xs) (slice_split is_space ys)

-- two spaces are as one
pub words_two_spaces : (xs ys : List ℕ) → words (xs ++ 32 ∷ 32 ∷ ys) ≡ words (xs ++ 32 ∷ ys)
words_two_spaces xs ys = words_between xs (32 ∷ ys) ∙ sym (words_between xs ys)

-- a space at the end changes nothing
pub words_space : (xs : List ℕ) → words (xs ++ 32 ∷ []) ≡ words xs
words_space xs = words_between xs [] ∙ append-nil (words xs)

-- one byte more in the last part
abbrev pub push_last : List (List ℕ) → ℕ → List (List ℕ)
push_last [] c = (c ∷ []) ∷ []
push_last (w ∷ []) c = (w ++ c ∷ []) ∷ []
push_last (w ∷ v ∷ more) c = w ∷ push_last (v ∷ more) c

push_last_after : (w : List ℕ) (ps : List (List ℕ)) (c : ℕ) (v : List ℕ) (vs : List (List ℕ)) → ps ≡ v ∷ vs
    → push_last (w ∷ ps) c ≡ w ∷ push_last ps c
push_last_after w [] c v vs e = absurd (cc)
push_last_after w (p ∷ ps) c v vs e = refl

push_last-onto_first : (x : ℕ) (ps : List (List ℕ)) (c : ℕ) (v : List ℕ) (vs : List (List ℕ)) → ps ≡ v ∷ vs
    → onto_first x (push_last ps c) ≡ push_last (onto_first x ps) c
push_last-onto_first x [] c v vs e = absurd (cc)
push_last-onto_first x (p ∷ []) c v vs e = refl
push_last-onto_first x (p ∷ q ∷ ps) c v vs e = refl

pub split_push : (xs : List ℕ) (c : ℕ) → is_space c ≡ false
    → slice_split is_space (xs ++ c ∷ []) ≡ push_last (slice_split is_space xs) c
split_push [] c other = slice_split-cons_no is_space c [] other
split_push (x ∷ xs) c other =
    let parts = split_parts is_space xs in
    elim (cases_Bool (is_space x)) [
      | inl e ↦ slice_split-cons_yes is_space x (xs ++ c ∷ []) e ∙ ap (λ ps. [] ∷ ps) (split_push xs c other)
          ∙ sym (push_last_after [] (slice_split is_space xs) c parts.0 parts.1 parts.2)
          ∙ ap (λ ps. push_last ps c) (sym (slice_split-cons_yes is_space x xs e))
      | inr e ↦ slice_split-cons_no is_space x (xs ++ c ∷ []) e ∙ ap (onto_first x) (split_push xs c other)
          ∙ push_last-onto_first x (slice_split is_space xs) c parts.0 parts.1 parts.2
          ∙ ap (λ ps. push_last ps c) (sym (slice_split-cons_no is_space x xs e))
    ]

-- the bytes of the words and one for each word
abbrev pub weight : List (List ℕ) → ℕ
weight [] = 0
weight (w ∷ ws) = length w + 1 + weight ws

pub length-join : (w : List ℕ) (ws : List (List ℕ)) → length (join_with_byte 32 (w ∷ ws)) + 1 ≡ weight (w ∷ ws)
length-join w [] = omega arith
length-join w (v ∷ vs) = omega (arith, length-append w (32 ∷ join_with_byte 32 (v ∷ vs)), length-join v vs)

-- words weigh more as their text grows
weight_after : (b : Bool) (w : List ℕ) (ws vs : List (List ℕ)) → weight ws ≤ weight vs
    → weight (cond b (w ∷ ws) ws) ≤ weight (cond b (w ∷ vs) vs)
weight_after true w ws vs h = omega arith
weight_after false w ws vs h = h

some_bytes_push : (w : List ℕ) (c : ℕ) → some_bytes (w ++ c ∷ []) ≡ true
some_bytes_push w c = lt-ltb _ _ (omega (arith, length-append w (c ∷ [])))

weight_one : (b : Bool) (w : List ℕ) → weight (cond b (w ∷ []) []) ≤ length w + 1
weight_one true w = omega arith
weight_one false w = omega arith

weight_push_last : (ps : List (List ℕ)) (c : ℕ)
    → weight (filter some_bytes ps) ≤ weight (filter some_bytes (push_last ps c))
weight_push_last [] c = omega arith
weight_push_last (w ∷ []) c =
    rw (some_bytes_push w c) (omega (arith, weight_one (some_bytes w) w, length-append w (c ∷ [])))
weight_push_last (w ∷ v ∷ more) c =
    weight_after (some_bytes w) w (filter some_bytes (v ∷ more)) (filter some_bytes (push_last (v ∷ more) c))
    (weight_push_last (v ∷ more) c)

weight_push : (xs : List ℕ) (c : ℕ) → weight (words xs) ≤ weight (words (xs ++ c ∷ []))
weight_push xs c = elim (cases_Bool (is_space c)) [
  | inl e ↦ let space : c ≡ 32 = eqb-true c 32 e in
      rw space (let same : words (xs ++ 32 ∷ []) ≡ words xs = words_space xs in omega (arith, ap weight same))
  | inr e ↦ let same : weight (words (xs ++ c ∷ []))
      ≡ weight (filter some_bytes (push_last (slice_split is_space xs) c)) =
      ap (λ ps. weight (filter some_bytes ps)) (split_push xs c e) in
      omega (arith, same, weight_push_last (slice_split is_space xs) c)
]

pub weight_grows : (xs ys : List ℕ) → weight (words xs) ≤ weight (words (xs ++ ys))
weight_grows xs [] = rw (append-nil xs) (omega arith)
weight_grows xs (y ∷ ys) =
    let rest : weight (words (xs ++ y ∷ [])) ≤ weight (words ((xs ++ y ∷ []) ++ ys)) =
    weight_grows (xs ++ y ∷ []) ys in
    let same : weight (words ((xs ++ y ∷ []) ++ ys)) ≡ weight (words (xs ++ y ∷ ys)) =
    ap (λ t. weight (words t)) (append_assoc xs (y ∷ []) ys) in
    let one : weight (words xs) ≤ weight (words (xs ++ y ∷ [])) = weight_push xs y in
    omega arith

-- where no part is empty, the parts are the words
filter_all : (ps : List (List ℕ)) → AllByRecursion (λ part. 0 < length part) ps → filter some_bytes ps ≡ ps
filter_all [] all = refl
filter_all (p ∷ ps) all = rw (lt-ltb _ _ all.0) (ap (λ qs. p ∷ qs) (filter_all ps all.1))

-- the words of a joined text, joined, are the text
pub words_joined : (held : List ℕ) → HoldsWords held → 0 < length held → words held ≡ slice_split is_space held
words_joined held joined some = filter_all (slice_split is_space held) (joined.single some)

pub join_words : (held : List ℕ) → HoldsWords held → 0 < length held → join_with_byte 32 (words held) ≡ held
join_words held joined some =
    ap (join_with_byte 32) (words_joined held joined some) ∙ join_with_byte-slice_split 32 held

-- a joined text that isn't empty has a word
pub some_word : (held : List ℕ) → HoldsWords held → 0 < length held
    → (w : List ℕ) × (ws : List (List ℕ)) × (words held ≡ w ∷ ws)
some_word held joined some =
    let parts = split_parts is_space held in
    (parts.0, parts.1, words_joined held joined some ∙ parts.2)

-- words whose weight is large are too long
pub too_long_words : (ws : List (List ℕ)) → 1002 ≤ weight ws → line_of_words ws ≡ Some TooLong
unfolding line_of_words
too_long_words [] large = absurd (omega arith)
too_long_words (w ∷ ws) large =
    rw (lt-ltb 1000 (length (join_with_byte 32 (w ∷ ws))) (omega (arith, length-join w ws))) refl

pub weight_joined : (held : List ℕ) → HoldsWords held → 0 < length held → weight (words held) ≡ length held + 1
weight_joined held joined some =
    let word = some_word held joined some in
    let join : length (join_with_byte 32 (words held)) ≡ length held = ap length (join_words held joined some) in
    let sum : length (join_with_byte 32 (words held)) + 1 ≡ weight (words held) =
    rw word.2 (length-join word.0 word.1) in
    omega arith

-- what `#` and HT leave of a plain text in front
abbrev pub cleaned : List ℕ → List ℕ
cleaned l = map space_for_tab (before_hash l)

-- the four tests of a plain byte
plain_tests : (k t n h : Bool) → (k && (not t && (not n && not h))) ≡ true
    → (k ≡ true) × (t ≡ false) × (n ≡ false) × (h ≡ false)
plain_tests true false false false e = (refl, refl, refl, refl)
plain_tests true false false true e = absurd (cc)
plain_tests true false true h e = absurd (cc)
plain_tests true true n h e = absurd (cc)
plain_tests false t n h e = absurd (cc)

pub plain_byte : (b : ℕ) → is_plain b ≡ true
    → (is_kept b ≡ true) × (eqb b 9 ≡ false) × (is_newline b ≡ false) × (eqb b 35 ≡ false)
plain_byte b e = plain_tests (is_kept b) (eqb b 9) (eqb b 10) (eqb b 35) e

pub cleaned_plain : (held l : List ℕ) → AllByRecursion (λ b. is_plain b ≡ true) held
    → cleaned (held ++ l) ≡ held ++ cleaned l
cleaned_plain [] l plain = refl
cleaned_plain (b ∷ held) l plain =
    rw ((plain_byte b plain.0).3) (rw ((plain_byte b plain.0).1) (ap (λ t. b ∷ t) (cleaned_plain held l plain.1)))

-- the line of a text whose front is too long
pub too_long_line : (held l : List ℕ) → HoldsWords held → 1000 < length held → line_of (held ++ l) ≡ Some TooLong
unfolding line_of
too_long_line held l joined long =
    let grows : weight (words held) ≤ weight (words (held ++ cleaned l)) = weight_grows held (cleaned l) in
    let here : weight (words held) ≡ length held + 1 = weight_joined held joined (omega arith) in
    ap (λ t. line_of_words (words t)) (cleaned_plain held l joined.plain)
    ∙ too_long_words (words (held ++ cleaned l)) (omega arith)
