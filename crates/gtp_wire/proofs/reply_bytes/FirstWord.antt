-- The first word of a reply's text, and those after it.
use Rattle.std.proofs.Common.{◌≡◌, ℕ, ◌<◌, List, [], ◌∷◌, length, filter, Bool, true, false, refl, sym, ◌∙◌, ap}
use Rattle.std.proofs.Common.{arith, inl, inr, ltb}
use Rattle.std.specs.List.{slice_split, onto_first, prefix_len}
use Rattle.std.proofs.lemmas.Bool.{cases_Bool, lt-ltb}
use Rattle.std.proofs.lemmas.List.Splits.{slice_split-cons_yes, slice_split-cons_no}
use Rattle.go_base.specs.Text.{front_while, skip_while}
use Rattle.go_base.proofs.general.Fronts.{skip_while-first}
pub use Rattle.go_base.proofs.general.Fronts.{drop_prefix_len}
use Rattle.gtp_wire.specs.Bytes.{is_blank, is_inside}
use Rattle.gtp_wire.specs.Words.{reply_words}

abbrev pub is_some_part : List ℕ → Bool
is_some_part part = ltb 0 (length part)

-- a blank in front makes no word
blank_in_front : (b : ℕ) (text : List ℕ) → is_blank b ≡ true → reply_words (b ∷ text) ≡ reply_words text
unfolding reply_words
blank_in_front b text blank = ap (filter is_some_part) (slice_split-cons_yes is_blank b text blank)

-- nor do more of them
words_past_blanks : (text : List ℕ) → reply_words text ≡ reply_words (skip_while is_blank text)
words_past_blanks [] = refl
words_past_blanks (b ∷ text) = elim (cases_Bool (is_blank b)) [
  | inl e ↦ rw e (blank_in_front b text e ∙ words_past_blanks text)
  | inr e ↦ rw e refl
]

pub no_words : reply_words [] ≡ []
unfolding reply_words
no_words = refl

-- the first part between blanks, and the words after it
record Parts (text : List ℕ) : Type 0 where
  rest : List (List ℕ)
  parts : slice_split is_blank text ≡ front_while is_inside text ∷ rest
  words : filter is_some_part rest ≡ reply_words (skip_while is_inside text)

parts_of : (text : List ℕ) → Parts text
unfolding reply_words
parts_of [] = record { rest = []; parts = refl; words = refl }
parts_of (b ∷ text) = elim (cases_Bool (is_blank b)) [
  | inl e ↦ record {
    rest = slice_split is_blank text;
    parts = slice_split-cons_yes is_blank b text e ∙ rw e refl;
    words = rw e (sym (ap (filter is_some_part) (slice_split-cons_yes is_blank b text e)));
  }
  | inr e ↦
      let more = parts_of text in
      record {
        rest = more.rest;
        parts = slice_split-cons_no is_blank b text e ∙ ap (onto_first b) more.parts ∙ rw e refl;
        words = rw e more.words;
      }
]

-- a part that isn't empty is a word
pub kept_part : (part : List ℕ) (rest : List (List ℕ)) → 0 < length part
    → filter is_some_part (part ∷ rest) ≡ part ∷ filter is_some_part rest
kept_part part rest some = rw (lt-ltb _ _ some) refl

-- a text that begins with a byte of a word has that word first
word_in_front : (b : ℕ) (text : List ℕ) → is_blank b ≡ false
    → reply_words (b ∷ text) ≡ front_while is_inside (b ∷ text) ∷ reply_words (skip_while is_inside (b ∷ text))
unfolding reply_words
word_in_front b text inside =
    let p = parts_of (b ∷ text) in
    ap (filter is_some_part) p.parts
    ∙ kept_part (front_while is_inside (b ∷ text)) p.rest (rw inside (omega arith))
    ∙ ap (λ ws. front_while is_inside (b ∷ text) ∷ ws) p.words

-- ---- the first word of a text, by what is left after its blanks

pub no_word : (text left : List ℕ) → left ≡ skip_while is_blank text → left ≡ [] → reply_words text ≡ []
no_word text left e none = words_past_blanks text ∙ ap reply_words (sym e ∙ none) ∙ no_words

pub word_first : (text left word rest : List ℕ) → left ≡ skip_while is_blank text → 0 < length left
    → word ≡ front_while is_inside left → rest ≡ skip_while is_inside left
    → reply_words text ≡ word ∷ reply_words rest
word_first text [] word rest e some front back = absurd (omega (arith, some))
word_first text (b ∷ left) word rest e some front back =
    words_past_blanks text ∙ ap reply_words (sym e)
    ∙ word_in_front b left (skip_while-first is_blank text left b (sym e))
    ∙ ap (λ w. w ∷ reply_words (skip_while is_inside (b ∷ left))) (sym front)
    ∙ ap (λ r. word ∷ reply_words r) (sym back)

-- the word isn't empty
pub some_word_bytes : (text left : List ℕ) → left ≡ skip_while is_blank text → 0 < length left
    → 0 < prefix_len is_inside left
some_word_bytes text [] e some = absurd (omega (arith, some))
some_word_bytes text (b ∷ left) e some = rw (skip_while-first is_blank text left b (sym e)) (omega arith)
