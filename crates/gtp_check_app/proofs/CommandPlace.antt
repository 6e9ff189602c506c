-- Where the engine's command stands among words, and the line in which options after it are reported.
use Rattle.std.proofs.Common.{◌≡◌, ◌∙◌, ◌++◌, ◌∷◌, ◌+◌, ◌-◌, ◌<◌, ◌≤◌, ℕ, Bool, List, [], ap, arith, sym, append_assoc}
use Rattle.std.proofs.Common.{length, drop, take, get_or, map, true, false, refl, zero, suc}
use Rattle.std.specs.Prelude.{if◌then◌else◌, max}
use Rattle.std.proofs.lemmas.List.{append-nil, at_drop_all, at_drop_more, get_or-map, length-map, take-map, drop-map}
use Rattle.clap.specs.Words.{Text}
use Rattle.gtp_check_app.specs.Misplaced.{before_command, command_at, is_before_command, spaced}
use Rattle.gtp_check_texts.proofs.Joining.{appended-step}

-- ---- where the command stands

-- a word that is before the command counts, and so do those after it
one_before : (last word : Text) (words : List Text) → is_before_command last word ≡ true
    → before_command last (word ∷ words) ≡ before_command word words + 1
unfolding before_command
one_before last word words is =
    ap (λ (b : Bool). if b then before_command word words + 1 else 0) is

-- the command is the first that isn't
none_before : (last word : Text) (words : List Text) → is_before_command last word ≡ false
    → before_command last (word ∷ words) ≡ 0
unfolding before_command
none_before last word words is =
    ap (λ (b : Bool). if b then before_command word words + 1 else 0) is

no_words : (last : Text) → before_command last [] ≡ 0
unfolding before_command
no_words last = refl

module _ (words : List Text) (k total : ℕ)
    (so_far : k + before_command (get_or words (k - 1) []) (drop k words) ≡ total) where
  -- those from here on are this word and those after it
  from_here : k < length words → before_command (get_or words (k - 1) []) (drop k words)
      ≡ before_command (get_or words (k - 1) []) (get_or words k [] ∷ drop (k + 1) words)
  from_here within =
      at_drop_more (λ (l : List Text). before_command (get_or words (k - 1) []) l) words k [] within

  -- this word is before the command
  pub more_before : k < length words → is_before_command (get_or words (k - 1) []) (get_or words k []) ≡ true
      → k + 1 + before_command (get_or words (k + 1 - 1) []) (drop (k + 1) words) ≡ total
  more_before within is =
      let here = from_here within in
      let one = one_before (get_or words (k - 1) []) (get_or words k []) (drop (k + 1) words) is in
      let same : k + 1 - 1 ≡ k = omega arith in
      let last = ap (λ (n : ℕ). before_command (get_or words n []) (drop (k + 1) words)) same in
      omega (arith, so_far, here, one, last)

  -- this word is the command
  pub it_is : k < length words → is_before_command (get_or words (k - 1) []) (get_or words k []) ≡ false
      → k ≡ total
  it_is within is =
      let here = from_here within in
      let none = none_before (get_or words (k - 1) []) (get_or words k []) (drop (k + 1) words) is in
      omega (arith, so_far, here, none)

  -- all words are before it
  pub all_before : length words ≤ k → k ≡ total
  all_before past =
      let none = at_drop_all (λ (l : List Text). before_command (get_or words (k - 1) []) l) words k past in
      let nought = no_words (get_or words (k - 1) []) in
      omega (arith, so_far, none, nought)

-- there is at most the program's name
pub few_words : (words : List Text) → length words ≤ 1 → command_at words ≡ 1
few_words words few =
    let none = at_drop_all (λ (l : List Text). before_command (get_or words 0 []) l) words 1 few in
    let nought = no_words (get_or words 0 []) in
    omega (arith, none, nought)

-- at the end of the words
pub at_end : (count k total most : ℕ) → most ≡ max count 1 → count ≤ k → (1 ≤ count → k ≤ count) → k ≡ total
    → (count ≤ 1 → total ≡ 1) → most ≡ total
at_end zero k total most is past up_to all few = is ∙ sym (few (omega arith))
at_end (suc count) k total most is past up_to all few =
    let within = up_to (omega arith) in
    omega (arith, is, past, within, all)

-- ---- the line

-- one word more is appended
pub added_word : {A : Type 0} (text_of : A → Text) (words : List A) (k : ℕ) (other : A)
    (before text pushed next word : List ℕ) → k < length words
    → text ≡ before ++ spaced (map text_of (take k words)) → pushed ≡ text ++ 32 ∷ [] → next ≡ pushed ++ word
    → word ≡ text_of (get_or words k other)
    → next ≡ before ++ spaced (map text_of (take (k + 1) words))
added_word text_of words k other before text pushed next word within text-is pushed-is next-is word-is =
    let inside : k < length (map text_of words) = omega (arith, within, length-map words text_of) in
    next-is ∙ ap (λ (t : List ℕ). t ++ word) pushed-is ∙ append_assoc text (32 ∷ []) word
    ∙ ap (λ (t : List ℕ). text ++ 32 ∷ t) (word-is ∙ sym (get_or-map text_of words k other [] within))
    ∙ appended-step (λ (t : Text). 32 ∷ t) (map text_of words) k [] before text inside
    (text-is ∙ ap (λ (l : List Text). before ++ spaced l) (sym (take-map text_of k words)))
    ∙ ap (λ (l : List Text). before ++ spaced l) (take-map text_of (k + 1) words)

-- six texts, one after the other
six_texts : (a b c d e f : List ℕ)
    → ((((a ++ b) ++ c) ++ d) ++ e) ++ f ≡ a ++ (b ++ (c ++ (d ++ (e ++ (f ++ [])))))
six_texts a b c d e f = simp (append_assoc, append-nil) refl

-- the parts of the line, one after the other
pub whole_line : {A : Type 0} (text_of : A → Text) (words : List A) (at : ℕ) (other : A)
    (nothing begun a b c d e f command opens ends : List ℕ) → at < length words → nothing ≡ [] → begun ≡ nothing ++ a
    → b ≡ begun ++ spaced (map text_of (take (at - 1) (drop 1 words)))
    → c ≡ b ++ spaced (map text_of (drop (at + 1) words)) → d ≡ c ++ opens → e ≡ d ++ command → f ≡ e ++ ends
    → command ≡ text_of (get_or words at other)
    → f ≡ a ++ (spaced (take (at - 1) (drop 1 (map text_of words))) ++ (spaced (drop (at + 1) (map text_of words))
    ++ (opens ++ (get_or (map text_of words) at [] ++ (ends ++ [])))))
whole_line text_of words at other nothing begun a b c d e f command opens ends within no-is a-is b-is c-is d-is e-is f-is
    command-is =
    let options = spaced (map text_of (take (at - 1) (drop 1 words))) in
    let after = spaced (map text_of (drop (at + 1) words)) in
    let options-are = ap spaced (sym (take-map text_of (at - 1) (drop 1 words))
    ∙ ap (λ (l : List Text). take (at - 1) l) (sym (drop-map text_of 1 words))) in
    let after-are = ap spaced (sym (drop-map text_of (at + 1) words)) in
    let it-is = command-is ∙ sym (get_or-map text_of words at other [] within) in
    f-is ∙ ap (λ (t : List ℕ). t ++ ends) (e-is ∙ ap (λ (t : List ℕ). t ++ command)
    (d-is ∙ ap (λ (t : List ℕ). t ++ opens) (c-is ∙ ap (λ (t : List ℕ). t ++ after)
    (b-is ∙ ap (λ (t : List ℕ). t ++ options) (a-is ∙ ap (λ (t : List ℕ). t ++ a) no-is)))))
    ∙ six_texts a options after opens command ends
    ∙ ap (λ (t : List ℕ). a ++ (t ++ (after ++ (opens ++ (command ++ (ends ++ [])))))) options-are
    ∙ ap (λ (t : List ℕ). a ++ (spaced (take (at - 1) (drop 1 (map text_of words)))
    ++ (t ++ (opens ++ (command ++ (ends ++ [])))))) after-are
    ∙ ap (λ (t : List ℕ). a ++ (spaced (take (at - 1) (drop 1 (map text_of words)))
    ++ (spaced (drop (at + 1) (map text_of words)) ++ (opens ++ (t ++ (ends ++ [])))))) it-is
