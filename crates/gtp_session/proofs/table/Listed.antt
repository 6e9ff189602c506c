-- The words that are in the list of the commands.
use Rattle.std.proofs.Common.{[], ◌≡◌, ℕ, zero, suc, ◌<◌, List, ◌∷◌, length, Bool, true, false, cond, Option, Some}
use Rattle.std.proofs.Common.{refl, arith}
use Rattle.std.proofs.lemmas.Slice.Eq.{bytes_eq-Decides}
use Rattle.std.specs.Prelude.{◌↔◌, map, find, slice_index_or, is_some, Contains}
use Rattle.std.specs.Str.{bytes_eq}
use Rattle.gtp_session.specs.declared.commands.CommandName.{CommandName}
use Rattle.gtp_session.specs.Commands.{spelled, all_commands, command_named}

word_found : (cs : List CommandName) (word : List ℕ) (o : Option CommandName)
    → find (λ (d : CommandName). bytes_eq (spelled d) word) cs ≡ o → is_some o ≡ true → Contains (map spelled cs) word
word_found [] word o e some = absurd (cc e)
word_found (d ∷ ds) word o e some = by_test (bytes_eq (spelled d) word) refl e (λ f. word_found ds word o f some)
  where
    by_test : (t : Bool) → bytes_eq (spelled d) word ≡ t
        → cond t (Some d) (find (λ (x : CommandName). bytes_eq (spelled x) word) ds) ≡ o
        → (find (λ (x : CommandName). bytes_eq (spelled x) word) ds ≡ o → Contains (map spelled ds) word)
        → Contains (map spelled (d ∷ ds)) word
    by_test true t e rest = (0, omega arith, (bytes_eq-Decides (spelled d) word).0 t)
    by_test false t e rest =
        let later = rest e in
        (suc later.0, omega (arith, later.1), later.2)

found_word : (cs : List CommandName) (word : List ℕ) (k : ℕ) → k < length (map spelled cs)
    → slice_index_or (map spelled cs) k word ≡ word
    → is_some (find (λ (d : CommandName). bytes_eq (spelled d) word) cs) ≡ true
found_word [] word k lt e = absurd (omega (arith, lt))
found_word (d ∷ ds) word k lt e = by_test (bytes_eq (spelled d) word) refl k lt e
    (λ j below is. found_word ds word j below is)
  where
    by_test : (t : Bool) → bytes_eq (spelled d) word ≡ t → (k : ℕ) → k < length (map spelled (d ∷ ds))
        → slice_index_or (map spelled (d ∷ ds)) k word ≡ word
        → ((j : ℕ) → j < length (map spelled ds) → slice_index_or (map spelled ds) j word ≡ word
        → is_some (find (λ (x : CommandName). bytes_eq (spelled x) word) ds) ≡ true)
        → is_some (cond t (Some d) (find (λ (x : CommandName). bytes_eq (spelled x) word) ds)) ≡ true
    by_test true t k lt e rest = refl
    by_test false t zero lt e rest =
        let yes_ : bytes_eq (spelled d) word ≡ true = (bytes_eq-Decides (spelled d) word).1 e in cc
    by_test false t (suc k) lt e rest = rest k (omega (arith, lt)) e

pub known_words : (word : List ℕ) → (is_some (command_named word) ≡ true) ↔ Contains (map spelled all_commands) word
known_words word = (
  λ h. word_found all_commands word (command_named word) refl h,
  λ h. found_word all_commands word h.0 h.1 h.2,
)
