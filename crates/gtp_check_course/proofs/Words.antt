-- The words of a generator, one after another; and the candidates of a drawn move.
use Rattle.std.proofs.Common.{◌≡◌, ℕ, zero, suc, ◌+◌, refl, sym, ◌∙◌, ap, arith, suc-add, zero-add}
use Rattle.rand_pcg.specs.Lcg.{Lcg, next, state_after}
use Rattle.rand_pcg.specs.Pcg.{pcg64}
use Rattle.gtp_check_course.specs.Draws.{past_words, word_at}

-- past no word a generator is as it was
pub past_no_words : (generator : Lcg) → past_words 0 generator ≡ generator
unfolding past_words state_after
past_no_words generator = refl

-- past one word more
pub past_suc : (count : ℕ) (generator : Lcg) → past_words (suc count) generator ≡ past_words count (pcg64 generator).1
unfolding past_words state_after
past_suc count generator = refl

pub past_next : (generator : Lcg) → past_words 1 generator ≡ (pcg64 generator).1
past_next generator = past_suc 0 generator ∙ past_no_words (pcg64 generator).1

-- past some words, and then past some more
pub past_both : (first count : ℕ) (generator : Lcg)
    → past_words count (past_words first generator) ≡ past_words (first + count) generator
past_both zero count generator =
    ap (past_words count) (past_no_words generator) ∙ ap (λ n. past_words n generator) (sym (zero-add count))
past_both (suc first) count generator =
    ap (past_words count) (past_suc first generator) ∙ past_both first count (pcg64 generator).1
    ∙ sym (past_suc (first + count) generator) ∙ ap (λ n. past_words n generator) (sym (suc-add first count))

-- the words past some words
pub word_past : (first number : ℕ) (generator : Lcg)
    → word_at (past_words first generator) number ≡ word_at generator (first + number)
unfolding word_at
word_past first number generator = ap (λ g. (pcg64 g).0) (past_both first number generator)

-- the first word
pub word_first : (generator : Lcg) → word_at generator 0 ≡ (pcg64 generator).0
unfolding word_at
word_first generator = ap (λ g. (pcg64 g).0) (past_no_words generator)

-- a word of another generator that is past some words of this one
pub word_along : (first : ℕ) (generator past : Lcg) → past ≡ past_words first generator
    → word_at past 0 ≡ word_at generator first
word_along first generator past is =
    ap (λ g. word_at g 0) is ∙ word_past first 0 generator ∙ ap (word_at generator) (omega arith)

-- one word more
pub past_along : (first : ℕ) (generator past more : Lcg) → past ≡ past_words first generator
    → more ≡ past_words 1 past → more ≡ past_words (first + 1) generator
past_along first generator past more is next =
    next ∙ ap (past_words 1) is ∙ past_both first 1 generator
