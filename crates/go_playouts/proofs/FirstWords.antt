-- What a seed's generator gives are its first words.
use Rattle.std.proofs.Common.{◌≡◌, ℕ, ℤ, zero, suc, ◌+◌, ◌≤◌, List, ◌∷◌, ◌++◌, length, refl, sym, ap, ◌∙◌, subst, arith}
use Rattle.rand_pcg.specs.Lcg.{Lcg}
use Rattle.rand_pcg.specs.Pcg.{pcg64}
use Rattle.go_base.specs.declared.colours.Colour.{Colour}
use Rattle.go_board.specs.Game.{GameRecord}
use Rattle.go_board.specs.Area.{score}
use Rattle.go_board.specs.PlayoutLaws.{WordsDecidePlayouts}
use Rattle.go_board.specs.Playouts.{GivesWords, none, next, IsPlayout, IsPlayedOut, IsRolledOut}
use Rattle.go_playouts.specs.Seeded.{generator_of, gives_next, first_words, IsSeededPlayout, IsSeededRollout}
use Rattle.go_playouts.specs.SeededLaws.{SeedsDecidePlayouts, RolloutsScorePlayouts}

given-first : {old new : Lcg} {words : List ℕ} → GivesWords gives_next old words new
    → words ≡ first_words (length words) old
given-first none = refl
given-first (next {old = old} {now = now} {word = word} {words = words} first rest) =
    ap (λ (w : ℕ). w ∷ words) (ap (λ (p : ℕ × Lcg). p.0) first)
    ∙ ap (λ (ws : List ℕ). (pcg64 old).0 ∷ ws)
    (given-first rest ∙ ap (first_words (length words)) (ap (λ (p : ℕ × Lcg). p.1) first))

pub seeded : (game : GameRecord) (c : Colour) (seed limit : ℕ) (old : Lcg) (after : GameRecord) (new : Lcg)
    → old ≡ generator_of seed → IsPlayedOut gives_next game c limit old after new
    → IsSeededPlayout game c seed limit after
seeded game c seed limit old after new is p = record {
  order = p.order;
  many = length p.words;
  empty = p.empty;
  playout = subst (λ (ws : List ℕ). IsPlayout game c p.order limit ws after)
      (given-first p.given ∙ ap (first_words (length p.words)) is) p.playout;
}

pub seeded_score : (game : GameRecord) (c : Colour) (seed limit : ℕ) (old : Lcg) (result : ℤ) (new : Lcg)
    → old ≡ generator_of seed → IsRolledOut gives_next game c limit old result new
    → IsSeededRollout game c seed limit result
seeded_score game c seed limit old result new is r = record {
  after = r.after;
  playout = seeded game c seed limit old r.after new is r.playout;
  result_is = r.result_is;
}

-- the first m words of a generator begin its first k
record IsContinued (m k : ℕ) (g : Lcg) : Type 0 where
  more : List ℕ
  joined : first_words m g ++ more ≡ first_words k g

continued : (m k : ℕ) (g : Lcg) → m ≤ k → IsContinued m k g
continued zero k g few = record { more = first_words k g; joined = refl }
continued (suc m) zero g few = absurd (omega (arith, few))
continued (suc m) (suc k) g few =
    let rest = continued m k (pcg64 g).1 (omega (arith, few)) in
    record { more = rest.more; joined = ap (λ (ws : List ℕ). (pcg64 g).0 ∷ ws) rest.joined }

pub seeds-decide : WordsDecidePlayouts → SeedsDecidePlayouts
seeds-decide decided game c seed limit a b one other =
    let g : Lcg = generator_of seed in
    let m : ℕ = one.many in
    let n : ℕ = other.many in
    let left = continued m (m + n) g (omega arith) in
    let right = continued n (m + n) g (omega arith) in
    decided game c limit one.order other.order (first_words m g) (first_words n g) left.more right.more a b
    one.empty other.empty one.playout other.playout
    (left.joined ∙ sym right.joined)

pub rollouts-score : WordsDecidePlayouts → RolloutsScorePlayouts
rollouts-score decided game c seed limit result after rolled played =
    rolled.result_is ∙ ap score (seeds-decide decided game c seed limit rolled.after after rolled.playout played)
