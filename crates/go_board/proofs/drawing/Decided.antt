-- The words decide a playout.
use Rattle.std.proofs.Common.{◌≡◌, ℕ, zero, suc, ◌-◌, ◌<◌, List, [], ◌∷◌, ◌++◌, Contains, refl, sym, ◌∙◌}
use Rattle.std.proofs.Common.{subst, arith, inl, inr}
use Rattle.std.specs.List.{AllPairs}
use Rattle.std.proofs.lemmas.List.{append_assoc}
use Rattle.go_base.specs.Colour.{other}
use Rattle.go_base.specs.declared.colours.Colour.{Colour}
use Rattle.go_base.specs.declared.vertices.Vertex.{Vertex}
use Rattle.go_base.specs.declared.vertices.Vertex.TheVariants.{At}
use Rattle.go_board.specs.Candidates.{IsCandidate}
use Rattle.go_board.specs.Game.{GameRecord, with_move}
use Rattle.go_board.specs.LastTaken.{AreTakenByLast}
use Rattle.go_board.specs.PlayoutLaws.{WordsDecidePlayouts}
use Rattle.go_board.specs.Playouts.{AreEmptyPoints, Draws, passes, plays, puts_aside, IsPlayout, ends, goes_on}
use Rattle.go_board.specs.Playouts.{IsDrawn, with_aside}
use Rattle.go_board.proofs.of_laws.BoardsAndScores.{Contains-cases}
use Rattle.go_board.proofs.drawing.Orders.{later-larger}

-- ---- two rising lists with the same elements are one

first-least : (x y : ℕ) (xs ys : List ℕ) → AllPairs (λ p q. p < q) (x ∷ xs) → AllPairs (λ p q. p < q) (y ∷ ys)
    → Contains (y ∷ ys) x → Contains (x ∷ xs) y → x ≡ y
first-least x y xs ys a b there back = elim (Contains-cases y ys x there) [
  | inl same ↦ sym same
  | inr later ↦ elim (Contains-cases x xs y back) [
    | inl same ↦ same
    | inr after ↦
        let more = later-larger y ys b x later in
        let less = later-larger x xs a y after in
        absurd (omega (arith, more, less))
  ]
]

in-front : (x : ℕ) (xs : List ℕ) → Contains (x ∷ xs) x
in-front x xs = (zero, omega arith, refl)

in-rest : (x : ℕ) (xs : List ℕ) (p : ℕ) → Contains xs p → Contains (x ∷ xs) p
in-rest x xs p h = let below = h.1 in (suc h.0, omega (arith, below), h.2)

rest-in : (x y : ℕ) (xs ys : List ℕ) → AllPairs (λ p q. p < q) (x ∷ xs) → x ≡ y
    → ((p : ℕ) → Contains (x ∷ xs) p → Contains (y ∷ ys) p) → (p : ℕ) → Contains xs p → Contains ys p
rest-in x y xs ys rising same there p h = elim (Contains-cases y ys p (there p (in-rest x xs p h))) [
  | inl is ↦ let less = later-larger x xs rising p h in absurd (omega (arith, less, is, same))
  | inr later ↦ later
]

rest-rising : (x : ℕ) (xs : List ℕ) → AllPairs (λ p q. p < q) (x ∷ xs) → AllPairs (λ p q. p < q) xs
rest-rising x xs rising i j d less below = rising (suc i) (suc j) d (omega arith) (omega arith)

pub rising-same : (xs ys : List ℕ) → AllPairs (λ p q. p < q) xs → AllPairs (λ p q. p < q) ys
    → ((p : ℕ) → Contains xs p → Contains ys p) → ((p : ℕ) → Contains ys p → Contains xs p) → xs ≡ ys
rising-same [] [] a b there back = refl
rising-same [] (y ∷ ys) a b there back = let below = (back y (in-front y ys)).1 in absurd (omega (arith, below))
rising-same (x ∷ xs) [] a b there back = let below = (there x (in-front x xs)).1 in absurd (omega (arith, below))
rising-same (x ∷ xs) (y ∷ ys) a b there back =
    let one = first-least x y xs ys a b (there x (in-front x xs)) (back y (in-front y ys)) in
    let others = rising-same xs ys (rest-rising x xs a) (rest-rising y ys b) (rest-in x y xs ys a one there)
    (rest-in y x ys xs b (sym one) back) in
    cc

taken-same : (game : GameRecord) (xs ys : List ℕ) → AreTakenByLast game xs → AreTakenByLast game ys → xs ≡ ys
taken-same game xs ys a b =
    rising-same xs ys a.in_order b.in_order (λ p h. (b.each p).1 ((a.each p).0 h)) (λ p h. (a.each p).1 ((b.each p).0 h))

empty-same : (game : GameRecord) (xs ys : List ℕ) → AreEmptyPoints game xs → AreEmptyPoints game ys → xs ≡ ys
empty-same game xs ys a b =
    rising-same xs ys a.in_order b.in_order (λ p h. (b.each p).1 ((a.each p).0 h)) (λ p h. (a.each p).1 ((b.each p).0 h))

-- ---- a turn

record AreOneTurn (v w : Vertex) (left after more rest : List ℕ) : Type 0 where
  vertex : v ≡ w
  order : left ≡ after
  words : more ≡ rest

one-drawn : (order : List ℕ) (n word next p q : ℕ) → word ≡ next → IsDrawn order n word p → IsDrawn order n next q
    → p ≡ q
one-drawn order n word next p q same first second =
    let third : IsDrawn order n word q = subst (λ (w : ℕ). IsDrawn order n w q) (sym same) second in
    cc

turns-decided : {game : GameRecord} {c : Colour} {n : ℕ} {order words others left after : List ℕ} {v w : Vertex}
    (more rest : List ℕ) → Draws game c n order words v left → Draws game c n order others w after
    → words ++ more ≡ others ++ rest → AreOneTurn v w left after more rest
turns-decided more rest passes passes e = record { vertex = refl; order = refl; words = e }
turns-decided more rest passes (plays some drawn candidate are) e = absurd (omega (arith, some))
turns-decided more rest passes (puts_aside p some drawn no_candidate d) e = absurd (omega (arith, some))
turns-decided more rest (plays some drawn candidate are) passes e = absurd (omega (arith, some))
turns-decided more rest (puts_aside p some drawn no_candidate d) passes e = absurd (omega (arith, some))
turns-decided {game} {c} {n} {order} more rest (plays {word = word} {p = p} {taken = taken} some drawn candidate are)
    (plays {word = next} {p = q} {taken = gone} some' drawn' candidate' are') e =
    let same : word ≡ next = cc in
    let one : p ≡ q = one-drawn order n word next p q same drawn drawn' in
    let all : taken ≡ gone = taken-same (with_move game c (At p)) taken gone are
    (subst (λ (r : ℕ). AreTakenByLast (with_move game c (At r)) gone) (sym one) are') in
    record { vertex = cc; order = cc; words = cc }
turns-decided {game} {c} {n} {order} more rest (plays {word = word} {p = p} some drawn candidate are)
    (puts_aside {word = next} q some' drawn' no_candidate d) e =
    let same : word ≡ next = cc in
    let one : p ≡ q = one-drawn order n word next p q same drawn drawn' in
    absurd (no_candidate (subst (λ (r : ℕ). IsCandidate game c r) one candidate))
turns-decided {game} {c} {n} {order} more rest (puts_aside {word = word} p some drawn no_candidate d)
    (plays {word = next} {p = q} some' drawn' candidate are) e =
    let same : word ≡ next = cc in
    let one : p ≡ q = one-drawn order n word next p q same drawn drawn' in
    absurd (no_candidate (subst (λ (r : ℕ). IsCandidate game c r) (sym one) candidate))
turns-decided {game} {c} {n} {order} {after = after} {w = w} more rest
    (puts_aside {word = word} {words = words} p some drawn no_candidate d)
    (puts_aside {word = next} {words = others} q some' drawn' no_candidate' d') e =
    let same : word ≡ next = cc in
    let left : words ++ more ≡ others ++ rest = cc in
    turns-decided more rest d
    (subst (λ (k : ℕ). Draws game c (n - 1) (with_aside order n k) others w after) (sym same) d') left

-- ---- a playout

plays-decided : {game : GameRecord} {c : Colour} {order : List ℕ} {limit : ℕ} {words others : List ℕ}
    {a b : GameRecord} (more rest : List ℕ) → IsPlayout game c order limit words a
    → IsPlayout game c order limit others b → words ++ more ≡ others ++ rest → a ≡ b
plays-decided more rest (ends over) (ends again) e = refl
plays-decided more rest (ends over) (goes_on v left on turn p) e = absurd (on over)
plays-decided more rest (goes_on v left on turn p) (ends over) e = absurd (on over)
plays-decided {game} {c} {limit = limit} {b = b} more rest
    (goes_on {drawn = drawn} {words = words} v left on turn p)
    (goes_on {drawn = drawn'} {words = words'} w after on' turn' p') e =
    let one = turns-decided (words ++ more) (words' ++ rest) turn turn'
    (sym (append_assoc drawn words more) ∙ e ∙ append_assoc drawn' words' rest) in
    plays-decided more rest p
    (subst (λ (u : Vertex). IsPlayout (with_move game c u) (other c) left (limit - 1) words' b) (sym one.vertex)
    (subst (λ (ps : List ℕ). IsPlayout (with_move game c w) (other c) ps (limit - 1) words' b) (sym one.order) p'))
    one.words

pub playouts-decided : WordsDecidePlayouts
playouts-decided game c limit order same words others more rest a b first second p q e =
    plays-decided more rest p
    (subst (λ (ps : List ℕ). IsPlayout game c ps limit others b) (empty-same game same order second first) q) e
