-- Words that are joined to a text one by one are what `join_with_byte` makes of them, where none of them is empty.
use Rattle.std.proofs.Common.{◌≡◌, ℕ, ◌+◌, ◌<◌, length, take, get_or, arith, List, [], ◌∷◌, ◌++◌, refl, sym, ◌∙◌, ap}
use Rattle.std.proofs.Common.{append_assoc}
use Rattle.std.proofs.lemmas.List.{take_more, length-append}
use Rattle.std.specs.List.{join_with_byte}
use Rattle.std.specs.Prelude.{map}
use Rattle.go_base.specs.Text.{joined}
use Rattle.go_base.specs.Vertex.{written_vertex}
use Rattle.go_base.specs.declared.vertices.Vertex.{Vertex}
use Rattle.go_base.specs.declared.vertices.Vertex.TheVariants.{Pass, At}

join_with_byte-append : (c : ℕ) (first : List ℕ) (words : List (List ℕ)) (last : List ℕ)
    → join_with_byte c (first ∷ (words ++ last ∷ [])) ≡ join_with_byte c (first ∷ words) ++ c ∷ last
join_with_byte-append c first [] last = refl
join_with_byte-append c first (word ∷ words) last =
    ap (λ (t : List ℕ). first ++ c ∷ t) (join_with_byte-append c word words last)
    ∙ sym (append_assoc first (c ∷ join_with_byte c (word ∷ words)) (c ∷ last))

join_with_byte-some : (c : ℕ) (first : List ℕ) (words : List (List ℕ)) → 0 < length first
    → 0 < length (join_with_byte c (first ∷ words))
join_with_byte-some c first [] some = some
join_with_byte-some c first (word ∷ words) some = simp length-append (omega arith)

joined-some : (c : ℕ) (text word : List ℕ) → 0 < length text → joined c text word ≡ text ++ c ∷ word
joined-some c [] word some = absurd (omega arith)
joined-some c (byte ∷ text) word some = refl

-- a word more, where the first word isn't empty
pub joined-join_with_byte : (c : ℕ) (words : List (List ℕ)) (last : List ℕ)
    → (0 < length words → 0 < length (get_or words 0 []))
    → joined c (join_with_byte c words) last ≡ join_with_byte c (words ++ last ∷ [])
joined-join_with_byte c [] last some = refl
joined-join_with_byte c (first ∷ words) last some =
    joined-some c (join_with_byte c (first ∷ words)) last (join_with_byte-some c first words (some (omega arith)))
    ∙ sym (join_with_byte-append c first words last)

map-push : {X : Type 0} (f : X → List ℕ) (xs : List X) (last : X) → map f (xs ++ last ∷ []) ≡ map f xs ++ f last ∷ []
map-push f [] last = refl
map-push f (x ∷ xs) last = ap (λ (t : List (List ℕ)). f x ∷ t) (map-push f xs last)

-- a value's word more, where no value's word is empty
pub joined-map : {X : Type 0} (c : ℕ) (f : X → List ℕ) → ((x : X) → 0 < length (f x)) → (xs : List X) (last : X)
    → joined c (join_with_byte c (map f xs)) (f last) ≡ join_with_byte c (map f (xs ++ last ∷ []))
joined-map {X} c f some xs last =
    joined-join_with_byte c (map f xs) (f last) (first xs)
    ∙ ap (λ (t : List (List ℕ)). join_with_byte c t) (sym (map-push f xs last))
  where
    first : (ys : List X) → 0 < length (map f ys) → 0 < length (get_or (map f ys) 0 [])
    first [] more = absurd (omega arith)
    first (y ∷ ys) more = some y

-- the words of the first `count` values, and the next value's
pub joined-take : {X : Type 0} (c : ℕ) (f : X → List ℕ) → ((x : X) → 0 < length (f x))
    → (xs : List X) (count : ℕ) (next other : X) → count < length xs → next ≡ get_or xs count other
    → joined c (join_with_byte c (map f (take count xs))) (f next) ≡ join_with_byte c (map f (take (count + 1) xs))
joined-take {X} c f some xs count next other inside is =
    joined-map c f some (take count xs) next
    ∙ ap (λ (x : X). join_with_byte c (map f (take count xs ++ x ∷ []))) is
    ∙ ap (λ (t : List X). join_with_byte c (map f t)) (sym (take_more xs count other inside))

-- no written vertex is empty
pub written_vertex-some : (v : Vertex) → 0 < length (written_vertex v)
written_vertex-some Pass = omega arith
written_vertex-some (At p) = omega arith

-- a vertex more
pub joined-written_vertex : (xs : List Vertex) (v : Vertex)
    → joined 32 (join_with_byte 32 (map written_vertex xs)) (written_vertex v)
    ≡ join_with_byte 32 (map written_vertex (xs ++ v ∷ []))
joined-written_vertex xs v = joined-map 32 written_vertex written_vertex-some xs v
