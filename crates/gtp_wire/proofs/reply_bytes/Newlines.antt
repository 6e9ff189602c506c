-- Two newlines in a row, in a text that grows at its end.
use Rattle.std.proofs.lemmas.Bool.{and_right, or_from, or_right}
use Rattle.std.proofs.Common.{◌≡◌, ℕ, List, [], ◌∷◌, ◌++◌, Bool, true, false, refl, sym, ◌∙◌, ap, ◌&&◌, ◌||◌}
use Rattle.std.proofs.Common.{append_assoc}
use Rattle.std.proofs.lemmas.Bool.{or_parts}
use Rattle.std.proofs.Math.Bool.{or-false, or_assoc}
use Rattle.gtp_wire.specs.Bytes.{is_newline}
use Rattle.gtp_wire.specs.Replies.{has_two_newlines}

or_regroup : (a b : Bool) → (a || (b || false)) ≡ ((a || false) || b)
or_regroup true b = refl
or_regroup false true = refl
or_regroup false false = refl

-- two newlines in a row, at the end
has_two_newlines_two : (xs : List ℕ) (c d : ℕ)
    → has_two_newlines (xs ++ c ∷ d ∷ []) ≡ (has_two_newlines (xs ++ c ∷ []) || (is_newline c && is_newline d))
has_two_newlines_two [] c d = or-false (is_newline c && is_newline d)
has_two_newlines_two (x ∷ []) c d = or_regroup (is_newline x && is_newline c) (is_newline c && is_newline d)
has_two_newlines_two (x ∷ y ∷ xs) c d =
    ap (λ t. (is_newline x && is_newline y) || t) (has_two_newlines_two (y ∷ xs) c d)
    ∙ sym
    (or_assoc (is_newline x && is_newline y) (has_two_newlines (y ∷ xs ++ c ∷ [])) (is_newline c && is_newline d))

has_two_newlines_push : (xs : List ℕ) (c : ℕ) → is_newline c ≡ false
    → has_two_newlines (xs ++ c ∷ []) ≡ has_two_newlines xs
has_two_newlines_push [] c other = refl
has_two_newlines_push (x ∷ []) c other = or_from (is_newline x && is_newline c) false (and_right (is_newline x) (is_newline c) other) refl
has_two_newlines_push (x ∷ y ∷ xs) c other =
    ap (λ t. (is_newline x && is_newline y) || t) (has_two_newlines_push (y ∷ xs) c other)

pub has_two_newlines_front : (xs ys : List ℕ) → has_two_newlines (xs ++ ys) ≡ false → has_two_newlines xs ≡ false
has_two_newlines_front [] ys none = refl
has_two_newlines_front (x ∷ []) ys none = refl
has_two_newlines_front (x ∷ y ∷ xs) ys none =
    let parts = or_parts (is_newline x && is_newline y) (has_two_newlines (y ∷ xs ++ ys)) none in
    rw parts.0 (has_two_newlines_front (y ∷ xs) ys parts.1)

-- a byte that is no newline goes on with the body
pub body_more : (body : List ℕ) (c : ℕ) → has_two_newlines body ≡ false → is_newline c ≡ false
    → has_two_newlines ((body ++ c ∷ []) ++ 10 ∷ []) ≡ false
body_more body c none other =
    ap has_two_newlines (append_assoc body (c ∷ []) (10 ∷ [])) ∙ has_two_newlines_two body c 10
    ∙ rw (has_two_newlines_push body c other, none, other) refl

-- a second newline ends it
pub two_newlines : (body : List ℕ) → has_two_newlines ((body ++ 10 ∷ []) ++ 10 ∷ []) ≡ true
two_newlines body =
    ap has_two_newlines (append_assoc body (10 ∷ []) (10 ∷ [])) ∙ has_two_newlines_two body 10 10
    ∙ or_right (has_two_newlines (body ++ 10 ∷ [])) true refl
