-- What is written as one vertex or `resign` is read as that choice, and points that are written as vertices with single
-- spaces between them are named.
use Rattle.std.proofs.Common.{◌≡◌, ℕ, ◌<◌, List, [], ◌∷◌, ◌++◌, length, map, filter, Option, Some, Bool, true}
use Rattle.std.proofs.Common.{false, refl, ◌∙◌, ap, subst, arith, cond, append_assoc, ltb, inl, inr}
use Rattle.std.specs.Prelude.{codes, ◌==◌, ◌&&◌, ◌||◌, option_map}
use Rattle.std.specs.List.{slice_split, join_with_byte, list_all, list_any, AllByRecursion}
use Rattle.std.specs.Str.{str_to_ascii_lowercase}
use Rattle.std.specs.Char.{to_ascii_lowercase}
use Rattle.std.proofs.lemmas.Bool.{cases_Bool}
use Rattle.std.proofs.lemmas.Bool.Decides.{nat_tests}
use Rattle.std.proofs.lemmas.Fmt.{length-decimal-le}
use Rattle.std.proofs.lemmas.List.{length-map}
use Rattle.std.proofs.lemmas.List.Elements.{recursion_from_All}
use Rattle.std.proofs.lemmas.Slice.Eq.{bytes_eq-Decides}
use Rattle.go_base.specs.Bytes.{space}
use Rattle.go_base.specs.Point.{IsOn, row_of}
use Rattle.go_base.specs.Size.{most_size}
use Rattle.go_base.specs.Vertex.{IsVertex, vertex_of, written_vertex}
use Rattle.go_base.specs.Word.{is_word}
use Rattle.go_base.specs.declared.choices.Choice.TheVariants as choice
use Rattle.go_base.specs.declared.vertices.Vertex.{Vertex}
use Rattle.go_base.specs.declared.vertices.Vertex.TheVariants.{Pass, At}
use Rattle.go_base.proofs.spellings.ReadBack.{vertex_reads}
use Rattle.gtp_wire.specs.Bytes.{is_space, is_blank}
use Rattle.gtp_wire.specs.Laws.{WrittenChoicesAreRead, WrittenPointsAreNamed}
use Rattle.gtp_wire.specs.ReplyWords.{choice_of_text, choice_of_words, names_point, names_points, is_at}
use Rattle.gtp_wire.specs.Words.{reply_words}
use Rattle.gtp_wire.specs.private.LineReading.{is_plain}
use Rattle.gtp_wire.proofs.line_reading.LinesOfTexts.{split_at, split_none}
use Rattle.gtp_wire.proofs.written.CommandWords.{vertex_word}
use Rattle.gtp_wire.proofs.written.OneLine.{AreWords}

-- ---- the words of a text

blank_byte : (b : ℕ) → is_plain b ≡ true → is_space b ≡ false → is_blank b ≡ false
blank_byte b plain whole = grind (arith, nat_tests)

no_blank : (w : List ℕ) → AllByRecursion (λ b. is_plain b ≡ true) w → AllByRecursion (λ b. is_space b ≡ false) w
    → AllByRecursion (λ b. is_blank b ≡ false) w
no_blank [] plain whole = tt
no_blank (b ∷ w) plain whole = (blank_byte b plain.0 whole.0, no_blank w plain.1 whole.1)

split_words : (w : List ℕ) (ws : List (List ℕ)) → AreWords (w ∷ ws)
    → slice_split is_blank (join_with_byte 32 (w ∷ ws)) ≡ w ∷ ws
split_words w [] all = split_none is_blank w (no_blank w all.0.plain all.0.whole)
split_words w (v ∷ vs) all =
    split_at is_blank w 32 (join_with_byte 32 (v ∷ vs)) (no_blank w all.0.plain all.0.whole) refl
    ∙ ap (λ t. w ∷ t) (split_words v vs all.1)

some_test : (n : ℕ) → 0 < n → ltb 0 n ≡ true
some_test n h = grind (arith, nat_tests)

all_some : (ws : List (List ℕ)) → AreWords ws → filter (λ part. ltb 0 (length part)) ws ≡ ws
all_some [] all = refl
all_some (w ∷ ws) all = rw (some_test (length w) all.0.some) (ap (λ t. w ∷ t) (all_some ws all.1))

-- words with single spaces between them are those words
pub words_of_joined : (w : List ℕ) (ws : List (List ℕ)) → AreWords (w ∷ ws)
    → reply_words (join_with_byte 32 (w ∷ ws)) ≡ w ∷ ws
unfolding reply_words
words_of_joined w ws all = ap (filter (λ part. ltb 0 (length part))) (split_words w ws all) ∙ all_some (w ∷ ws) all

-- ---- a vertex, and `resign`

vertex_length : (v : Vertex) → IsVertex v → is_word (codes "resign") (written_vertex v) ≡ false
vertex_length Pass on = refl
vertex_length (At p) on = elim (cases_Bool (is_word (codes "resign") (written_vertex (At p)))) [
  | inr e ↦ e
  | inl e ↦ absurd (bad e)
]
  where
    bad : is_word (codes "resign") (written_vertex (At p)) ≡ true → ⊥
    bad e =
        let same : str_to_ascii_lowercase (written_vertex (At p)) ≡ codes "resign" =
        (bytes_eq-Decides (str_to_ascii_lowercase (written_vertex (At p))) (codes "resign")).0 e in
        omega (
          arith,
          ap length same,
          length-map (written_vertex (At p)) to_ascii_lowercase,
          length-decimal-le 2 (row_of p) (omega arith) (omega (arith, on.top)) (omega (arith, on.top)),
        )

word_is_choice : (b : Bool) (v : Vertex) (o : Option Vertex) → b ≡ false → o ≡ Some v
    → cond b (Some choice.Resign) (option_map choice.Play o) ≡ Some (choice.Play v)
word_is_choice b v o e f = rw (e, f) refl

-- a vertex is read back as the choice that it is
pub vertex_is_read : (v : Vertex) → IsVertex v → choice_of_text (written_vertex v) ≡ Some (choice.Play v)
vertex_is_read v on =
    ap choice_of_words (words_of_joined (written_vertex v) [] (vertex_word v on, tt))
    ∙ word_is_choice (is_word (codes "resign") (written_vertex v)) v (vertex_of (written_vertex v)) (vertex_length v on)
    (vertex_reads v on)

pub resign_is_read : choice_of_text (codes "resign") ≡ Some choice.Resign
unfolding reply_words
resign_is_read = refl

pub choices_are_read : WrittenChoicesAreRead
choices_are_read = record { play = vertex_is_read; resign = resign_is_read }

-- ---- the points of a handicap

abbrev vertex_at : ℕ → List ℕ
vertex_at p = written_vertex (At p)

names_itself : (p : ℕ) → IsOn most_size p → names_point p (vertex_at p) ≡ true
names_itself p on = ap (is_at p) (vertex_reads (At p) on) ∙ same_point p
  where
    same_point : (q : ℕ) → (q == q) ≡ true
    same_point q = grind (arith, nat_tests)

or_true : (b : Bool) → (b || true) ≡ true
or_true true = refl
or_true false = refl

among : (p : ℕ) (before after : List ℕ) → IsOn most_size p
    → list_any (names_point p) (map vertex_at (before ++ p ∷ after)) ≡ true
among p [] after on = rw (names_itself p on) refl
among p (q ∷ before) after on =
    ap (λ (b : Bool). names_point p (vertex_at q) || b) (among p before after on)
    ∙ or_true (names_point p (vertex_at q))

all_named : (before points : List ℕ) → AllByRecursion (IsOn most_size) points
    → list_all (λ p. list_any (names_point p) (map vertex_at (before ++ points))) points ≡ true
all_named before [] on = refl
all_named before (p ∷ points) on =
    let F : List ℕ → Type 0 = λ l. list_all (λ q. list_any (names_point q) (map vertex_at l)) points ≡ true in
    rw (among p before points on.0) (subst F (append_assoc before (p ∷ []) points)
    (all_named (before ++ p ∷ []) points on.1))

words_at : (points : List ℕ) → AllByRecursion (IsOn most_size) points → AreWords (map vertex_at points)
words_at [] on = tt
words_at (p ∷ points) on = (vertex_word (At p) on.0, words_at points on.1)

joined_points : (points : List ℕ) → AllByRecursion (IsOn most_size) points
    → reply_words (join_with_byte space (map vertex_at points)) ≡ map vertex_at points
unfolding reply_words
joined_points [] on = refl
joined_points (p ∷ points) on = words_of_joined (vertex_at p) (map vertex_at points) (words_at (p ∷ points) on)

same_length : (m n : ℕ) → m ≡ n → (m == n) ≡ true
same_length m n e = grind (arith, nat_tests)

pub points_are_named : WrittenPointsAreNamed
points_are_named points on =
    let each = recursion_from_All (IsOn most_size) points on in
    ap (names_points points) (joined_points points each)
    ∙ ap (λ (b : Bool). b && list_all (λ p. list_any (names_point p) (map vertex_at points)) points)
    (same_length (length (map vertex_at points)) (length points) (length-map points vertex_at))
    ∙ all_named [] points each
