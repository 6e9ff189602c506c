-- The two ways to say which vertex a text spells.
use Rattle.std.proofs.Common.{◌≡◌, ℕ, ◌+◌, ◌-◌, ◌≤◌, ◌<◌, List, [], ◌∷◌, length, get_or, Option, Some, None, Bool, true}
use Rattle.std.proofs.Common.{false, refl, sym, subst, ◌∙◌, ap, cond, arith, ◌&&◌, ◌⊎◌, inl, inr, Decides}
use Rattle.std.specs.Prelude.{codes, option_map, nat_le}
use Rattle.std.specs.Str.{str_to_ascii_lowercase, bytes_eq}
use Rattle.std.specs.Char.{to_ascii_uppercase, to_ascii_lowercase}
use Rattle.std.proofs.lemmas.List.{length-map}
use Rattle.std.specs.Str.Parse.{digits_value}
use Rattle.std.proofs.lemmas.Bool.{true≢false, false_from_ne_true}
use Rattle.std.proofs.lemmas.Bool.Decides.{nat_tests}
use Rattle.std.proofs.lemmas.Fmt.{first_decimal, length-decimal-le, decimal-digits_value}
use Rattle.std.proofs.lemmas.Slice.Eq.{bytes_eq-Decides}
use Rattle.go_base.specs.Int.{SpellsInt, int_of, written_int}
use Rattle.go_base.specs.Size.{most_size}
use Rattle.go_base.specs.Word.{IsWord}
use Rattle.go_base.specs.Point.{point, column_of, row_of}
use Rattle.go_base.specs.declared.vertices.Vertex.{Vertex}
use Rattle.go_base.specs.declared.vertices.Vertex.TheVariants.{Pass, At}
use Rattle.go_base.specs.Vertex.{letter_of, SpellsPoint, SpellsVertex, written_vertex, column_of_letter}
use Rattle.go_base.specs.Vertex.{starts_with_zero, row_of_digits, point_where, point_of, vertex_of, IsVertex}
use Rattle.go_base.proofs.numbers.Ints.{digit_texts, int_of_spelled, spells_int_of, spells_written_int}

-- ---- a column and its letter

-- the column of a capital letter
abbrev column_of_capital : ℕ → Option ℕ
column_of_capital capital =
    cond (nat_le 65 capital && nat_le capital 72) (Some (capital - 65 + 1))
    (cond (nat_le 74 capital && nat_le capital 90) (Some (capital - 74 + 9)) None)

column_of_capital-letter_of : (column : ℕ) → 1 ≤ column → column ≤ 25
    → column_of_capital (letter_of column) ≡ Some column
column_of_capital-letter_of column least most = grind (arith, nat_tests)

letter_of_capital : (column : ℕ) → column ≤ 25 → to_ascii_uppercase (letter_of column) ≡ letter_of column
letter_of_capital column most = grind (arith, nat_tests)

-- one of two tests passed
two_tests : (a b : Bool) (x y z : ℕ) → cond a (Some x) (cond b (Some y) None) ≡ Some z
    → ((a ≡ true) × (x ≡ z)) ⊎ ((b ≡ true) × (y ≡ z))
two_tests true b x y z e = inl (refl, cc)
two_tests false true x y z e = inr (refl, cc)
two_tests false false x y z e = absurd (cc)

-- a capital letter that has a column is the letter of it
letter_of_column : (capital column : ℕ) → column_of_capital capital ≡ Some column
    → (1 ≤ column) × (column ≤ 25) × (capital ≡ letter_of column)
letter_of_column capital column e =
    elim (two_tests _ _ (capital - 65 + 1) (capital - 74 + 9) column e) [
      | inl h ↦ let test = h.0 in
          let same = h.1 in
          (grind (arith, nat_tests), grind (arith, nat_tests), grind (arith, nat_tests))
      | inr h ↦ let test = h.0 in
          let same = h.1 in
          (grind (arith, nat_tests), grind (arith, nat_tests), grind (arith, nat_tests))
    ]

-- ---- a row and its digits

no_zero_first : (digits : List ℕ) → 48 < get_or digits 0 0 → starts_with_zero digits ≡ false
no_zero_first [] first = absurd (omega arith)
no_zero_first (digit ∷ digits) first = grind (arith, nat_tests)

zero_first : (digits : List ℕ) → get_or digits 0 0 ≡ 48 → starts_with_zero digits ≡ true
zero_first [] first = absurd (omega arith)
zero_first (digit ∷ digits) first = grind (arith, nat_tests)

-- the second of two, where the first is nothing
second_value : {X : Type 0} (b : Bool) (o : Option X) (x : X) → cond b None o ≡ Some x → (b ≡ false) × (o ≡ Some x)
second_value true o x e = absurd (cc)
second_value false o x e = (refl, e)

row_of_digits-written : (row : ℕ) → 1 ≤ row → row ≤ 25 → row_of_digits (written_int row) ≡ Some row
row_of_digits-written row least most =
    ap (λ b. cond b None (int_of (written_int row)))
    (no_zero_first (written_int row) (first_decimal row (omega arith) (omega arith)))
    ∙ int_of_spelled row (written_int row) (spells_written_int row (omega arith))

pub written_row : (digits : List ℕ) (row : ℕ) → row_of_digits digits ≡ Some row → row ≤ 25 → digits ≡ written_int row
written_row digits row e most =
    let parts = second_value (starts_with_zero digits) (int_of digits) row e in
    let spelled : SpellsInt row digits = spells_int_of row digits parts.1 in
    let value : digits_value 10 digits ≡ row = spelled.value in
    sym (decimal-digits_value digit_texts digits (digit_texts.from digits spelled.numeral.1) spelled.numeral.0
    (λ first. absurd (true≢false (sym (zero_first digits first) ∙ parts.0))) (omega arith))
    ∙ ap written_int value

-- ---- a point

point_here : (column row p : ℕ) → 1 ≤ row → row ≤ 25 → point column row ≡ p
    → point_where (Some column) (Some row) ≡ Some p
point_here column row p least most same = grind (arith, nat_tests)

-- where a text spells a point, that is the point of it
pub point_of_spelled : (p : ℕ) (text : List ℕ) → SpellsPoint p text → point_of text ≡ Some p
point_of_spelled p text spelled =
    let digits = written_int (row_of p) in
    let column : column_of_letter spelled.letter ≡ Some (column_of p) =
    ap column_of_capital spelled.letter_is
    ∙ column_of_capital-letter_of (column_of p) spelled.on.left spelled.on.right in
    let row : row_of_digits digits ≡ Some (row_of p) =
    row_of_digits-written (row_of p) spelled.on.bottom spelled.on.top in
    ap point_of spelled.shape
    ∙ ap (λ o. point_where o (row_of_digits digits)) column
    ∙ ap (point_where (Some (column_of p))) row
    ∙ point_here (column_of p) (row_of p) p spelled.on.bottom spelled.on.top (omega arith)

-- the parts of a point
record HasParts (column row : Option ℕ) (p : ℕ) : Type 0 where
  pub c : ℕ
  pub r : ℕ
  pub column_is : column ≡ Some c
  pub row_is : row ≡ Some r
  pub least : 1 ≤ r
  pub most : r ≤ 25
  pub point_is : p ≡ point c r

value_where : (b : Bool) (x y : ℕ) → cond b (Some x) None ≡ Some y → (b ≡ true) × (y ≡ x)
value_where true x y e = (refl, cc)
value_where false x y e = absurd (cc)

parts_of_point : (column row : Option ℕ) (p : ℕ) → point_where column row ≡ Some p → HasParts column row p
parts_of_point None row p e = absurd (cc)
parts_of_point (Some c) None p e = absurd (cc)
parts_of_point (Some c) (Some r) p e =
    let h = value_where (nat_le 1 r && nat_le r most_size) (point c r) p e in
    let test : (nat_le 1 r && nat_le r most_size) ≡ true = h.0 in
    record {
      c = c;
      r = r;
      column_is = refl;
      row_is = refl;
      least = grind (arith, nat_tests);
      most = grind (arith, nat_tests);
      point_is = h.1;
    }

-- the point of a text is spelled by it
pub spells_point_of : (p : ℕ) (text : List ℕ) → point_of text ≡ Some p → SpellsPoint p text
spells_point_of p [] e = absurd (cc)
spells_point_of p (letter ∷ digits) e =
    let parts = parts_of_point (column_of_letter letter) (row_of_digits digits) p e in
    let column = letter_of_column (to_ascii_uppercase letter) parts.c parts.column_is in
    let left : 1 ≤ parts.c = column.0 in
    let right : parts.c ≤ 25 = column.1 in
    let column_is : parts.c ≡ column_of p = omega (arith, parts.point_is) in
    let row_is : parts.r ≡ row_of p = omega (arith, parts.point_is) in
    record {
      on =
          record {
            left = omega arith;
            right = omega arith;
            bottom = omega (arith, parts.least);
            top = omega (arith, parts.most);
          };
      letter = letter;
      letter_is = column.2 ∙ ap letter_of column_is;
      shape = ap (λ ds. letter ∷ ds) (written_row digits parts.r parts.row_is parts.most ∙ ap written_int row_is);
    }

-- ---- a vertex

-- a text that spells a point has at most three bytes
pub short_point : (p : ℕ) (text : List ℕ) → SpellsPoint p text → length text ≤ 3
short_point p text spelled =
    let digits = written_int (row_of p) in
    let top : row_of p ≤ 25 = spelled.on.top in
    let short : length digits ≤ 2 = length-decimal-le 2 (row_of p) (omega arith) (omega arith) (omega arith) in
    let len : length text ≡ length (spelled.letter ∷ digits) = ap length spelled.shape in
    omega arith

-- a word has as many bytes in small letters
pub length-lowercase : (text : List ℕ) → length (str_to_ascii_lowercase text) ≡ length text
length-lowercase text = length-map text to_ascii_lowercase

-- so it is shorter than `pass`
point_no_pass : (p : ℕ) (text : List ℕ) → SpellsPoint p text
    → bytes_eq (str_to_ascii_lowercase text) (codes "pass") ≡ false
point_no_pass p text spelled =
    let short = short_point p text spelled in
    let lower = length-lowercase text in
    false_from_ne_true _ (λ e. let four : length (str_to_ascii_lowercase text) ≡ 4 =
    ap length ((bytes_eq-Decides (str_to_ascii_lowercase text) (codes "pass")).0 e) in omega arith)

-- where a text spells a vertex, that is the vertex of it
pub vertex_of_spelled : (vertex : Vertex) (text : List ℕ) → SpellsVertex vertex text → vertex_of text ≡ Some vertex
vertex_of_spelled Pass text spelled =
    ap (λ word. cond (bytes_eq word (codes "pass")) (Some Pass) (option_map At (point_of text))) spelled
vertex_of_spelled (At p) text spelled =
    ap (λ b. cond b (Some Pass) (option_map At (point_of text))) (point_no_pass p text spelled)
    ∙ ap (option_map At) (point_of_spelled p text spelled)

vertex_by_cases : (text : List ℕ) (pass : Bool) (point : Option ℕ) → Decides pass (IsWord (codes "pass") text)
    → ((p : ℕ) → point ≡ Some p → SpellsPoint p text)
    → (vertex : Vertex) → cond pass (Some Pass) (option_map At point) ≡ Some vertex → SpellsVertex vertex text
vertex_by_cases text true point is_pass is_point vertex e =
    let same : Pass ≡ vertex = cc in
    subst (λ (v : Vertex). SpellsVertex v text) same (is_pass.0 refl)
vertex_by_cases text false None is_pass is_point vertex e = absurd (cc)
vertex_by_cases text false (Some p) is_pass is_point vertex e =
    let same : At p ≡ vertex = cc in
    subst (λ (v : Vertex). SpellsVertex v text) same (is_point p refl)

-- a text that is no `pass` and spells no point spells no vertex
pub no_vertex : (text : List ℕ) → (IsWord (codes "pass") text → ⊥) → None ≡ point_of text → (vertex : Vertex)
    → SpellsVertex vertex text → ⊥
no_vertex text no_pass no_point Pass spelled = no_pass spelled
no_vertex text no_pass no_point (At p) spelled =
    let e : None ≡ Some p = no_point ∙ point_of_spelled p text spelled in
    cc

-- the vertex of a text is spelled by it
pub spells_vertex_of : (vertex : Vertex) (text : List ℕ) → vertex_of text ≡ Some vertex → SpellsVertex vertex text
spells_vertex_of vertex text e =
    vertex_by_cases text _ (point_of text) (bytes_eq-Decides (str_to_ascii_lowercase text) (codes "pass"))
    (λ p point_is. spells_point_of p text point_is) vertex e

-- what is written spells the vertex
pub spells_written_vertex : (vertex : Vertex) → IsVertex vertex → SpellsVertex vertex (written_vertex vertex)
spells_written_vertex Pass is_vertex = refl
spells_written_vertex (At p) on =
    record {
      on = on;
      letter = letter_of (column_of p);
      letter_is = letter_of_capital (column_of p) on.right;
      shape = refl;
    }

-- a text spells at most one vertex
pub one_vertex : (v w : Vertex) (text : List ℕ) → SpellsVertex v text → SpellsVertex w text → v ≡ w
one_vertex v w text spells_v spells_w =
    let e : Some v ≡ Some w = sym (vertex_of_spelled v text spells_v) ∙ vertex_of_spelled w text spells_w in
    cc
