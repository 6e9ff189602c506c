-- The candidates of a drawn move: points that are drawn, then all points of the board, then a pass.
use Rattle.std.proofs.Common.{◌≡◌, ℕ, ◌+◌, ◌-◌, ◌*◌, ◌/◌, ◌%◌, ◌<◌, ◌≤◌, sym, ◌∙◌, ap, subst, arith}
use Rattle.std.proofs.Common.{inl, inr}
use Rattle.std.proofs.lemmas.Bool.{cases_lt}
use Rattle.std.proofs.lemmas.Bool.Decides.{nat_tests}
use Rattle.std.proofs.lemmas.Nat.{div-mul-add, mod-mul-add, mul-add-lt}
use Rattle.rand_pcg.specs.Lcg.{Lcg}
use Rattle.go_base.specs.Point.{IsOn, column_of, point, row_of}
use Rattle.go_base.specs.declared.colours.Colour.{Colour}
use Rattle.go_base.specs.declared.vertices.Vertex.{Vertex}
use Rattle.go_base.specs.declared.vertices.Vertex.TheVariants.{Pass, At}
use Rattle.go_board.specs.Game.{GameRecord, IsLegal}
use Rattle.gtp_check_course.specs.Draws.{drawn_below, past_words}
use Rattle.gtp_check_course.specs.Questions.{IsFirstLegal, candidate, crossing_of, drawn_point, point_or_pass, tries}
use Rattle.gtp_check_course.specs.Scenes.{crossing}
use Rattle.gtp_check_course.proofs.Words.{past_along, word_along}

-- ---- the points of a board

-- a crossing of the largest board is a point
pub crossing_at : (column row : ℕ) → 1 ≤ column → column ≤ 25 → 1 ≤ row → row ≤ 25
    → crossing column row ≡ At (point column row)
crossing_at column row left right bottom top = grind (arith, nat_tests)

-- the number of a point, row by row from the lowest
abbrev pub number_of_point : ℕ → ℕ → ℕ
number_of_point size p = (row_of p - 1) * size + (column_of p - 1)

pub number_within : (size p : ℕ) → IsOn size p → number_of_point size p < size * size
number_within size p on =
    mul-add-lt (row_of p - 1) size (column_of p - 1) size (omega (arith, on.bottom, on.top))
    (omega (arith, on.left, on.right))

pub crossing_of_number : (size p : ℕ) → size ≤ 25 → IsOn size p → crossing_of (number_of_point size p) size ≡ At p
crossing_of_number size p few on =
    let below : column_of p - 1 < size = omega (arith, on.left, on.right) in
    let column : number_of_point size p % size + 1 ≡ column_of p =
    omega (arith, mod-mul-add (row_of p - 1) size (column_of p - 1) below, on.left) in
    let row : number_of_point size p / size + 1 ≡ row_of p =
    omega (arith, div-mul-add (row_of p - 1) size (column_of p - 1) below, on.bottom) in
    let whole : point (column_of p) (row_of p) ≡ p = omega arith in
    ap (λ n. crossing n (number_of_point size p / size + 1)) column ∙ ap (crossing (column_of p)) row
    ∙ crossing_at (column_of p) (row_of p) on.left (omega (arith, on.right, few)) on.bottom (omega (arith, on.top, few))
    ∙ ap At whole

-- ---- the point that two words draw

pub drawn_along : (generator past more : Lcg) (first size column row : ℕ) → past ≡ past_words first generator
    → column ≡ drawn_below past 0 size → more ≡ past_words 1 past → row ≡ drawn_below more 0 size
    → crossing (column + 1) (row + 1) ≡ drawn_point generator first size
drawn_along generator past more first size column row is column_is next row_is =
    let by_first = column_is ∙ ap (λ n. n % size) (word_along first generator past is) in
    let by_second = row_is
    ∙ ap (λ n. n % size) (word_along (first + 1) generator more (past_along first generator past more is next)) in
    ap (λ n. crossing (n + 1) (row + 1)) by_first
    ∙ ap (λ n. crossing (drawn_below generator first size + 1) (n + 1)) by_second

-- ---- which candidate is which

pub point_at : (size number : ℕ) → number < size * size → point_or_pass size number ≡ crossing_of number size
point_at size number within = grind (arith, nat_tests)

pub pass_at : (size number : ℕ) → size * size ≤ number → point_or_pass size number ≡ Pass
pass_at size number past = grind (arith, nat_tests)

pub tried_at : (generator : Lcg) (size number : ℕ) → number < tries
    → candidate generator size number ≡ drawn_point generator (2 * number) size
tried_at generator size number few = grind (arith, nat_tests)

pub untried_at : (generator : Lcg) (size number : ℕ)
    → candidate generator size (tries + number) ≡ point_or_pass size number
untried_at generator size number = grind (arith, nat_tests)

-- ---- the first that is legal

module _ (game : GameRecord) (colour : Colour) where
  -- no point that was looked at is legal, and this one is
  pub first_of_points : (number : ℕ) → number < game.size * game.size
      → ((k : ℕ) → k < number → IsLegal game colour (crossing_of k game.size) → ⊥)
      → IsLegal game colour (crossing_of number game.size)
      → IsFirstLegal game colour (point_or_pass game.size) (crossing_of number game.size)
  first_of_points number within before legal = record {
    legal = legal;
    number = number;
    is = sym (point_at game.size number within);
    before = λ k below is_legal. before k below
        (subst (IsLegal game colour) (point_at game.size k (omega arith)) is_legal);
  }

  -- no point is legal
  pub pass_of_points : ((k : ℕ) → k < game.size * game.size → IsLegal game colour (crossing_of k game.size) → ⊥)
      → IsFirstLegal game colour (point_or_pass game.size) Pass
  pass_of_points before = record {
    legal = tt;
    number = game.size * game.size;
    is = sym (pass_at game.size (game.size * game.size) (omega arith));
    before = λ k below is_legal. before k below
        (subst (IsLegal game colour) (point_at game.size k below) is_legal);
  }

  pub none_on_board : game.size ≤ 25
      → ((k : ℕ) → k < game.size * game.size → IsLegal game colour (crossing_of k game.size) → ⊥)
      → (p : ℕ) → IsOn game.size p → IsLegal game colour (At p) → ⊥
  none_on_board few before p on is_legal =
      before (number_of_point game.size p) (number_within game.size p on)
      (subst (IsLegal game colour) (sym (crossing_of_number game.size p few on)) is_legal)

  -- no point that was drawn before is legal, and this one is
  pub first_of_tries : (generator : Lcg) (number : ℕ) → number < tries
      → ((k : ℕ) → k < number → IsLegal game colour (drawn_point generator (2 * k) game.size) → ⊥)
      → IsLegal game colour (drawn_point generator (2 * number) game.size)
      → IsFirstLegal game colour (candidate generator game.size) (drawn_point generator (2 * number) game.size)
  first_of_tries generator number few before legal = record {
    legal = legal;
    number = number;
    is = sym (tried_at generator game.size number few);
    before = λ k below is_legal. before k below
        (subst (IsLegal game colour) (tried_at generator game.size k (omega arith)) is_legal);
  }

  -- no point that was drawn is legal
  pub first_after_tries : (generator : Lcg) (vertex : Vertex)
      → ((k : ℕ) → k < tries → IsLegal game colour (drawn_point generator (2 * k) game.size) → ⊥)
      → IsFirstLegal game colour (point_or_pass game.size) vertex
      → IsFirstLegal game colour (candidate generator game.size) vertex
  first_after_tries generator vertex none first = record {
    legal = first.legal;
    number = tries + first.number;
    is = first.is ∙ sym (untried_at generator game.size first.number);
    before = λ k below is_legal. elim (cases_lt k tries) [
      | inl few ↦ none k few (subst (IsLegal game colour) (tried_at generator game.size k few) is_legal)
      | inr past ↦
          let same : tries + (k - tries) ≡ k = omega arith in
          first.before (k - tries) (omega arith)
          (subst (IsLegal game colour)
          (sym (ap (candidate generator game.size) same) ∙ untried_at generator game.size (k - tries)) is_legal)
    ];
  }
