-- The points of a board, row by row, and the candidates among them.
use Rattle.std.proofs.Common.{◌≡◌, ℕ, zero, suc, ◌+◌, ◌-◌, ◌<◌, ◌≤◌, Bool, true, false, cond, List, [], ◌∷◌, ◌++◌}
use Rattle.std.proofs.Common.{length, take, drop, get_or, map, Some, None, refl, sym, ◌∙◌, ap, arith, append_assoc}
use Rattle.std.proofs.Common.{append-nil, add-one}
use Rattle.std.specs.Prelude.{slice_get}
use Rattle.std.specs.List.{range_with_len, flat_map, filter}
use Rattle.std.proofs.lemmas.List.{flat_map_more, take_all, take-append-drop}
use Rattle.std.proofs.lemmas.List.Elements.{filter_more, filter-append}
use Rattle.std.proofs.lemmas.List.FromFn.{map-range_with_len_more}
use Rattle.go_base.specs.Point.{point}
use Rattle.go_base.specs.declared.colours.Colour.{Colour}
use Rattle.go_base.specs.Decide.{holds}
use Rattle.go_board.specs.Game.{GameRecord}
use Rattle.gtp_session.specs.Candidate.{IsCandidate}
use Rattle.gtp_session.specs.Candidates.{row_points, points_of, candidates}
use Rattle.gtp_session.specs.decisions.Candidate.{candidate?}

-- ---- a row

-- the points of a row before a column
unfoldable pub points_before : ℕ → ℕ → List ℕ
points_before row column = row_points (column - 1) row

pub points_before-first : (row : ℕ) (points : List ℕ) → points ≡ points ++ points_before row 1
unfolding points_before
points_before-first row points = sym (append-nil points)

-- one point more
pub points_before-more : (row column : ℕ) (points : List ℕ) → 1 ≤ column
    → (points ++ points_before row column) ++ point column row ∷ [] ≡ points ++ points_before row (column + 1)
unfolding points_before
points_before-more row column points least =
    let f = λ (k : ℕ). point k row in
    append_assoc points (map f (range_with_len 1 (column - 1))) (point column row ∷ [])
    ∙ ap (λ l. points ++ l) (sym (map-range_with_len_more f 1 (column - 1) column (omega arith)))
    ∙ ap (λ n. points ++ map f (range_with_len 1 n)) (let e : column - 1 + 1 ≡ column + 1 - 1 = omega arith in e)

pub points_before-all : (row size column : ℕ) (points : List ℕ) → column ≡ size + 1
    → points ++ points_before row column ≡ points ++ row_points size row
unfolding points_before
points_before-all row size column points past = ap (λ n. points ++ row_points n row)
    (let e : column - 1 ≡ size = omega arith in e)

-- ---- the rows

-- the points of the rows below a row
unfoldable pub rows_before : ℕ → ℕ → List ℕ
rows_before size row = flat_map (row_points size) (range_with_len 1 (row - 1))

range-more : (a n : ℕ) → range_with_len a (n + 1) ≡ range_with_len a n ++ (a + n) ∷ []
range-more a zero = ap (λ k. k ∷ []) (omega arith)
range-more a (suc n) =
    ap (range_with_len a) (add-one (suc n))
    ∙ ap (λ l. a ∷ l)
    (ap (range_with_len (a + 1)) (sym (add-one n)) ∙ range-more (a + 1) n
    ∙ ap (λ k. range_with_len (a + 1) n ++ k ∷ []) (omega arith))

-- one row more
pub rows_before-more : (size row : ℕ) → 1 ≤ row
    → rows_before size row ++ row_points size row ≡ rows_before size (row + 1)
unfolding rows_before
rows_before-more size row least =
    let m = row - 1 in
    let here : row ≡ 1 + m = omega arith in
    flat_map_more (row_points size) [] (range_with_len 1 m) row
    ∙ ap (λ k. flat_map (row_points size) (range_with_len 1 m ++ k ∷ [])) here
    ∙ ap (flat_map (row_points size)) (sym (range-more 1 m))
    ∙ ap (λ n. flat_map (row_points size) (range_with_len 1 n)) (let e : m + 1 ≡ row + 1 - 1 = omega arith in e)

pub rows_before-first : (size : ℕ) → [] ≡ rows_before size 1
unfolding rows_before
rows_before-first size = refl

pub rows_before-all : (size row : ℕ) → row ≡ size + 1 → rows_before size row ≡ points_of size
unfolding rows_before points_of
rows_before-all size row past = ap (λ n. flat_map (row_points size) (range_with_len 1 n))
    (let e : row - 1 ≡ size = omega arith in e)

-- ---- candidates

pub not_true : {b : Bool} → b ≡ false → b ≡ true → ⊥
not_true f t = cc

-- the candidates among these points
unfoldable pub among : GameRecord → Colour → List ℕ → List ℕ
among game colour points = filter (λ p. holds (candidate? game colour p)) points

holds-yes : {A : Type 0} (d : Dec A) → A → holds d ≡ true
holds-yes (yes _) a = refl
holds-yes (no k) a = absurd (k a)

holds-no : {A : Type 0} (d : Dec A) → (A → ⊥) → holds d ≡ false
holds-no (yes a) k = absurd (k a)
holds-no (no _) k = refl

pub among-none : (game : GameRecord) (colour : Colour) (points : List ℕ) → among game colour (take 0 points) ≡ []
unfolding among
among-none game colour points = refl

-- one point more, which is a candidate
pub among-yes : (game : GameRecord) (colour : Colour) (points : List ℕ) (i p : ℕ) → i < length points
    → p ≡ get_or points i p → IsCandidate game colour p
    → among game colour (take (i + 1) points) ≡ among game colour (take i points) ++ p ∷ []
unfolding among
among-yes game colour points i p inside here is =
    let test = λ (q : ℕ). holds (candidate? game colour q) in
    filter_more test points i p inside
    ∙ ap (λ q. filter test (take i points) ++ cond (test q) (q ∷ []) []) (sym here)
    ∙ ap (λ b. filter test (take i points) ++ cond b (p ∷ []) []) (holds-yes (candidate? game colour p) is)

-- one point more, which is none
pub among-no : (game : GameRecord) (colour : Colour) (points : List ℕ) (i p : ℕ) → i < length points
    → p ≡ get_or points i p → (IsCandidate game colour p → ⊥)
    → among game colour (take (i + 1) points) ≡ among game colour (take i points)
unfolding among
among-no game colour points i p inside here is_not =
    let test = λ (q : ℕ). holds (candidate? game colour q) in
    filter_more test points i p inside
    ∙ ap (λ q. filter test (take i points) ++ cond (test q) (q ∷ []) []) (sym here)
    ∙ ap (λ b. filter test (take i points) ++ cond b (p ∷ []) []) (holds-no (candidate? game colour p) is_not)
    ∙ append-nil (filter test (take i points))

pub among-all : (game : GameRecord) (colour : Colour) (points : List ℕ) (i : ℕ) → points ≡ points_of game.size
    → length points ≤ i
    → among game colour (take i points) ≡ candidates game colour
unfolding among candidates
among-all game colour points i all past =
    let test = λ (q : ℕ). holds (candidate? game colour q) in
    ap (filter test) (take_all i points past) ∙ ap (filter test) all

-- the candidates among the first points are the first candidates
pub among-first : (game : GameRecord) (colour : Colour) (points : List ℕ) (i p : ℕ) → points ≡ points_of game.size
    → among game colour (take i points) ≡ p ∷ [] → slice_get (candidates game colour) 0 ≡ Some p
unfolding among candidates
among-first game colour points i p all e =
    let test = λ (q : ℕ). holds (candidate? game colour q) in
    ap (λ l. slice_get (filter test l) 0) (sym all ∙ sym (take-append-drop i points))
    ∙ ap (λ l. slice_get l 0) (filter-append test (take i points) (drop i points))
    ∙ ap (λ l. slice_get (l ++ filter test (drop i points)) 0) e

pub among-no_first : (game : GameRecord) (colour : Colour) (points : List ℕ) (i : ℕ) → points ≡ points_of game.size
    → length points ≤ i
    → among game colour (take i points) ≡ [] → slice_get (candidates game colour) 0 ≡ None
among-no_first game colour points i all past e = ap (λ l. slice_get l 0)
    (sym (among-all game colour points i all past) ∙ e)
