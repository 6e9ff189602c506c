-- The order of the empty points, from turn to turn.
use Rattle.std.proofs.Common.{◌≡◌, ℕ, zero, suc, ◌+◌, ◌<◌, ◌≤◌, List, [], ◌∷◌, ◌++◌, length, get_or}
use Rattle.std.proofs.Common.{Contains, Some, true, false, refl, sym, ◌∙◌, ap, subst, arith, inl, inr, get_or-set_other}
use Rattle.std.specs.Prelude.{◌≢◌, slice_get, if◌then◌else◌}
use Rattle.std.specs.List.{AllPairs, swap, swap_remove}
use Rattle.std.proofs.lemmas.Bool.{cases_eq, false≢true}
use Rattle.std.proofs.lemmas.Bool.Decides.{nat_tests}
use Rattle.std.proofs.lemmas.List.{length-append, length_push}
use Rattle.std.proofs.lemmas.List.Elements.{Contains-push, Contains-push_cases, Contains-append_left, Contains-get_or}
use Rattle.std.proofs.lemmas.List.Quantifiers.{all_pairs_push}
use Rattle.std.proofs.lemmas.List.Sorted.{IsPermutation-swap, sum_by-IsPermutation}
use Rattle.std.proofs.lemmas.List.Sums.{sum_by-cons, sum_by-append, sum_by-swap_remove, get_or-le-sum_by}
use Rattle.std.proofs.lemmas.Option.{slice_get_within, get_or_from_slice_get}
use Rattle.go_base.specs.declared.colours.Colour.{Colour}
use Rattle.go_base.specs.declared.vertices.Vertex.TheVariants.{At}
use Rattle.go_board.specs.declared.board.Cell.{Cell}
use Rattle.go_board.specs.declared.board.Cell.TheVariants.{Edge, Empty, Black, White}
use Rattle.go_board.specs.Board.{at, stone, IsStone}
use Rattle.go_base.specs.Colour.{other}
use Rattle.go_board.specs.Game.{GameRecord, IsGame, HasRoom, IsLegal, board_of, with_move, without_last}
use Rattle.go_board.specs.Play.{play}
use Rattle.go_board.specs.LastTaken.{AreTakenByLast}
use Rattle.go_board.specs.Playouts.{AreEmptyPoints}
use Rattle.go_board.specs.decisions.Board.{cell?}
use Rattle.go_board.specs.private.ChainId.{is_empty, empty_at}
use Rattle.go_board.specs.private.Playouts.{same_place, times, IsOrderOf, HasRoomForTaken, AreEmptyBelow}
use Rattle.go_board.specs.private.Playouts.{IsPlayed, IsWithTaken}
use Rattle.go_board.proofs.General.{by_dec, earlier_or_last}
use Rattle.go_board.proofs.Sums.{total, total-none, total-add, total-only, total-at_most}
use Rattle.go_board.proofs.boards.Cells.{stone-filled, empty-point}
use Rattle.go_board.proofs.captures.CapturedStones.{in_list}
use Rattle.go_board.proofs.ids.Paths.{IsStone-filled}
use Rattle.go_board.proofs.ko_rules.PlaysTakenBack.{by_play, empty-after, taken-held}
use Rattle.go_board.proofs.of_laws.BoardsAndScores.{play-leaves}
use Rattle.go_board.proofs.records.EveryGame.{board-with_move, framed-game}
use Rattle.go_board.proofs.records.Moves.{without_last-with_move, IsGame-with_move}

-- ---- how often a list has a place

same_place-one : (p : ℕ) → same_place p p ≡ 1
same_place-one p = grind (arith, nat_tests)

same_place-is : (p q : ℕ) → q ≡ p → same_place p q ≡ 1
same_place-is p q e = grind (arith, nat_tests)

pub same_place-none : (p q : ℕ) → q ≢ p → same_place p q ≡ 0
same_place-none p q away = grind (arith, nat_tests)

pub times-present : (xs : List ℕ) (p : ℕ) → Contains xs p → 1 ≤ times xs p
times-present xs p h =
    let least = get_or-le-sum_by (same_place p) xs h.0 p h.1 in
    let one = same_place-is p (get_or xs h.0 p) h.2 in
    omega (arith, least, one)

pub times-absent : (xs : List ℕ) (p : ℕ) → ¬ Contains xs p → times xs p ≡ 0
times-absent [] p k = refl
times-absent (x ∷ xs) p k =
    let first = same_place-none p x (λ e. k (zero, omega arith, e)) in
    let rest = times-absent xs p (λ h. let below = h.1 in k (suc h.0, omega (arith, below), h.2)) in
    omega (arith, sum_by-cons (same_place p) x xs, first, rest)

pub later-larger : (x : ℕ) (xs : List ℕ) → AllPairs (λ p q. p < q) (x ∷ xs) → (p : ℕ) → Contains xs p → x < p
later-larger x xs rising p h =
    let below = h.1 in
    subst (λ (q : ℕ). x < q) h.2 (rising zero (suc h.0) p (omega arith) (omega (arith, below)))

pub times-rising : (xs : List ℕ) (p : ℕ) → AllPairs (λ p q. p < q) xs → times xs p ≤ 1
times-rising [] p rising = omega arith
times-rising (x ∷ xs) p rising = elim (cases_eq x p) [
  | inl same ↦
      let rest = times-absent xs p (λ h. let less = later-larger x xs rising p h in absurd (omega (arith, less, same))) in
      omega (arith, sum_by-cons (same_place p) x xs, same_place-is p x same, rest)
  | inr away ↦
      let rest = times-rising xs p (λ i j d less below. rising (suc i) (suc j) d (omega arith) (omega arith)) in
      omega (arith, sum_by-cons (same_place p) x xs, same_place-none p x away, rest)
]

-- in a rising list a place that is there is there once
pub times-once : (xs : List ℕ) (p : ℕ) → AllPairs (λ p q. p < q) xs → Contains xs p → times xs p ≡ 1
times-once xs p rising h =
    let least = times-present xs p h in
    let most = times-rising xs p rising in
    omega (arith, least, most)

-- ---- empty points

pub empty_at-one : (board : List Cell) (p : ℕ) → at board p ≡ Empty → empty_at board p ≡ 1
empty_at-one board p e = ap (λ (x : Cell). let n : ℕ = if is_empty x then 1 else 0 in n) e

one_if_empty : Cell → ℕ
one_if_empty x = if is_empty x then 1 else 0

by_cell : (x : Cell) → x ≢ Empty → one_if_empty x ≡ 0
unfolding one_if_empty
by_cell Edge away = refl
by_cell Empty away = absurd (away refl)
by_cell Black away = refl
by_cell White away = refl

pub empty_at-none : (board : List Cell) (p : ℕ) → at board p ≢ Empty → empty_at board p ≡ 0
unfolding one_if_empty
empty_at-none board p away = by_cell (at board p) away

empty_at-few : (board : List Cell) (p : ℕ) → empty_at board p ≤ 1
empty_at-few board p = by_dec (cell? (at board p) Empty)
    (λ e. let one = empty_at-one board p e in omega (arith, one))
    (λ away. let none = empty_at-none board p away in omega (arith, none))

empty-from : (board : List Cell) (p : ℕ) → 1 ≤ empty_at board p → at board p ≡ Empty
empty-from board p least = by_dec (cell? (at board p) Empty) (λ e. e)
    (λ away. let none = empty_at-none board p away in absurd (omega (arith, least, none)))

-- ---- the loop that lists them

pub empty-start : (board : List Cell) (points : List ℕ) → points ≡ [] → AreEmptyBelow board 0 points
empty-start board points is = subst (AreEmptyBelow board 0) (sym is) (record {
  each = λ p. ((λ h. let below = h.1 in absurd (omega arith)), (λ h. let below = h.0 in absurd (omega arith)));
  in_order = λ i j d less below. absurd (omega arith);
  few = omega arith;
})

is-empty : (x : Cell) → is_empty x ≡ true → x ≡ Empty
is-empty Edge e = absurd (false≢true e)
is-empty Empty e = refl
is-empty Black e = absurd (false≢true e)
is-empty White e = absurd (false≢true e)

pub empty-more : (board : List Cell) (n : ℕ) (points new : List ℕ) → AreEmptyBelow board n points
    → is_empty (at board n) ≡ true → new ≡ points ++ n ∷ [] → AreEmptyBelow board (n + 1) new
empty-more board n points new a empty pushed = subst (AreEmptyBelow board (n + 1)) (sym pushed) (record {
  each = λ p. (
    (λ h. elim (Contains-push_cases points n p h) [
      | inl old ↦ let was = (a.each p).0 old in let below = was.0 in (omega (arith, below), was.1)
      | inr same ↦ (omega (arith, same), ap (at board) (sym same) ∙ is-empty (at board n) empty)
    ]),
    (λ h. elim (earlier_or_last p n h.0) [
      | inl earlier ↦ Contains-append_left points (n ∷ []) p ((a.each p).1 (earlier, h.1))
      | inr last ↦ subst (λ (q : ℕ). Contains (points ++ n ∷ []) q) (sym last) (Contains-push points n)
    ]),
  );
  in_order = all_pairs_push (λ p q. p < q) points n a.in_order (λ k d below.
      ((a.each (get_or points k d)).0 (Contains-get_or points k d below)).0);
  few = let few = a.few in omega (arith, few, length_push points n);
})

full-cell : (x : Cell) → is_empty x ≡ false → x ≢ Empty
full-cell x held e = false≢true (sym held ∙ ap is_empty e)

pub empty-skip : (board : List Cell) (n : ℕ) (points : List ℕ) → AreEmptyBelow board n points
    → is_empty (at board n) ≡ false → AreEmptyBelow board (n + 1) points
empty-skip board n points a held = record {
  each = λ p. (
    (λ h. let was = (a.each p).0 h in let below = was.0 in (omega (arith, below), was.1)),
    (λ h. elim (earlier_or_last p n h.0) [
      | inl earlier ↦ (a.each p).1 (earlier, h.1)
      | inr last ↦ absurd (full-cell (at board n) held (ap (at board) (sym last) ∙ h.1))
    ]),
  );
  in_order = a.in_order;
  few = let few = a.few in omega (arith, few);
}

pub empty-all : (game : GameRecord) (n : ℕ) (points : List ℕ) → length (board_of game) ≡ 702 → 702 ≤ n
    → AreEmptyBelow (board_of game) n points → AreEmptyPoints game points
empty-all game n points long past a = record {
  each = λ p. (
    (λ h. ((a.each p).0 h).1),
    (λ e.
        let below = in_list (board_of game) p (empty-point (board_of game) p e) in
        (a.each p).1 (omega (arith, below, long, past), e)),
  );
  in_order = a.in_order;
}

-- the list of the empty points in the board's order is an order of them
pub order-first : (game : GameRecord) (order : List ℕ) → AreEmptyPoints game order → IsOrderOf (board_of game) order
order-first game order a p = by_dec (cell? (at (board_of game) p) Empty)
    (λ e. times-once order p a.in_order ((a.each p).1 e) ∙ sym (empty_at-one (board_of game) p e))
    (λ away. times-absent order p (λ h. away ((a.each p).0 h)) ∙ sym (empty_at-none (board_of game) p away))

-- what the order has is empty
pub order-empty : (board : List Cell) (order : List ℕ) (p : ℕ) → IsOrderOf board order → Contains order p
    → at board p ≡ Empty
order-empty board order p o h =
    let least = times-present order p h in
    let is = o p in
    empty-from board p (omega (arith, least, is))

pub contains-got : (xs : List ℕ) (i p : ℕ) → slice_get xs i ≡ Some p → Contains xs p
contains-got xs i p e = (i, slice_get_within xs i p e, get_or_from_slice_get xs i p p e)

-- ---- how long it is

length-counted : (xs : List ℕ) (n : ℕ) → ((p : ℕ) → Contains xs p → p < n) → length xs ≡ total (times xs) n
length-counted [] n below = sym (total-none (times []) n (λ k less. refl))
length-counted (x ∷ xs) n below =
    let rest = length-counted xs n (λ p h. let less = h.1 in below p (suc h.0, omega (arith, less), h.2)) in
    let first : total (λ p. same_place p x) n ≡ 1 =
    total-only (λ p. same_place p x) x n (below x (zero, omega arith, refl))
    (λ k away. same_place-none k x (λ e. away (sym e)))
    ∙ same_place-one x in
    let both = total-add (λ p. same_place p x) (times xs) (times (x ∷ xs)) n (λ k less. sum_by-cons (same_place k) x xs)
    in
    omega (arith, rest, first, both)

pub order-few : (board : List Cell) (order : List ℕ) → length board ≡ 702 → IsOrderOf board order
    → length order ≤ 702
order-few board order long o =
    let counted = length-counted order 702 (λ p h.
    let less = in_list board p (empty-point board p (order-empty board order p o h)) in omega (arith, less, long)) in
    let few = total-at_most (times order) 1 702 (λ p.
    let is = o p in let most = empty_at-few board p in omega (arith, is, most)) in
    omega (arith, counted, few)

-- ---- what a turn does to it

pub order-swap : (board : List Cell) (order : List ℕ) (i j : ℕ) → i < length order → j < length order
    → IsOrderOf board order → IsOrderOf board (swap order i j)
order-swap board order i j first second o p =
    sum_by-IsPermutation (same_place p) order (swap order i j)
    (IsPermutation-swap order (swap order i j) i j first second refl)
    ∙ o p

-- how often the taken points are there
record IsLeft (old new : List Cell) (p : ℕ) (taken : List ℕ) (q : ℕ) : Type 0 where
  adds : times taken q + empty_at old q ≡ empty_at new q + same_place q p

was-stone : (board : List Cell) (c : Colour) (p q : ℕ) → at board p ≡ Empty → at board q ≢ Empty → q ≢ p
    → at (play board c p) q ≡ Empty → IsStone (at board q)
was-stone board c p q empty held away gone =
    by_play board c p q (λ h e. (other c, taken-held board c p q empty h))
    (λ k e. absurd (held (sym (get_or-set_other board p q (stone c) Edge away) ∙ sym e ∙ gone)))

is_left : (old : List Cell) (c : Colour) (p : ℕ) (taken : List ℕ) (q : ℕ) → at old p ≡ Empty
    → (Contains taken q → IsStone (at old q) × (at (play old c p) q ≡ Empty))
    → (IsStone (at old q) → at (play old c p) q ≡ Empty → Contains taken q)
    → (Contains taken q → times taken q ≡ 1)
    → IsLeft old (play old c p) p taken q
is_left old c p taken q empty there back once = elim (cases_eq q p) [
  | inl same ↦
      let before : empty_at old q ≡ 1 = empty_at-one old q (ap (at old) same ∙ empty) in
      let held : at (play old c p) q ≢ Empty = λ e. stone-filled c
      (sym (ap (at (play old c p)) same ∙ (play-leaves old c p empty).played) ∙ e) in
      let after = empty_at-none (play old c p) q held in
      let none = times-absent taken q (λ h. held (there h).1) in
      let this = same_place-is q p (sym same) in
      record { adds = omega (arith, before, after, none, this) }
  | inr away ↦
      let apart = same_place-none q p (λ e. away (sym e)) in
      by_dec (cell? (at old q) Empty)
      (λ e.
      let none = times-absent taken q (λ h. IsStone-filled (at old q) (there h).0 e) in
      let before = empty_at-one old q e in
      let after = empty_at-one (play old c p) q (empty-after old c p q away e) in
      record { adds = omega (arith, before, none, after, apart) })
      (λ held. by_dec (cell? (at (play old c p) q) Empty)
      (λ e.
      let one = once (back (was-stone old c p q empty held away e) e) in
      let before = empty_at-none old q held in
      let after = empty_at-one (play old c p) q e in
      record { adds = omega (arith, before, one, after, apart) })
      (λ full.
      let none = times-absent taken q (λ h. full (there h).1) in
      let before = empty_at-none old q held in
      let after = empty_at-none (play old c p) q full in
      record { adds = omega (arith, before, none, after, apart) }))
]

pub order-played : (game : GameRecord) (c : Colour) (p i : ℕ) (order taken : List ℕ)
    → IsLegal game c (At p) → IsOrderOf (board_of game) order → slice_get order i ≡ Some p
    → AreTakenByLast (with_move game c (At p)) taken
    → IsOrderOf (board_of (with_move game c (At p))) (swap_remove order i p ++ taken)
order-played game c p i order taken legal o drawn a q =
    let old : List Cell = board_of game in
    let is : board_of (with_move game c (At p)) ≡ play old c p = board-with_move game c (At p) in
    let back : without_last (with_move game c (At p)) ≡ game = without_last-with_move game c (At p) in
    let sums = is_left old c p taken q legal.empty
    (λ h. let t = (a.each q).0 h in (
      subst (λ (g : GameRecord). IsStone (at (board_of g) q)) back t.stood,
      ap (λ (cells : List Cell). at cells q) (sym is) ∙ t.gone,
    ))
    (λ s e. (a.each q).1 (record {
      stood = subst (λ (g : GameRecord). IsStone (at (board_of g) q)) (sym back) s;
      gone = ap (λ (cells : List Cell). at cells q) is ∙ e;
    }))
    (times-once taken q a.in_order) in
    let adds = sums.adds in
    let removed = sum_by-swap_remove (same_place q) order i p (slice_get_within order i p drawn) in
    let this : same_place q (get_or order i p) ≡ same_place q p =
    ap (same_place q) (get_or_from_slice_get order i p p drawn) in
    let was = o q in
    let all : times (swap_remove order i p ++ taken) q ≡ empty_at (play old c p) q =
    sum_by-append (same_place q) (swap_remove order i p) taken ∙ omega (arith, adds, removed, this, was) in
    subst (λ (cells : List Cell). times (swap_remove order i p ++ taken) q ≡ empty_at cells q) (sym is) all

-- there is room for the taken points
pub order-room : (game : GameRecord) (c : Colour) (p i : ℕ) (order : List ℕ)
    → IsGame (with_move game c (At p)) → IsLegal game c (At p) → IsOrderOf (board_of game) order
    → slice_get order i ≡ Some p → HasRoomForTaken (with_move game c (At p)) (swap_remove order i p)
order-room game c p i order g legal o drawn taken a =
    let few = order-few (board_of (with_move game c (At p))) (swap_remove order i p ++ taken)
    (framed-game (with_move game c (At p)) g).length_is (order-played game c p i order taken legal o drawn a) in
    omega (arith, few, length-append (swap_remove order i p) taken)

-- ---- a turn that plays

pub played-in : (game same after : GameRecord) (c : Colour) (p : ℕ) → same ≡ game → IsPlayed same after c p
    → IsPlayed game after c p
played-in game same after c p is played = subst (λ (g : GameRecord). IsPlayed g after c p) is played

-- there is a last move
pub played-moved : (game after : GameRecord) (c : Colour) (p : ℕ) → IsPlayed game after c p → 0 < length after.moves
played-moved game after c p played =
    let long = ap (λ (g : GameRecord). length g.moves) played.played in
    let more = length_push game.moves (record { colour = c; vertex = At p }) in
    omega (arith, long, more)

pub room-turn : (game after : GameRecord) (c : Colour) (p q i : ℕ) (order removed : List ℕ) → IsGame game
    → HasRoom game → IsOrderOf (board_of game) order → slice_get order i ≡ Some p → IsPlayed game after c p
    → slice_get order i ≡ Some q → removed ≡ swap_remove order i q → HasRoomForTaken after removed
room-turn game after c p q i order removed g room o drawn played taken is =
    let one : q ≡ p = cc in
    let legal = played.candidate.legal in
    let fits = order-room game c p i order (IsGame-with_move game c (At p) g room legal) legal o drawn in
    subst (λ (next : GameRecord). HasRoomForTaken next removed) (sym played.played)
    (subst (HasRoomForTaken (with_move game c (At p))) (sym (is ∙ ap (swap_remove order i) one)) fits)

pub order-turn : (game after : GameRecord) (c : Colour) (p q i : ℕ) (order removed left : List ℕ)
    → IsOrderOf (board_of game) order → slice_get order i ≡ Some p → IsPlayed game after c p
    → slice_get order i ≡ Some q → removed ≡ swap_remove order i q → IsWithTaken after removed left
    → IsOrderOf (board_of after) left
order-turn game after c p q i order removed left o drawn played taken is w =
    let one : q ≡ p = cc in
    let all = order-played game c p i order w.taken played.candidate.legal o drawn
    (subst (λ (next : GameRecord). AreTakenByLast next w.taken) played.played w.are) in
    subst (λ (next : GameRecord). IsOrderOf (board_of next) left) (sym played.played)
    (subst (IsOrderOf (board_of (with_move game c (At p))))
    (sym (w.is ∙ ap (λ (ps : List ℕ). ps ++ w.taken) (is ∙ ap (swap_remove order i) one))) all)
