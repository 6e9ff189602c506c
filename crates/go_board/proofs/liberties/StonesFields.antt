-- What the fields of `Stones` keep when a stone is placed or removed, when its id changes, and when ids become one.
use Rattle.std.proofs.Common.{◌≡◌, ℕ, ◌+◌, ◌-◌, ◌*◌, ◌/◌, ◌<◌, ◌≤◌, List, length, sym, ◌∙◌, ap, subst, arith}
use Rattle.std.proofs.Common.{get_or-set_other, get_or-set_same, inl, inr, refl}
use Rattle.std.specs.Prelude.{◌≢◌, map}
use Rattle.std.proofs.lemmas.Bool.{cases_eq, cases_lt}
use Rattle.std.proofs.lemmas.List.{length-map, ext_get_or, get_or-map, get_or_past}
use Rattle.std.proofs.Math.ListN.{set, length-set}
use Rattle.go_base.specs.Point.{IsOn}
use Rattle.go_base.specs.Size.{most_size}
use Rattle.go_base.specs.declared.colours.Colour.{Colour}
use Rattle.go_base.specs.declared.colours.Colour.TheVariants.{Black, White}
use Rattle.go_board.specs.private.Areas.{one_of, stones_on}
use Rattle.go_board.specs.Board.{at, stone, IsStone}
use Rattle.go_board.specs.private.Frame.{IsFramed, HasSize}
use Rattle.go_board.specs.private.ChainId.{id_of, empty_beside, count_at, ids_beside, ArePseudoLiberties, AreChainIds}
use Rattle.go_board.specs.private.ChainId.{pseudo_liberties}
use Rattle.go_board.specs.private.Steps.{rename_three, IsMoved, AreRaised}
use Rattle.go_board.specs.private.NamedIds.{AreAllLowered, AreAllRaised, AreNamed, AreInRows}
use Rattle.go_board.specs.private.Stones.{AreCounted}
use Rattle.go_board.specs.declared.board.Cell.{Cell}
use Rattle.go_board.specs.declared.board.Cell.TheVariants.{Edge, Empty}
use Rattle.go_board.specs.declared.stones.Stones.TheInside.{Inside}
use Rattle.go_board.proofs.boards.Cells.{IsFramed-set, empty-point, stone-filled}
use Rattle.go_board.proofs.boards.Neighbours.{IsOn-inside, not_itself, left_of, under_of}
use Rattle.go_board.proofs.captures.CapturedStones.{in_list}
use Rattle.go_board.proofs.ids.Paths.{IsStone-point, IsStone-filled, Joined-same}
use Rattle.go_board.proofs.ids.JoiningChains.{ArePseudoLiberties-first, ArePseudoLiberties-second, room-for_two}
use Rattle.go_board.proofs.ids.JoiningChains.{ArePseudoLiberties-rename_three, IsOfThree, of_three, first, second}
use Rattle.go_board.proofs.ids.JoiningChains.{third, none}
use Rattle.go_board.proofs.liberties.ChangingIds.{ArePseudoLiberties-id_changed}
use Rattle.go_board.proofs.liberties.PlacingStones.{ArePseudoLiberties-placed, stone_in, stone_on}
use Rattle.go_board.proofs.liberties.StoneNumbers.{stones-placed, stones-removed}
use Rattle.go_board.proofs.liberties.RemovingStones.{ArePseudoLiberties-removed, IsBelow-lessened}
use Rattle.go_board.proofs.liberties.MergingIds.{pseudo_liberties-few}
use Rattle.go_board.proofs.liberties.NamedIds.{AreLowered-named, AreRaised-named, IsMoved-named, without_zero}
use Rattle.go_board.proofs.liberties.NamedIds.{without_zero-set, count-other, length-without_zero}
use Rattle.go_board.proofs.liberties.NamedIds.{ArePseudoLiberties-same, AreBlank, AreNonZero}
use Rattle.go_board.proofs.liberties.NamedIds.{pseudo_liberties-zero}

pub counts-long : (f : Inside) → AreCounted f → length f.counts ≡ 702
counts-long f kept = sym (length-without_zero f.counts) ∙ kept.counts.length_is

-- ---- one place changes

-- ids stay 0 on what is no stone
AreBlank-set : (board : List Cell) (ids : List ℕ) (p : ℕ) (x : Cell) (id : ℕ) → at board p ≢ Edge → length ids ≡ 702
    → p < 702 → (¬ IsStone x → id ≡ 0) → AreBlank board ids → AreBlank (set board p x) (set ids p id)
AreBlank-set board ids p x id point long below here blank q bare = elim (cases_eq q p) [
  | inl e ↦
      ap (id_of (set ids p id)) e ∙ get_or-set_same ids p id 0 (omega (arith, below, long))
      ∙ here (λ s. bare (subst IsStone (sym (ap (at (set board p x)) e
      ∙ get_or-set_same board p x Edge (in_list board p point))) s))
  | inr o ↦ get_or-set_other ids p q id 0 o
      ∙ blank q (λ s. bare (subst IsStone (sym (get_or-set_other board p q x Edge o)) s))
]

AreNonZero-set : (board : List Cell) (ids : List ℕ) (p : ℕ) (x : Cell) (id : ℕ) → at board p ≢ Edge → length ids ≡ 702
    → p < 702 → (IsStone x → id ≢ 0) → AreNonZero board ids → AreNonZero (set board p x) (set ids p id)
AreNonZero-set board ids p x id point long below here named q s nought = elim (cases_eq q p) [
  | inl e ↦
      here (subst IsStone (ap (at (set board p x)) e ∙ get_or-set_same board p x Edge (in_list board p point)) s)
      (sym (get_or-set_same ids p id 0 (omega (arith, below, long))) ∙ ap (id_of (set ids p id)) (sym e) ∙ nought)
  | inr o ↦ named q (subst IsStone (get_or-set_other board p q x Edge o) s)
      (sym (get_or-set_other ids p q id 0 o) ∙ nought)
]

rows-set : (board : List Cell) (p : ℕ) (x : Cell) (n : ℕ) → at board p ≢ Edge
    → ((q : ℕ) → at board q ≢ Edge → q < n) → (q : ℕ) → at (set board p x) q ≢ Edge → q < n
rows-set board p x n point rows q h = elim (cases_eq q p) [
  | inl e ↦ subst (λ (k : ℕ). k < n) (sym e) (rows p point)
  | inr o ↦ rows q (λ edge. h (get_or-set_other board p q x Edge o ∙ edge))
]

on-below : (p : ℕ) → IsOn most_size p → p < 702
on-below p on = let high = (IsOn-inside p on).high in omega (arith, high)

-- ---- a stone is placed

pub room-for_placed : (f : Inside) (c1 : List ℕ) (p id more : ℕ) → AreCounted f → id < 702 → id ≢ 0 → more ≤ 4
    → AreAllLowered f.ids f.counts c1 p → count_at c1 id + more ≤ 65535
room-for_placed f c1 p id more kept l o few lowered =
    let is = kept.counts.each id l in
    let same = count-other f.counts id o in
    let less = lowered.each id l in
    omega (arith, few, is, same, less, pseudo_liberties-few f.board f.ids id)

pub AreCounted-placed : (f : Inside) (cells : List Cell) (ls c1 c2 : List ℕ) (c : Colour) (p id more b w : ℕ)
    → AreCounted f → IsOn most_size p → at f.board p ≡ Empty → id < 702 → id ≢ 0
    → AreAllLowered f.ids f.counts c1 p → cells ≡ set f.board p (stone c) → ls ≡ set f.ids p id
    → more ≡ empty_beside cells p → c2 ≡ set c1 id (count_at c1 id + more)
    → b ≡ f.black + one_of Black (stone c) → w ≡ f.white + one_of White (stone c)
    → AreCounted (record f { board = cells; ids = ls; counts = c2; black = b; white = w })
AreCounted-placed f cells ls c1 c2 c p id more b w kept on empty l o lowered board ids more_is added b_is w_is =
    subst (λ (cs : List Cell). AreCounted (record f { board = cs; ids = ls; counts = c2; black = b; white = w }))
    (sym board)
    (subst (λ (k : List ℕ).
    AreCounted (record f { board = set f.board p (stone c); ids = k; counts = c2; black = b; white = w }))
    (sym ids) (record {
      black_is =
          stones-placed f.board Black p (stone c) f.black b kept.framed.length_is (on-below p on) empty kept.black_is
          b_is;
      white_is =
          stones-placed f.board White p (stone c) f.white w kept.framed.length_is (on-below p on) empty kept.white_is
          w_is;
      framed = IsFramed-set f.board p (stone c) point kept.framed;
      length_is = length-set f.ids p id ∙ kept.length_is;
      blank =
          AreBlank-set f.board f.ids p (stone c) id point kept.length_is (on-below p on)
          (λ bare. absurd (bare (c, refl))) kept.blank;
      named = AreNonZero-set f.board f.ids p (stone c) id point kept.length_is (on-below p on) (λ _. o) kept.named;
      counts =
          ArePseudoLiberties-placed f.board f.ids (without_zero f.counts) (without_zero c1) (without_zero c2) c p id
          more on empty l kept.length_is kept.counts
          (AreLowered-named f.board f.ids f.counts c1 p kept.blank (counts-long f kept) lowered)
          (more_is ∙ ap (λ (b : List Cell). empty_beside b p) board)
          (ap without_zero added ∙ without_zero-set c1 id (λ n. n + more) o);
      few = kept.few;
      rows = rows-set f.board p (stone c) _ point kept.rows;
    }))
  where
    point : at f.board p ≢ Edge
    point = empty-point f.board p empty

-- ---- a stone is removed

pub place-of_stone : (f : Inside) (p : ℕ) → AreCounted f → IsStone (at f.board p) → p < 702
place-of_stone f p kept s = on-below p (stone_on f.board p kept.framed s)

pub not_zero : (f : Inside) (p : ℕ) → AreCounted f → IsStone (at f.board p) → p ≢ 0
not_zero f p kept s nought =
    let low = (IsOn-inside p (stone_on f.board p kept.framed s)).low in absurd (omega (arith, low, nought))

pub AreCounted-removed : (f : Inside) (cells : List Cell) (ls c1 c2 : List ℕ) (p id less b w : ℕ)
    → AreCounted f → IsStone (at f.board p) → id ≡ id_of f.ids p → id < 702 → less ≡ empty_beside f.board p
    → c1 ≡ set f.counts id (count_at f.counts id - less) → cells ≡ set f.board p Empty → ls ≡ set f.ids p 0
    → AreAllRaised ls c1 c2 p → b ≡ f.black - one_of Black (at f.board p) → w ≡ f.white - one_of White (at f.board p)
    → AreCounted (record f { board = cells; ids = ls; counts = c2; black = b; white = w })
AreCounted-removed f cells ls c1 c2 p id less b w kept s own l less_is taken board ids raised b_is w_is =
    subst (λ (cs : List Cell). AreCounted (record f { board = cs; ids = ls; counts = c2; black = b; white = w }))
    (sym board)
    (subst (λ (k : List ℕ). AreCounted (record f { board = new; ids = k; counts = c2; black = b; white = w }))
    (sym ids) (record {
      black_is =
          stones-removed f.board Black p f.black b kept.framed.length_is (on-below p on) kept.black_is b_is;
      white_is =
          stones-removed f.board White p f.white w kept.framed.length_is (on-below p on) kept.white_is w_is;
      framed = IsFramed-set f.board p Empty point kept.framed;
      length_is = length-set f.ids p 0 ∙ kept.length_is;
      blank = blank;
      named = named;
      counts =
          ArePseudoLiberties-same new f.ids (set f.ids p 0) (without_zero c2) (λ q t. other_id q (away q t))
          (ArePseudoLiberties-removed f.board new f.ids (without_zero f.counts) (without_zero c1)
          (without_zero c2) p id less on s kept.counts refl own l less_is cleaned up);
      few = kept.few;
      rows = rows-set f.board p Empty _ point kept.rows;
    }))
  where
    new : List Cell
    new = set f.board p Empty

    point : at f.board p ≢ Edge
    point = IsStone-point (at f.board p) s

    on : IsOn most_size p
    on = stone_on f.board p kept.framed s

    blank : AreBlank (set f.board p Empty) (set f.ids p 0)
    blank = AreBlank-set f.board f.ids p Empty 0 point kept.length_is (on-below p on) (λ _. refl) kept.blank

    named : AreNonZero (set f.board p Empty) (set f.ids p 0)
    named =
        AreNonZero-set f.board f.ids p Empty 0 point kept.length_is (on-below p on)
        (λ t. absurd (stone-filled t.0 (sym t.1))) kept.named

    other_id : (q : ℕ) → q ≢ p → id_of (set f.ids p 0) q ≡ id_of f.ids q
    other_id q o = get_or-set_other f.ids p q 0 0 o

    -- what is a stone now isn't the one that was removed
    away : (q : ℕ) → IsStone (at (set f.board p Empty) q) → q ≢ p
    away q t e =
        IsStone-filled _ t
        (ap (at (set f.board p Empty)) e ∙ get_or-set_same f.board p Empty Edge (in_list f.board p point))

    cleaned : without_zero c1 ≡ set (without_zero f.counts) id (count_at (without_zero f.counts) id - less)
    cleaned =
        ap without_zero taken
        ∙ without_zero-set f.counts id (λ n. n - less) (λ nought. kept.named p s (sym own ∙ nought))

    long1 : length c1 ≡ 702
    long1 = ap length taken ∙ length-set f.counts id (count_at f.counts id - less) ∙ counts-long f kept

    up : AreRaised (set f.board p Empty) f.ids (without_zero c1) (without_zero c2) p
    up =
        let now : AreRaised (set f.board p Empty) (set f.ids p 0) (without_zero c1) (without_zero c2) p =
        AreRaised-named (set f.board p Empty) (set f.ids p 0) c1 c2 p blank named long1
        (IsBelow-lessened f.board f.ids (without_zero f.counts) (without_zero c1) id less kept.counts cleaned l)
        (subst (λ (k : List ℕ). AreAllRaised k c1 c2 p) ids raised) in
        record {
          length_is = now.length_is;
          each = λ k below. now.each k below ∙ ap (λ (n : ℕ). count_at (without_zero c1) k + n) (beside-same k);
        }
      where
        low : 27 ≤ p
        low = (IsOn-inside p on).low

        beside-same : (k : ℕ) → ids_beside (set f.board p Empty) (set f.ids p 0) k p
            ≡ ids_beside (set f.board p Empty) f.ids k p
        beside-same k =
            rw (
              other_id (p + 1) (not_itself p (p + 1) (inl refl)),
              other_id (p - 1) (not_itself p (p - 1)
                  (left_of p low)),
              other_id (p + 26) (not_itself p (p + 26) (inr (inr (inl refl)))),
              other_id (p - 26)
                  (not_itself p (p - 26) (under_of p low)),
            ) refl

-- ---- three ids become one

pub room-for_first : (f : Inside) (to a : ℕ) → AreCounted f → to < 702 → a < 702 → to ≢ 0 → a ≢ 0
    → count_at f.counts to + count_at f.counts a ≤ 65535
room-for_first f to a kept t la o x =
    let room = room-for_two f.board f.ids (without_zero f.counts) to a t la kept.counts in
    let st = count-other f.counts to o in
    let sa = count-other f.counts a x in
    omega (arith, room, st, sa)

pub room-for_second : (f : Inside) (c1 : List ℕ) (to a b : ℕ) → AreCounted f → to < 702 → to ≢ 0 → a < 702
    → a ≢ 0 → b < 702 → b ≢ 0 → IsMoved f.counts c1 to a → count_at c1 to + count_at c1 b ≤ 65535
room-for_second f c1 to a b kept t o la x lb y m =
    let room =
    room-for_two f.board _ (without_zero c1) to b t lb
    (ArePseudoLiberties-first f.board f.ids (without_zero f.counts) (without_zero c1) to a t la kept.length_is
    kept.counts (IsMoved-named f.counts c1 to a o x m)) in
    let st = count-other c1 to o in
    let sb = count-other c1 b y in
    omega (arith, room, st, sb)

pub room-for_third : (f : Inside) (c1 c2 : List ℕ) (to a b c : ℕ) → AreCounted f → to < 702 → to ≢ 0
    → AreNamed a b c → IsMoved f.counts c1 to a → IsMoved c1 c2 to b → count_at c2 to + count_at c2 c ≤ 65535
room-for_third f c1 c2 to a b c kept t o abc m n =
    let room =
    room-for_two f.board _ (without_zero c2) to c t abc.third_below
    (ArePseudoLiberties-second f.board f.ids (without_zero f.counts) (without_zero c1) (without_zero c2) to a b t
    abc.first_below abc.second_below kept.length_is kept.counts (IsMoved-named f.counts c1 to a o abc.first m)
    (IsMoved-named c1 c2 to b o abc.second n)) in
    let st = count-other c2 to o in
    let sc = count-other c2 c abc.third in
    omega (arith, room, st, sc)

pub rename_three-zero : (to a b c : ℕ) → AreNamed a b c → rename_three to a b c 0 ≡ 0
rename_three-zero to a b c abc = by_case (of_three to a b c 0)
  where
    by_case : IsOfThree to a b c 0 → rename_three to a b c 0 ≡ 0
    by_case (first e _) = absurd (abc.first (sym e))
    by_case (second e _) = absurd (abc.second (sym e))
    by_case (third e _) = absurd (abc.third (sym e))
    by_case (none e) = e

rename_three-named : (to a b c l : ℕ) → to ≢ 0 → l ≢ 0 → rename_three to a b c l ≢ 0
rename_three-named to a b c l t o nought = by_case (of_three to a b c l)
  where
    by_case : IsOfThree to a b c l → ⊥
    by_case (first _ e) = t (sym e ∙ nought)
    by_case (second _ e) = t (sym e ∙ nought)
    by_case (third _ e) = t (sym e ∙ nought)
    by_case (none e) = o (sym e ∙ nought)

-- id 0 stays 0 in a whole list too
id-renamed : (to a b c : ℕ) (ids : List ℕ) (q : ℕ) → AreNamed a b c
    → id_of (map (rename_three to a b c) ids) q ≡ rename_three to a b c (id_of ids q)
id-renamed to a b c ids q abc = elim (cases_lt q (length ids)) [
  | inl below ↦ get_or-map (rename_three to a b c) ids q 0 0 below
  | inr past ↦
      get_or_past (map (rename_three to a b c) ids) q 0
      (let long = length-map ids (rename_three to a b c) in omega (arith, long, past))
      ∙ sym (rename_three-zero to a b c abc) ∙ ap (rename_three to a b c) (sym (get_or_past ids q 0 past))
]

pub AreCounted-joined : (f : Inside) (ls c1 c2 c3 : List ℕ) (to a b c : ℕ) → AreCounted f → to < 702
    → to ≢ 0 → AreNamed a b c → IsMoved f.counts c1 to a → IsMoved c1 c2 to b → IsMoved c2 c3 to c
    → ls ≡ map (rename_three to a b c) f.ids → AreCounted (record f { ids = ls; counts = c3 })
AreCounted-joined f ls c1 c2 c3 to a b c kept t o abc m n k ids =
    subst (λ (k : List ℕ). AreCounted (record f { ids = k; counts = c3 })) (sym ids) (record {
      framed = kept.framed;
      length_is = length-map f.ids (rename_three to a b c) ∙ kept.length_is;
      blank = λ p bare. id-renamed to a b c f.ids p abc ∙ ap (rename_three to a b c) (kept.blank p bare)
          ∙ rename_three-zero to a b c abc;
      named =
          λ p s nought. rename_three-named to a b c (id_of f.ids p) o (kept.named p s)
          (sym (id-renamed to a b c f.ids p abc) ∙ nought);
      counts =
          ArePseudoLiberties-rename_three f.board f.ids (without_zero f.counts) (without_zero c1) (without_zero c2)
          (without_zero c3) to a b c t abc.first_below abc.second_below abc.third_below kept.length_is kept.counts
          (IsMoved-named f.counts c1 to a o abc.first m) (IsMoved-named c1 c2 to b o abc.second n)
          (IsMoved-named c2 c3 to c o abc.third k);
      few = kept.few;
      rows = kept.rows;
      black_is = kept.black_is;
      white_is = kept.white_is;
    })

-- ---- a stone gets another id

pub room-for_id_changed : (f : Inside) (c1 : List ℕ) (p from to own : ℕ) → AreCounted f → IsStone (at f.board p)
    → from ≡ id_of f.ids p → from < 702 → to < 702 → to ≢ 0 → own ≤ 4
    → c1 ≡ set f.counts from (count_at f.counts from - own) → count_at c1 to + own ≤ 65535
room-for_id_changed f c1 p from to own kept s from_is l t o few taken =
    let cleaned =
    ap without_zero taken
    ∙ without_zero-set f.counts from (λ n. n - own) (λ nought. kept.named p s (sym from_is ∙ nought)) in
    let below =
    IsBelow-lessened f.board f.ids (without_zero f.counts) (without_zero c1) from own kept.counts cleaned l to t in
    let same = count-other c1 to o in
    omega (arith, below, few, same)

pub AreCounted-id_changed : (f : Inside) (ls c1 c2 : List ℕ) (p from to own : ℕ) → AreCounted f
    → IsStone (at f.board p) → from ≡ id_of f.ids p → from < 702 → to < 702 → to ≢ 0 → own ≡ empty_beside f.board p
    → c1 ≡ set f.counts from (count_at f.counts from - own) → c2 ≡ set c1 to (count_at c1 to + own)
    → ls ≡ set f.ids p to → AreCounted (record f { ids = ls; counts = c2 })
AreCounted-id_changed f ls c1 c2 p from to own kept s from_is l t o own_is taken added ids =
    subst (λ (k : List ℕ). AreCounted (record f { ids = k; counts = c2 })) (sym ids) (record {
      framed = kept.framed;
      length_is = length-set f.ids p to ∙ kept.length_is;
      blank = λ q bare. get_or-set_other f.ids p q to 0
          (λ e. bare (subst (λ (k : ℕ). IsStone (at f.board k)) (sym e) s)) ∙ kept.blank q bare;
      named = λ q u nought. elim (cases_eq q p) [
        | inl e ↦
            o (sym (get_or-set_same f.ids p to 0
            (let long = kept.length_is in let below = place-of_stone f p kept s in omega (arith, long, below)))
            ∙ ap (id_of (set f.ids p to)) (sym e) ∙ nought)
        | inr other ↦ kept.named q u (sym (get_or-set_other f.ids p q to 0 other) ∙ nought)
      ];
      counts =
          ArePseudoLiberties-id_changed f.board f.ids (without_zero f.counts) (without_zero c1) (without_zero c2) p from
          to own (stone_in f.board p kept.framed s) s kept.length_is kept.counts from_is l t own_is
          (ap without_zero taken
          ∙ without_zero-set f.counts from (λ n. n - own) (λ nought. kept.named p s (sym from_is ∙ nought)))
          (ap without_zero added ∙ without_zero-set c1 to (λ n. n + own) o);
      few = kept.few;
      rows = kept.rows;
      black_is = kept.black_is;
      white_is = kept.white_is;
    })

-- all other rows have no stone
pub AreInRows-kept : (f : Inside) → AreCounted f → AreInRows f.ids f.lines
AreInRows-kept f kept = record {
  under = λ p h. kept.blank p (λ s.
      let low = (IsOn-inside p (stone_on f.board p kept.framed s)).low in absurd (omega (arith, h, low)));
  above = λ p h. kept.blank p (λ s.
      let below = kept.rows p (IsStone-point (at f.board p) s) in absurd (omega (arith, h, below)));
}

-- ---- one pass over the rows

-- the places below n were renamed, and the others are as they were
pub record IsJoiningRows (old : List ℕ) (to a b c n : ℕ) (new : List ℕ) : Type 0 where
  pub length_is : length new ≡ 702
  pub done : (k : ℕ) → k < n → id_of new k ≡ rename_three to a b c (id_of old k)
  pub rest : (k : ℕ) → n ≤ k → id_of new k ≡ id_of old k

pub IsJoiningRows-start : (ids : List ℕ) (to a b c lines : ℕ) → length ids ≡ 702 → AreNamed a b c
    → AreInRows ids lines → IsJoiningRows ids to a b c 26 ids
IsJoiningRows-start ids to a b c lines long abc rows = record {
  length_is = long;
  done =
      λ k h. rows.under k h
      ∙ sym (ap (rename_three to a b c) (rows.under k h) ∙ rename_three-zero to a b c abc);
  rest = λ k _. refl;
}

earlier_here_later : (n k : ℕ) → k < n + 1 → k ≢ n → k < n
earlier_here_later n k h o = omega (arith, h, o)

pub IsJoiningRows-more : (old now new : List ℕ) (to a b c n id : ℕ) → n < 702 → IsJoiningRows old to a b c n now
    → id ≡ rename_three to a b c (id_of now n) → new ≡ set now n id → IsJoiningRows old to a b c (n + 1) new
IsJoiningRows-more old now new to a b c n id below j is made =
    subst (IsJoiningRows old to a b c (n + 1)) (sym made) (record {
      length_is = length-set now n id ∙ j.length_is;
      done = λ k h. elim (cases_eq k n) [
        | inl e ↦
            ap (id_of (set now n id)) e ∙ get_or-set_same now n id 0 (let long = j.length_is in omega (arith, below, long))
            ∙ is ∙ ap (rename_three to a b c) (j.rest n (omega arith) ∙ ap (id_of old) (sym e))
        | inr o ↦ get_or-set_other now n k id 0 o ∙ j.done k (earlier_here_later n k h o)
      ];
      rest = λ k h. get_or-set_other now n k id 0 (λ e. absurd (omega (arith, h, e))) ∙ j.rest k (omega (arith, h));
    })

pub IsJoiningRows-done : (old new : List ℕ) (to a b c lines n : ℕ) → length old ≡ 702 → AreNamed a b c
    → AreInRows old lines → 26 * (lines + 1) ≤ n → IsJoiningRows old to a b c n new
    → new ≡ map (rename_three to a b c) old
IsJoiningRows-done old new to a b c lines n long abc rows past j =
    ext_get_or 0 new (map (rename_three to a b c) old)
    (j.length_is ∙ sym (length-map old (rename_three to a b c) ∙ long))
    (λ q _. elim (cases_lt q n) [
      | inl below ↦ j.done q below ∙ sym (id-renamed to a b c old q abc)
      | inr later ↦
          let nought : id_of old q ≡ 0 = rows.above q (omega (arith, past, later)) in
          j.rest q later ∙ nought
          ∙ sym (id-renamed to a b c old q abc ∙ ap (rename_three to a b c) nought ∙ rename_three-zero to a b c abc)
    ])

-- ---- the chains of a board are found

-- the points of a board of a size are in its rows
pub rows-of_size : (lines : ℕ) (board : List Cell) → HasSize lines board → (p : ℕ) → at board p ≢ Edge
    → p < 26 * (lines + 1)
rows-of_size lines board has p point = let top = ((has p).0 point).top in below p lines top
  where
    below : (p lines : ℕ) → p / 26 ≤ lines → p < 26 * (lines + 1)
    below p lines h = omega (arith, h)

pub AreCounted-found : (board : List Cell) (ids counts : List ℕ) (lines b w : ℕ) → IsFramed board
    → HasSize lines board → lines ≤ 25 → AreChainIds board ids → AreBlank board ids
    → ArePseudoLiberties board ids counts → b ≡ stones_on board Black → w ≡ stones_on board White
    → AreCounted (record { board = board; ids = ids; counts = counts; lines = lines; black = b; white = w })
AreCounted-found board ids counts lines b w framed size few a blank counted b_is w_is = record {
  framed = framed;
  length_is = a.length_is;
  blank = blank;
  named = named;
  counts = record {
    length_is = length-without_zero counts ∙ counted.length_is;
    each = λ k below. elim (cases_eq k 0) [
      | inl e ↦
          ap (count_at (without_zero counts)) e
          ∙ get_or-set_same counts 0 0 0 (let long = counted.length_is in omega (arith, long))
          ∙ sym (ap (pseudo_liberties board ids) e ∙ pseudo_liberties-zero board ids named)
      | inr o ↦ count-other counts k o ∙ counted.each k below
    ];
  };
  few = few;
  rows = rows-of_size lines board size;
  black_is = b_is;
  white_is = w_is;
}
  where
    named : AreNonZero board ids
    named p s nought =
        let path = a.own p s in
        let low = (IsOn-inside (id_of ids p) (stone_on board (id_of ids p) framed
        (s.0, Joined-same path ∙ s.1))).low in
        absurd (omega (arith, low, nought))
