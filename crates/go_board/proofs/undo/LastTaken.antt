-- The stones at the end of the stack that the last move took.
use Rattle.std.proofs.Common.{◌≡◌, ℕ, zero, suc, ◌+◌, ◌-◌, ◌<◌, ◌≤◌, List, [], ◌∷◌, ◌++◌, length, map, take, drop}
use Rattle.std.proofs.Common.{get_or, refl, sym, ◌∙◌}
use Rattle.std.proofs.Common.{ap, subst, arith, inl, inr, get_or-set_other, get_or-set_same, Contains}
use Rattle.std.specs.Prelude.{◌≢◌, ◌↔◌, ◌⊎◌}
use Rattle.std.specs.List.{AllPairs, AllByRecursion}
use Rattle.std.proofs.Math.ListN.{set}
use Rattle.std.proofs.lemmas.Bool.{cases_eq}
use Rattle.std.proofs.lemmas.List.{length_push, take-append-drop, length-drop, length-map, length-take-le}
use Rattle.std.proofs.lemmas.List.{take_all, get_or-map}
use Rattle.std.proofs.Math.Seq.{take-suc, take-length}
use Rattle.std.proofs.lemmas.List.Elements.{Contains-get_or}
use Rattle.go_base.specs.Colour.{other}
use Rattle.go_base.specs.Point.{IsOn}
use Rattle.go_base.specs.Size.{most_size}
use Rattle.go_base.specs.declared.colours.Colour.{Colour}
use Rattle.go_base.specs.declared.vertices.Vertex.{Vertex}
use Rattle.go_base.specs.declared.vertices.Vertex.TheVariants.{Pass, At}
use Rattle.go_board.specs.declared.board.Cell.{Cell}
use Rattle.go_board.specs.declared.board.Cell.TheVariants.{Edge, Empty}
use Rattle.go_board.specs.declared.taken_stack.TakenStone.{TakenStone}
use Rattle.go_board.specs.Board.{at, stone, IsStone}
use Rattle.go_board.specs.Chain.{IsCaptured}
use Rattle.go_board.specs.Play.{is_captured, play}
use Rattle.go_board.specs.Game.{GameRecord, IsGame, board_of, with_move, without_last, after_vertex}
use Rattle.go_board.specs.LastTaken.{AreTakenByLast}
use Rattle.go_board.specs.decisions.Chain.{captured?}
use Rattle.go_board.specs.private.TakenStack.{taken_at, taken_places, stack_of, captured_places, AreLastOf, IsNotLast, places_of}
use Rattle.go_board.proofs.General.{by_dec}
use Rattle.go_board.proofs.boards.Cells.{stone-differs, stone-point, empty-point}
use Rattle.go_board.proofs.captures.CapturedStones.{holds-yes, holds-true, in_list}
use Rattle.go_board.proofs.ids.Paths.{IsStone-filled}
use Rattle.go_board.proofs.of_laws.BoardsAndScores.{play-leaves}
use Rattle.go_board.proofs.records.EveryGame.{IsOrderly-game, board-with_move, framed-game}
use Rattle.go_board.specs.private.Columns.{points_before}
use Rattle.go_board.proofs.records.Moves.{IsBeforeMove, by_moves, without_last-with_move}
use Rattle.go_board.proofs.records.TakenStack.{stack_of-with_move}
use Rattle.go_board.proofs.scores.HowMany.{listed}
use Rattle.go_board.proofs.undo.PoppedStones.{popped-all, ends-same}

-- ---- what a move takes, by the boards before it and after it

-- the stone stood before and is gone after
pub record IsGone (old new : List Cell) (q : ℕ) : Type 0 where
  pub stood : IsStone (at old q)
  pub gone : at new q ≡ Empty

pub captured-gone : (board : List Cell) (c : Colour) (p q : ℕ) → at board p ≡ Empty
    → IsCaptured (set board p (stone c)) (other c) q → IsGone board (play board c p) q
captured-gone board c p q empty taken = record {
  stood = elim (cases_eq q p) [
    | inl same ↦ absurd (stone-differs c
        (sym (get_or-set_same board p (stone c) Edge (in_list board p (empty-point board p empty)))
        ∙ ap (at (set board p (stone c))) (sym same) ∙ taken.0))
    | inr away ↦ (other c, sym (get_or-set_other board p q (stone c) Edge away) ∙ taken.0)
  ];
  gone = (play-leaves board c p empty).taken q taken;
}

pub gone-captured : (board : List Cell) (c : Colour) (p q : ℕ) → at board p ≡ Empty → IsGone board (play board c p) q
    → IsCaptured (set board p (stone c)) (other c) q
gone-captured board c p q empty g =
    by_dec (captured? (set board p (stone c)) (other c) q) (λ h. h) (λ k.
    let filled = IsStone-filled (at board q) g.stood in
    absurd (filled (sym ((play-leaves board c p empty).others q
    (λ same. filled (ap (at board) same ∙ empty)) k) ∙ g.gone)))

-- the list of these places
pub record AreGone (old new : List Cell) (places : List ℕ) : Type 0 where
  pub each : (q : ℕ) → Contains places q ↔ IsGone old new q
  pub in_order : AllPairs (λ p q. p < q) places

gone-places : (board : List Cell) (c : Colour) (p : ℕ) → at board p ≡ Empty
    → AreGone board (play board c p) (captured_places (set board p (stone c)) (other c))
gone-places board c p empty =
    let after : List Cell = set board p (stone c) in
    let l = listed (is_captured after (other c)) (length after) in
    record {
      each = λ q. (
        (λ h. captured-gone board c p q empty (holds-true (captured? after (other c) q) (l.there q h).1)),
        (λ g.
            let taken = gone-captured board c p q empty g in
            l.back q (in_list after q (λ e. stone-point (other c) (sym taken.0 ∙ e)))
            (holds-yes (captured? after (other c) q) taken)),
      );
      in_order = l.rising;
    }

pub gone-move : (game : GameRecord) (c : Colour) (v : Vertex) → IsBeforeMove game c v
    → AreGone (board_of game) (after_vertex (board_of game) c v) (taken_places (board_of game) c v)
gone-move game c Pass b = record {
  each = λ q. (
    (λ h. let below = h.1 in absurd (omega arith)),
    (λ g. absurd (IsStone-filled (at (board_of game) q) g.stood g.gone)),
  );
  in_order = λ i j d less below. absurd (omega arith);
}
gone-move game c (At p) b = gone-places (board_of game) c p b.legal.empty

-- ---- the stones at the end of the stack

-- the stones from the one after `first` others on were taken by the move with this number
pub record IsReadBack (stones : List TakenStone) (number first : ℕ) : Type 0 where
  pub within : first ≤ length stones
  pub own : AllByRecursion (λ (t : TakenStone). t.number ≡ number) (drop first stones)

-- where the last one before them wasn't, these are all
pub AreLastOf-read : (stones : List TakenStone) (number first : ℕ) (d : TakenStone) → IsReadBack stones number first
    → (0 < first → (get_or stones (first - 1) d).number ≢ number)
    → AreLastOf stones number (take (length stones - first) (drop first stones))
unfolding IsNotLast
AreLastOf-read stones number first d r not_own =
    let whole : take (length stones - first) (drop first stones) ≡ drop first stones =
    ap (λ (n : ℕ). take n (drop first stones)) (sym (length-drop first stones)) ∙ take-length (drop first stones) in
    record {
      before = take first stones;
      ends = sym (take-append-drop first stones) ∙ ap (λ (ts : List TakenStone). take first stones ++ ts) (sym whole);
      own = subst (AllByRecursion (λ (t : TakenStone). t.number ≡ number)) (sym whole) r.own;
      all = λ before last e. last_not before last e (some first);
    }
  where
    some : (k : ℕ) → (k ≡ 0) ⊎ (0 < k)
    some k = grind arith

    last_not : (before : List TakenStone) (last : TakenStone) → take first stones ≡ before ++ last ∷ []
        → (first ≡ 0) ⊎ (0 < first) → last.number ≢ number
    last_not before last e (inl none) =
        let empty : take first stones ≡ [] = ap (λ (k : ℕ). take k stones) none in
        absurd (omega (arith, ap length (sym empty ∙ e), length_push before last))
    last_not before last e (inr more) =
        let within = r.within in
        let next : suc (first - 1) ≡ first = omega (arith, more) in
        let below : first - 1 < length stones = omega (arith, within, more) in
        let same = ends-same (take (first - 1) stones) before (get_or stones (first - 1) d) last
        (sym (take-suc stones (first - 1) d below) ∙ ap (λ (k : ℕ). take k stones) next ∙ e) in
        λ own. not_own more (ap (λ (t : TakenStone). t.number) same.1 ∙ own)

own-places : (number : ℕ) (last : List TakenStone) → AllByRecursion (λ (t : TakenStone). t.number ≡ number) last
    → last ≡ taken_at number (map (λ (t : TakenStone). t.place) last)
own-places number [] own = refl
own-places number (t ∷ last) own =
    ap (λ (n : ℕ). let s : TakenStone = record { place = t.place; number = n } in s ∷ last) own.0
    ∙ ap (λ (ts : List TakenStone). record { place = t.place; number = number } ∷ ts) (own-places number last own.1)

-- the places of the stones that the last move of the game took
abbrev pub TakenLast : GameRecord → Type 0
TakenLast game = (number : ℕ) (last : List TakenStone) → length game.moves ≡ number + 1
    → AreLastOf (stack_of game) number last → AreTakenByLast game (map (λ (t : TakenStone). t.place) last)

last-more : (game : GameRecord) (c : Colour) (v : Vertex) → IsBeforeMove game c v → TakenLast (with_move game c v)
last-more game c v b number last long a =
    let places = taken_places (board_of game) c v in
    let grown : length (with_move game c v).moves ≡ length game.moves + 1 =
    length_push game.moves (record { colour = c; vertex = v }) in
    let same : length game.moves ≡ number = omega (arith, long, grown) in
    let gone : List ℕ = map (λ (t : TakenStone). t.place) last in
    let popped = popped-all number (stack_of game) a.before places gone
    (subst (λ (n : ℕ). AllByRecursion (λ (t : TakenStone). t.number < n) (stack_of game)) same
    (IsOrderly-game game b.game_is).numbers)
    (ap (λ (n : ℕ). stack_of game ++ taken_at n places) (sym same)
    ∙ sym (stack_of-with_move game c v) ∙ a.ends
    ∙ ap (λ (ts : List TakenStone). a.before ++ ts) (own-places number last a.own)) a.all in
    let g = gone-move game c v b in
    let back : without_last (with_move game c v) ≡ game = without_last-with_move game c v in
    let after : board_of (with_move game c v) ≡ after_vertex (board_of game) c v = board-with_move game c v in
    subst (AreTakenByLast (with_move game c v)) (sym popped.1) (record {
      each = λ q. (
        (λ h. let is = (g.each q).0 h in record {
          stood = subst (λ (before : GameRecord). IsStone (at (board_of before) q)) (sym back) is.stood;
          gone = ap (λ (cells : List Cell). at cells q) after ∙ is.gone;
        }),
        (λ t. (g.each q).1 (record {
          stood = subst (λ (before : GameRecord). IsStone (at (board_of before) q)) back t.stood;
          gone = ap (λ (cells : List Cell). at cells q) (sym after) ∙ t.gone;
        })),
      );
      in_order = g.in_order;
    })

pub taken-last : (game : GameRecord) → IsGame game → TakenLast game
taken-last = by_moves TakenLast
    (λ game g none number last long a. absurd (omega (arith, long, ap length none)))
    (λ game c v b before. last-more game c v b)

-- ---- room for their points

-- they are points of the largest board
pub taken-on : (game : GameRecord) (points : List ℕ) (q : ℕ) → IsGame game → AreTakenByLast game points
    → Contains points q → IsOn most_size q
taken-on game points q g a h =
    let t = (a.each q).0 h in
    (framed-game game g).inside q (empty-point (board_of game) q t.gone)

-- so many come before each
index-before : (points : List ℕ) → AllPairs (λ p q. p < q) points
    → ((k : ℕ) → k < length points → IsOn most_size (get_or points k 0))
    → (k : ℕ) → k < length points → k ≤ points_before (get_or points k 0)
index-before points rising on zero below = omega arith
index-before points rising on (suc k) below =
    let earlier : k < length points = omega (arith, below) in
    let rest = index-before points rising on k earlier in
    let less = rising k (suc k) 0 (omega arith) below in
    let a = on k earlier in
    let b = on (suc k) below in
    grows k (get_or points k 0) (get_or points (suc k) 0) rest less a b
  where
    grows : (k p q : ℕ) → k ≤ points_before p → p < q → IsOn most_size p → IsOn most_size q → suc k ≤ points_before q
    grows k p q rest less a b =
        let al = a.left in let ar = a.right in let ab = a.bottom in
        let bl = b.left in let br = b.right in let bb = b.bottom in
        omega (arith, rest, less, al, ar, ab, bl, br, bb)

pub few-points : (points : List ℕ) → AllPairs (λ p q. p < q) points
    → ((k : ℕ) → k < length points → IsOn most_size (get_or points k 0))
    → (k : ℕ) → k < length points → k < 625
few-points points rising on k below =
    let least = index-before points rising on k below in
    let a = on k below in
    let left = a.left in let right = a.right in let bottom = a.bottom in let top = a.top in
    omega (arith, least, left, right, bottom, top)

-- ---- the loop that lists them

-- the place of each stone is a point of the largest board
pub listed-on : (game : GameRecord) (stones : List TakenStone) (index place : ℕ) (d : TakenStone) → IsGame game
    → AreTakenByLast game (places_of stones) → index < length stones → place ≡ (get_or stones index d).place
    → IsOn most_size place
listed-on game stones index place d g a below is =
    let there : index < length (places_of stones) =
    omega (arith, below, length-map stones (λ (t : TakenStone). t.place)) in
    taken-on game (places_of stones) place g a
    (subst (Contains (places_of stones))
    (get_or-map (λ (t : TakenStone). t.place) stones index d 0 below ∙ sym is)
    (Contains-get_or (places_of stones) index 0 there))

-- there is room for it
pub listed-room : (game : GameRecord) (stones : List TakenStone) (index : ℕ) (points : List ℕ) → IsGame game
    → AreTakenByLast game (places_of stones) → index < length stones → points ≡ places_of (take index stones)
    → length points < 625
listed-room game stones index points g a below so_far =
    let all = length-map stones (λ (t : TakenStone). t.place) in
    let there : index < length (places_of stones) = omega (arith, below, all) in
    let few = few-points (places_of stones) a.in_order
    (λ k less. taken-on game (places_of stones) (get_or (places_of stones) k 0) g a
    (Contains-get_or (places_of stones) k 0 less)) index there in
    let long : length points ≡ index =
    ap length so_far ∙ length-map (take index stones) (λ (t : TakenStone). t.place)
    ∙ length-take-le index stones (omega (arith, below)) in
    omega (arith, few, long)

-- at its end all are listed
pub listed-all : (game : GameRecord) (stones : List TakenStone) (index : ℕ) (points : List ℕ)
    → AreTakenByLast game (places_of stones) → length stones ≤ index → points ≡ places_of (take index stones)
    → AreTakenByLast game points
listed-all game stones index points a past so_far =
    subst (AreTakenByLast game) (sym (so_far ∙ ap places_of (take_all index stones past))) a
