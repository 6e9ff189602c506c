-- The stones that a move takes are those that were taken by the last move of the game with it.
use Rattle.std.proofs.Common.{◌≡◌, ℕ, zero, suc, ◌<◌, List, [], ◌∷◌, length, refl, sym, ◌∙◌, ap, subst, arith}
use Rattle.std.proofs.Common.{inl, inr, Bool, true, false, cond, Contains, Some, None}
use Rattle.std.specs.Prelude.{◌⊎◌, ◌↔◌, ◌&&◌, nat_lt, slice_index_or, filter}
use Rattle.std.specs.List.{AllPairs, range_with_len}
use Rattle.std.proofs.Math.ListN.{set, length-set}
use Rattle.std.proofs.lemmas.Bool.Decides.{nat_tests}
use Rattle.go_base.specs.Colour.{other}
use Rattle.go_base.specs.Decide.{holds}
use Rattle.go_base.specs.declared.colours.Colour.{Colour}
use Rattle.go_base.specs.declared.moves.Move.{Move}
use Rattle.go_base.specs.declared.vertices.Vertex.{Vertex}
use Rattle.go_base.specs.declared.vertices.Vertex.TheVariants.{Pass, At}
use Rattle.go_board.specs.declared.board.Cell.{Cell}
use Rattle.go_board.specs.declared.faults.PlayFault.{PlayFault}
use Rattle.go_board.specs.declared.faults.PlayFault.TheVariants.{Full, OffBoard, Occupied, Suicide, Ko}
use Rattle.go_board.specs.Board.{at, stone, IsStone}
use Rattle.go_board.specs.Game.{GameRecord, IsGame, IsLegal, HasRoom, board_of, with_move, without_last, after_vertex}
use Rattle.go_board.specs.LastTaken.{AreTakenByLast, IsTakenByLast}
use Rattle.go_board.specs.Play.{is_captured}
use Rattle.go_board.specs.Refusals.{Refuses}
use Rattle.go_board.specs.decisions.Game.{legal?}
use Rattle.go_board.specs.private.TakenStack.{taken_places}
use Rattle.go_board.proofs.captures.CapturedStones.{holds-yes, holds-no}
use Rattle.go_board.proofs.records.EveryGame.{board-with_move}
use Rattle.go_board.proofs.records.Moves.{IsBeforeMove, legal-or_refused, without_last-with_move}
use Rattle.go_board.proofs.undo.LastTaken.{gone-move}
use Rattle.gtp_check_texts.specs.reasons.Plays.{may_make, stones_taken, taken_by}

-- ---- whether a move may be made

pub may-make : (game : GameRecord) (move : Move) → IsLegal game move.colour move.vertex × HasRoom game
    → may_make game move ≡ true
may-make game move h =
    let room = h.1 in
    let fits : nat_lt (length game.moves) 2000 ≡ true = grind (arith, nat_tests) in
    ap (λ (b : Bool). b && nat_lt (length game.moves) 2000)
    (holds-yes (legal? game move.colour move.vertex) h.0) ∙ fits

not_legal : (game : GameRecord) (move : Move) → (IsLegal game move.colour move.vertex → ⊥)
    → may_make game move ≡ false
not_legal game move k =
    ap (λ (b : Bool). b && nat_lt (length game.moves) 2000) (holds-no (legal? game move.colour move.vertex) k)

no_room : (b c : Bool) → c ≡ false → (b && c) ≡ false
no_room true c e = e
no_room false c e = refl

pub may-not_make : (game : GameRecord) (move : Move) (fault : PlayFault) → Refuses game move.colour move.vertex fault
    → may_make game move ≡ false
may-not_make game move Full h =
    no_room (holds (legal? game move.colour move.vertex)) (nat_lt (length game.moves) 2000) (grind (arith, nat_tests))
may-not_make game move OffBoard h =
    not_legal game move (λ l. legal-or_refused game move.colour move.vertex OffBoard l h.1)
may-not_make game move Occupied h =
    not_legal game move (λ l. legal-or_refused game move.colour move.vertex Occupied l h.1)
may-not_make game move Suicide h =
    not_legal game move (λ l. legal-or_refused game move.colour move.vertex Suicide l h.1)
may-not_make game move Ko h =
    not_legal game move (λ l. legal-or_refused game move.colour move.vertex Ko l h.1)

-- ---- two rising lists of the same numbers

abbrev pub IsRising : List ℕ → Type 0
IsRising xs = AllPairs (λ p q. p < q) xs

pub first_in : (x : ℕ) (xs : List ℕ) → Contains (x ∷ xs) x
first_in x xs = (0, omega arith, refl)

pub later_in : (x : ℕ) (xs : List ℕ) (q : ℕ) → Contains xs q → Contains (x ∷ xs) q
later_in x xs q h = let below = h.1 in (suc h.0, omega arith, h.2)

pub first_or_later : (x : ℕ) (xs : List ℕ) (q : ℕ) → Contains (x ∷ xs) q → (x ≡ q) ⊎ Contains xs q
first_or_later x xs q (zero, below, e) = inl e
first_or_later x xs q (suc k, below, e) = inr (k, omega arith, e)

rising-first : (x : ℕ) (xs : List ℕ) (q : ℕ) → IsRising (x ∷ xs) → Contains xs q → x < q
rising-first x xs q rising h =
    let below = h.1 in
    let less : x < slice_index_or xs h.0 q = rising 0 (suc h.0) q (omega arith) (omega arith) in
    let same = h.2 in
    omega (arith, less, same)

rising-later : (x : ℕ) (xs : List ℕ) → IsRising (x ∷ xs) → IsRising xs
rising-later x xs rising i j d less below = rising (suc i) (suc j) d (omega arith) (omega arith)

same_first : (x : ℕ) (xs : List ℕ) (y : ℕ) (ys : List ℕ) → IsRising (x ∷ xs) → IsRising (y ∷ ys)
    → (y ≡ x) ⊎ Contains ys x → (x ≡ y) ⊎ Contains xs y → x ≡ y
same_first x xs y ys a b (inl e) k = sym e
same_first x xs y ys a b (inr h) (inl e) = e
same_first x xs y ys a b (inr h) (inr k) =
    let more = rising-first y ys x b h in
    let less = rising-first x xs y a k in
    absurd (omega (arith, more, less))

in_rest : (x y : ℕ) (xs ys : List ℕ) (q : ℕ) → x ≡ y → IsRising (x ∷ xs) → Contains xs q
    → Contains (y ∷ ys) q → Contains ys q
in_rest x y xs ys q same rising h k = elim (first_or_later y ys q k) [
  | inl e ↦ let less = rising-first x xs q rising h in absurd (omega (arith, less, e, same))
  | inr later ↦ later
]

pub same_rising : (xs ys : List ℕ) → IsRising xs → IsRising ys → ((q : ℕ) → Contains xs q ↔ Contains ys q) → xs ≡ ys
same_rising [] [] a b each = refl
same_rising [] (y ∷ ys) a b each = let below = ((each y).1 (first_in y ys)).1 in absurd (omega (arith, below))
same_rising (x ∷ xs) [] a b each = let below = ((each x).0 (first_in x xs)).1 in absurd (omega (arith, below))
same_rising (x ∷ xs) (y ∷ ys) a b each =
    let first : x ≡ y = same_first x xs y ys a b (first_or_later y ys x ((each x).0 (first_in x xs)))
    (first_or_later x xs y ((each y).1 (first_in y ys))) in
    let rest : xs ≡ ys = same_rising xs ys (rising-later x xs a) (rising-later y ys b)
    (λ q. (
      (λ h. in_rest x y xs ys q first a h ((each q).0 (later_in x xs q h))),
      (λ h. in_rest y x ys xs q (sym first) b h ((each q).1 (later_in y ys q h))),
    )) in
    cc

-- ---- what a move takes

pub same_places : (board : List Cell) (c : Colour) (v : Vertex) → taken_places board c v ≡ stones_taken board c v
same_places board c Pass = refl
same_places board c (At p) =
    ap (λ (n : ℕ). filter (is_captured (set board p (stone c)) (other c)) (range_with_len 0 n))
    (length-set board p (stone c))

-- they are those that the last move of the game with it took
pub each-taken : (game : GameRecord) (c : Colour) (v : Vertex) (q : ℕ) → IsBeforeMove game c v
    → Contains (taken_places (board_of game) c v) q ↔ IsTakenByLast (with_move game c v) q
each-taken game c v q b =
    let g = gone-move game c v b in
    let back : without_last (with_move game c v) ≡ game = without_last-with_move game c v in
    let after : board_of (with_move game c v) ≡ after_vertex (board_of game) c v = board-with_move game c v in (
      (λ h. let is = (g.each q).0 h in record {
        stood = subst (λ (before : GameRecord). IsStone (at (board_of before) q)) (sym back) is.stood;
        gone = ap (λ (cells : List Cell). at cells q) after ∙ is.gone;
      }),
      (λ t. (g.each q).1 (record {
        stood = subst (λ (before : GameRecord). IsStone (at (board_of before) q)) back t.stood;
        gone = ap (λ (cells : List Cell). at cells q) (sym after) ∙ t.gone;
      })),
    )

pub taken-last_move : (game : GameRecord) (c : Colour) (v : Vertex) (points : List ℕ) → IsBeforeMove game c v
    → AreTakenByLast (with_move game c v) points → stones_taken (board_of game) c v ≡ points
taken-last_move game c v points b a =
    sym (same_places (board_of game) c v)
    ∙ same_rising (taken_places (board_of game) c v) points (gone-move game c v b).in_order a.in_order
    (λ q. let e = each-taken game c v q b in
    ((λ h. (a.each q).1 (e.0 h)), (λ h. e.1 ((a.each q).0 h))))

-- the law of it
pub captures-taken : (game : GameRecord) (c : Colour) (v : Vertex) (q : ℕ) → IsGame game → HasRoom game
    → IsLegal game c v → Contains (stones_taken (board_of game) c v) q ↔ IsTakenByLast (with_move game c v) q
captures-taken game c v q g room legal =
    subst (λ (ps : List ℕ). Contains ps q ↔ IsTakenByLast (with_move game c v) q) (same_places (board_of game) c v)
    (each-taken game c v q (record { game_is = g; room = room; legal = legal }))

pub taken-made : (game : GameRecord) (move : Move) (points : List ℕ) → IsGame game
    → IsLegal game move.colour move.vertex × HasRoom game
    → AreTakenByLast (with_move game move.colour move.vertex) points → taken_by game move ≡ Some points
taken-made game move points g h a =
    let places = stones_taken (board_of game) move.colour move.vertex in
    ap (λ (b : Bool). cond b (Some places) None) (may-make game move h)
    ∙ ap (λ (ps : List ℕ). Some ps) (taken-last_move game move.colour move.vertex points
    (record { game_is = g; room = h.1; legal = h.0 }) a)

pub taken-refused : (game : GameRecord) (move : Move) (fault : PlayFault)
    → Refuses game move.colour move.vertex fault → taken_by game move ≡ None
taken-refused game move fault h =
    let places = stones_taken (board_of game) move.colour move.vertex in
    ap (λ (b : Bool). cond b (Some places) None) (may-not_make game move fault h)
