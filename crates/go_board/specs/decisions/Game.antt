-- Decisions of a game: whether a move is legal, whether a stone is on its board, whether it was touched, whether it is
-- finished.
use Rattle.std.proofs.Common.{◌≡◌, ℕ, zero, suc, ◌+◌, arith, List, [], ◌∷◌, ◌++◌, length, refl, ap, ◌∙◌, inl, inr}
use Rattle.std.specs.Prelude.{◌⊎◌}
use Rattle.go_base.specs.Decide.{both?, either?, not?, by?, below?}
use Rattle.go_base.specs.declared.colours.Colour.{Colour}
use Rattle.go_base.specs.declared.colours.Colour.TheVariants as colour
use Rattle.go_base.specs.declared.moves.Move.{Move}
use Rattle.go_base.specs.declared.vertices.Vertex.{Vertex}
use Rattle.go_base.specs.declared.vertices.Vertex.TheVariants.{Pass, At}
use Rattle.go_board.specs.declared.board.Cell.{Cell}
use Rattle.go_board.specs.declared.board.Cell.TheVariants.{Edge, Empty, Black, White}
use Rattle.go_board.specs.declared.rules.KoRule.{KoRule}
use Rattle.go_board.specs.declared.rules.KoRule.TheVariants.{Simple, Positional}
use Rattle.go_board.specs.Board.{at, IsStone, HasStone}
use Rattle.go_board.specs.Play.{play}
use Rattle.go_board.specs.decisions.Board.{on?, cell?, boards?}
use Rattle.go_board.specs.decisions.Chain.{some_below?, touches?}
use Rattle.go_board.specs.Game.{GameRecord, first_moves, without_last, board_of, RepeatsLast, RepeatsAny, RepeatsBy}
use Rattle.go_board.specs.Game.{Repeats, IsLegal, IsFinished}
use Rattle.go_board.specs.Refusals.{IsTouched}

-- ---- legal

-- whether the board would be the one before the previous move
repeats_last? : (game : GameRecord) (next : List Cell) → Dec (RepeatsLast game next)
repeats_last? game next =
    by? (λ h. record { moved = h.0; same = h.1 }) (λ r. (r.moved, r.same))
    (both? (below? 0 (length game.moves)) (boards? next (board_of (without_last game))))

-- whether the board would be an earlier one
repeats_any? : (game : GameRecord) (next : List Cell) → Dec (RepeatsAny game next)
repeats_any? game next =
    by? (λ h. let less = h.1 in record { number = h.0; within = omega (arith, less); same = h.2 })
    (λ r. let within = r.within in (r.number, omega (arith, within), r.same))
    (some_below? (length game.moves + 1) (λ k. next ≡ board_of (first_moves k game))
    (λ k. boards? next (board_of (first_moves k game))))

repeats_by? : (rule : KoRule) (game : GameRecord) (next : List Cell) → Dec (RepeatsBy rule game next)
repeats_by? Simple game next = repeats_last? game next
repeats_by? Positional game next = repeats_any? game next

-- whether the board would be one that the ko rule forbids
pub repeats? : (game : GameRecord) (next : List Cell) → Dec (Repeats game next)
repeats? game next = repeats_by? game.rule game next

-- whether a move may be made
pub legal? : (game : GameRecord) (c : Colour) (v : Vertex) → Dec (IsLegal game c v)
legal? game c Pass = yes tt
legal? game c (At p) =
    by? (λ h. record { on_board = h.0; empty = (h.1).0; free = ((h.1).1).0; no_ko = ((h.1).1).1 })
    (λ l. (l.on_board, (l.empty, (l.free, l.no_ko))))
    (both? (on? game.size p)
    (both? (cell? (at (board_of game) p) Empty)
    (both? (touches? (play (board_of game) c p) p Empty) (not? (repeats? game (play (board_of game) c p))))))

-- ---- touched

no_stone : {this : Cell} → (this ≡ Edge) ⊎ (this ≡ Empty) → IsStone this → ⊥
no_stone (inl e) (colour.Black, s) = cc
no_stone (inl e) (colour.White, s) = cc
no_stone (inr e) (colour.Black, s) = cc
no_stone (inr e) (colour.White, s) = cc

is_stone? : (this : Cell) → Dec (IsStone this)
is_stone? Edge = no (λ s. no_stone (inl refl) s)
is_stone? Empty = no (λ s. no_stone (inr refl) s)
is_stone? Black = yes (colour.Black, refl)
is_stone? White = yes (colour.White, refl)

-- whether some place holds a stone
pub stone? : (board : List Cell) → Dec (HasStone board)
stone? [] = no (λ h. no_stone (inl refl) h.stone)
stone? (x ∷ xs) = by? there back (either? (is_stone? x) (stone? xs))
  where
    there : IsStone x ⊎ HasStone xs → HasStone (x ∷ xs)
    there (inl s) = record { place = 0; stone = s }
    there (inr h) = record { place = suc h.place; stone = h.stone }

    by_place : (p : ℕ) → IsStone (at (x ∷ xs) p) → IsStone x ⊎ HasStone xs
    by_place zero s = inl s
    by_place (suc p) s = inr (record { place = p; stone = s })

    back : HasStone (x ∷ xs) → IsStone x ⊎ HasStone xs
    back h = by_place h.place h.stone

-- whether a stone is on the board or a move is in the record
pub touched? : (game : GameRecord) → Dec (IsTouched game)
touched? game = either? (stone? (board_of game)) (below? 0 (length game.moves))

-- ---- finished

abbrev pass_of : Colour → Move
pass_of c = record { colour = c; vertex = Pass }

pass? : (v : Vertex) → Dec (v ≡ Pass)
pass? Pass = yes refl
pass? (At p) = no (λ e. cc)

-- fewer than two moves don't end so
none_ends : (before : List Move) (x y : Move) → [] ≡ before ++ x ∷ y ∷ [] → ⊥
none_ends [] x y e = cc
none_ends (m ∷ before) x y e = cc

one_ends : (a : Move) (before : List Move) (x y : Move) → a ∷ [] ≡ before ++ x ∷ y ∷ [] → ⊥
one_ends a [] x y e = cc
one_ends a (m ∷ before) x y e = none_ends before x y (cc)

-- of two moves both are passes
two_ends : (a b : Move) (before : List Move) (c d : Colour) → a ∷ b ∷ [] ≡ before ++ pass_of c ∷ pass_of d ∷ []
    → (a ≡ pass_of c) × (b ≡ pass_of d)
two_ends a b [] c d e = (cc, cc)
two_ends a b (m ∷ before) c d e = absurd (one_ends b before (pass_of c) (pass_of d) (cc))

-- of more the first doesn't count
more_end : (game : GameRecord) (a b c : Move) (moves before : List Move) (x y : Colour)
    → a ∷ b ∷ c ∷ moves ≡ before ++ pass_of x ∷ pass_of y ∷ [] → IsFinished (record game { moves = b ∷ c ∷ moves })
more_end game a b c moves [] x y e = absurd (let f : c ∷ moves ≡ [] = cc in cc)
more_end game a b c moves (m ∷ before) x y e = record { before = before; first = x; second = y; ends = cc }

-- a move that plays a pass is one
pass_is : (move : Move) → move.vertex ≡ Pass → move ≡ pass_of move.colour
pass_is move e = ap (λ (v : Vertex). record { colour = move.colour; vertex = v }) e

finished_by? : (game : GameRecord) (moves : List Move) → Dec (IsFinished (record game { moves = moves }))
finished_by? game [] = no (λ f. none_ends f.before (pass_of f.first) (pass_of f.second) f.ends)
finished_by? game (a ∷ []) = no (λ f. one_ends a f.before (pass_of f.first) (pass_of f.second) f.ends)
finished_by? game (a ∷ b ∷ []) = by? there back (both? (pass? a.vertex) (pass? b.vertex))
  where
    there : (a.vertex ≡ Pass) × (b.vertex ≡ Pass) → IsFinished (record game { moves = a ∷ b ∷ [] })
    there h = record {
      before = [];
      first = a.colour;
      second = b.colour;
      ends = ap (λ (m : Move). m ∷ b ∷ []) (pass_is a h.0)
          ∙ ap (λ (m : Move). pass_of a.colour ∷ m ∷ []) (pass_is b h.1);
    }

    back : IsFinished (record game { moves = a ∷ b ∷ [] }) → (a.vertex ≡ Pass) × (b.vertex ≡ Pass)
    back f =
        let both = two_ends a b f.before f.first f.second f.ends in
        (ap (λ (m : Move). m.vertex) both.0, ap (λ (m : Move). m.vertex) both.1)
finished_by? game (a ∷ b ∷ c ∷ moves) = by? there back (finished_by? game (b ∷ c ∷ moves))
  where
    there : IsFinished (record game { moves = b ∷ c ∷ moves }) → IsFinished (record game { moves = a ∷ b ∷ c ∷ moves })
    there f = record {
      before = a ∷ f.before;
      first = f.first;
      second = f.second;
      ends = ap (λ (ms : List Move). a ∷ ms) f.ends;
    }

    back : IsFinished (record game { moves = a ∷ b ∷ c ∷ moves }) → IsFinished (record game { moves = b ∷ c ∷ moves })
    back f = more_end game a b c moves f.before f.first f.second f.ends

-- whether the last two moves are passes
pub finished? : (game : GameRecord) → Dec (IsFinished game)
finished? game = finished_by? game game.moves
