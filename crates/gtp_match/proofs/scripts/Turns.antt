-- The colours move in turn: a move by the side to move keeps it so.
use Rattle.std.proofs.Common.{◌≡◌, ℕ, zero, suc, ◌+◌, ◌%◌, ◌<◌, ◌≤◌, List, [], ◌∷◌, ◌++◌, length, Some, Bool, true}
use Rattle.std.proofs.Common.{false, refl, sym, ◌∙◌, ap, arith, cond, inl, inr, eqb}
use Rattle.std.specs.Prelude.{slice_get, not, nat_le, ◌⊎◌}
use Rattle.std.proofs.lemmas.Bool.Decides.{nat_tests}
use Rattle.go_base.specs.Colour.{other}
use Rattle.go_base.specs.declared.colours.Colour.{Colour}
use Rattle.go_base.specs.declared.colours.Colour.TheVariants.{Black, White}
use Rattle.go_base.specs.declared.moves.Move.{Move}
use Rattle.go_base.specs.declared.vertices.Vertex.{Vertex}
use Rattle.go_base.specs.Handicap.{AllowsHandicap}
use Rattle.go_board.specs.Game.{GameRecord, IsGame, with_move}
use Rattle.gtp_match.specs.Controller.{first_to_move, to_move}
use Rattle.gtp_match.specs.Sound.{TakesTurns}

-- ---- a list with one element more

-- an element of it is an old one or the new one
data IsAt {X : Type 0} (xs : List X) (last : X) (k : ℕ) (x : X) : Type 0 where
  old : slice_get xs k ≡ Some x → IsAt xs last k x
  new : k ≡ length xs → x ≡ last → IsAt xs last k x

stands : {X : Type 0} (xs : List X) (last : X) (k : ℕ) (x : X) → slice_get (xs ++ last ∷ []) k ≡ Some x
    → IsAt xs last k x
stands [] last zero x e = IsAt.new refl (let same : last ≡ x = cc in sym same)
stands [] last (suc k) x e = absurd (cc)
stands (y ∷ ys) last zero x e = IsAt.old e
stands (y ∷ ys) last (suc k) x e = behind (stands ys last k x e)
  where
    behind : IsAt ys last k x → IsAt (y ∷ ys) last (suc k) x
    behind (IsAt.old o) = IsAt.old o
    behind (IsAt.new n l) = IsAt.new (ap suc n) l

before : {X : Type 0} (xs : List X) (k : ℕ) (x : X) → slice_get xs (suc k) ≡ Some x
    → (y : X) × (slice_get xs k ≡ Some y)
before [] k x e = absurd (cc)
before (y ∷ ys) zero x e = (y, refl)
before (y ∷ ys) (suc k) x e = before ys k x e

inside : {X : Type 0} (xs : List X) (k : ℕ) (x : X) → slice_get xs k ≡ Some x → k < length xs
inside [] k x e = absurd (cc)
inside (y ∷ ys) zero x e = omega arith
inside (y ∷ ys) (suc k) x e = omega (arith, inside ys k x e)

-- ---- whose turn it is

abbrev pub by_parity : Colour → ℕ → Colour
by_parity first n = cond (eqb (n % 2) 0) first (other first)

pub other_twice : (c : Colour) → other (other c) ≡ c
other_twice Black = refl
other_twice White = refl

even_next : (n : ℕ) (b : Bool) → eqb (n % 2) 0 ≡ b → eqb ((n + 1) % 2) 0 ≡ not b
even_next n true e = grind (arith, nat_tests)
even_next n false e = grind (arith, nat_tests)

pub turned : (first : Colour) (n : ℕ) → by_parity first (n + 1) ≡ other (by_parity first n)
turned first n = by_test (eqb (n % 2) 0) refl
  where
    by_test : (b : Bool) → eqb (n % 2) 0 ≡ b → by_parity first (n + 1) ≡ other (cond b first (other first))
    by_test true e = ap (λ b. cond b first (other first)) (even_next n true e)
    by_test false e = ap (λ b. cond b first (other first)) (even_next n false e) ∙ sym (other_twice first)

-- no handicap, or two stones or more
abbrev pub HasStones : GameRecord → Type 0
HasStones game = (game.handicap ≡ 0) ⊎ (2 ≤ game.handicap)

pub has_stones : (game : GameRecord) → IsGame game → HasStones game
has_stones game g = by_handicap g.handicap
  where
    by_handicap : (game.handicap ≡ 0) ⊎ AllowsHandicap game.size game.handicap → HasStones game
    by_handicap (inl none) = inl none
    by_handicap (inr (inl h)) = inr h.2
    by_handicap (inr (inr (inl h))) = inr h.1
    by_handicap (inr (inr (inr h))) = inr h.2

at_least : (n : ℕ) → 2 ≤ n → nat_le 2 n ≡ true
at_least n h = grind (arith, nat_tests)

first_colour : (game : GameRecord) (move : Move) → HasStones game → TakesTurns game → slice_get game.moves 0 ≡ Some move
    → move.colour ≡ first_to_move game
first_colour game move (inl none) t e = t.without_handicap move none e ∙ rw none refl
first_colour game move (inr some) t e =
    t.with_handicap move some e ∙ ap (λ b. cond b White Black) (sym (at_least game.handicap some))

-- the colour of each move
pub colour_at : (game : GameRecord) → HasStones game → TakesTurns game → (k : ℕ) (move : Move)
    → slice_get game.moves k ≡ Some move
    → move.colour ≡ by_parity (first_to_move game) k
colour_at game stones t zero move e = first_colour game move stones t e
colour_at game stones t (suc k) move e =
    let b = before game.moves k move e in
    t.later k b.0 move b.1 (ap (slice_get game.moves) (omega arith) ∙ e)
    ∙ ap other (colour_at game stones t k b.0 b.1)
    ∙ sym (turned (first_to_move game) k)
    ∙ ap (by_parity (first_to_move game)) (omega arith)

-- a move by the side to move
pub moved_turns : (game : GameRecord) (s : Colour) (v : Vertex) → HasStones game → TakesTurns game → to_move game ≡ s
    → TakesTurns (with_move game s v)
moved_turns game s v stones t turn = record {
  without_handicap = λ move none e. opens move e (λ o. t.without_handicap move none o) (rw none refl);
  with_handicap = λ move some e.
      opens move e (λ o. t.with_handicap move some o) (ap (λ b. cond b White Black) (at_least game.handicap some));
  later = λ k move next e f. goes_on k move next (stands game.moves added k move e)
      (stands game.moves added (k + 1) next f);
}
  where
    added : Move
    added = record { colour = s; vertex = v }

    -- the new move's colour, by its number
    new_colour : (n : ℕ) (move : Move) → n ≡ length game.moves → move ≡ added
        → move.colour ≡ by_parity (first_to_move game) n
    new_colour n move is same =
        ap (λ (m : Move). m.colour) same ∙ sym turn ∙ ap (by_parity (first_to_move game)) (sym is)

    opens : (move : Move) {c : Colour} → slice_get (game.moves ++ added ∷ []) 0 ≡ Some move
        → (slice_get game.moves 0 ≡ Some move → move.colour ≡ c) → first_to_move game ≡ c → move.colour ≡ c
    opens move {c = c} e before_it first = by_place (stands game.moves added 0 move e)
      where
        by_place : IsAt game.moves added 0 move → move.colour ≡ c
        by_place (IsAt.old o) = before_it o
        by_place (IsAt.new n same) = new_colour 0 move n same ∙ first

    goes_on : (k : ℕ) (move next : Move) → IsAt game.moves added k move → IsAt game.moves added (k + 1) next
        → next.colour ≡ other move.colour
    goes_on k move next (IsAt.old e) (IsAt.old f) = t.later k move next e f
    goes_on k move next (IsAt.old e) (IsAt.new n same) =
        new_colour (k + 1) next n same ∙ turned (first_to_move game) k
        ∙ ap other (sym (colour_at game stones t k move e))
    goes_on k move next (IsAt.new m is) (IsAt.old f) = absurd (omega (arith, m, inside game.moves (k + 1) next f))
    goes_on k move next (IsAt.new m is) (IsAt.new n same) = absurd (omega (arith, m, n))
