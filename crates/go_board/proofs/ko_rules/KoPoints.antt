-- The ko point of a game with one move more.
use Rattle.std.proofs.Common.{◌≡◌, ℕ, ◌<◌, List, [], length, refl, sym, ◌∙◌, ap, subst, arith, inl, inr}
use Rattle.std.specs.Prelude.{◌↔◌, Some, None}
use Rattle.std.proofs.lemmas.List.{length_push}
use Rattle.go_base.specs.Colour.{other}
use Rattle.go_base.specs.Point.{Neighbours}
use Rattle.go_base.specs.declared.colours.Colour.{Colour}
use Rattle.go_base.specs.declared.vertices.Vertex.{Vertex}
use Rattle.go_base.specs.declared.vertices.Vertex.TheVariants.{Pass, At}
use Rattle.go_board.specs.Board.{at, stone}
use Rattle.go_board.specs.Chain.{HasBeside, itself}
use Rattle.go_board.specs.Game.{GameRecord, IsGame, board_of, with_move, without_last, RepeatsLast}
use Rattle.go_board.specs.private.Ko.{TakesOnly, IsKo}
use Rattle.go_board.specs.Play.{play}
use Rattle.go_board.specs.declared.board.Cell.{Cell}
use Rattle.go_board.specs.declared.board.Cell.TheVariants.{Empty}
use Rattle.go_board.proofs.boards.Cells.{stone-filled, stone-point}
use Rattle.go_board.proofs.records.Moves.{without_last-with_move, IsBeforeMove, by_moves}
use Rattle.go_board.proofs.ko_rules.PlaysTakenBack.{IsBack, IsBack-from, back-from, other-other, other-twice}
use Rattle.go_board.proofs.ko_rules.PlaysTakenBack.{taken-held, by_play}
use Rattle.go_board.proofs.captures.FreeStones.{new-stone}
use Rattle.go_board.proofs.records.EveryGame.{board-with_move}

-- without a move there is no ko
pub IsKo-start : (game : GameRecord) → game.moves ≡ [] → IsKo game None
IsKo-start game none c p empty =
    ((λ r. let moved = r.moved in absurd (omega (arith, moved, ap length none))), (λ h. absurd h))

board-before : (game : GameRecord) (c : Colour) (v : Vertex)
    → board_of (without_last (with_move game c v)) ≡ board_of game
board-before game c v = ap board_of (without_last-with_move game c v)

moved : (game : GameRecord) (c : Colour) (v : Vertex) → 0 < length (with_move game c v).moves
moved game c v = let long = length_push game.moves (record { colour = c; vertex = v }) in omega (arith, long)

-- after a pass the board is the one before it, and a play changes it
pub IsKo-pass : (game : GameRecord) (c : Colour) → IsKo (with_move game c Pass) None
IsKo-pass game c d q empty = (
  (λ r.
      let now = board-with_move game c Pass in
      let free : at (board_of game) q ≡ Empty = ap (λ (b : List Cell). at b q) (sym now) ∙ empty in
      let same : play (board_of (with_move game c Pass)) d q ≡ board_of game = r.same ∙ board-before game c Pass in
      absurd (stone-filled d (sym (new-stone (board_of (with_move game c Pass)) d q empty)
      ∙ ap (λ (b : List Cell). at b q) same ∙ free))),
  (λ h. absurd h),
)

-- after a play on p a play on q repeats the board just where each takes only the other's stone
repeats-back : (game : GameRecord) (c d : Colour) (p q : ℕ) → at (board_of game) p ≡ Empty
    → at (board_of (with_move game c (At p))) q ≡ Empty
    → RepeatsLast (with_move game c (At p)) (play (board_of (with_move game c (At p))) d q)
    ↔ IsBack (board_of game) (board_of (with_move game c (At p))) c d p q
repeats-back game c d p q empty free = (
  (λ r. IsBack-from (board_of game) (board_of (with_move game c (At p))) c d p q empty
      (board-with_move game c (At p)) free (r.same ∙ board-before game c (At p))),
  (λ b. record {
    moved = moved game c (At p);
    same =
        back-from (board_of game) (board_of (with_move game c (At p))) c d p q empty
        (board-with_move game c (At p)) free b ∙ sym (board-before game c (At p));
  }),
)

-- a play that took just one stone makes a ko point of its place
pub IsKo-play : (game : GameRecord) (c : Colour) (p q : ℕ) → at (board_of game) p ≡ Empty
    → TakesOnly (board_of game) c p q → IsKo (with_move game c (At p)) (Some (record { point = q; stone = p }))
IsKo-play game c p q empty only d r free = (
  (λ repeats.
      let b = (repeats-back game c d p r empty free).0 repeats in
      (sym ((b.first q).0 ((only q).1 refl)), b.second)),
  (λ h. (repeats-back game c d p r empty free).1 (record {
    colours = colours h.1;
    first = subst (λ (k : ℕ). TakesOnly (board_of game) c p k) (sym h.0) only;
    second = h.1;
  })),
)
  where
    -- the stone that is taken back is the one that took
    colours : TakesOnly (board_of (with_move game c (At p))) d r p → d ≡ other c
    colours second =
        let held = taken-held (board_of (with_move game c (At p))) d r p free ((second p).1 refl) in
        let was : at (board_of (with_move game c (At p))) p ≡ stone c =
        ap (λ (b : List Cell). at b p) (board-with_move game c (At p)) ∙ new-stone (board_of game) c p empty in
        other-other d c (other-twice c d (other-other c d (sym was ∙ held)))

-- a play that took none or more than one makes none
pub IsKo-many : (game : GameRecord) (c : Colour) (p : ℕ) → at (board_of game) p ≡ Empty
    → ((q : ℕ) → ¬ TakesOnly (board_of game) c p q) → IsKo (with_move game c (At p)) None
IsKo-many game c p empty none d r free =
    ((λ repeats. none r ((repeats-back game c d p r empty free).0 repeats).first), (λ h. absurd h))

-- ---- empty points beside empty points

abbrev NeverRepeats : GameRecord → Type 0
NeverRepeats game =
    (c : Colour) (p : ℕ) → at (board_of game) p ≡ Empty → HasBeside (board_of game) p Empty
    → ¬ RepeatsLast game (play (board_of game) c p)

no_self : (p : ℕ) → ¬ Neighbours p p
no_self p h = elim h [
  | inl a ↦ omega (arith, a)
  | inr (inl a) ↦ omega (arith, a)
  | inr (inr (inl a)) ↦ omega (arith, a)
  | inr (inr (inr a)) ↦ omega (arith, a)
]

-- a stone that was taken alone had no empty point beside it, and no other stone was removed
alone : (board : List Cell) (c : Colour) (p q : ℕ) → TakesOnly board c p q → ¬ HasBeside (play board c p) q Empty
alone board c p q only h =
    let captured = (only q).1 refl in
    by_play board c p h.place
    (λ taken e. no_self q (subst (Neighbours q) ((only h.place).0 taken) h.neighbours))
    (λ k e. captured.1 (record {
      point = q;
      joined = itself (λ edge. stone-point (other c) (sym captured.0 ∙ edge));
      beside = record { place = h.place; neighbours = h.neighbours; holds = sym e ∙ h.holds };
    }))

never-more : (game : GameRecord) (c : Colour) (v : Vertex) → IsBeforeMove game c v → NeverRepeats (with_move game c v)
never-more game c Pass b d q free beside r = (IsKo-pass game c d q free).0 r
never-more game c (At p) b d q free beside r =
    alone (board_of game) c p q ((repeats-back game c d p q b.legal.empty free).0 r).first
    (subst (λ (cells : List Cell). HasBeside cells q Empty) (board-with_move game c (At p)) beside)

-- a play on an empty point with another one beside it doesn't bring back the board before the last move
pub never-repeats : (game : GameRecord) → IsGame game → NeverRepeats game
never-repeats = by_moves NeverRepeats
    (λ game g none c p free beside r. let some = r.moved in absurd (omega (arith, some, ap length none)))
    (λ game c v b earlier. never-more game c v b)
