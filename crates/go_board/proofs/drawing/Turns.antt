-- The steps of a turn and of a playout.
use Rattle.std.proofs.Common.{◌≡◌, ℕ, ◌-◌, ◌<◌, ◌≤◌, List, [], ◌∷◌, ◌++◌, length, subst, sym, ap, ◌∙◌, arith}
use Rattle.std.proofs.Common.{Some, Ok, Err, Result, inl, inr, ◌^◌}
use Rattle.std.proofs.lemmas.Bool.{cases_lt}
use Rattle.std.specs.Prelude.{slice_get, OnOk, MatchResult}
use Rattle.std.specs.List.{swap, swap_remove}
use Rattle.go_base.specs.Colour.{other}
use Rattle.go_base.specs.declared.colours.Colour.{Colour}
use Rattle.go_base.specs.declared.vertices.Vertex.{Vertex}
use Rattle.go_base.specs.declared.vertices.Vertex.TheVariants.{Pass, At}
use Rattle.go_board.specs.Candidates.{IsCandidate}
use Rattle.go_board.specs.Game.{GameRecord, HasRoom, IsLegal, board_of, with_move}
use Rattle.go_board.specs.Refusals.{Refuses}
use Rattle.go_board.specs.declared.board.Cell.{Cell}
use Rattle.go_board.specs.declared.faults.PlayFault.{PlayFault}
use Rattle.go_board.specs.declared.faults.PlayFault.TheVariants.{Full, OffBoard, Occupied, Suicide, Ko}
use Rattle.go_board.specs.LastTaken.{AreTakenByLast}
use Rattle.go_board.specs.Playouts.{GivesWords, none, next, IsDrawn, without_drawn, with_aside, passes, plays}
use Rattle.go_board.specs.Playouts.{puts_aside, Ends, IsPlayout, ends, goes_on, drawn_place}
use Rattle.go_board.specs.private.Playouts.{IsOrderOf, IsPlayed, IsWithTaken}
use Rattle.go_board.specs.private.Playouts.{AreDrawn, IsTurnTaken, IsPlayedOn}
use Rattle.go_board.proofs.records.EveryGame.{board-with_move}

-- a source gives some words and then others
pub gives-both : {W : Type 0} {gives : W → ℕ → W → Type 0} {old now new : W} {words more : List ℕ}
    → GivesWords gives old words now → GivesWords gives now more new → GivesWords gives old (words ++ more) new
gives-both none rest = rest
gives-both (next first others) rest = next first (gives-both others rest)

-- with none to draw from the colour passes
pub drawn-pass : {W : Type 0} (gives : W → ℕ → W → Type 0) (game : GameRecord) (c : Colour) (order : List ℕ) (w : W)
    → AreDrawn gives game c 0 order w Pass order w
drawn-pass gives game c order w = record { words = []; given = none; draws = passes }

-- a candidate that is drawn is played
pub drawn-play : {W : Type 0} (gives : W → ℕ → W → Type 0) (game : GameRecord) (c : Colour) (n : ℕ) (order : List ℕ)
    (old : W) (word : ℕ) (new : W) (p : ℕ) (taken : List ℕ) → gives old word new → 0 < n → IsDrawn order n word p
    → IsCandidate game c p → AreTakenByLast (with_move game c (At p)) taken
    → AreDrawn gives game c n order old (At p) (without_drawn order n word p ++ taken) new
drawn-play gives game c n order old word new p taken given some drawn candidate are = record {
  words = word ∷ [];
  given = next given none;
  draws = plays some drawn candidate are;
}

-- another point is put aside
pub drawn-aside : {W : Type 0} (gives : W → ℕ → W → Type 0) (game : GameRecord) (c : Colour) (n : ℕ)
    (order : List ℕ) (old : W) (word : ℕ) (now : W) (p : ℕ) (v : Vertex) (left : List ℕ) (new : W)
    → gives old word now → 0 < n → IsDrawn order n word p → ¬ IsCandidate game c p
    → AreDrawn gives game c (n - 1) (with_aside order n word) now v left new
    → AreDrawn gives game c n order old v left new
drawn-aside gives game c n order old word now p v left new given some drawn no_candidate rest = record {
  words = word ∷ rest.words;
  given = next given rest.given;
  draws = puts_aside p some drawn no_candidate rest.draws;
}

-- what is drawn from the whole order is a turn
pub turn-from : {W : Type 0} (gives : W → ℕ → W → Type 0) (game : GameRecord) (c : Colour) (order : List ℕ) (old : W)
    (v : Vertex) (after : GameRecord) (left : List ℕ) (new : W) → AreDrawn gives game c (length order) order old v left new
    → after ≡ with_move game c v → IsTurnTaken gives game c order old after left new
turn-from gives game c order old v after left new d is = record {
  vertex = v;
  words = d.words;
  given = d.given;
  turn = d.draws;
  is = is;
}

-- the playout ends
pub played-end : {W : Type 0} (gives : W → ℕ → W → Type 0) (game : GameRecord) (c : Colour) (order : List ℕ)
    (limit : ℕ) (w : W) → Ends game limit → IsPlayedOn gives game c order limit w game w
played-end gives game c order limit w e = record { words = []; given = none; playout = ends e }

-- a turn, and the rest of the playout
pub played-turn : {W : Type 0} (gives : W → ℕ → W → Type 0) (game : GameRecord) (c : Colour) (order : List ℕ)
    (limit : ℕ) (old : W) (now : GameRecord) (left : List ℕ) (between : W) (after : GameRecord) (new : W)
    → ¬ Ends game limit → IsTurnTaken gives game c order old now left between
    → IsPlayedOn gives now (other c) left (limit - 1) between after new
    → IsPlayedOn gives game c order limit old after new
played-turn gives game c order limit old now left between after new on turn rest = record {
  words = turn.words ++ rest.words;
  given = gives-both turn.given rest.given;
  playout = goes_on turn.vertex left on turn.turn
      (subst (λ (g : GameRecord). IsPlayout g (other c) left (limit - 1) rest.words after) turn.is rest.playout);
}

-- ---- what has been drawn so far, and what is drawn from there on

-- what is drawn from here on is drawn from the beginning on
abbrev pub DrawsOn : {W : Type 0} → (W → ℕ → W → Type 0) → GameRecord → Colour → ℕ → List ℕ → W → ℕ → List ℕ → W → Type 0
DrawsOn {W} gives game c first begun old n order now =
    (v : Vertex) (left : List ℕ) (new : W) → AreDrawn gives game c n order now v left new
    → AreDrawn gives game c first begun old v left new

-- the playout from here on is that from the beginning on
abbrev pub PlaysOn : {W : Type 0} → (W → ℕ → W → Type 0) → GameRecord → Colour → List ℕ → ℕ → W → GameRecord → Colour
    → List ℕ → ℕ → W → Type 0
PlaysOn {W} gives game c begun limit old on mover order left now =
    (after : GameRecord) (new : W) → IsPlayedOn gives on mover order left now after new
    → IsPlayedOn gives game c begun limit old after new

-- a point was put aside
pub drawn-on : {W : Type 0} (gives : W → ℕ → W → Type 0) (game same : GameRecord) (c : Colour) (first : ℕ)
    (begun : List ℕ) (old : W) (n i word p : ℕ) (order exchanged : List ℕ) (now then : W)
    → DrawsOn gives game c first begun old n order now → gives now word then → word < 2 ^ 64 → 0 < n
    → i ≡ drawn_place n word
    → slice_get order i ≡ Some p → (¬ IsCandidate same c p) → same ≡ game → exchanged ≡ swap order i (n - 1)
    → DrawsOn gives game c first begun old (n - 1) exchanged then
drawn-on gives game same c first begun old n i word p order exchanged now then on given fits some place drawn not is ex =
    λ v left new d. on v left new (drawn-aside gives game c n order now word then p v left new given some
    (fits, subst (λ (k : ℕ). slice_get order k ≡ Some p) place drawn)
    (subst (λ (g : GameRecord). ¬ IsCandidate g c p) is not)
    (subst (λ (ps : List ℕ). AreDrawn gives game c (n - 1) ps then v left new)
    (ex ∙ ap (λ (k : ℕ). swap order k (n - 1)) place) d))

-- a candidate was played
pub turn-played : {W : Type 0} (gives : W → ℕ → W → Type 0) (game after : GameRecord) (c : Colour)
    (begun order removed left : List ℕ) (old now new : W) (n i word p q : ℕ)
    → DrawsOn gives game c (length begun) begun old n order now → gives now word new → word < 2 ^ 64
    → 0 < n → i ≡ drawn_place n word → slice_get order i ≡ Some p → IsPlayed game after c p → slice_get order i ≡ Some q
    → removed ≡ swap_remove order i q → IsWithTaken after removed left
    → IsTurnTaken gives game c begun old after left new
turn-played gives game after c begun order removed left old now new n i word p q on given fits some place drawn played
    taken
    is w =
    let one : q ≡ p = cc in
    let end : left ≡ without_drawn order n word p ++ w.taken =
    w.is ∙ ap (λ (ps : List ℕ). ps ++ w.taken)
    (is ∙ ap (swap_remove order i) one ∙ ap (λ (k : ℕ). swap_remove order k p) place) in
    turn-from gives game c begun old (At p) after left new
    (on (At p) left new (subst (λ (ps : List ℕ). AreDrawn gives game c n order now (At p) ps new) (sym end)
    (drawn-play gives game c n order now word new p w.taken given some
    (fits, subst (λ (k : ℕ). slice_get order k ≡ Some p) place drawn) played.candidate
    (subst (λ (next : GameRecord). AreTakenByLast next w.taken) played.played w.are))))
    played.played

-- there was none left to draw from
pub turn-passed : {W : Type 0} (gives : W → ℕ → W → Type 0) (game same after : GameRecord) (c : Colour)
    (begun order : List ℕ) (old now : W) (n : ℕ) → DrawsOn gives game c (length begun) begun old n order now → n ≤ 0
    → same ≡ game → after ≡ with_move same c Pass → IsTurnTaken gives game c begun old after order now
turn-passed gives game same after c begun order old now n on least is passed =
    let zero : 0 ≡ n = omega (arith, least) in
    turn-from gives game c begun old Pass after order now
    (on Pass order now (subst (λ (k : ℕ). AreDrawn gives game c k order now Pass order now) zero
    (drawn-pass gives game c order now)))
    (passed ∙ ap (λ (g : GameRecord). with_move g c Pass) is)

-- a pass is made where the record has room
pub pass-made : {A : Type 0} (game new : GameRecord) (c : Colour) (result : Result A PlayFault) → HasRoom game
    → OnOk result (new ≡ with_move game c Pass)
    → MatchResult result (λ _. IsLegal game c Pass × HasRoom game) (Refuses game c Pass)
    → new ≡ with_move game c Pass
pass-made game new c (Ok u) room made answer = made
pass-made game new c (Err Full) room made answer = absurd (omega (arith, room, answer))
pass-made game new c (Err OffBoard) room made answer = absurd answer.1
pass-made game new c (Err Occupied) room made answer = absurd answer.1
pass-made game new c (Err Suicide) room made answer = absurd answer.1
pass-made game new c (Err Ko) room made answer = absurd answer.1

-- a pass leaves the board as it was
pub order-passed : (game same after : GameRecord) (c : Colour) (order : List ℕ) → IsOrderOf (board_of game) order
    → same ≡ game → after ≡ with_move same c Pass → IsOrderOf (board_of after) order
order-passed game same after c order o is passed =
    subst (λ (cells : List Cell). IsOrderOf cells order)
    (sym (ap board_of (passed ∙ ap (λ (g : GameRecord). with_move g c Pass) is) ∙ board-with_move game c Pass)) o

-- a turn was taken
pub played-on : {W : Type 0} (gives : W → ℕ → W → Type 0) (game : GameRecord) (c : Colour) (begun : List ℕ)
    (limit : ℕ) (old : W) (on : GameRecord) (mover theirs : Colour) (order : List ℕ) (n : ℕ) (now : W)
    (later : GameRecord) (left : List ℕ) (then : W) → PlaysOn gives game c begun limit old on mover order n now
    → ¬ Ends on n → IsTurnTaken gives on mover order now later left then → theirs ≡ other mover
    → PlaysOn gives game c begun limit old later theirs left (n - 1) then
played-on gives game c begun limit old on mover theirs order n now later left then goes more turn is =
    λ after new p. goes after new (played-turn gives on mover order n now later left then after new more turn
    (subst (λ (d : Colour). IsPlayedOn gives later d left (n - 1) then after new) is p))

-- what a playout that goes on has
pub room-left : (game : GameRecord) (n : ℕ) → ¬ Ends game n → HasRoom game
room-left game n on = elim (cases_lt (length game.moves) 2000) [
  | inl below ↦ below
  | inr past ↦ absurd (on (inr (inr (λ room. omega (arith, room, past)))))
]

pub some-left : (game : GameRecord) (n : ℕ) → ¬ Ends game n → 0 < n
some-left game n on = elim (cases_lt 0 n) [
  | inl more ↦ more
  | inr least ↦ absurd (on (inr (inl (omega (arith, least)))))
]
