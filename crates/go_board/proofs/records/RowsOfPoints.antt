-- The points of a row on which a colour may play.
use Rattle.std.proofs.Common.{◌≡◌, ℕ, ◌+◌, ◌-◌, ◌*◌, ◌<◌, ◌≤◌, List, ◌∷◌, [], ◌++◌}
use Rattle.std.proofs.Common.{sym, ◌∙◌, subst, arith, inl, inr}
use Rattle.std.specs.Int.{bit_at}
use Rattle.std.specs.Prelude.{◌↔◌, ◌⊎◌, Some, None}
use Rattle.std.proofs.lemmas.Bool.{cases_eq}
use Rattle.go_base.specs.declared.colours.Colour.{Colour}
use Rattle.go_base.specs.declared.vertices.Vertex.TheVariants.{At}
use Rattle.go_board.specs.Board.{at}
use Rattle.go_board.specs.Chain.{HasBeside}
use Rattle.go_board.specs.Game.{GameRecord, IsGame, IsLegal, RepeatsBy, board_of}
use Rattle.go_board.specs.Play.{play}
use Rattle.go_board.specs.declared.board.Cell.{Cell}
use Rattle.go_board.specs.declared.board.Cell.TheVariants.{Empty}
use Rattle.go_board.specs.declared.game.Game.TheInside.{Inside}
use Rattle.go_board.specs.declared.rules.KoRule.{KoRule}
use Rattle.go_board.specs.declared.rules.KoRule.TheVariants.{Simple}
use Rattle.go_board.specs.private.Columns.{Has, IsFirst, IsBesideAny, AreEmptyIn, AreOpenIn, AreSureIn}
use Rattle.go_board.specs.private.Columns.{AreLegalBefore}
use Rattle.go_board.specs.private.Kept.{record_of, IsKept}
use Rattle.go_board.specs.private.ChainId.{AreFree}
use Rattle.go_board.proofs.captures.FreeStones.{free-beside}
use Rattle.go_board.proofs.ko_rules.KoPoints.{never-repeats}
use Rattle.go_board.proofs.records.LegalPoints.{legal-one, legal-skip}

-- ---- sure points

abbrev SurelyLegal : Inside → Colour → ℕ → GameRecord → Type 0
SurelyLegal f c p game =
    at (board_of game) p ≡ Empty → HasBeside (board_of game) p Empty → IsLegal game c (At p)

-- under simple ko a play on an empty point with another one beside it is legal
surely-kept : (f : Inside) (c : Colour) (p : ℕ) → IsKept f → f.rule ≡ Simple → SurelyLegal f c p (record_of f)
surely-kept f c p kept rule empty beside =
    let here : at f.chains p ≡ Empty = subst (λ (b : List Cell). at b p ≡ Empty) (sym kept.board_is) empty in
    record {
      on_board = (kept.has_size p).0 (λ edge. let both = sym here ∙ edge in cc);
      empty = empty;
      free = free-beside (board_of (record_of f)) c p empty (subst AreFree kept.board_is kept.free) beside;
      no_ko = λ repeats.
          never-repeats (record_of f) kept.game c p empty beside
          (subst (λ (r : KoRule). RepeatsBy r (record_of f) (play (board_of (record_of f)) c p)) rule repeats);
    }

pub surely-legal : (f : Inside) (game : GameRecord) (c : Colour) (p : ℕ) → record_of f ≡ game → IsKept f
    → f.rule ≡ Simple → SurelyLegal f c p game
surely-legal f game c p is kept rule = subst (SurelyLegal f c p) is (surely-kept f c p kept rule)

-- ---- open points

-- the columns are those of empty points of a row
abbrev pub AreOfEmpty : List Cell → ℕ → ℕ → Type 0
AreOfEmpty board row columns = (k : ℕ) → Has columns k → at board (26 * row + k) ≡ Empty

-- an empty point beside which is an empty point of its row, or of the row below or above, is open
pub open-from : (board : List Cell) (row below here above columns : ℕ) → 1 ≤ row → AreOfEmpty board (row - 1) below
    → AreEmptyIn board row here → AreEmptyIn board (row + 1) above
    → ((k : ℕ) → Has columns k ↔ (Has here k × IsBesideAny here below above k))
    → AreOpenIn board row columns
open-from board row below here above columns some is_below is_here is_above is k h =
    let both = (is k).0 h in
    let mine = (is_here k).0 both.0 in (
      mine.0,
      mine.1,
      elim both.1 [
        | inl l ↦
            let next = l.1 in
            record {
              place = 26 * row + l.0;
              neighbours = inr (inl (omega (arith, next)));
              holds = ((is_here l.0).0 l.2).1;
            }
        | inr (inl r) ↦ record {
          place = 26 * row + (k + 1);
          neighbours = inl (omega arith);
          holds = ((is_here (k + 1)).0 r).1;
        }
        | inr (inr (inl b)) ↦ record {
          place = 26 * (row - 1) + k;
          neighbours = inr (inr (inr (omega (arith, some))));
          holds = is_below k b;
        }
        | inr (inr (inr a)) ↦ record {
          place = 26 * (row + 1) + k;
          neighbours = inr (inr (inl (omega arith)));
          holds = ((is_above k).0 a).1;
        }
      ],
    )

-- ---- the legal points of a row

-- so far: the columns found are legal, and each legal one is found or left
pub record AreSorted (game : GameRecord) (c : Colour) (row legal left : ℕ) : Type 0 where
  pub found : (k : ℕ) → Has legal k → (k < 26) × IsLegal game c (At (26 * row + k))
  pub each : (k : ℕ) → k < 26 → IsLegal game c (At (26 * row + k)) → Has legal k ⊎ Has left k

-- ---- the list

-- so far: the list has the legal points before a place, and the columns of those from there on are left
pub record ArePushed (game : GameRecord) (c : Colour) (row left : ℕ) (points : List ℕ) : Type 0 where
  pub n : ℕ
  pub from : 26 * row ≤ n
  pub to : n ≤ 26 * row + 26
  pub before : AreLegalBefore game c n points
  pub left_is : (k : ℕ) → Has left k ↔ ((k < 26) × (n ≤ 26 * row + k) × IsLegal game c (At (26 * row + k)))

pub sorted-start : (game : GameRecord) (c : Colour) (row empty sure left : ℕ) → AreEmptyIn (board_of game) row empty
    → AreSureIn game row sure → ((k : ℕ) → Has left k ↔ (Has empty k × ¬ Has sure k)) → AreSorted game c row sure left
sorted-start game c row empty sure left is_empty is_sure is_left = record {
  found = λ k h. is_sure k c h;
  each = λ k low legal. elim (cases_eq (bit_at sure k) 1) [
    | inl is ↦ inl is
    | inr isnt ↦ inr ((is_left k).1 ((is_empty k).1 (low, legal.empty), isnt))
  ];
}

legal-again : (game : GameRecord) (c : Colour) (p q : ℕ) → p ≡ q → IsLegal game c (At p) → IsLegal game c (At q)
legal-again game c p q same = subst (λ (x : ℕ). IsLegal game c (At x)) same

pub pushed-next : (game : GameRecord) (c : Colour) (row first old left : ℕ) (points new : List ℕ) → IsGame game
    → ArePushed game c row old points → IsFirst old left (Some first) → new ≡ points ++ (26 * row + first) ∷ []
    → ArePushed game c row left new
pushed-next game c row first old left points new g a is pushed =
    let has = (a.left_is first).0 is.0 in
    let low = has.0 in
    let after = has.1 in
    let from = a.from in
    record {
      n = 26 * row + first + 1;
      from = omega arith;
      to = omega (arith, low);
      before =
          legal-one game c (26 * row + first) points new g
          (legal-skip game c a.n (26 * row + first) points after a.before (λ p above below legal.
          let k = p - 26 * row in
          let place : p ≡ 26 * row + k = omega (arith, above, from) in
          let least = is.3 k ((a.left_is k).1 (
            omega (arith, below, low),
            omega (arith, above, place),
            legal-again game c p (26 * row + k) place legal,
          )) in
          omega (arith, least, below, place)))
          has.2 pushed;
      left_is = λ k. (
        (λ h.
            let was = (is.4 k).0 h in
            let old_k = (a.left_is k).0 was.0 in
            let least = is.3 k was.0 in
            let other = was.1 in
            (old_k.0, omega (arith, least, other), old_k.2)),
        (λ h.
            let past = h.1 in
            (is.4 k).1 ((a.left_is k).1 (h.0, omega (arith, past, after), h.2), λ same. omega (arith, past, same))),
      );
    }

pub pushed-all : (game : GameRecord) (c : Colour) (row old left : ℕ) (points : List ℕ)
    → ArePushed game c row old points → IsFirst old left None → AreLegalBefore game c (26 * (row + 1)) points
pushed-all game c row old left points a is =
    let to = a.to in
    let from = a.from in
    legal-skip game c a.n (26 * (row + 1)) points (omega (arith, to)) a.before (λ p above below legal.
    let k = p - 26 * row in
    let place : p ≡ 26 * row + k = omega (arith, above, from) in
    is.1 k ((a.left_is k).1 (
      omega (arith, below, place),
      omega (arith, above, place),
      legal-again game c p (26 * row + k) place legal,
    )))

-- ---- all rows

-- so far: the list has the legal points of the rows before; the columns below are of empty points, and those of this
-- row are all its empty points
pub record AreWalked (game : GameRecord) (c : Colour) (row below here : ℕ) (points : List ℕ) : Type 0 where
  pub under : AreOfEmpty (board_of game) (row - 1) below
  pub row_is : AreEmptyIn (board_of game) row here
  pub before : AreLegalBefore game c (26 * row) points
