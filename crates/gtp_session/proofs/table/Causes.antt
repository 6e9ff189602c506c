-- What is against a command, and nothing else.
use Rattle.std.proofs.Common.{◌≡◌, ℕ, ◌<◌, ◌≤◌, List, length, Bool, true, false, cond, Option, Some, None, refl, arith}
use Rattle.std.proofs.lemmas.Bool.Decides.{nat_tests}
use Rattle.std.specs.Prelude.{◌&&◌, nat_le, codes}
use Rattle.go_base.specs.Size.{most_size}
use Rattle.go_base.specs.Decide.{allows?}
use Rattle.go_base.specs.Handicap.{AllowsHandicap}
use Rattle.go_base.specs.declared.moves.Move.{Move}
use Rattle.go_board.specs.Game.{GameRecord, IsLegal, most_moves}
use Rattle.go_board.specs.Refusals.{IsTouched}
use Rattle.go_board.specs.decisions.Game.{legal?, touched?}
use Rattle.gtp_session.specs.Commands.{size_refusal, full_refusal, move_refusal, handicap_refusal, undo_refusal}
use Rattle.gtp_session.specs.TableLaws.{TakesMove}

-- the fact holds and nothing is against the command, or it doesn't and this cause is
pub data Settles (Fact : Type 0) (refusal : Option (List ℕ)) (cause : List ℕ) : Type 0 where
  free : Fact → refusal ≡ None → Settles Fact refusal cause
  against : ¬ Fact → refusal ≡ Some cause → Settles Fact refusal cause

module _ {Fact : Type 0} {refusal : Option (List ℕ)} {cause : List ℕ} where
  pub fact : Settles Fact refusal cause → refusal ≡ None → Fact
  fact (free holds is) none = holds
  fact (against not is) none = absurd (cc (is, none))

  pub unrefused : Settles Fact refusal cause → Fact → refusal ≡ None
  unrefused (free holds is) h = is
  unrefused (against not is) h = absurd (not h)

  pub refused : Settles Fact refusal cause → ¬ Fact → refusal ≡ Some cause
  refused (free holds is) un = absurd (un holds)
  refused (against not is) un = is

pub size_settles : (size : ℕ) → Settles ((1 ≤ size) × (size ≤ 25)) (size_refusal size) (codes "unacceptable size")
size_settles size = by_test (nat_le 1 size && nat_le size most_size) refl
  where
    by_test : (t : Bool) → (nat_le 1 size && nat_le size most_size) ≡ t
        → Settles ((1 ≤ size) × (size ≤ 25)) (cond t None (Some (codes "unacceptable size")))
        (codes "unacceptable size")
    by_test true e = free (grind (arith, nat_tests), grind (arith, nat_tests)) refl
    by_test false e =
        against (λ h.
        let least : 1 ≤ size = h.0 in
        let most : size ≤ most_size = h.1 in
        let passes : (nat_le 1 size && nat_le size most_size) ≡ true = grind (arith, nat_tests) in cc)
        refl

pub full_settles : (game : GameRecord) → Settles (TakesMove game) (full_refusal game) (codes "record full")
full_settles game = by_test (nat_le most_moves (length game.moves)) refl
  where
    by_test : (t : Bool) → nat_le most_moves (length game.moves) ≡ t
        → Settles (TakesMove game) (cond t (Some (codes "record full")) None) (codes "record full")
    by_test true e = against (λ h. let room : length game.moves < most_moves = h in grind (arith, nat_tests)) refl
    by_test false e = free (grind (arith, nat_tests)) refl

-- what is against a move: a full record first
pub data MoveSettles (game : GameRecord) (move : Move) (refusal : Option (List ℕ)) : Type 0 where
  full : ¬ TakesMove game → refusal ≡ Some (codes "record full") → MoveSettles game move refusal
  room : TakesMove game → Settles (IsLegal game move.colour move.vertex) refusal (codes "illegal move")
      → MoveSettles game move refusal

pub move_unrefused : {game : GameRecord} {move : Move} {refusal : Option (List ℕ)} → MoveSettles game move refusal
    → TakesMove game → IsLegal game move.colour move.vertex → refusal ≡ None
move_unrefused (full fills is) takes legal = absurd (fills takes)
move_unrefused (room now settles) takes legal = unrefused settles legal

pub move_illegal : {game : GameRecord} {move : Move} {refusal : Option (List ℕ)} → MoveSettles game move refusal
    → TakesMove game → ¬ IsLegal game move.colour move.vertex → refusal ≡ Some (codes "illegal move")
move_illegal (full fills is) takes un = absurd (fills takes)
move_illegal (room now settles) takes un = refused settles un

pub move_settles : (game : GameRecord) (move : Move) → MoveSettles game move (move_refusal game move)
move_settles game move = by_test (nat_le most_moves (length game.moves)) refl
  where
    by_legal : (d : Dec (IsLegal game move.colour move.vertex))
        → Settles (IsLegal game move.colour move.vertex)
        (elim d [ yes _ ↦ None | no _ ↦ Some (codes "illegal move") ]) (codes "illegal move")
    by_legal (yes legal) = free legal refl
    by_legal (no not) = against not refl

    by_test : (t : Bool) → nat_le most_moves (length game.moves) ≡ t
        → MoveSettles game move (cond t (Some (codes "record full"))
        (elim (legal? game move.colour move.vertex) [ yes _ ↦ None | no _ ↦ Some (codes "illegal move") ]))
    by_test true e = full (λ h. let takes : length game.moves < most_moves = h in grind (arith, nat_tests)) refl
    by_test false e = room (grind (arith, nat_tests)) (by_legal (legal? game move.colour move.vertex))

-- what is against handicap stones: a board or a record that isn't empty first
pub data StonesSettle (game : GameRecord) (stones : ℕ) (refusal : Option (List ℕ)) : Type 0 where
  touched : IsTouched game → refusal ≡ Some (codes "board not empty") → StonesSettle game stones refusal
  empty : ¬ IsTouched game → Settles (AllowsHandicap game.size stones) refusal (codes "invalid number of stones")
      → StonesSettle game stones refusal

pub stones_fact : {game : GameRecord} {stones : ℕ} {refusal : Option (List ℕ)} → StonesSettle game stones refusal
    → refusal ≡ None → (¬ IsTouched game) × AllowsHandicap game.size stones
stones_fact (touched t is) none = absurd (cc (is, none))
stones_fact (empty un settles) none = (un, fact settles none)

pub stones_unrefused : {game : GameRecord} {stones : ℕ} {refusal : Option (List ℕ)} → StonesSettle game stones refusal
    → ¬ IsTouched game → AllowsHandicap game.size stones → refusal ≡ None
stones_unrefused (touched t is) un allows = absurd (un t)
stones_unrefused (empty bare settles) un allows = unrefused settles allows

pub stones_settle : (game : GameRecord) (stones : ℕ) → StonesSettle game stones (handicap_refusal game stones)
stones_settle game stones = by_both (touched? game) (allows? game.size stones)
  where
    by_both : (d : Dec (IsTouched game)) (e : Dec (AllowsHandicap game.size stones))
        → StonesSettle game stones (elim d [
          | yes _ ↦ Some (codes "board not empty")
          | no _ ↦ elim e [ yes _ ↦ None | no _ ↦ Some (codes "invalid number of stones") ]
        ])
    by_both (yes t) e = touched t refl
    by_both (no un) (yes allows) = empty un (free allows refl)
    by_both (no un) (no not) = empty un (against not refl)

pub undo_settles : (game : GameRecord) → Settles (0 < length game.moves) (undo_refusal game) (codes "cannot undo")
undo_settles game = by_test (nat_le 1 (length game.moves)) refl
  where
    by_test : (t : Bool) → nat_le 1 (length game.moves) ≡ t
        → Settles (0 < length game.moves) (cond t None (Some (codes "cannot undo"))) (codes "cannot undo")
    by_test true e = free (grind (arith, nat_tests)) refl
    by_test false e = against (λ h. grind (arith, nat_tests)) refl
