-- The ko point, from the moves and the stones that they took.
use Rattle.std.proofs.Common.{◌≡◌, ℕ, List, [], ◌∷◌, ◌++◌, length, refl, sym, ◌∙◌, ap, subst, arith}
use Rattle.std.specs.Prelude.{Some, None}
use Rattle.std.proofs.Math.ListN.{set}
use Rattle.go_base.specs.Colour.{other}
use Rattle.go_base.specs.declared.colours.Colour.{Colour}
use Rattle.go_base.specs.declared.moves.Move.{Move}
use Rattle.go_base.specs.declared.vertices.Vertex.{Vertex}
use Rattle.go_base.specs.declared.vertices.Vertex.TheVariants.{Pass, At}
use Rattle.go_board.specs.Board.{stone}
use Rattle.go_board.specs.Game.{GameRecord, board_of, with_move, IsGame, IsLegal}
use Rattle.go_board.specs.private.Ko.{IsKo, IsKoAfter}
use Rattle.go_board.specs.Play.{captures}
use Rattle.go_board.specs.private.TakenStack.{captured_places, stack_of, taken_at, IsNotLast, IsOnlyTaken}
use Rattle.go_board.specs.declared.taken_stack.TakenStone.{TakenStone}
use Rattle.go_board.proofs.records.Moves.{with-last, IsBeforeMove, IsBeforeMove-from}
use Rattle.go_board.proofs.ko_rules.KoPoints.{IsKo-pass, IsKo-play, IsKo-many}
use Rattle.go_board.proofs.ko_rules.OneCapture.{TakesOnly-places, captures-one}
use Rattle.go_board.proofs.records.EveryGame.{IsOrderly-game}
use Rattle.go_board.proofs.undo.PoppedStones.{popped-all, not_last-numbers}
use Rattle.go_board.proofs.records.TakenStack.{stack_of-with_move, places-count}

pub ko_after-pass : (moves earlier : List Move) (last : Move) (stones : List TakenStone) → moves ≡ earlier ++ last ∷ []
    → last.vertex ≡ Pass → IsKoAfter moves stones None
ko_after-pass moves earlier last stones ends pass game g is gone =
    let before : GameRecord = record game { moves = earlier } in
    let same : with_move before last.colour Pass ≡ game =
    ap (λ (v : Vertex). with_move before last.colour v) (sym pass) ∙ with-last game earlier last (sym is ∙ ends) in
    subst (λ (h : GameRecord). IsKo h None) same (IsKo-pass before last.colour)

-- the stones at the end that the last move took
places-are : (before : GameRecord) (c : Colour) (p : ℕ) (left : List TakenStone) (gone : List ℕ) → IsGame before
    → stack_of (with_move before c (At p)) ≡ left ++ taken_at (length before.moves) gone
    → IsNotLast left (length before.moves)
    → gone ≡ captured_places (set (board_of before) p (stone c)) (other c)
places-are before c p left gone g e last =
    let o = IsOrderly-game before g in
    let both =
    popped-all (length before.moves) (stack_of before) left
    (captured_places (set (board_of before) p (stone c)) (other c)) gone o.numbers
    (sym (stack_of-with_move before c (At p)) ∙ e) last in
    both.1

ko-one : (before : GameRecord) (c : Colour) (p q : ℕ) → IsBeforeMove before c (At p)
    → IsOnlyTaken (stack_of (with_move before c (At p))) (length before.moves) q
    → IsKo (with_move before c (At p)) (Some (record { point = q; stone = p }))
ko-one before c p q b only =
    let l : IsLegal before c (At p) = b.legal in
    IsKo-play before c p q l.empty
    (TakesOnly-places (board_of before) c p q
    (sym (places-are before c p only.before (q ∷ []) b.game_is only.ends only.alone)))

one-place : (ps : List ℕ) → length ps ≡ 1 → (q : ℕ) × (ps ≡ q ∷ [])
one-place [] e = absurd (omega (arith, e))
one-place (q ∷ []) e = (q, refl)
one-place (q ∷ r ∷ ps) e = absurd (omega (arith, e))

ko-none : (before : GameRecord) (c : Colour) (p : ℕ) → IsBeforeMove before c (At p)
    → ((q : ℕ) → ¬ IsOnlyTaken (stack_of (with_move before c (At p))) (length before.moves) q)
    → IsKo (with_move before c (At p)) None
unfolding captures
ko-none before c p b none =
    let l : IsLegal before c (At p) = b.legal in
    let o = IsOrderly-game before b.game_is in
    let places = captured_places (set (board_of before) p (stone c)) (other c) in
    IsKo-many before c p l.empty (λ q only.
    let one =
    one-place places (places-count (set (board_of before) p (stone c)) (other c)
    ∙ captures-one (board_of before) c p q only) in
    none one.0 (record {
      before = stack_of before;
      ends =
          stack_of-with_move before c (At p)
          ∙ ap (λ (ps : List ℕ). stack_of before ++ taken_at (length before.moves) ps) one.1;
      alone = not_last-numbers (length before.moves) (stack_of before) o.numbers;
    }))

pub ko_after-one : (moves earlier : List Move) (last : Move) (stones : List TakenStone) (p q : ℕ)
    → moves ≡ earlier ++ last ∷ [] → last.vertex ≡ At p → IsOnlyTaken stones (length earlier) q
    → IsKoAfter moves stones (Some (record { point = q; stone = p }))
ko_after-one moves earlier last stones p q ends is_play only game g is gone =
    let before : GameRecord = record game { moves = earlier } in
    let same : with_move before last.colour (At p) ≡ game =
    ap (λ (v : Vertex). with_move before last.colour v) (sym is_play) ∙ with-last game earlier last (sym is ∙ ends) in
    subst (λ (h : GameRecord). IsKo h (Some (record { point = q; stone = p }))) same
    (ko-one before last.colour p q (IsBeforeMove-from before last.colour (At p) (subst IsGame (sym same) g))
    (subst (λ (ts : List TakenStone). IsOnlyTaken ts (length earlier) q) (gone ∙ ap stack_of (sym same)) only))

pub ko_after-none : (moves earlier : List Move) (last : Move) (stones : List TakenStone) (p : ℕ)
    → moves ≡ earlier ++ last ∷ [] → last.vertex ≡ At p
    → ((q : ℕ) → ¬ IsOnlyTaken stones (length earlier) q) → IsKoAfter moves stones None
ko_after-none moves earlier last stones p ends is_play none game g is gone =
    let before : GameRecord = record game { moves = earlier } in
    let same : with_move before last.colour (At p) ≡ game =
    ap (λ (v : Vertex). with_move before last.colour v) (sym is_play) ∙ with-last game earlier last (sym is ∙ ends) in
    subst (λ (h : GameRecord). IsKo h None) same
    (ko-none before last.colour p (IsBeforeMove-from before last.colour (At p) (subst IsGame (sym same) g))
    (subst (λ (ts : List TakenStone). (q : ℕ) → ¬ IsOnlyTaken ts (length earlier) q) (gone ∙ ap stack_of (sym same))
    none))
