-- What a rollout keeps in place of a game, from move to move.
use Rattle.std.proofs.Common.{◌≡◌, ℕ, ◌+◌, Bool, true, false, List, [], ◌∷◌, ◌++◌, length, Option, Some, None}
use Rattle.std.proofs.Common.{refl, sym, ◌∙◌, ap, subst, arith}
use Rattle.std.specs.Prelude.{◌≢◌, ◌↔◌, slice_get}
use Rattle.std.specs.List.{swap_remove}
use Rattle.std.proofs.Math.ListN.{set}
use Rattle.std.proofs.lemmas.Bool.{false≢true}
use Rattle.std.proofs.lemmas.List.{append_assoc, length_push}
use Rattle.go_base.specs.Colour.{other}
use Rattle.go_base.specs.declared.colours.Colour.{Colour}
use Rattle.go_base.specs.declared.moves.Move.{Move}
use Rattle.go_base.specs.declared.vertices.Vertex.TheVariants.{Pass, At}
use Rattle.go_board.specs.declared.board.Cell.{Cell}
use Rattle.go_board.specs.declared.board.Cell.TheVariants.{Empty}
use Rattle.go_board.specs.declared.rules.KoRule.{KoRule}
use Rattle.go_board.specs.Board.{at, stone, IsStone}
use Rattle.go_board.specs.Chain.{IsFree}
use Rattle.go_board.specs.Game.{GameRecord, IsGame, HasRoom, IsLegal, IsFinished, RepeatsLast, RepeatsBy, board_of}
use Rattle.go_board.specs.Game.{with_move, without_last}
use Rattle.go_board.specs.LastTaken.{AreTakenByLast}
use Rattle.go_board.specs.Play.{play, captures}
use Rattle.go_board.specs.private.Ko.{TakesOnly}
use Rattle.go_board.specs.private.Playouts.{IsOrderOf}
use Rattle.go_board.specs.private.Rollouts.{LastIsPass, IsScratch, IsNextKo, places_taken}
use Rattle.go_board.proofs.boards.Cells.{empty-point}
use Rattle.go_board.proofs.drawing.Orders.{order-played}
use Rattle.go_board.proofs.ko_rules.KoPoints.{IsKo-play, IsKo-many, IsKo-pass}
use Rattle.go_board.proofs.ko_rules.OneCapture.{TakesOnly-places, captures-one}
use Rattle.go_board.proofs.records.EveryGame.{IsOrderly-game, board-with_move}
use Rattle.go_board.proofs.records.Moves.{IsGame-with_move, without_last-with_move}
use Rattle.go_board.proofs.records.TakenStack.{places-count}
use Rattle.go_board.proofs.undo.LastTaken.{gone-move}
use Rattle.go_board.proofs.undo.PoppedStones.{ends-same}

-- ---- passes

abbrev pass_of : Colour → Move
pass_of c = record { colour = c; vertex = Pass }

two-ends : (moves before : List Move) (last first second : Move)
    → moves ++ last ∷ [] ≡ before ++ first ∷ second ∷ [] → (moves ≡ before ++ first ∷ []) × (last ≡ second)
two-ends moves before last first second e =
    ends-same moves (before ++ first ∷ []) last second (e ∙ sym (append_assoc before (first ∷ []) (second ∷ [])))

finished-pass : (game : GameRecord) (c : Colour) → IsFinished (with_move game c Pass) → LastIsPass game
finished-pass game c f = record {
  before = f.before;
  colour = f.first;
  ends = (two-ends game.moves f.before (pass_of c) (pass_of f.first) (pass_of f.second) f.ends).0;
}

pass-finished : (game : GameRecord) (c : Colour) → LastIsPass game → IsFinished (with_move game c Pass)
pass-finished game c l = record {
  before = l.before;
  first = l.colour;
  second = c;
  ends = ap (λ (ms : List Move). ms ++ pass_of c ∷ []) l.ends
      ∙ append_assoc l.before (pass_of l.colour ∷ []) (pass_of c ∷ []);
}

play-not_finished : (game : GameRecord) (c : Colour) (p : ℕ) → ¬ IsFinished (with_move game c (At p))
play-not_finished game c p f =
    let played : Move = record { colour = c; vertex = At p } in
    let same : played ≡ pass_of f.second =
    (two-ends game.moves f.before played (pass_of f.first) (pass_of f.second) f.ends).1 in
    let wrong : At p ≡ Pass = ap (λ (m : Move). m.vertex) same in
    cc

last-pass : (game : GameRecord) (c : Colour) → LastIsPass (with_move game c Pass)
last-pass game c = record { before = game.moves; colour = c; ends = refl }

play-not_last : (game : GameRecord) (c : Colour) (p : ℕ) → ¬ LastIsPass (with_move game c (At p))
play-not_last game c p l =
    let played : Move = record { colour = c; vertex = At p } in
    let same : played ≡ pass_of l.colour = (ends-same game.moves l.before played (pass_of l.colour) l.ends).1 in
    let wrong : At p ≡ Pass = ap (λ (m : Move). m.vertex) same in
    cc

-- ---- what is legal

pub scratch-legal : {game : GameRecord} {c : Colour} {board : List Cell} {order : List ℕ} {ko : Option ℕ}
    {passed finished : Bool} {moves : ℕ} (p : ℕ) → IsScratch game c board order ko passed finished moves
    → at board p ≡ Empty → IsFree (play board c p) p → ko ≢ Some p → IsLegal game c (At p)
scratch-legal {game} {c} {board} p s empty free away =
    let here : at (board_of game) p ≡ Empty = subst (λ (b : List Cell). at b p ≡ Empty) s.board_is empty in
    record {
      on_board = ((IsOrderly-game game s.game_is).has_size p).0 (empty-point (board_of game) p here);
      empty = here;
      free = subst (λ (b : List Cell). IsFree (play b c p) p) s.board_is free;
      no_ko = subst (λ (r : KoRule). ¬ RepeatsBy r game (play (board_of game) c p)) (sym s.simple)
          (λ repeats. away ((s.ko_is p here).0 repeats));
    }

pub legal-scratch : {game : GameRecord} {c : Colour} {board : List Cell} {order : List ℕ} {ko : Option ℕ}
    {passed finished : Bool} {moves : ℕ} (p : ℕ) → IsScratch game c board order ko passed finished moves
    → IsLegal game c (At p) → IsFree (play board c p) p × (ko ≢ Some p)
legal-scratch {game} {c} {board} p s legal = (
  subst (λ (b : List Cell). IsFree (play b c p) p) (sym s.board_is) legal.free,
  (λ e. (subst (λ (r : KoRule). ¬ RepeatsBy r game (play (board_of game) c p)) s.simple legal.no_ko)
      ((s.ko_is p legal.empty).1 e)),
)

-- ---- the ko point

not-one : (board : List Cell) (c : Colour) (p : ℕ) (many : ℕ) → length (places_taken board c p) ≡ many → many ≢ 1
    → (q : ℕ) → ¬ TakesOnly board c p q
unfolding captures
not-one board c p many long away q only =
    away (sym long ∙ places-count (set board p (stone c)) (other c) ∙ captures-one board c p q only)

next-ko : (game : GameRecord) (c : Colour) (p : ℕ) (ko : Option ℕ) → at (board_of game) p ≡ Empty
    → IsNextKo (board_of game) c p ko → (q : ℕ) → at (board_of (with_move game c (At p))) q ≡ Empty
    → RepeatsLast (with_move game c (At p)) (play (board_of (with_move game c (At p))) (other c) q) ↔ (ko ≡ Some q)
next-ko game c p ko empty n q free = by_places (places_taken (board_of game) c p) refl
  where
    by_places : (places : List ℕ) → places_taken (board_of game) c p ≡ places
        → RepeatsLast (with_move game c (At p)) (play (board_of (with_move game c (At p))) (other c) q) ↔ (ko ≡ Some q)
    by_places [] e = (
      (λ r. absurd ((IsKo-many game c p empty (not-one (board_of game) c p 0 (ap length e)
          (λ h. absurd (omega (arith, h)))) (other c) q free).0 r)),
      (λ s. let wrong : [] ≡ q ∷ [] = sym e ∙ (n.some q s).0 in absurd (omega (arith, ap length wrong))),
    )
    by_places (a ∷ []) e =
        let is = IsKo-play game c p a empty (TakesOnly-places (board_of game) c p a e) (other c) q free in
        let after = board-with_move game c (At p) in (
          (λ r.
              let h = is.0 r in
              n.back q (e ∙ ap (λ (k : ℕ). k ∷ []) (sym h.0))
              (subst (λ (b : List Cell). TakesOnly b (other c) q p) after h.1)),
          (λ s.
              let h = n.some q s in
              let one : a ∷ [] ≡ q ∷ [] = sym e ∙ h.0 in
              is.1 (cc, subst (λ (b : List Cell). TakesOnly b (other c) q p) (sym after) h.1)),
        )
    by_places (a ∷ b ∷ rest) e = (
      (λ r. absurd ((IsKo-many game c p empty (not-one (board_of game) c p (length (a ∷ b ∷ rest)) (ap length e)
          (λ h. absurd (omega (arith, h)))) (other c) q free).0 r)),
      (λ s. let wrong : a ∷ b ∷ rest ≡ q ∷ [] = sym e ∙ (n.some q s).0 in
          absurd (omega (arith, ap length wrong))),
    )

-- ---- a play, and a pass

-- the places are those of the stones that the play takes
pub taken-places : (game : GameRecord) (c : Colour) (p : ℕ) → IsGame game → HasRoom game → IsLegal game c (At p)
    → AreTakenByLast (with_move game c (At p)) (places_taken (board_of game) c p)
taken-places game c p g room legal =
    let a = gone-move game c (At p) (record { game_is = g; room = room; legal = legal }) in
    let back : without_last (with_move game c (At p)) ≡ game = without_last-with_move game c (At p) in
    let is = board-with_move game c (At p) in
    record {
      each = λ q. (
        (λ h. let gone = (a.each q).0 h in record {
          stood = subst (λ (g : GameRecord). IsStone (at (board_of g) q)) (sym back) gone.stood;
          gone = ap (λ (b : List Cell). at b q) is ∙ gone.gone;
        }),
        (λ t. (a.each q).1 (record {
          stood = subst (λ (g : GameRecord). IsStone (at (board_of g) q)) back t.stood;
          gone = ap (λ (b : List Cell). at b q) (sym is) ∙ t.gone;
        })),
      );
      in_order = a.in_order;
    }

pub scratch-played : {game : GameRecord} {c : Colour} {board : List Cell} {order : List ℕ} {ko : Option ℕ}
    {passed finished : Bool} {moves : ℕ} (p i : ℕ) (after : List Cell) (left : List ℕ) (next : Option ℕ)
    → IsScratch game c board order ko passed finished moves → HasRoom game → IsLegal game c (At p)
    → slice_get order i ≡ Some p → after ≡ play board c p
    → left ≡ swap_remove order i p ++ places_taken board c p → IsNextKo board c p next
    → IsScratch (with_move game c (At p)) (other c) after left next false false (moves + 1)
scratch-played {game} {c} {board} {order} {moves = moves} p i after left next s room legal drawn after_is left_is ko =
    let taken = taken-places game c p s.game_is room legal in
    let long = length_push game.moves (record { colour = c; vertex = At p }) in
    let many = s.moves_is in
    record {
      game_is = IsGame-with_move game c (At p) s.game_is room legal;
      simple = s.simple;
      board_is = after_is ∙ ap (λ (b : List Cell). play b c p) s.board_is ∙ sym (board-with_move game c (At p));
      order_is = subst (IsOrderOf (board_of (with_move game c (At p))))
          (sym (left_is ∙ ap (λ (b : List Cell). swap_remove order i p ++ places_taken b c p) s.board_is))
          (order-played game c p i order (places_taken (board_of game) c p) legal s.order_is drawn taken);
      ko_is = next-ko game c p next legal.empty (subst (λ (b : List Cell). IsNextKo b c p next) s.board_is ko);
      passed_is = ((λ e. absurd (false≢true e)), (λ l. absurd (play-not_last game c p l)));
      finished_is = ((λ e. absurd (false≢true e)), (λ f. absurd (play-not_finished game c p f)));
      moves_is = omega (arith, long, many);
    }

pub scratch-passed : {game : GameRecord} {c : Colour} {board : List Cell} {order : List ℕ} {ko : Option ℕ}
    {passed finished : Bool} {moves : ℕ} → IsScratch game c board order ko passed finished moves → HasRoom game
    → IsScratch (with_move game c Pass) (other c) board order None true passed (moves + 1)
scratch-passed {game} {c} {board} {order} {moves = moves} s room =
    let is = board-with_move game c Pass in
    let long = length_push game.moves (record { colour = c; vertex = Pass }) in
    let many = s.moves_is in
    record {
      game_is = IsGame-with_move game c Pass s.game_is room tt;
      simple = s.simple;
      board_is = s.board_is ∙ sym is;
      order_is = subst (λ (b : List Cell). IsOrderOf b order) (sym is) s.order_is;
      ko_is = λ p empty. ((λ r. absurd ((IsKo-pass game c (other c) p empty).0 r)), (λ e. cc));
      passed_is = ((λ e. last-pass game c), (λ l. refl));
      finished_is = ((λ e. pass-finished game c (s.passed_is.0 e)), (λ f. s.passed_is.1 (finished-pass game c f)));
      moves_is = omega (arith, long, many);
    }
