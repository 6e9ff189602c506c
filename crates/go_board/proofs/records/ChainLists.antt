-- The lists of a chain's stones and liberties, and of candidates.
use Rattle.std.proofs.Common.{ℕ, ◌+◌, ◌*◌, ◌≤◌, List, sym, ◌∙◌}
use Rattle.go_base.specs.declared.colours.Colour.{Colour}
use Rattle.go_board.specs.Board.{at, IsStone}
use Rattle.go_board.specs.Candidates.{IsCandidate, AreCandidates}
use Rattle.go_board.specs.Chain.{Joined}
use Rattle.go_board.specs.ChainPoints.{AreChainPoints, AreChainLiberties}
use Rattle.go_board.specs.Game.{GameRecord, IsGame, board_of}
use Rattle.go_board.specs.Liberties.{IsLiberty}
use Rattle.go_board.specs.private.PointList.{AreListedBefore}
use Rattle.go_board.proofs.ids.Paths.{Joined-point, Joined-same}
use Rattle.go_board.proofs.records.EveryGame.{IsOrderly-game}
use Rattle.go_board.proofs.records.PointLists.{AreOn, listed-all}

pub joined-on : (game : GameRecord) (p : ℕ) → IsGame game → AreOn game.size (λ q. Joined (board_of game) p q)
joined-on game p g = record {
  most = g.size.most;
  on = λ q path. ((IsOrderly-game game g).has_size q).0 (λ e. Joined-point path (sym (Joined-same path) ∙ e));
}

pub liberty-on : (game : GameRecord) (p : ℕ) → IsGame game → AreOn game.size (λ q. IsLiberty (board_of game) p q)
liberty-on game p g = record {
  most = g.size.most;
  on = λ q l. ((IsOrderly-game game g).has_size q).0 (λ e. let both = sym l.empty ∙ e in cc);
}

pub candidate-on : (game : GameRecord) (c : Colour) → IsGame game → AreOn game.size (λ p. IsCandidate game c p)
candidate-on game c g = record { most = g.size.most; on = λ p h. h.legal.on_board }

-- the whole lists
pub chain-listed : (game : GameRecord) (p n : ℕ) (points : List ℕ) → IsGame game → IsStone (at (board_of game) p)
    → AreListedBefore (λ q. Joined (board_of game) p q) n points → 26 * (game.size + 1) ≤ n
    → AreChainPoints (board_of game) p points
chain-listed game p n points g s a end =
    let all = listed-all game.size (λ q. Joined (board_of game) p q) n points (joined-on game p g) a end in
    record { each = λ q. ((λ h. (s, (all q).0 h)), (λ h. (all q).1 h.1)); in_order = a.in_order }

pub liberties-listed : (game : GameRecord) (p n : ℕ) (points : List ℕ) → IsGame game → IsStone (at (board_of game) p)
    → AreListedBefore (λ q. IsLiberty (board_of game) p q) n points → 26 * (game.size + 1) ≤ n
    → AreChainLiberties (board_of game) p points
liberties-listed game p n points g s a end =
    let all = listed-all game.size (λ q. IsLiberty (board_of game) p q) n points (liberty-on game p g) a end in
    record { each = λ q. ((λ h. (s, (all q).0 h)), (λ h. (all q).1 h.1)); in_order = a.in_order }

pub candidates-listed : (game : GameRecord) (c : Colour) (n : ℕ) (points : List ℕ) → IsGame game
    → AreListedBefore (λ p. IsCandidate game c p) n points → 26 * (game.size + 1) ≤ n → AreCandidates game c points
candidates-listed game c n points g a end = record {
  each = listed-all game.size (λ p. IsCandidate game c p) n points (candidate-on game c g) a end;
  in_order = a.in_order;
}
