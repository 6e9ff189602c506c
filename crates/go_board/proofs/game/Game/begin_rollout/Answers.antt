use Rattle.std.proofs.Common.{◌≡◌, ◌∙◌, ap, subst, length}
use Rattle.go_board.specs.Game.{GameRecord, IsGame, board_of}
use Rattle.go_board.proofs.game.Game.begin_rollout.Goals as goal

pub returns-clause-kept : goal.returns-clause-kept
returns-clause-kept c = record {
  game_is = subst IsGame c.self.view_is c.self.invariant.game;
  simple = c.requires;
  board_is = c.copy-board.ensures
      ∙ subst (λ (g : GameRecord). c.self.inside.chains ≡ board_of g) c.self.view_is c.self.invariant.board_is;
  order_is = c.empty_points-order.ensures.order;
  ko_is = c.ko_place-ko.ensures;
  passed_is = c.last_is_pass-passed.ensures;
  finished_is = c.finished-finished.ensures.passes;
  moves_is = c.len-moves.ensures.value ∙ ap (λ (g : GameRecord). length g.moves) c.self.view_is;
}

pub returns-clause-empty : goal.returns-clause-empty
returns-clause-empty c = c.empty_points-order.ensures.empty
