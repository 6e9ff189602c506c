use Rattle.std.proofs.Common.{◌∙◌, ap, sym, rules}
use Rattle.std.proofs.lemmas.Int.{to_z-of_z}
use mir.Val.{SFits}
use mir.Syntax.{w32}
use Rattle.go_board.specs.Game.{GameRecord}
use Rattle.go_board.proofs.drawing.Rollouts.{playout-komi}
use Rattle.go_board.proofs.game.Game.rollout.Goals as goal

pub begin_rollout-rollout-requires : goal.begin_rollout-rollout-requires
begin_rollout-rollout-requires g c = sym (ap (λ (r : GameRecord). r.rule) c.self.view_is) ∙ c.in-Simple.is

pub play_on-requires : goal.play_on-requires
play_on-requires g c = (c.args.self.now, c.begin_rollout-rollout.ensures.kept)

pub returns-in-Simple : goal.returns-in-Simple
returns-in-Simple g c =
    let fits : SFits w32 c.score_of.result = search rules in
    let p = c.play_on.ensures c.args.self.now c.begin_rollout-rollout.ensures.kept in
    record {
      after = p.after;
      playout = record {
        order = c.begin_rollout-rollout.result.order;
        words = p.playout.words;
        empty = c.begin_rollout-rollout.ensures.empty;
        given = p.playout.given;
        playout = p.playout.playout;
      };
      result_is = to_z-of_z w32 c.score_of.result fits
          ∙ c.score_of.ensures p.after (c.board.ensures ∙ p.board_is) (sym (playout-komi p.playout.playout));
    }
