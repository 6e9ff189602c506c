use Rattle.std.proofs.Common.{subst, ◌∙◌, rules}
use Rattle.std.proofs.lemmas.Int.{to_z-of_z}
use mir.Val.{SFits}
use mir.Syntax.{w32}
use Rattle.go_board.specs.Game.{GameRecord}
use Rattle.go_board.specs.Playouts.{IsPlayedOut}
use Rattle.go_board.proofs.game.Game.rollout_by_copy.Goals as goal

pub returns : goal.returns
returns g c =
    let fits : SFits w32 c.score.result = search rules in
    record {
      after = c.playout.new.self;
      playout = subst (λ (game : GameRecord). IsPlayedOut g.W.Words.gives game c.args.colour c.args.limit
          c.args.words.now c.playout.new.self c.playout.new.words) c.copy_from.ensures c.playout.ensures;
      result_is = to_z-of_z w32 c.score.result fits ∙ c.score.ensures;
    }
