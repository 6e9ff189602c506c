use Rattle.std.proofs.Common.{subst, sym, rules}
use Rattle.std.proofs.lemmas.Int.{to_z-of_z}
use mir.Val.{SFits}
use mir.Syntax.{w32}
use Rattle.go_playouts.specs.Seeded.{IsSeededRollout}
use Rattle.go_playouts.proofs.FirstWords.{seeded_score}
use Rattle.go_playouts.proofs.seeded.rollout.Goals as goal

pub returns : goal.returns
returns c =
    let fits : SFits w32 c.rollout.result = search rules in
    subst (IsSeededRollout c.args.game.now c.args.colour c.args.seed c.args.limit)
    (sym (to_z-of_z w32 c.rollout.result fits))
    (seeded_score c.args.game.now c.args.colour c.args.seed c.args.limit c.new-words.result c.rollout.result
    c.rollout.new.words c.new-words.ensures c.rollout.ensures)
