use Rattle.go_board.proofs.records.GameFields.{IsKept-komi}
use Rattle.go_board.proofs.game.Game.set_komi.Goals as goal

pub invariant_of-self : goal.invariant_of-self
invariant_of-self c = IsKept-komi c.self.inside c.args.komi c.half_points.ensures.limits c.self.invariant
