use Rattle.std.proofs.Common.{◌≡◌, rules}
use Rattle.go_board.specs.Board.{at, stone}
use Rattle.go_board.proofs.playouts.PlayoutPlays.{atari-test}
use Rattle.go_board.proofs.chains.Chains.is_in_atari.Goals as goal

pub returns-then-eq : goal.returns-then-eq
returns-then-eq c =
    let held : at c.args.self.now c.args.place ≡ stone c.args.colour = search rules in
    atari-test c.args.self.now _ c.args.colour c.args.point c.args.place c.has_other_liberty.result c.self.view_is held
    c.has_other_liberty.ensures
