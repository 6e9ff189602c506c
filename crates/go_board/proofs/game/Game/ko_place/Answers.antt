use Rattle.go_board.proofs.drawing.Rollouts.{ko-place, no-ko_place}
use Rattle.go_board.proofs.game.Game.ko_place.Goals as goal

pub returns-in-Some : goal.returns-in-Some
returns-in-Some c =
    ko-place c.args.self.now c.args.colour c.in-Some.point c.place_of.result c.in-Some.ensures.point
    c.place_of.ensures.value

pub returns-in-None : goal.returns-in-None
returns-in-None c = no-ko_place c.args.self.now c.args.colour c.in-None.ensures.point
