use Rattle.std.proofs.Common.{◌+◌, ◌∙◌, ap, arith}
use Rattle.std.proofs.lemmas.Int.{ints}
use Rattle.go_base.specs.declared.colours.Colour.TheVariants.{Black, White}
use Rattle.go_board.specs.Game.{GameRecord}
use Rattle.go_board.proofs.scores.Areas.{score-from_areas}
use Rattle.go_board.proofs.scores.OpenPoints.{area-from}
use Rattle.go_board.proofs.game.Game.score_of.Goals as goal

pub returns : goal.returns
returns c game is komi =
    let black_stones = c.requires.few_black in
    let white_stones = c.requires.few_white in
    let black_points = c.open_area-open.ensures.black in
    let white_points = c.open_area-open.ensures.white in
    let least = c.half_points.ensures.limits.least in
    let most = c.half_points.ensures.limits.most in
    let opened = c.open_area-open.ensures.area in
    let areas =
    score-from_areas game c.args.board.now
    (c.args.black_stones + c.open_area-open.result.black)
    (c.args.white_stones + c.open_area-open.result.white) c.self.inside.komi
    is
    (area-from c.args.board.now Black c.args.black_stones c.open_area-open.result.black
    c.requires.black opened.black)
    (area-from c.args.board.now White c.args.white_stones c.open_area-open.result.white
    c.requires.white opened.white)
    (ap (λ (g : GameRecord). g.komi) c.self.view_is ∙ komi) in
    omega (arith, ints, areas, c.half_points.ensures.value)
