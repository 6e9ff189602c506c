use Rattle.go_board.proofs.game.Game.playout.Goals as goal

pub returns : goal.returns
returns g c =
    let p = c.play_on.ensures in
    record {
      order = c.empty_points-order.result;
      words = p.words;
      empty = c.empty_points-order.ensures.empty;
      given = p.given;
      playout = p.playout;
    }
