use Rattle.vintsaky_calls.proofs.EarlierBoards.{only_planes}
use Rattle.vintsaky_calls.proofs.batches.put_planes.Goals as goal

pub returns-then-earlier-eq0 : goal.returns-then-earlier-eq0
returns-then-earlier-eq0 g c = record {
  c = c.turn_of-colour.result;
  turn = c.turn_of-colour.ensures;
  planes = only_planes c.args.zero c.args.one c.args.game.now c.turn_of-colour.result c.args.earlier
      c.put_stone_planes.new.values c.if-earlier-eq0.true c.put_stone_planes.ensures;
}
