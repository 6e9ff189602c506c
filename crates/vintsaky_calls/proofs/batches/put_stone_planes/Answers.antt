use Rattle.std.proofs.Common.{refl}
use Rattle.go_base.specs.Colour.{other}
use Rattle.vintsaky_calls.proofs.Marks.{plane_of}
use Rattle.vintsaky_calls.proofs.batches.put_stone_planes.Goals as goal

pub returns : goal.returns
returns g c =
    let stones = c.board_into.new.stones.items in
    record {
      own = c.put_plane.new.values;
      others = c.put_plane-2.new.values;
      own_is = plane_of c.args.zero c.args.one c.args.game.now c.args.colour c.args.colour stones c.deref.result.now _
          c.board_into.ensures refl c.deref.ensures.0 c.put_plane.ensures;
      others_is = plane_of c.args.zero c.args.one c.args.game.now (other c.args.colour) c.other.result stones
          c.deref-2.result.now _ c.board_into.ensures c.other.ensures c.deref-2.ensures.0 c.put_plane-2.ensures;
      values_are = refl;
    }
