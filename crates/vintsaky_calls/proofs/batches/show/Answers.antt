use Rattle.std.proofs.Common.{sym, subst}
use Rattle.vintsaky_calls.specs.Batches.{IsShown}
use Rattle.vintsaky_calls.specs.declared.batches.Shown.{Shown}
use Rattle.vintsaky_calls.proofs.batches.show.Goals as goal

pub returns-in-Planes : goal.returns-in-Planes
returns-in-Planes g c =
    subst (λ (s : Shown). IsShown c.args.zero c.args.one s c.args.game.now c.put_planes.new.values)
    (sym c.in-Planes.is) c.put_planes.ensures

pub returns-in-Mask : goal.returns-in-Mask
returns-in-Mask g c =
    subst (λ (s : Shown). IsShown c.args.zero c.args.one s c.args.game.now c.put_mask.new.values)
    (sym c.in-Mask.is) c.put_mask.ensures
