use Rattle.std.proofs.Common.{◌≡◌, ◌*◌, take}
use Rattle.vintsaky_calls.specs.Batches.{ArePlanesOf}
use Rattle.vintsaky_calls.proofs.EarlierBoards.{ago_of}
use Rattle.vintsaky_calls.proofs.batches.put_earlier_planes.Given as goal

-- the planes of so many boards are there, and the copy is the game of as many moves ago
abbrev pub invariant-loop-ago : goal.invariant-loop-ago
invariant-loop-ago g l =
    (l.before ≡ ago_of l.ago l.game)
    × ArePlanesOf l.zero l.one l.game l.colour l.ago (take (l.ago * l.count) l.values)
