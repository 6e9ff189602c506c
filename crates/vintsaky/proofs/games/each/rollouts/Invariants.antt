use Rattle.std.proofs.Common.{◌≡◌}
use Rattle.vintsaky_calls.specs.Batches.{RollsOut}
use Rattle.vintsaky.specs.Games.{games_of, places_of}
use Rattle.vintsaky.proofs.ManyGames.{AreDone}
use Rattle.vintsaky.proofs.games.each.rollouts.Given as goal

-- the handles keep their memory; the games stay, and the scores of those before this place are written
abbrev pub invariant-loop-place : goal.invariant-loop-place
invariant-loop-place l =
    (places_of l.games ≡ places_of l.initial.games)
    × (games_of l.games ≡ games_of l.initial.games)
    × AreDone (RollsOut l.limit) l.place (games_of l.initial.games) (games_of l.initial.games) l.seeds l.seeds
    l.initial.half_points l.half_points
