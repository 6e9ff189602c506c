use Rattle.std.proofs.Common.{◌≡◌}
use Rattle.vintsaky_calls.specs.Batches.{Restarts}
use Rattle.vintsaky.specs.Games.{games_of, places_of}
use Rattle.vintsaky.proofs.ManyGames.{AreDone}
use Rattle.vintsaky.proofs.games.each.restart.Given as goal

-- the handles keep their memory; the games before this place were looked at, and their outcomes are written
abbrev pub invariant-loop-place : goal.invariant-loop-place
invariant-loop-place l =
    (places_of l.games ≡ places_of l.initial.games)
    × AreDone (Restarts l.limit) l.place (games_of l.initial.games) (games_of l.games) l.initial.over l.over
    l.initial.half_points l.half_points
