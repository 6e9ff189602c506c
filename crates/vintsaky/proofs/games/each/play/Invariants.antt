use Rattle.std.proofs.Common.{◌≡◌}
use Rattle.vintsaky_calls.specs.Batches.{PlaysNumber}
use Rattle.vintsaky.specs.Games.{games_of, places_of}
use Rattle.vintsaky.proofs.ManyGames.{AreDone}
use Rattle.vintsaky.proofs.games.each.play.Given as goal

-- the handles keep their memory; the games before this place have made their moves, and their causes are written
abbrev pub invariant-loop-place : goal.invariant-loop-place
invariant-loop-place l =
    (places_of l.games ≡ places_of l.initial.games)
    × AreDone PlaysNumber l.place (games_of l.initial.games) (games_of l.games) l.moves l.moves l.initial.causes
    l.causes
