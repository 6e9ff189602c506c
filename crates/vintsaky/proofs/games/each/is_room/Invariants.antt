use Rattle.std.proofs.Common.{◌≡◌, ◌+◌, take}
use Rattle.std.specs.List.{sum_by}
use Rattle.vintsaky_calls.specs.Batches.{shown_count}
use Rattle.vintsaky.specs.Games.{games_of, places_of}
use Rattle.vintsaky.proofs.games.each.is_room.Given as goal

-- the handles keep their memory; the games before this place take the room that isn't left
abbrev pub invariant-loop-place : goal.invariant-loop-place
invariant-loop-place l =
    (places_of l.games ≡ places_of l.initial.games)
    × (games_of l.games ≡ games_of l.initial.games)
    × (l.left + sum_by (shown_count l.shown) (take l.place (games_of l.initial.games)) ≡ l.room)
