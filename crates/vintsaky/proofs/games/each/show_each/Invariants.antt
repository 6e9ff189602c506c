use Rattle.std.proofs.Common.{◌≡◌}
use Rattle.vintsaky_calls.specs.Batches.{IsShown, shown_count}
use Rattle.vintsaky.specs.Games.{games_of, places_of}
use Rattle.vintsaky.proofs.ManyGames.{AreShown}
use Rattle.vintsaky.proofs.games.each.show_each.Given as goal

-- the handles keep their memory; the games stay, and those before this place are shown
abbrev pub invariant-loop-place : goal.invariant-loop-place
invariant-loop-place g l =
    (places_of l.games ≡ places_of l.initial.games)
    × (games_of l.games ≡ games_of l.initial.games)
    × AreShown (IsShown l.zero l.one l.shown) (shown_count l.shown) l.place (games_of l.initial.games) l.at
    l.initial.values l.values
