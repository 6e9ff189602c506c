use Rattle.std.proofs.Common.{◌+◌, ◌<◌, ◌≤◌, length, take, ap, refl, rules, arith}
use Rattle.std.proofs.lemmas.List.{length-map}
use Rattle.vintsaky.specs.Games.{games_of}
use Rattle.vintsaky.proofs.ManyGames.{in_games, read_game, same_games, same_places}
use Rattle.vintsaky.proofs.ManyGames.{shown_none, shown_more, shown_all, ends_within}
use Rattle.vintsaky.proofs.games.each.show_each.Goals as goal

pub loop-place-init : goal.loop-place-init
loop-place-init g c = (refl, refl, shown_none _ _ (games_of c.args.games.now) c.args.values.now)

pub overflow_add-at : goal.overflow_add-at
overflow_add-at g c =
    let end =
    ends_within c.loop-place.games c.index-games-place.result c.get_mut-game.result.now c.count-count.result
    c.loop-place.invariant.2 (omega (arith, c.loop-place.auto.games)) c.loop-place.invariant.1
    c.get_mut-game.ensures.value c.count-count.ensures c.requires in
    let fits : c.loop-place.at + c.count-count.result ≤ length c.loop-place.values = end in
    search rules

pub offset_bounds-values-at : goal.offset_bounds-values-at
offset_bounds-values-at g c =
    let end =
    ends_within c.loop-place.games c.index-games-place.result c.get_mut-game.result.now c.count-count.result
    c.loop-place.invariant.2 (omega (arith, c.loop-place.auto.games)) c.loop-place.invariant.1
    c.get_mut-game.ensures.value c.count-count.ensures c.requires in
    let fits : c.loop-place.at + c.count-count.result ≤ length c.loop-place.values = end in
    search rules

pub slice_bounds-show-end : goal.slice_bounds-show-end
slice_bounds-show-end g c =
    let end =
    ends_within c.loop-place.games c.index-games-place.result c.get_mut-game.result.now c.count-count.result
    c.loop-place.invariant.2 (omega (arith, c.loop-place.auto.games)) c.loop-place.invariant.1
    c.get_mut-game.ensures.value c.count-count.ensures c.requires in
    let fits : c.loop-place.at + c.count-count.result ≤ length c.loop-place.values = end in
    search rules

pub loop-place-preserved : goal.loop-place-preserved
loop-place-preserved g c =
    let place = c.loop-place.place in
    let handles = c.loop-place.games in
    let games = games_of c.args.games.now in
    let game = c.get_mut-game.result.now in
    let below : place < length handles = omega (arith, c.loop-place.auto.games) in
    let is =
    read_game handles games place c.index-games-place.result game below c.loop-place.invariant.1
    c.get_mut-game.ensures.value in (
      same_places handles _ place c.index-games-place.result _ below c.loop-place.invariant.0 refl,
      same_games handles games place c.index-games-place.result _ below c.loop-place.invariant.1
          c.get_mut-game.ensures.value,
      shown_more c.loop-place.invariant.2 _ _ game c.show.new.values
          (in_games handles games place below c.loop-place.invariant.1) is c.requires
          (ap (λ n. c.loop-place.at + n) c.count-count.ensures) (omega (arith, c.count-count.ensures))
          (omega (arith, c.show.auto.values)) c.show.ensures,
    )

pub returns : goal.returns
returns g c =
    let many = length-map c.args.games.now (λ h. h.value) in
    let done = shown_all c.loop-place.invariant.2 (omega (arith, many)) c.requires in
    record {
      shows = record {
        values = take c.loop-place.at c.loop-place.values;
        shows = done.shows;
        written = done.written;
      };
      objects = c.loop-place.invariant.1;
      handles = c.loop-place.invariant.0;
    }
