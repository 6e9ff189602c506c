use Rattle.std.proofs.Common.{◌<◌, length, refl, arith}
use Rattle.std.proofs.lemmas.Bool.{false≢true}
use Rattle.vintsaky_calls.specs.Batches.{shown_count}
use Rattle.vintsaky.specs.Games.{games_of}
use Rattle.vintsaky.proofs.ManyGames.{in_games, read_game, same_games, same_places, sum_more, sum_fits}
use Rattle.vintsaky.proofs.games.each.is_room.Goals as goal

pub loop-place-preserved : goal.loop-place-preserved
loop-place-preserved c =
    let place = c.loop-place.place in
    let handles = c.loop-place.games in
    let games = games_of c.args.games.now in
    let game = c.get_mut.result.now in
    let below : place < length handles = omega (arith, c.loop-place.auto.games) in
    let is =
    read_game handles games place c.index-games-place.result game below c.loop-place.invariant.1
    c.get_mut.ensures.value in
    let sum =
    sum_more (shown_count c.args.shown) games place game
    (in_games handles games place below c.loop-place.invariant.1) is in (
      same_places c.loop-place.games _ place c.index-games-place.result _ below c.loop-place.invariant.0 refl,
      same_games handles games place c.index-games-place.result _ below c.loop-place.invariant.1
          c.get_mut.ensures.value,
      omega (arith, sum, c.count-count.ensures, c.loop-place.invariant.2),
    )

pub returns-then-left-count-clause-enough : goal.returns-then-left-count-clause-enough
returns-then-left-count-clause-enough c =
    let place = c.loop-place.place in
    let handles = c.loop-place.games in
    let games = games_of c.args.games.now in
    let game = c.get_mut.result.now in
    let below : place < length handles = omega (arith, c.loop-place.auto.games) in
    let is =
    read_game handles games place c.index-games-place.result game below c.loop-place.invariant.1
    c.get_mut.ensures.value in
    let fits =
    sum_fits (shown_count c.args.shown) games place game
    (in_games handles games place below c.loop-place.invariant.1) is in (
      λ e. absurd (false≢true e),
      λ enough. absurd (omega (arith, fits, enough, c.count-count.ensures, c.loop-place.invariant.2)),
    )

pub returns-then-left-count-clause-objects : goal.returns-then-left-count-clause-objects
returns-then-left-count-clause-objects c =
    same_games c.loop-place.games _ c.loop-place.place c.index-games-place.result _
    (omega (arith, c.loop-place.auto.games)) c.loop-place.invariant.1 c.get_mut.ensures.value

pub returns-then-left-count-clause-handles : goal.returns-then-left-count-clause-handles
returns-then-left-count-clause-handles c =
    same_places c.loop-place.games _ c.loop-place.place c.index-games-place.result _
    (omega (arith, c.loop-place.auto.games)) c.loop-place.invariant.0 refl
