use Rattle.std.proofs.Common.{◌≡◌, ◌<◌, length, get_or, take, refl, sym, ap, ◌∙◌, arith, rules, w32, SFits}
use Rattle.std.proofs.lemmas.Int.{to_z-of_z}
use Rattle.std.proofs.lemmas.List.{length-map, set-get_or}
use Rattle.std.proofs.Math.ListN.{set}
use Rattle.vintsaky_calls.specs.Batches.{RollsOut}
use Rattle.vintsaky.specs.Games.{games_of}
use Rattle.vintsaky.proofs.ManyGames.{read_game, same_games, same_places, done_none, done_more, done_all}
use Rattle.vintsaky.proofs.games.each.rollouts.Goals as goal

pub loop-place-init : goal.loop-place-init
loop-place-init c =
    (refl, refl, done_none (RollsOut c.args.limit) (games_of c.args.games.now) c.args.seeds.now c.args.half_points.now)

pub loop-place-preserved : goal.loop-place-preserved
loop-place-preserved c =
    let place = c.loop-place.place in
    let games = games_of c.args.games.now in
    let game = c.get_mut.result.now in
    let seed = get_or c.args.seeds.now place 0 in
    let many = length-map c.args.games.now (λ h. h.value) in
    let below : place < length c.loop-place.games = omega (arith, c.loop-place.auto.games) in
    let is =
    read_game c.loop-place.games games place c.index-games-place.result game below c.loop-place.invariant.1
    c.get_mut.ensures.value in
    let stays : games ≡ set games place game = sym (ap (set games place) is ∙ set-get_or games place game) in
    let fits : SFits w32 c.rollout.result = search rules in
    let score = ap (set c.loop-place.half_points place) (to_z-of_z w32 c.rollout.result fits) in (
      same_places c.loop-place.games _ place c.index-games-place.result _ below c.loop-place.invariant.0 refl,
      same_games c.loop-place.games games place c.index-games-place.result _ below c.loop-place.invariant.1
          c.get_mut.ensures.value,
      done_more c.loop-place.invariant.2 games c.args.seeds.now _ game seed game c.rollout.result stays
          (sym (set-get_or c.args.seeds.now place 0)) score (omega (arith, many)) (omega arith) (omega arith) is
          (refl, c.rollout.ensures),
    )

pub returns : goal.returns
returns c =
    let many = length-map c.args.games.now (λ h. h.value) in
    let done = done_all c.loop-place.invariant.2 (omega (arith, many)) (omega (arith, many)) (omega (arith, many)) in
    record {
      call = record {
        scored = record {
          half_points = take (length (games_of c.args.games.now)) c.loop-place.half_points;
          enough = omega (arith, many);
          scored = done.each;
          written = done.seconds;
        };
        kept = tt;
        why = tt;
      };
      objects = c.loop-place.invariant.1;
      handles = c.loop-place.invariant.0;
    }
