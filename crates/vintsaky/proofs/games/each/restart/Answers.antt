use Rattle.std.proofs.Common.{◌<◌, length, take, refl, sym, ap, ◌∙◌, arith, rules, w32, SFits}
use Rattle.std.proofs.Math.ListN.{set}
use Rattle.std.proofs.lemmas.Int.{to_z-of_z}
use Rattle.std.proofs.lemmas.List.{map-set, length-map, get_or-map}
use Rattle.vintsaky_calls.specs.Batches.{Restarts}
use Rattle.vintsaky.specs.Games.{games_of}
use Rattle.vintsaky.proofs.ManyGames.{same_places, done_none, done_more, done_all}
use Rattle.vintsaky.proofs.games.each.restart.Goals as goal

pub loop-place-init : goal.loop-place-init
loop-place-init c =
    (refl, done_none (Restarts c.args.limit) (games_of c.args.games.now) c.args.over.now c.args.half_points.now)

pub loop-place-preserved : goal.loop-place-preserved
loop-place-preserved c =
    let place = c.loop-place.place in
    let games = c.loop-place.games in
    let before = c.get_mut.result.now in
    let outcome = c.restart-outcome.result in
    let many = length-map c.args.games.now (λ h. h.value) in
    let below : place < length games = omega (arith, c.loop-place.auto.games) in
    let fits : SFits w32 outcome.half_points = search rules in
    let score = ap (set c.loop-place.half_points place) (to_z-of_z w32 outcome.half_points fits) in (
      same_places games _ place c.index-games-place.result _ below c.loop-place.invariant.0 refl,
      done_more c.loop-place.invariant.1 _ _ _ before outcome.over c.restart-outcome.new.game outcome.half_points
          (map-set (λ h. h.value) games place _) refl score (omega (arith, many)) (omega arith) (omega arith)
          (c.get_mut.ensures.value
          ∙ sym (get_or-map (λ h. h.value) games place c.index-games-place.result before below))
          c.restart-outcome.ensures,
    )

pub returns : goal.returns
returns c =
    let count = length (games_of c.args.games.now) in
    let many = length-map c.args.games.now (λ h. h.value) in
    let done = done_all c.loop-place.invariant.1 (omega (arith, many)) (omega (arith, many)) (omega (arith, many)) in
    record {
      call = record {
        restarted = record {
          over = take count c.loop-place.over;
          half_points = take count c.loop-place.half_points;
          restarted = done.each;
          over_written = done.firsts;
          half_points_written = done.seconds;
        };
        kept = tt;
        why = tt;
      };
      handles = c.loop-place.invariant.0;
    }
