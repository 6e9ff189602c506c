use Rattle.std.proofs.Common.{◌<◌, length, get_or, take, refl, sym, ◌∙◌, arith}
use Rattle.std.proofs.lemmas.List.{map-set, length-map, set-get_or, get_or-map}
use Rattle.vintsaky_calls.specs.Batches.{PlaysNumber}
use Rattle.vintsaky.specs.Games.{games_of}
use Rattle.vintsaky.proofs.ManyGames.{same_places, done_none, done_more, done_all}
use Rattle.vintsaky.proofs.games.each.play.Goals as goal

pub loop-place-init : goal.loop-place-init
loop-place-init c = (refl, done_none PlaysNumber (games_of c.args.games.now) c.args.moves.now c.args.causes.now)

pub loop-place-preserved : goal.loop-place-preserved
loop-place-preserved c =
    let place = c.loop-place.place in
    let games = c.loop-place.games in
    let before = c.get_mut.result.now in
    let number = get_or c.args.moves.now place 0 in
    let many = length-map c.args.games.now (λ h. h.value) in
    let below : place < length games = omega (arith, c.loop-place.auto.games) in (
      same_places games _ place c.index-games-place.result _ below c.loop-place.invariant.0 refl,
      done_more c.loop-place.invariant.1 _ c.args.moves.now _ before number c.play.new.game c.play.result
          (map-set (λ h. h.value) games place _) (sym (set-get_or c.args.moves.now place 0)) refl
          (omega (arith, many)) (omega arith) (omega arith)
          (c.get_mut.ensures.value
          ∙ sym (get_or-map (λ h. h.value) games place c.index-games-place.result before below))
          c.play.ensures,
    )

pub returns : goal.returns
returns c =
    let many = length-map c.args.games.now (λ h. h.value) in
    let done = done_all c.loop-place.invariant.1 (omega (arith, many)) (omega (arith, many)) (omega (arith, many)) in
    record {
      call = record {
        played = record {
          causes = take (length (games_of c.args.games.now)) c.loop-place.causes;
          enough = omega (arith, many);
          played = done.each;
          written = done.seconds;
        };
        kept = tt;
        why = tt;
      };
      handles = c.loop-place.invariant.0;
    }
