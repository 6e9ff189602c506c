use Rattle.std.proofs.Common.{ℕ, List, ◌++◌, take, min, ◌+◌, ◌≤◌, arith, ap, length, subst, ◌∙◌}
use Rattle.gtp_world.specs.Kinds.{Feeds, FeedsFront, written_at}
use Rattle.gtp_world.specs.World.{most_to_controller}
use Rattle.gtp_world.specs.private.Room.{WritesWithin}
use Rattle.gtp_world.proofs.ruled.FeedLemmas.{reply_room, fed_into}
use Rattle.gtp_world.proofs.stepped.KoRuleEngines.deliver.Goals as goal

pub push-requires : goal.push-requires
push-requires c =
    let by = c.min-given.ensures ∙ ap (λ (n : ℕ). min c.args.count n) c.len.ensures.value in
    let feeds =
    subst (λ (w : List ℕ). Feeds c.args.engine.now (take c.min-given.result w) c.feed-fed.result c.feed-fed.new.steps)
    c.as_slice.ensures.value c.feed-fed.ensures in
    let room : WritesWithin (FeedsFront c.args.count) c.args.engine.now c.args.to_engine.now.items
    c.args.to_controller.now.items =
    c.requires in
    let fits : length c.args.to_controller.now.items
    + length (written_at c.feed-fed.result.event c.feed-fed.new.steps) ≤ most_to_controller =
    reply_room c.args.to_engine.now.items c.args.to_controller.now.items c.args.count c.min-given.result
    c.args.engine.now c.feed-fed.new.steps c.feed-fed.result by feeds room in
    omega (arith, fits, ap length c.written.ensures)

pub returns : goal.returns
returns c =
    let by = c.min-given.ensures ∙ ap (λ (n : ℕ). min c.args.count n) c.len.ensures.value in
    let feeds =
    subst (λ (w : List ℕ). Feeds c.args.engine.now (take c.min-given.result w) c.feed-fed.result c.feed-fed.new.steps)
    c.as_slice.ensures.value c.feed-fed.ensures in
    let out = c.push.ensures.bytes ∙ ap (λ (w : List ℕ). c.args.to_controller.now.items ++ w) c.written.ensures in
    fed_into c.args.to_engine.now.items c.args.to_controller.now.items c.args.count c.min-given.result
    c.args.engine.now c.feed-fed.new.steps c.feed-fed.result by feeds c.cut_front.new.list.items c.push.new.text.items
    c.cut_front.ensures out
