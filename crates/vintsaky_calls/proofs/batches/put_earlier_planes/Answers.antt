use Rattle.std.proofs.Common.{◌≡◌, ℕ, ◌*◌, ◌+◌, ◌≤◌, length, take, sym, ap, ◌∙◌, subst, arith}
use Rattle.std.proofs.lemmas.Grind.{common_steps}
use Rattle.std.proofs.lemmas.List.{take_all}
use Rattle.go_board.specs.Game.{GameRecord, without_last}
use Rattle.vintsaky_calls.specs.Batches.{ArePlanesOf, AreEarlierPlanes}
use Rattle.vintsaky_calls.proofs.EarlierBoards.{none_ago, one_more_ago, no_planes, ends_within, part_long}
use Rattle.vintsaky_calls.proofs.EarlierBoards.{earlier_planes, one_board_more}
use Rattle.vintsaky_calls.proofs.batches.put_earlier_planes.Goals as goal

-- how many values there are, by the size as a number
counted : (size got earlier long : ℕ) (is : ℕ) → long ≡ (1 + earlier) * (2 * (is * is)) → got ≡ size → size ≡ is
    → long ≡ (1 + earlier) * (2 * (got * got))
counted size got earlier long is e f h = e ∙ ap (λ n. (1 + earlier) * (2 * (n * n))) (sym (f ∙ h))

pub loop-ago-init : goal.loop-ago-init
loop-ago-init g c = (
  c.copied-before.ensures ∙ none_ago c.args.game.now,
  no_planes (2 * (c.get-size.result * c.get-size.result)) c.args.values.now,
)

pub put_board-requires : goal.put_board-requires
put_board-requires g c =
    let size = c.get-size.result in
    let count = 2 * (size * size) in
    let is : size ≡ c.args.game.now.size = c.get-size.ensures.value ∙ c.size.ensures.size in
    let sized : count ≡ 2 * (c.args.game.now.size * c.args.game.now.size) = ap (λ n. 2 * (n * n)) is in
    let all : length c.args.values.now ≡ (1 + c.args.earlier) * count =
    counted _ _ _ _ _ c.requires c.get-size.ensures.value c.size.ensures.size in
    let within = ends_within c.loop-ago.ago c.args.earlier count c.loop-ago-test.true in
    part_long (c.loop-ago.ago * count) count c.loop-ago.values (omega (arith, within, all, c.loop-ago.auto.values))
    ∙ sized ∙ ap (λ (b : GameRecord). 2 * (b.size * b.size)) (sym c.loop-ago.invariant.0)

pub loop-ago-preserved : goal.loop-ago-preserved
loop-ago-preserved g c =
    let size = c.get-size.result in
    let count = 2 * (size * size) in
    let ago = c.loop-ago.ago in
    let before = c.loop-ago.before in
    let game = c.args.game.now in
    let part = c.put_board.new.values in
    let all : length c.args.values.now ≡ (1 + c.args.earlier) * count =
    counted _ _ _ _ _ c.requires c.get-size.ensures.value c.size.ensures.size in
    let within = ends_within ago c.args.earlier count c.loop-ago-test.true in
    let room : ago * count + count ≤ length c.loop-ago.values = omega (arith, within, all, c.loop-ago.auto.values) in
    let long : length part ≡ count = c.put_board.auto.values ∙ part_long (ago * count) count c.loop-ago.values room in
    let next : AreEarlierPlanes c.args.zero c.args.one game c.args.colour ago part =
    earlier_planes c.args.zero c.args.one game before c.args.colour ago (length c.moves-moves.result.now) part
    c.loop-ago.invariant.0 (ap length c.moves-moves.ensures.moves) c.put_board.ensures.there
    c.put_board.ensures.empty in
    let undone : c.undo.new.self ≡ without_last before = grind (arith, common_steps) in (
      undone ∙ ap without_last c.loop-ago.invariant.0 ∙ one_more_ago game ago,
      one_board_more count _ c.loop-ago.values part c.loop-ago.invariant.1 next long (omega (arith, room)),
    )

pub returns : goal.returns
returns g c =
    let size = c.get-size.result in
    let count = 2 * (size * size) in
    let all : length c.args.values.now ≡ (1 + c.args.earlier) * count =
    counted _ _ _ _ _ c.requires c.get-size.ensures.value c.size.ensures.size in
    let end : c.loop-ago.ago ≡ 1 + c.args.earlier = omega (arith, c.loop-ago.auto.ago-end, c.loop-ago-test.false) in
    let whole : take (c.loop-ago.ago * count) c.loop-ago.values ≡ c.loop-ago.values =
    take_all (c.loop-ago.ago * count) c.loop-ago.values
    (omega (arith, ap (λ n. n * count) end, all, c.loop-ago.auto.values)) in
    subst (λ n. ArePlanesOf c.args.zero c.args.one c.args.game.now c.args.colour n c.loop-ago.values) end
    (subst (λ l. ArePlanesOf c.args.zero c.args.one c.args.game.now c.args.colour c.loop-ago.ago l) whole
    c.loop-ago.invariant.1)
