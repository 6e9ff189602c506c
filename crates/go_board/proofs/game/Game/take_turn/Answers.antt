use Rattle.std.proofs.Common.{◌≡◌, ◌-◌, ◌<◌, ◌^◌, ℕ, length, refl, sym, ◌∙◌, ap, subst, arith}
use Rattle.std.proofs.lemmas.List.Edits.{length-swap}
use Rattle.std.proofs.lemmas.Option.{slice_get_within}
use Rattle.go_board.specs.Game.{GameRecord, HasRoom, board_of}
use Rattle.go_board.specs.private.Playouts.{IsOrderOf, AreDrawn}
use Rattle.go_board.proofs.drawing.Orders.{order-swap, order-empty, contains-got, played-in, played-moved, room-turn, order-turn}
use Rattle.go_board.proofs.drawing.Turns.{drawn-on, turn-played, turn-passed, pass-made, order-passed}
use Rattle.go_board.proofs.game.Game.take_turn.Goals as goal

pub loop-left-init : goal.loop-left-init
loop-left-init g c =
    let long = c.len-left.ensures.value in
    record {
      same = refl;
      order = c.requires.order;
      few = omega (arith, long);
      most = c.len-left.ensures.few;
      rest = λ v left new d.
          subst (λ (n : ℕ). AreDrawn g.W.Words.gives c.args.self.now c.args.colour n c.args.order.now c.args.words.now v
          left new) long d;
    }

pub loop-left-preserved : goal.loop-left-preserved
loop-left-preserved g c =
    let kept = c.loop-left.invariant in
    let not_played = c.if-play_candidate.ensures in
    let some : 0 < c.loop-left.left = c.loop-left-test.true in
    let word = c.next_word.type_inv in
    let fits : c.next_word.result < 2 ^ 64 = omega (arith, word) in
    let few = kept.few in
    let most = kept.most in
    let long : length c.exchange.new.self ≡ length c.loop-left.order =
    ap length c.exchange.ensures ∙ length-swap c.loop-left.order c.draw-index.result (c.loop-left.left - 1) in
    record {
      same = not_played.same ∙ kept.same;
      order = subst (IsOrderOf (board_of c.args.self.now)) (sym c.exchange.ensures)
          (order-swap (board_of c.args.self.now) c.loop-left.order c.draw-index.result (c.loop-left.left - 1)
          (slice_get_within c.loop-left.order c.draw-index.result c.get-place.result c.get-place.ensures)
          (omega (arith, few, some)) kept.order);
      few = omega (arith, few, long);
      most = omega (arith, most);
      rest = drawn-on g.W.Words.gives c.args.self.now c.loop-left.self c.args.colour (length c.args.order.now)
          c.args.order.now c.args.words.now c.loop-left.left c.draw-index.result c.next_word.result c.get-place.result
          c.loop-left.order c.exchange.new.self c.loop-left.words c.next_word.new.self kept.rest c.next_word.ensures
          fits some c.draw-index.ensures.place c.get-place.ensures not_played.none kept.same c.exchange.ensures;
    }

pub play_candidate-requires : goal.play_candidate-requires
play_candidate-requires g c =
    let kept = c.loop-left.invariant in
    record {
      room = subst HasRoom (sym kept.same) c.requires.room;
      empty = order-empty (board_of c.loop-left.self) c.loop-left.order c.get-place.result
          (subst (λ (game : GameRecord). IsOrderOf (board_of game) c.loop-left.order) (sym kept.same) kept.order)
          (contains-got c.loop-left.order c.draw-index.result c.get-place.result c.get-place.ensures);
    }

pub push_taken-requires-clause-room : goal.push_taken-requires-clause-room
push_taken-requires-clause-room g c =
    let kept = c.loop-left.invariant in
    room-turn c.args.self.now c.play_candidate.new.self c.args.colour c.get-place.result c.remove.result
    c.draw-index.result c.loop-left.order c.remove.new.self c.requires.game c.requires.room kept.order
    c.get-place.ensures
    (played-in c.args.self.now c.loop-left.self c.play_candidate.new.self c.args.colour c.get-place.result kept.same
    (c.if-play_candidate.ensures))
    c.remove.ensures.place c.remove.ensures.left

pub push_taken-requires-clause-moved : goal.push_taken-requires-clause-moved
push_taken-requires-clause-moved g c =
    played-moved c.loop-left.self c.play_candidate.new.self c.args.colour c.get-place.result
    (c.if-play_candidate.ensures)

pub returns-then-play_candidate : goal.returns-then-play_candidate
returns-then-play_candidate g c =
    let kept = c.loop-left.invariant in
    let played = played-in c.args.self.now c.loop-left.self c.play_candidate.new.self c.args.colour c.get-place.result
    kept.same (c.if-play_candidate.ensures) in
    let word = c.next_word.type_inv in
    let fits : c.next_word.result < 2 ^ 64 = omega (arith, word) in
    record {
      turn = turn-played g.W.Words.gives c.args.self.now c.play_candidate.new.self c.args.colour c.args.order.now
          c.loop-left.order c.remove.new.self c.push_taken.new.order c.args.words.now c.loop-left.words
          c.next_word.new.self c.loop-left.left c.draw-index.result c.next_word.result c.get-place.result
          c.remove.result kept.rest c.next_word.ensures fits c.loop-left-test.true c.draw-index.ensures.place
          c.get-place.ensures played c.remove.ensures.place c.remove.ensures.left c.push_taken.ensures;
      order = order-turn c.args.self.now c.play_candidate.new.self c.args.colour c.get-place.result c.remove.result
          c.draw-index.result c.loop-left.order c.remove.new.self c.push_taken.new.order kept.order c.get-place.ensures
          played c.remove.ensures.place c.remove.ensures.left c.push_taken.ensures;
    }

pub returns : goal.returns
returns g c =
    let kept = c.loop-left.invariant in
    let passed = pass-made c.loop-left.self c.play.new.self c.args.colour c.play.result
    (subst HasRoom (sym kept.same) c.requires.room) c.play.ensures.played c.play.ensures.answer in
    record {
      turn = turn-passed g.W.Words.gives c.args.self.now c.loop-left.self c.play.new.self c.args.colour c.args.order.now
          c.loop-left.order c.args.words.now c.loop-left.words c.loop-left.left kept.rest c.loop-left-test.false kept.same
          passed;
      order = order-passed c.args.self.now c.loop-left.self c.play.new.self c.args.colour c.loop-left.order kept.order
          kept.same passed;
    }
