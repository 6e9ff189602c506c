use Rattle.std.proofs.Common.{◌≡◌, ◌-◌, ◌<◌, ◌^◌, ℕ, length, refl, sym, ◌∙◌, ap, subst, arith}
use Rattle.std.proofs.lemmas.Bool.{false≢true}
use Rattle.std.proofs.lemmas.List.Edits.{length-swap}
use Rattle.std.proofs.lemmas.Option.{slice_get_within}
use Rattle.std.specs.List.{swap_remove}
use Rattle.go_base.specs.declared.vertices.Vertex.TheVariants.{Pass, At}
use Rattle.go_board.specs.Game.{with_move}
use Rattle.go_board.specs.private.Playouts.{AreDrawn}
use Rattle.go_board.proofs.drawing.Rollouts.{scratch-empty, scratch-swapped, with-taken}
use Rattle.go_board.proofs.drawing.Scratches.{scratch-passed}
use Rattle.go_board.proofs.drawing.Turns.{drawn-on, turn-played, turn-passed}
use Rattle.go_board.proofs.rollout.Rollout.take_turn.Goals as goal

pub loop-left-init : goal.loop-left-init
loop-left-init g c =
    let long = c.len-left.ensures.value in
    record {
      few = omega (arith, long);
      most = c.len-left.ensures.few;
      kept = λ game kept. kept;
      rest = λ game kept v left new d.
          subst (λ (n : ℕ). AreDrawn g.W.Words.gives game c.args.colour n c.args.self.now.order c.args.words.now v
          left new) long d;
    }

pub is_candidate-requires-clause-kept : goal.is_candidate-requires-clause-kept
is_candidate-requires-clause-kept g c = (c.requires.0, c.loop-left.invariant.kept c.requires.0 c.requires.1)

pub is_candidate-requires-clause-empty : goal.is_candidate-requires-clause-empty
is_candidate-requires-clause-empty g c =
    scratch-empty c.draw-index.result c.get-place.result (c.loop-left.invariant.kept c.requires.0 c.requires.1)
    c.get-place.ensures

pub play-requires : goal.play-requires
play-requires g c =
    let kept = c.loop-left.invariant.kept c.requires.0 c.requires.1 in
    record {
      game = c.requires.0;
      point = c.get-place.result;
      kept = kept;
      room = c.requires.2;
      drawn = c.get-place.ensures;
      candidate = (c.is_candidate.ensures c.requires.0 kept).0 c.if-is_candidate.true;
    }

pub loop-left-preserved : goal.loop-left-preserved
loop-left-preserved g c =
    let i = c.loop-left.invariant in
    let some : 0 < c.loop-left.left = c.loop-left-test.true in
    let word = c.next_word.type_inv in
    let fits : c.next_word.result < 2 ^ 64 = omega (arith, word) in
    let few = i.few in
    let most = i.most in
    let within = slice_get_within c.loop-left.self.order c.draw-index.result c.get-place.result c.get-place.ensures in
    let long : length c.exchange.new.self ≡ length c.loop-left.self.order =
    ap length c.exchange.ensures ∙ length-swap c.loop-left.self.order c.draw-index.result (c.loop-left.left - 1) in
    record {
      few = omega (arith, few, long);
      most = omega (arith, most);
      kept = λ game kept.
          scratch-swapped c.draw-index.result (c.loop-left.left - 1) c.exchange.new.self (i.kept game kept) within
          (omega (arith, few, some)) c.exchange.ensures;
      rest = λ game kept.
          drawn-on g.W.Words.gives game game c.args.colour (length c.args.self.now.order)
          c.args.self.now.order c.args.words.now c.loop-left.left c.draw-index.result c.next_word.result
          c.get-place.result c.loop-left.self.order c.exchange.new.self c.loop-left.words c.next_word.new.self
          (i.rest game kept) c.next_word.ensures fits some c.draw-index.ensures.place c.get-place.ensures
          (λ h. false≢true (sym c.if-is_candidate.false ∙ (c.is_candidate.ensures game (i.kept game kept)).1 h)) refl
          c.exchange.ensures;
    }

pub returns-then-is_candidate : goal.returns-then-is_candidate
returns-then-is_candidate g c game kept room =
    let i = c.loop-left.invariant in
    let here = i.kept game kept in
    let word = c.next_word.type_inv in
    let fits : c.next_word.result < 2 ^ 64 = omega (arith, word) in
    let candidate = (c.is_candidate.ensures game here).0 c.if-is_candidate.true in
    let played = c.play.ensures game c.get-place.result here room c.get-place.ensures candidate in
    record {
      after = with_move game c.args.colour (At c.get-place.result);
      turn = turn-played g.W.Words.gives game (with_move game c.args.colour (At c.get-place.result)) c.args.colour
          c.args.self.now.order c.loop-left.self.order
          (swap_remove c.loop-left.self.order c.draw-index.result c.get-place.result) c.play.new.self.order
          c.args.words.now c.loop-left.words
          c.next_word.new.self c.loop-left.left c.draw-index.result c.next_word.result c.get-place.result
          c.get-place.result (i.rest game kept) c.next_word.ensures fits c.loop-left-test.true
          c.draw-index.ensures.place c.get-place.ensures (record { candidate = candidate; played = refl })
          c.get-place.ensures refl
          (with-taken c.get-place.result
          (swap_remove c.loop-left.self.order c.draw-index.result c.get-place.result) c.play.new.self.order here room
          candidate played.1);
      kept = played.0;
    }

pub returns : goal.returns
returns g c game kept room =
    let i = c.loop-left.invariant in
    record {
      after = with_move game c.args.colour Pass;
      turn = turn-passed g.W.Words.gives game game (with_move game c.args.colour Pass) c.args.colour
          c.args.self.now.order c.loop-left.self.order c.args.words.now c.loop-left.words c.loop-left.left
          (i.rest game kept) c.loop-left-test.false refl refl;
      kept = scratch-passed (i.kept game kept) room;
    }
