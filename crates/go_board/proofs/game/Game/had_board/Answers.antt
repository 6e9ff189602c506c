use Rattle.std.proofs.Common.{◌≡◌, List, length, refl, subst, sym, ◌∙◌, ap, arith}
use Rattle.std.proofs.lemmas.Bool.{false≢true}
use Rattle.std.specs.Prelude.{Some, slice_get}
use Rattle.go_base.specs.declared.moves.Move.{Move}
use Rattle.go_board.specs.Game.{GameRecord, IsGame, start}
use Rattle.go_board.specs.private.Frame.{HasSize}
use Rattle.go_board.specs.private.TakenStack.{stack_of}
use Rattle.go_board.specs.declared.taken_stack.TakenStone.{TakenStone}
use Rattle.go_board.proofs.ko_rules.ReplayedBoards.{IsReplayed, IsReplayed-start, IsReplayed-more, taken-next}
use Rattle.go_board.proofs.ko_rules.ReplayedBoards.{open-next, repeats-found, repeats-last}
use Rattle.go_board.proofs.game.Game.had_board.Goals as goal
use Rattle.std.proofs.lemmas.Option.{slice_get_read}

pub loop-number-init : goal.loop-number-init
loop-number-init c =
    subst (λ (ts : List TakenStone). IsReplayed c.args.self.now c.args.wanted.now 0 c.start-board.result ts)
    (sym (c.stones-stones.ensures ∙ c.self.invariant.stack_is ∙ ap stack_of c.self.view_is))
    (IsReplayed-start c.args.self.now c.args.wanted.now c.start-board.result
    (subst IsGame c.self.view_is c.self.invariant.game)
    (c.start-board.ensures.board ∙ ap (λ (g : GameRecord). start g.size g.handicap) c.self.view_is)
    (subst (λ (g : GameRecord). HasSize g.size c.start-board.result) c.self.view_is c.start-board.ensures.size))

pub returns-then-equals : goal.returns-then-equals
returns-then-equals c =
    let long = ap length (c.deref-made-items.ensures.0 ∙ ap (λ (g : GameRecord). g.moves) c.self.view_is) in
    let below = c.loop-number-test.true in (
      (λ _. repeats-found c.args.self.now c.args.wanted.now c.loop-number.board c.loop-number.number
          c.loop-number.stones.now c.loop-number.invariant (omega (arith, below, long))
          (c.equals.ensures.0 c.if-equals.true)),
      (λ _. refl),
    )

pub make-stones-requires-clause-open : goal.make-stones-requires-clause-open
make-stones-requires-clause-open c =
    open-next c.args.self.now c.args.wanted.now c.loop-number.board c.loop-number.number c.loop-number.stones.now
    c.made-item.result (subst IsGame c.self.view_is c.self.invariant.game) c.loop-number.invariant
    (subst (λ (ms : List Move). slice_get ms c.loop-number.number ≡ Some c.made-item.result)
    (c.deref-made-items.ensures.0 ∙ ap (λ (g : GameRecord). g.moves) c.self.view_is)
    (slice_get_read c.deref-made-items.result.now _ c.loop-number.number c.made-item.result
    refl c.loop-number-test.true c.made-item.is))

pub loop-number-preserved : goal.loop-number-preserved
loop-number-preserved c =
    let move =
    subst (λ (ms : List Move). slice_get ms c.loop-number.number ≡ Some c.made-item.result)
    (c.deref-made-items.ensures.0 ∙ ap (λ (g : GameRecord). g.moves) c.self.view_is)
    (slice_get_read c.deref-made-items.result.now _ c.loop-number.number c.made-item.result
    refl c.loop-number-test.true c.made-item.is) in
    IsReplayed-more c.args.self.now c.args.wanted.now c.loop-number.board c.make-stones.new.self
    c.loop-number.number c.loop-number.stones.now c.make-stones.result.now c.made-item.result
    c.loop-number.invariant move (λ e. false≢true (sym c.if-equals.false ∙ c.equals.ensures.1 (sym e)))
    (c.make-stones.ensures.board
    (taken-next c.args.self.now c.args.wanted.now c.loop-number.board c.loop-number.number c.loop-number.stones.now
    c.made-item.result c.loop-number.invariant move))
    c.make-stones.ensures.left c.make-stones.ensures.points

pub returns : goal.returns
returns c =
    let long = ap length (c.deref-made-items.ensures.0 ∙ ap (λ (g : GameRecord). g.moves) c.self.view_is) in
    let end = c.loop-number-test.false in
    let most = c.loop-number.auto.number-end in
    repeats-last c.args.self.now c.args.wanted.now c.loop-number.board c.loop-number.number c.loop-number.stones.now
    c.equals-2.result c.loop-number.invariant (omega (arith, long, end, most)) c.equals-2.ensures
