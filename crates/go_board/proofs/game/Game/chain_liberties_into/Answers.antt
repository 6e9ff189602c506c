use Rattle.std.proofs.Common.{◌≡◌, ℕ, ◌+◌, List, [], ◌∷◌, ◌++◌, sym, ◌∙◌, ap, subst, arith}
use Rattle.go_board.specs.Board.{at, IsStone}
use Rattle.go_board.specs.ChainPoints.{AreChainLiberties}
use Rattle.go_board.specs.Game.{board_of}
use Rattle.go_board.specs.Liberties.{IsLiberty}
use Rattle.go_board.specs.declared.board.Cell.{Cell}
use Rattle.go_board.specs.private.PointList.{AreListedBefore}
use Rattle.go_board.proofs.records.ChainLists.{liberty-on, liberties-listed}
use Rattle.go_board.proofs.records.PointLists.{listed-one, listed-skip}
use Rattle.go_board.proofs.game.Game.chain_liberties_into.Goals as goal
use Rattle.go_board.proofs.game.Game.chain_liberties_into.Goals.{then-has_liberty, else-has_liberty}

pub loop-place-preserved : goal.loop-place-preserved
loop-place-preserved c =
    let same : c.self.inside.chains ≡ board_of c.args.self.now =
    c.self.invariant.board_is ∙ ap board_of c.self.view_is in
    elim c.if-has_liberty.branch [
      | then-has_liberty w ↦
          listed-one c.args.self.now.size (λ q. IsLiberty (board_of c.args.self.now) c.place_of-stone.result q)
          c.loop-place.place c.loop-place.points.items c.if-has_liberty.points.items
          (liberty-on c.args.self.now c.place_of-stone.result c.size.ensures.game) c.loop-place.invariant
          (subst (λ (b : List Cell). IsLiberty b c.place_of-stone.result c.loop-place.place) same
          (c.has_liberty.ensures.0 w.if-has_liberty.true))
          (ap (λ v. v.items) w.points-is ∙ w.push.ensures.items
          ∙ ap (λ (q : ℕ). c.loop-place.points.items ++ q ∷ []) w.point_at.ensures)
      | else-has_liberty w ↦
          subst (λ (xs : List ℕ). AreListedBefore (λ q. IsLiberty (board_of c.args.self.now) c.place_of-stone.result q)
          (c.loop-place.place + 1) xs) (sym (ap (λ v. v.items) w.points-is))
          (listed-skip (λ q. IsLiberty (board_of c.args.self.now) c.place_of-stone.result q) c.loop-place.place
          c.loop-place.points.items c.loop-place.invariant
          (λ h. let yes_one = c.has_liberty.ensures.1 (subst (λ (b : List Cell).
          IsLiberty b c.place_of-stone.result c.loop-place.place) (sym same) h) in
          let no_one = w.if-has_liberty.false in cc))
    ]

pub returns : goal.returns
returns c =
    let same : c.self.inside.chains ≡ board_of c.args.self.now =
    c.self.invariant.board_is ∙ ap board_of c.self.view_is in
    subst (λ (p : ℕ). AreChainLiberties (board_of c.args.self.now) p c.loop-place.points.items)
    c.place_of-stone.ensures.value
    (liberties-listed c.args.self.now c.place_of-stone.result c.loop-place.place c.loop-place.points.items
    c.size.ensures.game
    (subst (λ (x : Cell). IsStone x) (c.at.ensures ∙ ap (λ (b : List Cell). at b c.place_of-stone.result) same)
    (c.is_stone.ensures.fact.0 c.if-not-is_stone.false)) c.loop-place.invariant (omega arith))
