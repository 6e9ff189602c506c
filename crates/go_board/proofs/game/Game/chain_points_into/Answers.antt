use Rattle.std.proofs.Common.{◌≡◌, ℕ, ◌+◌, List, [], ◌∷◌, ◌++◌, sym, ◌∙◌, ap, subst, arith}
use Rattle.go_board.specs.Board.{at, IsStone}
use Rattle.go_board.specs.Chain.{Joined}
use Rattle.go_board.specs.ChainPoints.{AreChainPoints}
use Rattle.go_board.specs.Game.{board_of}
use Rattle.go_board.specs.declared.board.Cell.{Cell}
use Rattle.go_board.specs.private.PointList.{AreListedBefore}
use Rattle.go_board.proofs.records.ChainLists.{joined-on, chain-listed}
use Rattle.go_board.proofs.records.PointLists.{on-most, listed-none, listed-one, listed-skip}
use Rattle.go_board.proofs.game.Game.chain_points_into.Goals as goal
use Rattle.go_board.proofs.game.Game.chain_points_into.Goals.{then-joins, else-joins}

pub loop-place-init : goal.loop-place-init
loop-place-init c =
    listed-none c.args.self.now.size (λ q. Joined (board_of c.args.self.now) c.place_of-stone.result q)
    c.clear.new.self.items (joined-on c.args.self.now c.place_of-stone.result c.size.ensures.game) c.clear.ensures

pub point_at-requires : goal.point_at-requires
point_at-requires c =
    let same : c.self.inside.chains ≡ board_of c.args.self.now =
    c.self.invariant.board_is ∙ ap board_of c.self.view_is in
    let are = joined-on c.args.self.now c.place_of-stone.result c.size.ensures.game in
    on-most c.args.self.now.size c.loop-place.place are.most (are.on c.loop-place.place
    (subst (λ (b : List Cell). Joined b c.place_of-stone.result c.loop-place.place) same
    (c.joins.ensures.0 c.if-joins.true)))

pub loop-place-preserved : goal.loop-place-preserved
loop-place-preserved c =
    let same : c.self.inside.chains ≡ board_of c.args.self.now =
    c.self.invariant.board_is ∙ ap board_of c.self.view_is in
    elim c.if-joins.branch [
      | then-joins w ↦
          listed-one c.args.self.now.size (λ q. Joined (board_of c.args.self.now) c.place_of-stone.result q)
          c.loop-place.place c.loop-place.points.items c.if-joins.points.items
          (joined-on c.args.self.now c.place_of-stone.result c.size.ensures.game) c.loop-place.invariant
          (subst (λ (b : List Cell). Joined b c.place_of-stone.result c.loop-place.place) same
          (c.joins.ensures.0 w.if-joins.true))
          (ap (λ v. v.items) w.points-is ∙ w.push.ensures.items
          ∙ ap (λ (q : ℕ). c.loop-place.points.items ++ q ∷ []) w.point_at.ensures)
      | else-joins w ↦
          subst (λ (xs : List ℕ). AreListedBefore (λ q. Joined (board_of c.args.self.now) c.place_of-stone.result q)
          (c.loop-place.place + 1) xs) (sym (ap (λ v. v.items) w.points-is))
          (listed-skip (λ q. Joined (board_of c.args.self.now) c.place_of-stone.result q) c.loop-place.place
          c.loop-place.points.items c.loop-place.invariant
          (λ h. let yes_one = c.joins.ensures.1 (subst (λ (b : List Cell).
          Joined b c.place_of-stone.result c.loop-place.place) (sym same) h) in
          let no_one = w.if-joins.false in cc))
    ]

pub returns : goal.returns
returns c =
    let same : c.self.inside.chains ≡ board_of c.args.self.now =
    c.self.invariant.board_is ∙ ap board_of c.self.view_is in
    subst (λ (p : ℕ). AreChainPoints (board_of c.args.self.now) p c.loop-place.points.items)
    c.place_of-stone.ensures.value
    (chain-listed c.args.self.now c.place_of-stone.result c.loop-place.place c.loop-place.points.items
    c.size.ensures.game
    (subst (λ (x : Cell). IsStone x) (c.at.ensures ∙ ap (λ (b : List Cell). at b c.place_of-stone.result) same)
    (c.is_stone.ensures.fact.0 c.if-not-is_stone.false)) c.loop-place.invariant (omega arith))
