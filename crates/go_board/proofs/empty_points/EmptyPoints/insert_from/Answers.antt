use Rattle.std.proofs.Common.{ℕ, List, ◌-◌, ◌<◌, ◌≤◌, length, ap, subst, ◌∙◌, arith}
use Rattle.std.specs.Prelude.{slice_index}
use Rattle.std.specs.List.{insert}
use Rattle.go_board.proofs.playouts.RisingPlaces.{InsertsFrom-found, search-more}
use Rattle.go_board.proofs.empty_points.EmptyPoints.insert_from.Goals as goal
use Rattle.go_board.proofs.empty_points.EmptyPoints.insert_from.Goals.{then-loop-index-test+else-from-place}
use Rattle.go_board.proofs.empty_points.EmptyPoints.insert_from.Goals.{else-loop-index-test}

pub loop-index-preserved : goal.loop-index-preserved
loop-index-preserved c =
    let inv = c.loop-index.invariant in
    let from = inv.from in
    let to = inv.to in
    let test = c.loop-index-test.true in
    record {
      from = omega (arith, test);
      to = omega (arith, to);
      above =
          search-more c.self.inside.places.items c.loop-index.index c.args.place c.from.result inv.above
          c.if-from-place.true
          (c.from.ensures ∙ ap (λ (xs : List ℕ). slice_index xs (c.loop-index.index - 1)) c.deref.ensures.0);
    }

pub returns : goal.returns
returns c =
    let inv = c.loop-index.invariant in
    let to = inv.to in
    let same = c.self.view_is in
    InsertsFrom-found c.args.self.now _ c.args.start c.loop-index.index c.args.place inv.from
    (subst (λ (xs : List ℕ). c.loop-index.index ≤ length xs) same to)
    (subst (λ (xs : List ℕ). (k : ℕ) → c.loop-index.index ≤ k → k < length xs → c.args.place < slice_index xs k) same
    inv.above)
    (λ some. elim c.loop-index-test.branch [
      | then-loop-index-test+else-from-place w ↦
          let test = w.if-from-place.false in
          let is =
          w.from.ensures ∙ ap (λ (xs : List ℕ). slice_index xs (c.loop-index.index - 1)) (w.deref.ensures.0 ∙ same) in
          omega (arith, test, is)
      | else-loop-index-test w ↦ let none = w.loop-index-test.false in absurd (omega (arith, none, some))
    ])
    (c.insert.ensures.items ∙ ap (λ (xs : List ℕ). insert xs c.loop-index.index c.args.place) same)
