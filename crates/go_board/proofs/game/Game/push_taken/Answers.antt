use Rattle.std.proofs.Common.{◌≡◌, ℕ, ◌-◌, ◌<◌, ◌≤◌, List, length, take, subst, ap, ◌∙◌, arith}
use Rattle.std.proofs.Common.{◌++◌}
use Rattle.std.proofs.lemmas.List.{length-append, length-map, length-take-le, take_all}
use Rattle.go_board.specs.Game.{GameRecord, IsGame}
use Rattle.go_board.specs.LastTaken.{AreTakenByLast}
use Rattle.go_board.specs.declared.game.Game.TheInside.{Inside}
use Rattle.go_board.specs.declared.taken_stack.TakenStone.{TakenStone}
use Rattle.go_board.specs.private.Kept.{record_of, IsKept}
use Rattle.go_board.specs.private.Playouts.{HasRoomForTaken, IsWithTaken}
use Rattle.go_board.specs.private.TakenStack.{AreLastOf, places_of}
use Rattle.go_board.proofs.undo.LastTaken.{taken-last, listed-on}
use Rattle.go_board.proofs.game.Game.push_taken.Goals as goal

-- the stones at the stack's end are those that the last move took
taken : (f : Inside) (game : GameRecord) (stones : List TakenStone) (many : ℕ) → IsKept f → record_of f ≡ game
    → many ≡ length f.moves.items → 0 < length game.moves → AreLastOf f.stack (many - 1) stones
    → AreTakenByLast game (places_of stones)
taken f game stones many kept same long moved a =
    let all = ap (λ (g : GameRecord). length g.moves) same in
    subst (λ (g : GameRecord). AreTakenByLast g (places_of stones)) same
    (taken-last (record_of f) kept.game (many - 1) stones (omega (arith, long, moved, all))
    (subst (λ (ts : List TakenStone). AreLastOf ts (many - 1) stones) kept.stack_is a))

has-room : (game : GameRecord) (begun order : List ℕ) (stones : List TakenStone) (index : ℕ)
    → HasRoomForTaken game begun → AreTakenByLast game (places_of stones) → index < length stones
    → order ≡ begun ++ places_of (take index stones) → length order < 702
has-room game begun order stones index room are below so_far =
    let fits = room (places_of stones) are in
    let all = length-map stones (λ (t : TakenStone). t.place) in
    let some = length-map (take index stones) (λ (t : TakenStone). t.place) in
    let first = length-take-le index stones (omega (arith, below)) in
    let both = ap length so_far ∙ length-append begun (places_of (take index stones)) in
    omega (arith, fits, all, some, first, both, below)

with-all : (game : GameRecord) (begun order : List ℕ) (stones : List TakenStone) (index : ℕ)
    → AreTakenByLast game (places_of stones) → length stones ≤ index
    → order ≡ begun ++ places_of (take index stones) → IsWithTaken game begun order
with-all game begun order stones index are past so_far = record {
  taken = places_of stones;
  are = are;
  is = so_far ∙ ap (λ (ts : List TakenStone). begun ++ places_of ts) (take_all index stones past);
}

pub push-requires-clause-place : goal.push-requires-clause-place
push-requires-clause-place c =
    let on = listed-on c.args.self.now c.taken_by-stone-items.result.now c.loop-stone.stone-index c.from.result
    (record { place = 0; number = 0 }) (subst IsGame c.self.view_is c.self.invariant.game)
    (taken c.self.inside c.args.self.now c.taken_by-stone-items.result.now c.len-moves.result c.self.invariant
    c.self.view_is c.len-moves.ensures.value c.requires.moved c.taken_by-stone-items.ensures)
    c.loop-stone-test.true c.from.ensures in
    let right = on.right in
    let top = on.top in
    omega (arith, right, top)

pub push-requires-clause-room : goal.push-requires-clause-room
push-requires-clause-room c =
    has-room c.args.self.now c.args.order.now c.loop-stone.order c.taken_by-stone-items.result.now
    c.loop-stone.stone-index c.requires.room
    (taken c.self.inside c.args.self.now c.taken_by-stone-items.result.now c.len-moves.result c.self.invariant
    c.self.view_is c.len-moves.ensures.value c.requires.moved c.taken_by-stone-items.ensures)
    c.loop-stone-test.true c.loop-stone.invariant

pub returns : goal.returns
returns c =
    with-all c.args.self.now c.args.order.now c.loop-stone.order c.taken_by-stone-items.result.now
    c.loop-stone.stone-index
    (taken c.self.inside c.args.self.now c.taken_by-stone-items.result.now c.len-moves.result c.self.invariant
    c.self.view_is c.len-moves.ensures.value c.requires.moved c.taken_by-stone-items.ensures)
    c.loop-stone-test.false c.loop-stone.invariant
