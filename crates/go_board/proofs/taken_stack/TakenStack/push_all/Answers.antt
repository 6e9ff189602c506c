use Rattle.std.proofs.Common.{◌+◌, ◌<◌, ◌++◌, List, ℕ, [], ◌∷◌, length, take, sym, ◌∙◌, ap, subst, arith}
use Rattle.std.proofs.Common.{append_assoc, append-nil, length-append}
use Rattle.std.proofs.lemmas.List.{take_more, take_all, length-map, length-take-le}
use Rattle.std.proofs.lemmas.Option.{get_or_from_slice_get}
use Rattle.go_board.specs.private.TakenStack.{taken_at}
use Rattle.go_board.specs.declared.taken_stack.TakenStone.{TakenStone}
use Rattle.go_board.proofs.captures.CapturedStones.{map-push}
use Rattle.go_board.proofs.taken_stack.TakenStack.push_all.Goals as goal

pub loop-index-init : goal.loop-index-init
loop-index-init c = sym (append-nil c.args.self.now)

pub push-requires-clause-place : goal.push-requires-clause-place
push-requires-clause-place c =
    let test = c.loop-index-test.true in
    let end = c.len-index-end.ensures.value in
    subst (λ (p : ℕ). p < 702)
    (get_or_from_slice_get c.args.places.now c.loop-index.index c.get.result 0 c.get.ensures)
    (c.requires.places c.loop-index.index 0 (omega (arith, test, end)))

pub push-requires-clause-room : goal.push-requires-clause-room
push-requires-clause-room c =
    let test = c.loop-index-test.true in
    let end = c.len-index-end.ensures.value in
    let below : c.loop-index.index < length c.args.places.now = omega (arith, test, end) in
    let room = c.requires.room in
    let many = ap length c.loop-index.invariant
    ∙ length-append c.args.self.now (taken_at c.args.number (take c.loop-index.index c.args.places.now)) in
    let some = length-map (take c.loop-index.index c.args.places.now)
    (λ (p : ℕ). let t : TakenStone = record { place = p; number = c.args.number } in t) in
    let first = length-take-le c.loop-index.index c.args.places.now (omega (arith, below)) in
    omega (arith, room, many, some, first, below)

pub loop-index-preserved : goal.loop-index-preserved
loop-index-preserved c =
    let test = c.loop-index-test.true in
    let end = c.len-index-end.ensures.value in
    let below : c.loop-index.index < length c.args.places.now = omega (arith, test, end) in
    let before = take c.loop-index.index c.args.places.now in
    let one : List TakenStone = record { place = c.get.result; number = c.args.number } ∷ [] in
    c.push.ensures ∙ ap (λ (ts : List TakenStone). ts ++ one) c.loop-index.invariant
    ∙ append_assoc c.args.self.now (taken_at c.args.number before) one
    ∙ ap (λ (ts : List TakenStone). c.args.self.now ++ ts)
    (sym (map-push c.args.number before c.get.result)
    ∙ ap (λ (p : ℕ). taken_at c.args.number (before ++ p ∷ []))
    (sym (get_or_from_slice_get c.args.places.now c.loop-index.index c.get.result 0 c.get.ensures))
    ∙ ap (taken_at c.args.number) (sym (take_more c.args.places.now c.loop-index.index 0 below)))

pub returns : goal.returns
returns c =
    let past = c.loop-index-test.false in
    let end = c.len-index-end.ensures.value in
    c.loop-index.invariant
    ∙ ap (λ (ps : List ℕ). c.args.self.now ++ taken_at c.args.number ps)
    (take_all c.loop-index.index c.args.places.now (omega (arith, past, end)))
