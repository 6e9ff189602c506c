use Rattle.std.proofs.Common.{◌<◌, ◌+◌, ◌++◌, ◌∙◌, ap, sym, arith, List, ℕ, length}
use Rattle.std.proofs.lemmas.List.{append-nil}
use Rattle.std.proofs.lemmas.List.Elements.{All-same, All-weaker}
use Rattle.go_board.specs.private.TakenStack.{captured_places, taken_at}
use Rattle.go_board.proofs.captures.CapturedStones.{captured-below, captured-few}
use Rattle.go_board.proofs.captures.MakingPlays.{play-none, captures-none, places-empty, none_beside}
use Rattle.go_board.proofs.captures.MakingPlays.{play-code, captures-code, places-code}
use Rattle.go_board.proofs.playouts.PlayoutPlays.{all-captured_beside}
use Rattle.go_board.proofs.records.TakenStack.{places-count}
use Rattle.go_board.proofs.chains.Chains.make_play.Goals as goal

pub returns-then-not-has_captured_beside-clause-board : goal.returns-then-not-has_captured_beside-clause-board
returns-then-not-has_captured_beside-clause-board c =
    c.place_stone.ensures
    ∙ sym (play-none c.args.self.now c.args.colour c.args.place c.requires.empty c.requires.free
    (none_beside c.args.self.now _ c.args.colour c.other-theirs.result c.args.place c.has_captured_beside.result
    (c.self.view_is ∙ c.place_stone.ensures) c.other-theirs.ensures c.has_captured_beside.ensures
    c.if-not-has_captured_beside.true))

pub returns-then-not-has_captured_beside-clause-stack : goal.returns-then-not-has_captured_beside-clause-stack
returns-then-not-has_captured_beside-clause-stack c =
    sym (ap (λ (ps : List ℕ). c.args.stack.now ++ taken_at c.args.number ps)
    (places-empty c.args.self.now c.args.colour c.args.place c.requires.empty c.requires.free
    (none_beside c.args.self.now _ c.args.colour c.other-theirs.result c.args.place c.has_captured_beside.result
    (c.self.view_is ∙ c.place_stone.ensures) c.other-theirs.ensures c.has_captured_beside.ensures
    c.if-not-has_captured_beside.true))
    ∙ append-nil c.args.stack.now)

pub returns-then-not-has_captured_beside-clause-taken : goal.returns-then-not-has_captured_beside-clause-taken
returns-then-not-has_captured_beside-clause-taken c =
    sym (captures-none c.args.self.now c.args.colour c.args.place c.requires.empty c.requires.free
    (none_beside c.args.self.now _ c.args.colour c.other-theirs.result c.args.place c.has_captured_beside.result
    (c.self.view_is ∙ c.place_stone.ensures) c.other-theirs.ensures c.has_captured_beside.ensures
    c.if-not-has_captured_beside.true))

pub take-taken-requires-clause-beside : goal.take-taken-requires-clause-beside
take-taken-requires-clause-beside c =
    all-captured_beside c.args.self.now c.place_stone.new.self c.args.colour c.other-theirs.result c.args.place
    c.requires.empty c.requires.free c.place_stone.ensures c.other-theirs.ensures

pub take-taken-requires-clause-room : goal.take-taken-requires-clause-room
take-taken-requires-clause-room c =
    let none = ap length c.new-points.ensures in
    let few = captured-few c.place_stone.new.self c.other-theirs.result in
    let long = ap length (sym c.self.view_is) ∙ c.self.invariant.framed.length_is in
    omega (arith, none, few, long)

pub push_all-requires-clause-places : goal.push_all-requires-clause-places
push_all-requires-clause-places c =
    let cells = c.place_stone.new.self in
    let places = captured_places cells c.other-theirs.result in
    let long = ap length (sym c.self.view_is) ∙ c.self.invariant.framed.length_is in
    All-same (λ p. p < 702) c.take-taken.new.points places
    (c.take-taken.ensures.points ∙ ap (λ (ps : List ℕ). ps ++ places) c.new-points.ensures)
    (All-weaker (λ p. p < length cells) (λ p. p < 702) (λ p h. omega (arith, h, long)) places
    (captured-below cells c.other-theirs.result))

pub push_all-requires-clause-room : goal.push_all-requires-clause-room
push_all-requires-clause-room c =
    let cells = c.place_stone.new.self in
    let theirs = c.other-theirs.result in
    let many =
    ap length (c.take-taken.ensures.points
    ∙ ap (λ (ps : List ℕ). ps ++ captured_places cells theirs) c.new-points.ensures)
    ∙ places-count cells theirs
    ∙ captures-code c.args.self.now cells c.args.colour theirs c.args.place c.place_stone.ensures c.other-theirs.ensures in
    let room = c.requires.room in
    omega (arith, many, room)

pub returns-clause-board : goal.returns-clause-board
returns-clause-board c =
    c.take-taken.ensures.board
    ∙ play-code c.args.self.now c.place_stone.new.self c.args.colour c.other-theirs.result c.args.place
    c.place_stone.ensures c.other-theirs.ensures

pub returns-clause-stack : goal.returns-clause-stack
returns-clause-stack c =
    c.push_all.ensures
    ∙ ap (λ (ps : List ℕ). c.args.stack.now ++ taken_at c.args.number ps)
    (c.take-taken.ensures.points
    ∙ ap (λ (ps : List ℕ). ps ++ captured_places c.place_stone.new.self c.other-theirs.result) c.new-points.ensures
    ∙ places-code c.args.self.now c.place_stone.new.self c.args.colour c.other-theirs.result c.args.place
    c.place_stone.ensures c.other-theirs.ensures)

pub returns-clause-taken : goal.returns-clause-taken
returns-clause-taken c =
    c.take-taken.ensures.taken
    ∙ captures-code c.args.self.now c.place_stone.new.self c.args.colour c.other-theirs.result c.args.place
    c.place_stone.ensures c.other-theirs.ensures
