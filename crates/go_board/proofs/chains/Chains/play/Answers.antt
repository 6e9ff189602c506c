use Rattle.std.proofs.Common.{◌≤◌, ◌+◌, ◌++◌, ◌∙◌, ap, subst, sym, List, ℕ, length}
use Rattle.std.proofs.lemmas.List.{append-nil}
use Rattle.go_board.proofs.captures.MakingPlays.{play-none, captures-none, places-empty, none_beside}
use Rattle.go_board.proofs.captures.MakingPlays.{play-code, captures-code, places-code}
use Rattle.go_board.proofs.playouts.PlayoutPlays.{all-captured_beside}
use Rattle.go_board.proofs.chains.Chains.play.Goals as goal

pub returns-then-not-has_captured_beside-clause-board : goal.returns-then-not-has_captured_beside-clause-board
returns-then-not-has_captured_beside-clause-board c =
    c.place_stone.ensures
    ∙ sym (play-none c.args.self.now c.args.colour c.args.place c.requires.empty c.requires.free
    (none_beside c.args.self.now _ c.args.colour c.other-theirs.result c.args.place c.has_captured_beside.result
    (c.self.view_is ∙ c.place_stone.ensures) c.other-theirs.ensures c.has_captured_beside.ensures
    c.if-not-has_captured_beside.true))

pub returns-then-not-has_captured_beside-clause-points : goal.returns-then-not-has_captured_beside-clause-points
returns-then-not-has_captured_beside-clause-points c =
    sym (ap (λ (ps : List ℕ). c.args.points.now ++ ps)
    (places-empty c.args.self.now c.args.colour c.args.place c.requires.empty c.requires.free
    (none_beside c.args.self.now _ c.args.colour c.other-theirs.result c.args.place c.has_captured_beside.result
    (c.self.view_is ∙ c.place_stone.ensures) c.other-theirs.ensures c.has_captured_beside.ensures
    c.if-not-has_captured_beside.true))
    ∙ append-nil c.args.points.now)

pub returns-then-not-has_captured_beside-clause-taken : goal.returns-then-not-has_captured_beside-clause-taken
returns-then-not-has_captured_beside-clause-taken c =
    sym (captures-none c.args.self.now c.args.colour c.args.place c.requires.empty c.requires.free
    (none_beside c.args.self.now _ c.args.colour c.other-theirs.result c.args.place c.has_captured_beside.result
    (c.self.view_is ∙ c.place_stone.ensures) c.other-theirs.ensures c.has_captured_beside.ensures
    c.if-not-has_captured_beside.true))

pub take-requires-clause-beside : goal.take-requires-clause-beside
take-requires-clause-beside c =
    all-captured_beside c.args.self.now c.place_stone.new.self c.args.colour c.other-theirs.result c.args.place
    c.requires.empty c.requires.free c.place_stone.ensures c.other-theirs.ensures

pub take-requires-clause-room : goal.take-requires-clause-room
take-requires-clause-room c =
    subst (λ (n : ℕ). length c.args.points.now + n ≤ 702)
    (sym (captures-code c.args.self.now c.place_stone.new.self c.args.colour c.other-theirs.result c.args.place
    c.place_stone.ensures c.other-theirs.ensures))
    c.requires.room

pub returns-clause-board : goal.returns-clause-board
returns-clause-board c =
    c.take.ensures.board
    ∙ play-code c.args.self.now c.place_stone.new.self c.args.colour c.other-theirs.result c.args.place
    c.place_stone.ensures c.other-theirs.ensures

pub returns-clause-points : goal.returns-clause-points
returns-clause-points c =
    c.take.ensures.points
    ∙ ap (λ (ps : List ℕ). c.args.points.now ++ ps)
    (places-code c.args.self.now c.place_stone.new.self c.args.colour c.other-theirs.result c.args.place
    c.place_stone.ensures c.other-theirs.ensures)

pub returns-clause-taken : goal.returns-clause-taken
returns-clause-taken c =
    c.take.ensures.taken
    ∙ captures-code c.args.self.now c.place_stone.new.self c.args.colour c.other-theirs.result c.args.place
    c.place_stone.ensures c.other-theirs.ensures
