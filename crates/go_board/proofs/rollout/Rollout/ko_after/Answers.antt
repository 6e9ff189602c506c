use Rattle.std.proofs.Common.{arith, ◌∙◌, sym}
use Rattle.std.proofs.lemmas.Bool.{false≢true}
use Rattle.go_board.proofs.drawing.Rollouts.{empty-inside, last-empty, ends-long, ko-many, ko-some, ko-none}
use Rattle.go_board.proofs.rollout.Rollout.ko_after.Goals as goal

pub returns-then-taken-ne1 : goal.returns-then-taken-ne1
returns-then-taken-ne1 c places e =
    ko-many c.args.self.now.board c.args.colour c.args.place c.args.taken c.args.self.now.order places e
    c.if-taken-ne1.true

pub overflow_sub-last : goal.overflow_sub-last
overflow_sub-last c =
    let long = ends-long c.args.self.now.board c.args.self.now.order c.args.taken c.requires.taken.0
    c.requires.taken.1 c.if-taken-ne1.false in
    let value = c.len-many.ensures.value in
    omega (arith, long, value)

pub get-point-requires : goal.get-point-requires
get-point-requires c =
    let long = ends-long c.args.self.now.board c.args.self.now.order c.args.taken c.requires.taken.0
    c.requires.taken.1 c.if-taken-ne1.false in
    let value = c.len-many.ensures.value in
    omega (arith, long, value)

pub takes_only-requires-clause-point : goal.takes_only-requires-clause-point
takes_only-requires-clause-point c =
    empty-inside c.args.self.now.board c.get-point.result c.requires.framed
    (last-empty c.args.self.now.board c.args.self.now.order c.args.taken c.requires.taken.0 c.get-point.result
    c.len-many.result c.requires.taken.1 c.if-taken-ne1.false c.len-many.ensures.value c.get-point.ensures)

pub takes_only-requires-clause-empty : goal.takes_only-requires-clause-empty
takes_only-requires-clause-empty c =
    last-empty c.args.self.now.board c.args.self.now.order c.args.taken c.requires.taken.0 c.get-point.result
    c.len-many.result c.requires.taken.1 c.if-taken-ne1.false c.len-many.ensures.value c.get-point.ensures

pub returns-then-takes_only : goal.returns-then-takes_only
returns-then-takes_only c places e =
    ko-some c.args.self.now.board c.args.colour c.other.result c.args.place c.get-point.result c.len-many.result
    c.args.self.now.order places c.args.taken e c.if-taken-ne1.false c.len-many.ensures.value c.get-point.ensures
    c.other.ensures (c.takes_only.ensures.0 c.if-takes_only.true)

pub returns-else-takes_only : goal.returns-else-takes_only
returns-else-takes_only c places e =
    ko-none c.args.self.now.board c.args.colour c.other.result c.args.place c.get-point.result c.len-many.result
    c.args.self.now.order places c.args.taken e c.if-taken-ne1.false c.len-many.ensures.value c.get-point.ensures
    c.other.ensures (λ h. false≢true (sym c.if-takes_only.false ∙ c.takes_only.ensures.1 h))
