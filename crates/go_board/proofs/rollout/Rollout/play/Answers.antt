use Rattle.std.proofs.Common.{◌≡◌, ℕ, subst, arith}
use Rattle.std.proofs.lemmas.Option.{slice_get_within}
use Rattle.go_board.specs.Candidates.{IsCandidate}
use Rattle.go_board.specs.private.Rollouts.{places_taken}
use Rattle.go_board.proofs.drawing.Rollouts.{scratch-framed, scratch-free, scratch-empty, scratch-room, empty-inside}
use Rattle.go_board.proofs.drawing.Rollouts.{got-one, ends-in, after-framed, after-free, rollout-played}
use Rattle.go_board.proofs.rollout.Rollout.play.Goals as goal

pub remove-place-requires : goal.remove-place-requires
remove-place-requires c = slice_get_within c.args.self.now.order c.args.index c.requires.point c.requires.drawn

pub play-taken-requires-clause-point : goal.play-taken-requires-clause-point
play-taken-requires-clause-point c =
    empty-inside c.args.self.now.board c.remove-place.result (scratch-framed c.requires.kept)
    (scratch-empty c.args.index c.remove-place.result c.requires.kept c.remove-place.ensures.place)

pub play-taken-requires-clause-empty : goal.play-taken-requires-clause-empty
play-taken-requires-clause-empty c =
    scratch-empty c.args.index c.remove-place.result c.requires.kept c.remove-place.ensures.place

pub play-taken-requires-clause-free : goal.play-taken-requires-clause-free
play-taken-requires-clause-free c = scratch-free c.requires.kept

pub play-taken-requires-clause-room : goal.play-taken-requires-clause-room
play-taken-requires-clause-room c =
    let one : c.requires.point ≡ c.remove-place.result =
    got-one c.args.self.now.order c.args.index c.requires.point c.remove-place.result c.requires.drawn
    c.remove-place.ensures.place in
    scratch-room c.args.index c.remove-place.result c.remove-place.new.self c.requires.kept c.requires.room
    (subst (λ (p : ℕ). IsCandidate c.requires.game c.args.colour p) one c.requires.candidate)
    c.remove-place.ensures.place c.remove-place.ensures.left

pub ko_after-self-requires-clause-framed : goal.ko_after-self-requires-clause-framed
ko_after-self-requires-clause-framed c =
    let one : c.requires.point ≡ c.remove-place.result =
    got-one c.args.self.now.order c.args.index c.requires.point c.remove-place.result c.requires.drawn
    c.remove-place.ensures.place in
    after-framed c.remove-place.result c.play-taken.new.self c.requires.kept c.requires.room
    (subst (λ (p : ℕ). IsCandidate c.requires.game c.args.colour p) one c.requires.candidate)
    c.play-taken.ensures.board

pub ko_after-self-requires-clause-free : goal.ko_after-self-requires-clause-free
ko_after-self-requires-clause-free c =
    let one : c.requires.point ≡ c.remove-place.result =
    got-one c.args.self.now.order c.args.index c.requires.point c.remove-place.result c.requires.drawn
    c.remove-place.ensures.place in
    after-free c.remove-place.result c.play-taken.new.self c.requires.kept c.requires.room
    (subst (λ (p : ℕ). IsCandidate c.requires.game c.args.colour p) one c.requires.candidate)
    c.play-taken.ensures.board

pub ko_after-self-requires-clause-point : goal.ko_after-self-requires-clause-point
ko_after-self-requires-clause-point c =
    empty-inside c.args.self.now.board c.remove-place.result (scratch-framed c.requires.kept)
    (scratch-empty c.args.index c.remove-place.result c.requires.kept c.remove-place.ensures.place)

pub ko_after-self-requires-clause-taken : goal.ko_after-self-requires-clause-taken
ko_after-self-requires-clause-taken c =
    let one : c.requires.point ≡ c.remove-place.result =
    got-one c.args.self.now.order c.args.index c.requires.point c.remove-place.result c.requires.drawn
    c.remove-place.ensures.place in (
      places_taken c.args.self.now.board c.args.colour c.remove-place.result,
      ends-in c.remove-place.result c.remove-place.new.self c.play-taken.new.points c.play-taken.new.self
          c.play-taken.result c.requires.kept c.requires.room
          (subst (λ (p : ℕ). IsCandidate c.requires.game c.args.colour p) one c.requires.candidate)
          c.play-taken.ensures.board c.play-taken.ensures.points c.play-taken.ensures.taken,
    )

pub returns : goal.returns
returns c game p kept room drawn candidate =
    rollout-played c.args.index c.remove-place.result p c.remove-place.new.self c.play-taken.new.points
    c.play-taken.new.self c.play-taken.result c.ko_after-self.result kept room drawn candidate
    c.remove-place.ensures.place c.remove-place.ensures.left c.play-taken.ensures.board c.play-taken.ensures.points c.play-taken.ensures.taken
    c.ko_after-self.ensures

pub overflow_add-self : goal.overflow_add-self
overflow_add-self c =
    let many = c.requires.kept.moves_is in
    let room = c.requires.room in
    omega (arith, many, room)
