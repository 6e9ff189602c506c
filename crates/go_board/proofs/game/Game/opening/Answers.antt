use Rattle.std.proofs.Common.{◌∙◌, [], List, ℕ, ap, sym, subst, arith}
use Rattle.go_board.specs.declared.board.Cell.{Cell}
use Rattle.go_board.specs.Hash.{hash_of}
use Rattle.go_board.specs.private.Frame.{HasSize}
use Rattle.go_board.specs.private.PastHashes.{added}
use Rattle.go_board.proofs.records.EveryGame.{HasSize-start}
use Rattle.go_board.proofs.records.GameFields.{IsKept-start}
use Rattle.go_board.proofs.game.Game.opening.Goals as goal

pub from_board-chains-requires-clause-size : goal.from_board-chains-requires-clause-size
from_board-chains-requires-clause-size c =
    subst (λ (n : ℕ). HasSize n c.start-board.result) (sym c.get.ensures.value)
    (subst (HasSize c.args.size) (sym c.start-board.ensures.board)
    (HasSize-start c.args.size c.args.stones c.start-board.ensures.limits c.requires))

pub from_board-chains-requires-clause-lines : goal.from_board-chains-requires-clause-lines
from_board-chains-requires-clause-lines c =
    let most = c.get.ensures.limits.most in
    let is = c.get.ensures.value in
    omega (arith, most, is)

pub invariant_of-result : goal.invariant_of-result
invariant_of-result c =
    IsKept-start c.args.size c.args.komi c.args.rule c.args.stones c.from_board-chains.result c.new-stack.result
    c.new.result c.of_start-hashes.result
    c.start-board.ensures.limits c.half_points.ensures.limits c.requires
    (c.from_board-chains.ensures ∙ c.start-board.ensures.board) c.new-stack.ensures c.new.ensures
    (c.of_start-hashes.ensures ∙ ap (λ (cells : List Cell). added c.args.rule [] (hash_of c.args.size cells))
    (sym c.from_board-chains.ensures))
