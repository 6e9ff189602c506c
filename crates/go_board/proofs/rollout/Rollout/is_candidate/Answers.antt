use Rattle.std.proofs.Common.{◌∙◌, sym, subst, List}
use Rattle.std.proofs.lemmas.Bool.{false≢true}
use Rattle.go_board.specs.Eye.{IsOwnEye}
use Rattle.go_board.specs.declared.board.Cell.{Cell}
use Rattle.go_board.proofs.drawing.Rollouts.{scratch-framed, scratch-free, empty-inside, scratch-candidate}
use Rattle.go_board.proofs.drawing.Rollouts.{eye-refused, ko-refuses, candidate-free}
use Rattle.go_board.proofs.rollout.Rollout.is_candidate.Goals as goal

pub is_own_eye-requires : goal.is_own_eye-requires
is_own_eye-requires c =
    empty-inside c.args.self.now.board c.args.place (scratch-framed c.requires.kept.1) c.requires.empty

pub would_be_free-requires-clause-point : goal.would_be_free-requires-clause-point
would_be_free-requires-clause-point c =
    empty-inside c.args.self.now.board c.args.place (scratch-framed c.requires.kept.1) c.requires.empty

pub would_be_free-requires-clause-free : goal.would_be_free-requires-clause-free
would_be_free-requires-clause-free c = scratch-free c.requires.kept.1

pub returns-then-is_own_eye : goal.returns-then-is_own_eye
returns-then-is_own_eye c game kept = (
  (λ e. absurd (false≢true e)),
  (λ h. absurd (eye-refused c.args.place kept
      (subst (λ (b : List Cell). IsOwnEye b c.args.colour c.args.place) c.board.ensures
      (c.is_own_eye.ensures.0 c.if-is_own_eye.true)) h)),
)

pub returns-then-is_ko : goal.returns-then-is_ko
returns-then-is_ko c game kept = (
  (λ e. absurd (false≢true e)),
  (λ h. absurd (ko-refuses c.args.place kept (c.is_ko.ensures.0 c.if-is_ko.true) h)),
)

pub returns : goal.returns
returns c game kept = (
  (λ e. scratch-candidate c.args.place kept c.requires.empty
      (λ eye. false≢true (sym c.if-is_own_eye.false ∙ c.is_own_eye.ensures.1
      (subst (λ (b : List Cell). IsOwnEye b c.args.colour c.args.place) (sym c.board.ensures) eye)))
      (λ is. false≢true (sym c.if-is_ko.false ∙ c.is_ko.ensures.1 is))
      (c.would_be_free.ensures.0 e)),
  (λ h. c.would_be_free.ensures.1 (candidate-free c.args.place kept h)),
)
