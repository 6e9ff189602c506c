use Rattle.std.proofs.Common.{◌≤◌, arith}
use Rattle.std.proofs.lemmas.Bool.{leb-true}
use Rattle.std.proofs.lemmas.Bool.Decides.{nat_tests}
use Rattle.go_base.proofs.handicaps.allows.Goals as goal

pub returns-then-stones-ge2-clause-allowed : goal.returns-then-stones-ge2-clause-allowed
returns-then-stones-ge2-clause-allowed c = (
  (λ e. (c.most_stones.ensures.most c.args.stones).0 (c.if-stones-ge2.true, leb-true _ _ e)),
  (λ allowed.
      let most : c.args.stones ≤ c.most_stones.result = ((c.most_stones.ensures.most c.args.stones).1 allowed).1 in
      grind (arith, nat_tests)),
)
