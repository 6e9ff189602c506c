-- Whether a game is finished: a test decides it.
use Rattle.std.proofs.Common.{◌≡◌, refl, sym, Bool, true, false, true≢false}
use Rattle.std.specs.Prelude.{◌↔◌, IsTrue}
use Rattle.go_base.specs.Decide.{holds}
use Rattle.go_board.proofs.captures.CapturedStones.{holds-yes, holds-no}

-- a test of it decides it
pub decided_by : {P : Type 0} (d : Dec P) (test : Bool) → IsTrue test ↔ P → test ≡ holds d
decided_by d true is = sym (holds-yes d (is.0 refl))
decided_by d false is = sym (holds-no d (λ p. true≢false (sym (is.1 p))))
