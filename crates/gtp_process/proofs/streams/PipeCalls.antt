-- Calls of a pipe in a row.
use Rattle.std.proofs.Common.{ℕ, Ok, Err}
use Rattle.std.specs.Prelude.{Result, OnOk, OnErr}
use Rattle.gtp_process.specs.Pipes.{AreInterrupted, Fails, GoesThrough, IsCutOff, IsUnbroken, OutputEnded, RunsOut}
use Rattle.gtp_process.specs.Pipes.{broke}
use Rattle.gtp_process.specs.Pipes.{interrupted, no_call, one_more, ran_out, tried, untouched, went}

-- calls and then more of them
pub unbroken-then : {P : Type 0} {fails : Fails P} {succeeds : GoesThrough P} {before mid after : P}
    → IsUnbroken fails succeeds before mid → IsUnbroken fails succeeds mid after
    → IsUnbroken fails succeeds before after
unbroken-then p untouched = p
unbroken-then p (tried q fault) = tried (unbroken-then p q) fault
unbroken-then p (went q through) = went (unbroken-then p q) through

-- calls that were interrupted didn't break
pub unbroken-tries : {P : Type 0} {fails : Fails P} {succeeds : GoesThrough P} {before after : P} {n : ℕ}
    → AreInterrupted fails before n after → IsUnbroken fails succeeds before after
unbroken-tries no_call = untouched
unbroken-tries (one_more p fault) = tried (unbroken-tries p) fault

-- calls that didn't break, and then some that cut the process off
pub cut_off-then : {P : Type 0} {fails : Fails P} {succeeds : GoesThrough P} {before mid after : P}
    → IsUnbroken fails succeeds before mid → IsCutOff fails succeeds mid after → IsCutOff fails succeeds before after
cut_off-then p (broke q fault) = broke (unbroken-then p q) fault
cut_off-then p (interrupted q tries) = interrupted (unbroken-then p q) tries

-- calls that didn't break, and then some that met the end of the output
pub ended-then : {P : Type 0} {fails : Fails P} {succeeds : GoesThrough P} {runs_out : RunsOut P} {before mid after : P}
    → IsUnbroken fails succeeds before mid → OutputEnded fails succeeds runs_out mid after
    → OutputEnded fails succeeds runs_out before after
ended-then p (ran_out q over) = ran_out (unbroken-then p q) over

-- the same of a last call, whatever it returns
pub unbroken-last : {P T E : Type 0} {fails : Fails P} {succeeds : GoesThrough P} {before mid : P} (after : P)
    (result : Result T E)
    → IsUnbroken fails succeeds before mid → OnOk result (IsUnbroken fails succeeds mid after)
    → OnOk result (IsUnbroken fails succeeds before after)
unbroken-last after (Ok value) p q = unbroken-then p q
unbroken-last after (Err fault) p q = tt

pub cut_off-last : {P T E : Type 0} {fails : Fails P} {succeeds : GoesThrough P} {before mid : P} (after : P)
    (result : Result T E)
    → IsUnbroken fails succeeds before mid → OnErr result (IsCutOff fails succeeds mid after)
    → OnErr result (IsCutOff fails succeeds before after)
cut_off-last after (Ok value) p q = tt
cut_off-last after (Err fault) p q = cut_off-then p q
