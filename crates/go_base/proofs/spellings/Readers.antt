-- The clauses of a reader.
use Rattle.std.proofs.Common.{Option, Some, None}
use Rattle.std.specs.Prelude.{IfNone}

-- what always holds holds where there is no result
pub IfNone-always : {X Q : Type 0} (o : Option X) → Q → IfNone o Q
IfNone-always None q = q
IfNone-always (Some x) q = tt
