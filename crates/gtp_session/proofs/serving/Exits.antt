-- What a call of `answer_all` says at each of its ends.
use Rattle.std.proofs.Common.{◌≡◌, ℕ, ◌+◌, ◌≤◌, Bool, true, false, Result, Ok, Err, arith}

pub err_not_ok : {T E : Type 0} {e : E} {t : T} (r : Result T E) → r ≡ Err e → r ≡ Ok t → ⊥
err_not_ok r is_err is_ok = cc

pub ok_apart : {E : Type 0} (r : Result Bool E) → r ≡ Ok true → r ≡ Ok false → ⊥
ok_apart r is_true is_false = cc

pub few_more : (now before at whole : ℕ) → now ≤ before + at → at ≤ whole → now ≤ before + whole
few_more now before at whole few within = omega arith
