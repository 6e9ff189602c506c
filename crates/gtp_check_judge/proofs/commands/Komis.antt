-- What is due to a `komi`.
use Rattle.std.proofs.Common.{◌≡◌, Bool, true, false, refl, sym, ◌∙◌, ap, subst}
use Rattle.std.specs.Prelude.{ℤ, if◌then◌else◌}
use Rattle.gtp_check_judge.specs.declared.dues.Due.{Due}
use Rattle.gtp_check_judge.specs.declared.dues.Due.TheVariants.{Succeeds, Fails, Places, Resizes, Scores, AnyReply}
use Rattle.gtp_check_judge.specs.declared.dues.Due.TheVariants.{Chooses, MayUndo, Lists}
use Rattle.gtp_check_judge.specs.Dues.{komi_due}
use Rattle.gtp_check_judge.specs.Judging.{is_open}
use Rattle.gtp_check_judge.specs.Komis.{is_exact_komi}

-- a success, or any reply
pub data KomiDue (komi : ℤ) (due : Due) : Type 0 where
  exact : is_exact_komi komi ≡ true → due ≡ Succeeds → KomiDue komi due
  inexact : is_exact_komi komi ≡ false → due ≡ AnyReply → KomiDue komi due

pub komi_dues : (komi : ℤ) (due : Due) → due ≡ komi_due komi → KomiDue komi due
komi_dues komi due h = by (is_exact_komi komi) refl h
  where
    by : (b : Bool) → is_exact_komi komi ≡ b → due ≡ (if b then Succeeds else AnyReply) → KomiDue komi due
    by true e is = KomiDue.exact e is
    by false e is = KomiDue.inexact e is

-- and nothing else
abbrev pub OfKomi : Due → Type 0
OfKomi Succeeds = Unit {0}
OfKomi AnyReply = Unit {0}
OfKomi (Fails cause) = ⊥
OfKomi (Places size stones) = ⊥
OfKomi (Resizes size) = ⊥
OfKomi (Scores s k) = ⊥
OfKomi (Chooses colour) = ⊥
OfKomi MayUndo = ⊥
OfKomi Lists = ⊥

pub of_komi : (komi : ℤ) (due : Due) → due ≡ komi_due komi → OfKomi due
of_komi komi due h = by (komi_dues komi due h)
  where
    by : KomiDue komi due → OfKomi due
    by (KomiDue.exact e is) = subst OfKomi (sym is) tt
    by (KomiDue.inexact e is) = subst OfKomi (sym is) tt

-- it leaves nothing open
pub komi_closed : (komi : ℤ) (due : Due) → due ≡ komi_due komi → is_open due ≡ false
komi_closed komi due h = by (komi_dues komi due h)
  where
    by : KomiDue komi due → is_open due ≡ false
    by (KomiDue.exact e is) = ap is_open is
    by (KomiDue.inexact e is) = ap is_open is

-- any reply is due where it isn't one that every engine has to take
pub any_inexact : (komi : ℤ) → AnyReply ≡ komi_due komi → is_exact_komi komi ≡ false
any_inexact komi h = by (komi_dues komi AnyReply h)
  where
    by : KomiDue komi AnyReply → is_exact_komi komi ≡ false
    by (KomiDue.exact e is) = absurd (cc is)
    by (KomiDue.inexact e is) = e

pub inexact_any : (komi : ℤ) (due : Due) → is_exact_komi komi ≡ false → due ≡ komi_due komi → due ≡ AnyReply
inexact_any komi due isnt h = by (komi_dues komi due h)
  where
    by : KomiDue komi due → due ≡ AnyReply
    by (KomiDue.exact e is) = absurd (let both : true ≡ false = sym e ∙ isnt in cc both)
    by (KomiDue.inexact e is) = is
