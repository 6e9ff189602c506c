-- Control characters, by the bytes that they are.
use Rattle.std.proofs.Common.{◌≡◌, ◌≢◌, ℕ, ◌<◌, false, refl, arith, inl, inr}
use Rattle.std.proofs.lemmas.Bool.Decides.{nat_tests}
use Rattle.gtp_wire.specs.Bytes.{is_kept}
use Rattle.gtp_wire.specs.AnyText.{IsControl}

-- a control character is removed
pub control_removed : (b : ℕ) → IsControl b → is_kept b ≡ false
control_removed b control =
    elim control.0 [
      | inl low ↦ let small : b < 32 = low in
          let no_tab : b ≢ 9 = control.1 in
          let no_newline : b ≢ 10 = control.2 in grind (arith, nat_tests)
      | inr e ↦ rw e refl
    ]
