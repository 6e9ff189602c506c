-- The bytes of a reply and what they say.
use Rattle.std.proofs.Common.{◌≢◌, ◌⊎◌, refl}
use Rattle.std.proofs.lemmas.Bool.Decides.{nat_tests}
use Rattle.std.specs.List.{AllByRecursion}
use Rattle.gtp_wire.specs.Bytes.{is_kept, space_for_tab}
use Rattle.gtp_wire.specs.Replies.{prepared}
use Rattle.gtp_wire.specs.AnyText.{IsPrinted}
use Rattle.std.proofs.Common.{◌≡◌, ℕ, ◌≤◌, arith, List, [], ◌∷◌}
use Rattle.std.proofs.Common.{Option, Bool, true, false, sym, ◌∙◌, ap, cond, eqb, inl, inr}
use Rattle.std.specs.Prelude.{is_some}
use Rattle.std.specs.Char.{is_ascii_digit}
use Rattle.arrayvec.specs.ArrayVec.{ArrayVec}
use Rattle.go_base.specs.Int.{int_of}
use Rattle.go_base.specs.Text.{skip_while, front_while}
use Rattle.gtp_wire.specs.declared.replies.Reply.{Reply}
use Rattle.gtp_wire.specs.Replies.{past_blanks, is_status, IsWhole, IsReply, IsNoStatus, trim}

pub no_status_begun : (raw : List ℕ) (status : ℕ) (l : List ℕ) → past_blanks raw ≡ status ∷ l
    → is_status status ≡ true → IsNoStatus raw → ⊥
no_status_begun raw status l shape known fault =
    let e : status ∷ l ≡ fault.byte ∷ fault.more = sym shape ∙ fault.shape in
    let same : status ≡ fault.byte = cc in
    let other : is_status status ≡ false = ap is_status same ∙ fault.other in
    cc

abbrev reply_record : Bool → Option ℕ → ArrayVec ℕ → Reply
reply_record ok id text = record { ok = ok; id = id; text = text }

same_reply : {ok ok' : Bool} {id id' : Option ℕ} {text text' : ArrayVec ℕ} → ok ≡ ok' → id ≡ id' → text ≡ text'
    → reply_record ok id text ≡ reply_record ok' id' text'
same_reply a b c = cc

-- a reply of these parts
pub reply_made : (raw : List ℕ) (whole : IsWhole raw) (ok : Bool) (id : Option ℕ) (text : ArrayVec ℕ)
    → ok ≡ eqb whole.status 61 → id ≡ int_of (front_while is_ascii_digit whole.body)
    → text.items ≡ trim (cond (is_some id) (skip_while is_ascii_digit whole.body) whole.body)
    → IsReply raw (record { ok = ok; id = id; text = text })
reply_made raw whole ok id text ok_is id_is text_is =
    let text_same : text.items ≡ trim
    (cond (is_some (int_of (front_while is_ascii_digit whole.body))) (skip_while is_ascii_digit whole.body) whole.body) =
    text_is ∙ ap (λ i. trim (cond (is_some i) (skip_while is_ascii_digit whole.body) whole.body)) id_is in
    record { whole = whole; value_is = same_reply ok_is id_is (ap (λ t. record { items = t }) text_same) }

-- the bytes of a reply that are left: newlines, and bytes that are printed
abbrev pub IsReplyByte : ℕ → Type 0
IsReplyByte b = (b ≡ 10) ⊎ IsPrinted b

pub prepared_printed : (l : List ℕ) → AllByRecursion IsReplyByte l → prepared l ≡ l
prepared_printed [] all = refl
prepared_printed (b ∷ l) all =
    rw (kept b all.0) (rw (stays b all.0) (ap (λ t. b ∷ t) (prepared_printed l all.1)))
  where
    kept : (b : ℕ) → IsReplyByte b → is_kept b ≡ true
    kept b is = elim is [
      | inl e ↦ rw e refl
      | inr h ↦ let low : 32 ≤ b = h.0 in let no_delete : b ≢ 127 = h.1 in grind (arith, nat_tests)
    ]

    stays : (b : ℕ) → IsReplyByte b → space_for_tab b ≡ b
    stays b is = elim is [ inl e ↦ rw e refl | inr h ↦ let low : 32 ≤ b = h.0 in grind (arith, nat_tests) ]

pub status_past : (ok : Bool) (l : List ℕ) → prepared l ≡ l → past_blanks (cond ok 61 63 ∷ l) ≡ cond ok 61 63 ∷ l
unfolding past_blanks
status_past true l same = ap (λ t. 61 ∷ t) same
status_past false l same = ap (λ t. 63 ∷ t) same

pub status_test : (ok : Bool) → is_status (cond ok 61 63) ≡ true
status_test true = refl
status_test false = refl

pub status_ok : (ok : Bool) → ok ≡ eqb (cond ok 61 63) 61
status_ok true = refl
status_ok false = refl
