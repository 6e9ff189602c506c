-- A text gives one answer first, and no reply begins another.
use Rattle.go_base.proofs.general.Lists.{last_of}
use Rattle.go_base.proofs.general.Fronts.{skip_while-some}
use Rattle.std.proofs.Common.{◌≡◌, ℕ, ◌<◌, ◌≤◌, List, [], ◌∷◌, ◌++◌, length, take, drop, Result, Ok, Err, true, false}
use Rattle.std.proofs.Common.{refl, sym, ◌∙◌, ap, subst, arith, inl, inr, map, filter, append_assoc, length-append}
use Rattle.std.proofs.Common.{length-drop, append-nil}
use Rattle.std.proofs.lemmas.Bool.{cases_lt}
use Rattle.std.proofs.lemmas.List.{same_from_push, append_cancel_right, map-append, take-append-le, take-append-drop}
use Rattle.std.proofs.lemmas.List.{take_all, take-take, length-take-le}
use Rattle.std.proofs.lemmas.List.Elements.{filter-append}
use Rattle.go_base.specs.Text.{skip_while}
use Rattle.gtp_wire.specs.declared.replies.Reply.{Reply}
use Rattle.gtp_wire.specs.declared.replies.ReplyFault.{ReplyFault}
use Rattle.gtp_wire.specs.declared.replies.ReplyFault.TheVariants.{Overlong, NoStatus}
use Rattle.gtp_wire.specs.Bytes.{is_kept, space_for_tab, is_blank}
use Rattle.gtp_wire.specs.Replies.{prepared, past_blanks, has_two_newlines, IsWhole, IsReply, IsNoStatus, GivesAnswer}
use Rattle.gtp_wire.specs.Replies.{GivesNoAnswer, IsFirst, reply_of, is_status}
use Rattle.gtp_wire.proofs.reply_bytes.Newlines.{has_two_newlines_front, two_newlines}
use Rattle.gtp_wire.proofs.reply_bytes.BytesAndValue.{no_status_begun}

-- one reply has one value
pub one_value : (raw : List ℕ) (v w : Reply) → IsReply raw v → IsReply raw w → v ≡ w
one_value raw v w a b =
    let shapes : a.whole.status ∷ (a.whole.body ++ 10 ∷ 10 ∷ []) ≡ b.whole.status ∷ (b.whole.body ++ 10 ∷ 10 ∷ []) =
    sym a.whole.shape ∙ b.whole.shape in
    let status : a.whole.status ≡ b.whole.status = cc in
    let tails : a.whole.body ++ 10 ∷ 10 ∷ [] ≡ b.whole.body ++ 10 ∷ 10 ∷ [] = cc in
    let body : a.whole.body ≡ b.whole.body = append_cancel_right a.whole.body b.whole.body (10 ∷ 10 ∷ []) tails in
    a.value_is ∙ ap (λ s. reply_of s a.whole.body) status ∙ ap (reply_of b.whole.status) body ∙ sym b.value_is

-- what is answered at one byte is one thing
pub one_answer : (raw : List ℕ) (a b : Result Reply ReplyFault) → GivesAnswer raw a → GivesAnswer raw b → a ≡ b
one_answer raw (Ok v) (Ok w) x y = ap (λ v. Ok v) (one_value raw v w x y)
one_answer raw (Ok v) (Err NoStatus) x y = absurd (no_status_begun raw x.whole.status _ x.whole.shape x.whole.known y)
one_answer raw (Ok v) (Err Overlong) x y = absurd (omega (arith, x.whole.fits))
one_answer raw (Err NoStatus) (Ok w) x y = absurd (no_status_begun raw y.whole.status _ y.whole.shape y.whole.known x)
one_answer raw (Err NoStatus) (Err NoStatus) x y = refl
one_answer raw (Err NoStatus) (Err Overlong) x y = absurd (omega (arith, x.fits))
one_answer raw (Err Overlong) (Ok w) x y = absurd (omega (arith, y.whole.fits))
one_answer raw (Err Overlong) (Err NoStatus) x y = absurd (omega (arith, y.fits))
one_answer raw (Err Overlong) (Err Overlong) x y = refl

-- a text gives one answer first, and gives it at one byte
pub one_first : (text : List ℕ) (n m : ℕ) (a b : Result Reply ReplyFault) → IsFirst text n a → IsFirst text m b
    → (n ≡ m) × (a ≡ b)
one_first text n m a b x y = elim (cases_lt n m) [
  | inl less ↦ absurd (y.before n a less x.is_given)
  | inr le ↦ elim (cases_lt m n) [
    | inl less ↦ absurd (x.before m b less y.is_given)
    | inr ge ↦
        let same : n ≡ m = omega arith in
        let P : ℕ → Type 0 = λ k. GivesAnswer (take k text) a in
        (same, one_answer (take m text) a b (subst P same x.is_given) y.is_given)
  ]
]

-- no reply is a proper front of another
pub prepared-append : (a b : List ℕ) → prepared (a ++ b) ≡ prepared a ++ prepared b
prepared-append a b =
    ap (map space_for_tab) (filter-append is_kept a b)
    ∙ map-append space_for_tab (filter is_kept a) (filter is_kept b)

pub past_blanks_more : (raw more : List ℕ) (x : ℕ) (xs : List ℕ) → past_blanks raw ≡ x ∷ xs
    → past_blanks (raw ++ more) ≡ x ∷ (xs ++ prepared more)
unfolding past_blanks
past_blanks_more raw more x xs shape =
    ap (skip_while is_blank) (prepared-append raw more) ∙ skip_while-some is_blank (prepared raw) (prepared more) x xs shape

pub no_reply_in_reply : (raw : List ℕ) (b : ℕ) (bs : List ℕ) → IsWhole raw → IsWhole (raw ++ b ∷ bs) → ⊥
no_reply_in_reply raw b bs short long =
    let last = last_of b bs in
    let ends =
    same_from_push (raw ++ last.0) long.front last.1 10
    (append_assoc raw last.0 (last.1 ∷ []) ∙ ap (λ t. raw ++ t) (sym last.2) ∙ long.last) in
    let tail : prepared (b ∷ bs) ≡ prepared last.0 ++ 10 ∷ [] =
    ap prepared last.2 ∙ ap (λ c. prepared (last.0 ++ c ∷ [])) ends.1 ∙ prepared-append last.0 (10 ∷ []) in
    let both : short.status ∷ ((short.body ++ 10 ∷ 10 ∷ []) ++ prepared (b ∷ bs))
    ≡ long.status ∷ (long.body ++ 10 ∷ 10 ∷ []) =
    sym (past_blanks_more raw (b ∷ bs) short.status (short.body ++ 10 ∷ 10 ∷ []) short.shape) ∙ long.shape in
    let tails : (short.body ++ 10 ∷ 10 ∷ []) ++ prepared (b ∷ bs) ≡ long.body ++ 10 ∷ 10 ∷ [] = cc in
    let same = same_from_push ((short.body ++ 10 ∷ 10 ∷ []) ++ prepared last.0) (long.body ++ 10 ∷ []) 10 10
    (append_assoc (short.body ++ 10 ∷ 10 ∷ []) (prepared last.0) (10 ∷ [])
    ∙ ap (λ t. (short.body ++ 10 ∷ 10 ∷ []) ++ t) (sym tail) ∙ tails
    ∙ sym (append_assoc long.body (10 ∷ []) (10 ∷ [])))
    in
    let none : has_two_newlines (short.body ++ 10 ∷ 10 ∷ []) ≡ false =
    has_two_newlines_front (short.body ++ 10 ∷ 10 ∷ []) (prepared last.0)
    (ap has_two_newlines same.0 ∙ long.first_end) in
    let two : has_two_newlines (short.body ++ 10 ∷ 10 ∷ []) ≡ true =
    ap has_two_newlines (sym (append_assoc short.body (10 ∷ []) (10 ∷ []))) ∙ two_newlines short.body in
    cc

-- a front of a reply begins as it does
no_status_in_reply : (front later : List ℕ) → IsWhole (front ++ later) → IsNoStatus front → ⊥
no_status_in_reply front later whole fault =
    let shapes : fault.byte ∷ (fault.more ++ prepared later) ≡ whole.status ∷ (whole.body ++ 10 ∷ 10 ∷ []) =
    sym (past_blanks_more front later fault.byte fault.more fault.shape) ∙ whole.shape in
    let same : fault.byte ≡ whole.status = cc in
    let known : is_status fault.byte ≡ true = ap is_status same ∙ whole.known in
    let other : is_status fault.byte ≡ false = fault.other in
    cc

-- a proper front of a reply gives no answer
pub front_is_quiet : (front : List ℕ) (b : ℕ) (more : List ℕ) (other : Result Reply ReplyFault)
    → IsWhole (front ++ b ∷ more) → GivesAnswer front other → ⊥
front_is_quiet front b more (Ok value) whole is_given = no_reply_in_reply front b more is_given.whole whole
front_is_quiet front b more (Err NoStatus) whole is_given = no_status_in_reply front (b ∷ more) whole is_given
front_is_quiet front b more (Err Overlong) whole is_given =
    omega (arith, is_given, whole.fits, length-append front (b ∷ more))

pub reply_is_first : (raw later : List ℕ) (value : Reply) → IsReply raw value
    → IsFirst (raw ++ later) (length raw) (Ok value)
reply_is_first raw later value reply =
    let P : List ℕ → Type 0 = λ t. IsReply t value in
    record {
      inside = omega (arith, length-append raw later);
      is_given = subst P (sym (take_front raw later)) reply;
      before = λ n other less is_given.
          let inside : n ≤ length raw = omega arith in
          let T : List ℕ → Type 0 = λ t. GivesAnswer t other in
          quiet n other less (subst T (take-append-le n raw later inside) is_given);
    }
  where
    take_front : (a b : List ℕ) → take (length a) (a ++ b) ≡ a
    take_front a b = take-append-le (length a) a b (omega arith) ∙ take_all (length a) a (omega arith)

    quiet : (n : ℕ) (other : Result Reply ReplyFault) → n < length raw → GivesAnswer (take n raw) other → ⊥
    quiet n other less is_given =
        let W : List ℕ → Type 0 = λ t. IsWhole t in
        after_front (drop n raw) (omega (arith, length-drop n raw))
        (subst W (sym (take-append-drop n raw)) reply.whole) is_given
      where
        after_front : (l : List ℕ) → 0 < length l → IsWhole (take n raw ++ l) → GivesAnswer (take n raw) other → ⊥
        after_front [] some whole is_given = omega arith
        after_front (b ∷ more) some whole is_given = front_is_quiet (take n raw) b more other whole is_given

pub first_at : (raw : List ℕ) (value : Reply) → IsReply raw value → IsFirst raw (length raw) (Ok value)
first_at raw value reply =
    let P : List ℕ → Type 0 = λ t. IsFirst t (length raw) (Ok value) in
    subst P (append-nil raw) (reply_is_first raw [] value reply)

-- a reply that is cut short gives no answer
pub front_answers_nothing : (raw : List ℕ) (value : Reply) (k : ℕ) → IsReply raw value → k < length raw
    → GivesNoAnswer (take k raw)
front_answers_nothing raw value k reply less n answer inside is_given =
    let first = reply_is_first raw [] value reply in
    let short : n ≤ k = omega (arith, inside, length-take-le k raw (omega arith)) in
    let T : List ℕ → Type 0 = λ t. GivesAnswer t answer in
    first.before n answer (omega arith) (subst T (take-take n k raw short ∙ ap (take n) (sym (append-nil raw))) is_given)
