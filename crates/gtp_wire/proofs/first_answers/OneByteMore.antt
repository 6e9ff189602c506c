-- What one byte more makes of the bytes of a reply.
use Rattle.go_base.proofs.general.Fronts.{skip_while-some, skip_while-none}
use Rattle.std.proofs.Common.{◌≡◌, ℕ, zero, suc, ◌+◌, ◌-◌, ◌<◌, ◌≤◌, List, [], ◌∷◌, ◌++◌, length, take, drop, get_or}
use Rattle.std.proofs.Common.{Option, Some, None, Result, Ok, Err, Bool, true, false, refl, sym, ◌∙◌, ap, subst, arith}
use Rattle.std.proofs.Common.{eqb, inl, inr, ◌&&◌, not, map, append_assoc, append-nil, length-append, filter}
use Rattle.std.proofs.lemmas.Bool.{cases_lt, cases_Bool, and_parts}
use Rattle.std.proofs.lemmas.List.{take-append-le, take-append-drop, take_more, length-take-le}
use Rattle.std.proofs.lemmas.List.{take_all, take_at, map-append}
use Rattle.std.proofs.lemmas.List.Elements.{filter-append}
use Rattle.std.specs.List.{list_all}
use Rattle.go_base.specs.Text.{skip_while}
use Rattle.gtp_wire.specs.declared.replies.Reply.{Reply}
use Rattle.gtp_wire.specs.declared.replies.ReplyFault.{ReplyFault}
use Rattle.gtp_wire.specs.declared.replies.ReplyFault.TheVariants.{Overlong, NoStatus}
use Rattle.gtp_wire.specs.declared.reply_reader.Phase.{Phase}
use Rattle.gtp_wire.specs.declared.reply_reader.Phase.TheVariants.{Before, Body, Newline}
use Rattle.gtp_wire.specs.declared.reply_reader.Step.{Step}
use Rattle.gtp_wire.specs.Bytes.{is_kept, space_for_tab, is_newline, is_blank}
use Rattle.gtp_wire.specs.Replies.{most_reply_bytes, prepared, past_blanks, is_status, has_two_newlines}
use Rattle.gtp_wire.specs.Replies.{IsWhole, IsNoStatus, GivesAnswer, GivesNoAnswer, IsFirst}
use Rattle.gtp_wire.specs.private.ReplyReading.{stays, HasForm, IsReading, IsFaulty, HoldsReply, EndsInStep}
use Rattle.gtp_wire.proofs.reply_bytes.Newlines.{has_two_newlines_front, body_more, two_newlines}
use Rattle.gtp_wire.proofs.reply_bytes.BytesAndValue.{no_status_begun}

prepared_kept : (raw : List ℕ) (b : ℕ) → is_kept b ≡ true
    → prepared (raw ++ b ∷ []) ≡ prepared raw ++ space_for_tab b ∷ []
prepared_kept raw b kept =
    ap (map space_for_tab) (filter-append is_kept raw (b ∷ []))
    ∙ map-append space_for_tab (filter is_kept raw) (filter is_kept (b ∷ []))
    ∙ ap (λ l. prepared raw ++ map space_for_tab l) (one b kept)
  where
    one : (b : ℕ) → is_kept b ≡ true → filter is_kept (b ∷ []) ≡ b ∷ []
    one b kept = rw kept refl

-- a byte that is removed
pub removed_more : (raw : List ℕ) (b : ℕ) → is_kept b ≡ false → past_blanks (raw ++ b ∷ []) ≡ past_blanks raw
unfolding past_blanks
removed_more raw b removed =
    ap (λ l. skip_while is_blank (map space_for_tab l))
    (filter-append is_kept raw (b ∷ []) ∙ ap (λ l. filter is_kept raw ++ l) (none b removed)
    ∙ append-nil (filter is_kept raw))
  where
    none : (b : ℕ) → is_kept b ≡ false → filter is_kept (b ∷ []) ≡ []
    none b removed = rw removed refl

pub blank_more : (raw : List ℕ) (b : ℕ) → past_blanks raw ≡ [] → is_kept b ≡ true → is_blank (space_for_tab b) ≡ true
    → past_blanks (raw ++ b ∷ []) ≡ []
unfolding past_blanks
blank_more raw b none kept blank =
    ap (skip_while is_blank) (prepared_kept raw b kept)
    ∙ skip_while-none is_blank (prepared raw) (space_for_tab b ∷ []) none ∙ rw blank refl

pub first_byte : (raw : List ℕ) (b : ℕ) → past_blanks raw ≡ [] → is_kept b ≡ true → is_blank (space_for_tab b) ≡ false
    → past_blanks (raw ++ b ∷ []) ≡ space_for_tab b ∷ []
unfolding past_blanks
first_byte raw b none kept other =
    ap (skip_while is_blank) (prepared_kept raw b kept)
    ∙ skip_while-none is_blank (prepared raw) (space_for_tab b ∷ []) none ∙ rw other refl

pub byte_more : (raw : List ℕ) (b : ℕ) (v : ℕ) (vs : List ℕ) → past_blanks raw ≡ v ∷ vs → is_kept b ≡ true
    → past_blanks (raw ++ b ∷ []) ≡ v ∷ (vs ++ space_for_tab b ∷ [])
unfolding past_blanks
byte_more raw b v vs some kept =
    ap (skip_while is_blank) (prepared_kept raw b kept)
    ∙ skip_while-some is_blank (prepared raw) (space_for_tab b ∷ []) v vs some

-- one byte more gives no answer
pub quiet_push : (raw : List ℕ) (b : ℕ) → length raw < most_reply_bytes → GivesNoAnswer raw
    → (IsWhole (raw ++ b ∷ []) → ⊥) → (IsNoStatus (raw ++ b ∷ []) → ⊥) → GivesNoAnswer (raw ++ b ∷ [])
quiet_push raw b room quiet no_reply no_fault n answer inside is_given =
    elim (cases_lt (length raw) n) [
      | inl past ↦
          let all : take n (raw ++ b ∷ []) ≡ raw ++ b ∷ [] =
          take_all n (raw ++ b ∷ []) (omega (arith, length-append raw (b ∷ []))) in
          let P : List ℕ → Type 0 = λ t. GivesAnswer t answer in
          last_byte answer (subst P all is_given)
      | inr front ↦
          let same : take n (raw ++ b ∷ []) ≡ take n raw = take-append-le n raw (b ∷ []) front in
          let P : List ℕ → Type 0 = λ t. GivesAnswer t answer in
          quiet n answer front (subst P same is_given)
    ]
  where
    last_byte : (answer : Result Reply ReplyFault) → GivesAnswer (raw ++ b ∷ []) answer → ⊥
    last_byte (Ok value) is_given = no_reply is_given.whole
    last_byte (Err NoStatus) is_given = no_fault is_given
    last_byte (Err Overlong) is_given = absurd (omega (arith, is_given, length-append raw (b ∷ [])))

pub no_status_blank : (raw : List ℕ) → past_blanks raw ≡ [] → IsNoStatus raw → ⊥
no_status_blank raw none fault = let e : [] ≡ fault.byte ∷ fault.more = sym none ∙ fault.shape in cc

pub no_reply_blank : (raw : List ℕ) → past_blanks raw ≡ [] → IsWhole raw → ⊥
no_reply_blank raw none whole = let e : [] ≡ whole.status ∷ (whole.body ++ 10 ∷ 10 ∷ []) = sym none ∙ whole.shape in cc

no_reply_begun : (raw : List ℕ) (status : ℕ) (body : List ℕ) → past_blanks raw ≡ status ∷ body
    → has_two_newlines body ≡ false → IsWhole raw → ⊥
no_reply_begun raw status body shape none whole =
    let e : status ∷ body ≡ whole.status ∷ (whole.body ++ 10 ∷ 10 ∷ []) = sym shape ∙ whole.shape in
    let tails : body ≡ whole.body ++ 10 ∷ 10 ∷ [] = cc in
    let two : has_two_newlines body ≡ true =
    ap has_two_newlines (tails ∙ sym (append_assoc whole.body (10 ∷ []) (10 ∷ []))) ∙ two_newlines whole.body in
    cc

-- bytes that have the form of a phase are neither a reply nor a fault
no_reply : (phase : Phase) (raw : List ℕ) → HasForm phase (past_blanks raw) → IsWhole raw → ⊥
no_reply Before raw none = no_reply_blank raw none
no_reply Body raw begun =
    no_reply_begun raw begun.status (begun.body ++ []) begun.shape
    (ap has_two_newlines (append-nil begun.body) ∙ has_two_newlines_front begun.body (10 ∷ []) begun.first_end)
no_reply Newline raw begun = no_reply_begun raw begun.status (begun.body ++ 10 ∷ []) begun.shape begun.first_end

no_fault : (phase : Phase) (raw : List ℕ) → HasForm phase (past_blanks raw) → IsNoStatus raw → ⊥
no_fault Before raw none = no_status_blank raw none
no_fault Body raw begun = no_status_begun raw begun.status _ begun.shape begun.known
no_fault Newline raw begun = no_status_begun raw begun.status _ begun.shape begun.known

-- no front gives an answer
pub quiet_before : (raw : List ℕ) (b : ℕ) → GivesNoAnswer raw → (n : ℕ) (answer : Result Reply ReplyFault)
    → n < length (raw ++ b ∷ []) → GivesAnswer (take n (raw ++ b ∷ [])) answer → ⊥
quiet_before raw b quiet n answer inside is_given =
    let front : n ≤ length raw = omega (arith, length-append raw (b ∷ [])) in
    let same : take n (raw ++ b ∷ []) ≡ take n raw = take-append-le n raw (b ∷ []) front in
    let P : List ℕ → Type 0 = λ t. GivesAnswer t answer in
    quiet n answer front (subst P same is_given)

pub reported_by_all : (raw : List ℕ) (n : ℕ) (answer : Result Reply ReplyFault) → length raw ≤ n → GivesAnswer raw answer
    → GivesAnswer (take n raw) answer
reported_by_all raw n answer all is_given =
    let P : List ℕ → Type 0 = λ t. GivesAnswer t answer in subst P (sym (take_all n raw all)) is_given

-- the first answer of all of the bytes
pub first_given : (raw : List ℕ) (b count : ℕ) (answer : Result Reply ReplyFault) → count ≡ length raw + 1
    → ((n : ℕ) (other : Result Reply ReplyFault) → n < length (raw ++ b ∷ [])
    → GivesAnswer (take n (raw ++ b ∷ [])) other → ⊥)
    → GivesAnswer (raw ++ b ∷ []) answer → IsFirst (raw ++ b ∷ []) count answer
first_given raw b count answer e before is_given = record {
  inside = omega (arith, length-append raw (b ∷ []));
  is_given = reported_by_all (raw ++ b ∷ []) count answer (omega (arith, length-append raw (b ∷ []))) is_given;
  before = λ n other less t. before n other (omega (arith, length-append raw (b ∷ []))) t;
}

-- one byte more, after which the bytes have the form of a phase
reads_on : (phase : Phase) (raw : List ℕ) (b : ℕ) → length raw < most_reply_bytes → GivesNoAnswer raw
    → HasForm phase (past_blanks (raw ++ b ∷ [])) → IsReading (raw ++ b ∷ []) phase
reads_on phase raw b room quiet form = record {
  fits = omega (arith, length-append raw (b ∷ []));
  quiet =
      quiet_push raw b room quiet (no_reply phase (raw ++ b ∷ []) form) (no_fault phase (raw ++ b ∷ []) form);
  form_is = form;
}

-- what a byte makes of each phase
prepared_newline : (b : ℕ) → is_newline b ≡ false → is_newline (space_for_tab b) ≡ false
prepared_newline b other = elim (cases_Bool (eqb b 9)) [ inl e ↦ rw e refl | inr e ↦ rw e other ]

pub read_removed : (phase : Phase) (raw : List ℕ) (b : ℕ) → length raw < most_reply_bytes → is_kept b ≡ false
    → IsReading raw phase → IsReading (raw ++ b ∷ []) phase
read_removed phase raw b room removed reading =
    reads_on phase raw b room reading.quiet (subst (HasForm phase) (sym (removed_more raw b removed)) reading.form_is)

pub read_blank : (raw : List ℕ) (b : ℕ) → length raw < most_reply_bytes → is_kept b ≡ true
    → is_blank (space_for_tab b) ≡ true → IsReading raw Before → IsReading (raw ++ b ∷ []) Before
read_blank raw b room kept blank reading =
    reads_on Before raw b room reading.quiet (blank_more raw b reading.form_is kept blank)

pub read_status : (raw : List ℕ) (b : ℕ) → length raw < most_reply_bytes → is_kept b ≡ true
    → is_blank (space_for_tab b) ≡ false → is_status (space_for_tab b) ≡ true
    → IsReading raw Before → IsReading (raw ++ b ∷ []) Body
read_status raw b room kept other known reading = reads_on Body raw b room reading.quiet (record {
  status = space_for_tab b;
  body = [];
  shape = first_byte raw b reading.form_is kept other;
  known = known;
  first_end = refl;
})

pub read_no_status : (raw : List ℕ) (b : ℕ) → length raw < most_reply_bytes → is_kept b ≡ true
    → is_blank (space_for_tab b) ≡ false → is_status (space_for_tab b) ≡ false
    → IsReading raw Before → IsFaulty (raw ++ b ∷ []) NoStatus
read_no_status raw b room kept other strange reading =
    let fault : IsNoStatus (raw ++ b ∷ []) =
    record {
      fits = omega (arith, length-append raw (b ∷ []));
      byte = space_for_tab b;
      more = [];
      shape = first_byte raw b reading.form_is kept other;
      other = strange;
    } in
    first_given raw b (length (raw ++ b ∷ [])) (Err NoStatus) (length-append raw (b ∷ []))
    (quiet_before raw b reading.quiet) fault

-- more of a body
more_of : (raw : List ℕ) (b status : ℕ) (body : List ℕ) → length raw < most_reply_bytes → is_kept b ≡ true
    → is_newline b ≡ false → GivesNoAnswer raw
    → past_blanks raw ≡ status ∷ body → is_status status ≡ true → has_two_newlines body ≡ false
    → IsReading (raw ++ b ∷ []) Body
more_of raw b status body room kept other quiet shape known none = reads_on Body raw b room quiet (record {
  status = status;
  body = body ++ space_for_tab b ∷ [];
  shape = byte_more raw b status body shape kept
      ∙ ap (λ l. status ∷ l) (sym (append-nil (body ++ space_for_tab b ∷ [])));
  known = known;
  first_end = body_more body (space_for_tab b) none (prepared_newline b other);
})

pub read_body : (raw : List ℕ) (b : ℕ) → length raw < most_reply_bytes → is_kept b ≡ true → is_newline b ≡ false
    → IsReading raw Body → IsReading (raw ++ b ∷ []) Body
read_body raw b room kept other reading =
    more_of raw b reading.form_is.status reading.form_is.body room kept other reading.quiet
    (reading.form_is.shape ∙ ap (λ l. reading.form_is.status ∷ l) (append-nil reading.form_is.body))
    reading.form_is.known (has_two_newlines_front reading.form_is.body (10 ∷ []) reading.form_is.first_end)

pub read_after_newline : (raw : List ℕ) (b : ℕ) → length raw < most_reply_bytes → is_kept b ≡ true
    → is_newline b ≡ false → IsReading raw Newline → IsReading (raw ++ b ∷ []) Body
read_after_newline raw b room kept other reading =
    more_of raw b reading.form_is.status (reading.form_is.body ++ 10 ∷ []) room kept other reading.quiet
    reading.form_is.shape reading.form_is.known reading.form_is.first_end

pub read_newline : (raw : List ℕ) → length raw < most_reply_bytes → IsReading raw Body
    → IsReading (raw ++ 10 ∷ []) Newline
read_newline raw room reading =
    let begun = reading.form_is in
    reads_on Newline raw 10 room reading.quiet (record {
      status = begun.status;
      body = begun.body;
      shape = byte_more raw 10 begun.status begun.body
          (begun.shape ∙ ap (λ l. begun.status ∷ l) (append-nil begun.body)) refl;
      known = begun.known;
      first_end = begun.first_end;
    })

pub read_done : (raw : List ℕ) → length raw < most_reply_bytes → IsReading raw Newline → IsWhole (raw ++ 10 ∷ [])
read_done raw room reading =
    let begun = reading.form_is in
    record {
      fits = omega (arith, length-append raw (10 ∷ []));
      front = raw;
      last = refl;
      status = begun.status;
      body = begun.body;
      shape = byte_more raw 10 begun.status (begun.body ++ 10 ∷ []) begun.shape refl
          ∙ ap (λ l. begun.status ∷ l) (append_assoc begun.body (10 ∷ []) (10 ∷ []));
      known = begun.known;
      first_end = begun.first_end;
    }

take_nil : (n : ℕ) → take {A = ℕ} n [] ≡ []
take_nil zero = refl
take_nil (suc n) = refl

-- no bytes are nothing
pub past_nothing : past_blanks [] ≡ []
unfolding past_blanks
past_nothing = refl

pub read_nothing : IsReading [] Before
read_nothing = record { fits = omega arith; quiet = none; form_is = past_nothing }
  where
    none : GivesNoAnswer []
    none n (Ok value) inside is_given = no_reply_blank (take n []) (ap past_blanks (take_nil n) ∙ past_nothing) is_given.whole
    none n (Err NoStatus) inside is_given = no_status_blank (take n []) (ap past_blanks (take_nil n) ∙ past_nothing) is_given
    none n (Err Overlong) inside is_given = omega (arith, ap length (take_nil n), is_given)

-- a reader that has no fault is at its phase, and one whose bytes give no answer has none
pub without_fault : (raw : List ℕ) (phase : Phase) (fault : Option ReplyFault) → HoldsReply raw phase fault
    → GivesNoAnswer raw → (fault ≡ None) × IsReading raw phase
without_fault raw phase None holds quiet = (refl, holds)
without_fault raw phase (Some fault) holds quiet = absurd (quiet (length raw) (Err fault) (omega arith) holds.is_given)

pub first_overlong : (raw : List ℕ) (b count : ℕ) → count ≡ length raw + 1 → length raw ≡ most_reply_bytes
    → GivesNoAnswer raw → IsFirst (raw ++ b ∷ []) count (Err Overlong)
first_overlong raw b count e full quiet =
    first_given raw b count (Err Overlong) e (quiet_before raw b quiet) (omega (arith, length-append raw (b ∷ [])))

-- a first answer stays first, whatever comes next
pub first_more : (t u : List ℕ) (count : ℕ) (answer : Result Reply ReplyFault) → IsFirst t count answer
    → IsFirst (t ++ u) count answer
first_more t u count answer first =
    let P : List ℕ → Type 0 = λ l. GivesAnswer l answer in
    record {
      inside = omega (arith, first.inside, length-append t u);
      is_given = let within : count ≤ length t = first.inside in subst P (sym (take-append-le count t u within)) first.is_given;
      before = λ n other less is_given.
          let within : n ≤ length t = omega (arith, first.inside) in
          let Q : List ℕ → Type 0 = λ l. GivesAnswer l other in
          first.before n other less (subst Q (take-append-le n t u within) is_given);
    }

pub piece_more : (old input : List ℕ) (i : ℕ) (held : List ℕ) → i < length input → held ≡ old ++ take i input
    → held ++ get_or input i 0 ∷ [] ≡ old ++ take (i + 1) input
piece_more old input i held inside kept =
    ap (λ t. t ++ get_or input i 0 ∷ []) kept ∙ append_assoc old (take i input) (get_or input i 0 ∷ [])
    ∙ ap (λ t. old ++ t) (sym (take_more input i 0 inside))

-- what is known of one name of the bytes is known of the other
pub quiet_at : (raw now : List ℕ) → raw ≡ now → GivesNoAnswer now → GivesNoAnswer raw
quiet_at raw now same quiet = let P : List ℕ → Type 0 = λ t. GivesNoAnswer t in subst P (sym same) quiet

-- the body of a past_blanks
pub body_between : (l : List ℕ) (status : ℕ) (body : List ℕ) → l ≡ status ∷ (body ++ 10 ∷ 10 ∷ [])
    → take (length l - 3) (drop 1 l) ≡ body
body_between l status body shape =
    let long : length l ≡ length body + 3 = omega (arith, ap length shape, length-append body (10 ∷ 10 ∷ [])) in
    let n : length body ≡ length l - 3 = omega arith in
    ap (λ t. take (length l - 3) (drop 1 t)) shape ∙ take_at body (10 ∷ 10 ∷ []) (length l - 3) n

pub long_enough : (l : List ℕ) (status : ℕ) (body : List ℕ) → l ≡ status ∷ (body ++ 10 ∷ 10 ∷ []) → 3 ≤ length l
long_enough l status body shape = omega (arith, ap length shape, length-append body (10 ∷ 10 ∷ []))

-- ---- along a piece

-- the bytes so far and the next one
next_byte : (old input : List ℕ) (i : ℕ) → i < length input
    → (old ++ take i input) ++ get_or input i 0 ∷ [] ≡ old ++ take (i + 1) input
next_byte old input i inside = piece_more old input i (old ++ take i input) inside refl

length_so_far : (old input : List ℕ) (i : ℕ) → i < length input → length (old ++ take i input) ≡ length old + i
length_so_far old input i inside = omega (arith, length-append old (take i input), length-take-le i input (omega arith))

-- no byte so far
pub leads_nowhere : (raw old input : List ℕ) (phase : Phase) → raw ≡ old → IsReading raw phase
    → IsReading (old ++ take 0 input) phase
leads_nowhere raw old input phase same reading =
    let P : List ℕ → Type 0 = λ t. IsReading t phase in subst P (same ∙ sym (append-nil old)) reading

-- what the next byte leads to
pub next_reaches : (old input : List ℕ) (i : ℕ) (phase : Phase) (step : Step) → i < length input
    → length old + i < most_reply_bytes → IsReading (old ++ take i input) phase
    → ((raw : List ℕ) → length raw < most_reply_bytes → IsReading raw phase
    → EndsInStep (raw ++ get_or input i 0 ∷ []) step)
    → EndsInStep (old ++ take (i + 1) input) step
next_reaches old input i phase step inside room reading more =
    let P : List ℕ → Type 0 = λ t. EndsInStep t step in
    subst P (next_byte old input i inside)
    (more (old ++ take i input) (omega (arith, length_so_far old input i inside)) reading)

-- a byte that is too many
pub next_overlong : (old input : List ℕ) (i : ℕ) (phase : Phase) → i < length input → most_reply_bytes ≤ length old + i
    → IsReading (old ++ take i input) phase → IsFaulty (old ++ take (i + 1) input) Overlong
next_overlong old input i phase inside full reading =
    let held : List ℕ = old ++ take i input in
    let b : ℕ = get_or input i 0 in
    let P : List ℕ → Type 0 = λ t. IsFaulty t Overlong in
    let fits : length held ≤ most_reply_bytes = reading.fits in
    subst P (next_byte old input i inside)
    (first_overlong held b (length (held ++ b ∷ [])) (omega (arith, length-append held (b ∷ [])))
    (omega (arith, length_so_far old input i inside)) reading.quiet)

-- ---- what a piece gives

-- the front of a piece that gives an answer
pub given_in_piece : (old input : List ℕ) (used : ℕ) (answer : Result Reply ReplyFault) → used ≤ length input
    → IsFirst (old ++ take used input) (length (old ++ take used input)) answer
    → IsFirst (old ++ input) (length old + used) answer
given_in_piece old input used answer within first =
    let front : List ℕ = old ++ take used input in
    let count : length front ≡ length old + used =
    omega (arith, length-append old (take used input), length-take-le used input within) in
    let whole : front ++ drop used input ≡ old ++ input =
    append_assoc old (take used input) (drop used input) ∙ ap (λ t. old ++ t) (take-append-drop used input) in
    let P : List ℕ → Type 0 = λ t. IsFirst t (length old + used) answer in
    let Q : ℕ → Type 0 = λ n. IsFirst (front ++ drop used input) n answer in
    subst P whole (subst Q count (first_more front (drop used input) (length front) answer first))

-- ---- bytes that are parsed as they came

stays_parts : (k t : Bool) → (k && not t) ≡ true → (k ≡ true) × (t ≡ false)
stays_parts true false e = (refl, refl)
stays_parts true true e = absurd (cc)
stays_parts false t e = absurd (cc)

prepared_stays : (raw : List ℕ) → list_all stays raw ≡ true → prepared raw ≡ raw
prepared_stays [] all = refl
prepared_stays (b ∷ raw) all =
    let parts = and_parts (stays b) (list_all stays raw) all in
    let byte = stays_parts (is_kept b) (eqb b 9) parts.0 in
    rw byte.0 (rw byte.1 (ap (λ t. b ∷ t) (prepared_stays raw parts.1)))

pub past_copy : (raw : List ℕ) → past_blanks raw ≡ skip_while is_blank (prepared raw)
unfolding past_blanks
past_copy raw = refl

pub past_prepared : (raw : List ℕ) → list_all stays raw ≡ true → past_blanks raw ≡ skip_while is_blank raw
past_prepared raw all = past_copy raw ∙ ap (skip_while is_blank) (prepared_stays raw all)
