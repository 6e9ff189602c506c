-- What is written is read: a written reply is one reply, of its status, id and text.
use Rattle.go_base.proofs.general.Lists.{AllByRecursion-append, AllByRecursion-implied, last_of}
use Rattle.std.proofs.lemmas.Bool.{or_cases, and_parts}
use Rattle.go_base.proofs.general.Fronts.{front_while-append, skip_while-append, digits_model}
use Rattle.std.proofs.Common.{◌≡◌, ℕ, ◌+◌, ◌≤◌, List, [], ◌∷◌, ◌++◌, length, Option, Some, None, Bool, true, false}
use Rattle.std.proofs.Common.{refl, sym, ◌∙◌, ap, subst, arith, cond, leb, ◌⊎◌, inl, inr, reverse}
use Rattle.std.proofs.Common.{append_assoc, append-nil, length-append}
use Rattle.std.specs.Prelude.{is_some, IfSome}
use Rattle.std.specs.Char.{is_ascii_digit}
use Rattle.std.specs.List.{AllByRecursion, list_all}
use Rattle.std.specs.Fmt.{decimal}
use Rattle.std.specs.Str.Parse.{AllDigits}
use Rattle.std.proofs.lemmas.Bool.{eqb-true, leb-true, cases_Bool, or_parts}
use Rattle.std.proofs.lemmas.Bool.Decides.{nat_tests}
use Rattle.std.proofs.lemmas.Fmt.{decimal_is_IsNumeral, length-decimal-le}
use Rattle.std.proofs.lemmas.Str.Parse.{digit_from_value}
use Rattle.std.proofs.lemmas.List.{reverse-append, reverse-reverse}
use Rattle.go_base.specs.Int.{int_of, most_int}
use Rattle.go_base.proofs.numbers.Ints.{int_of_spelled}
use Rattle.go_base.specs.Text.{front_while, skip_while}
use Rattle.gtp_wire.specs.declared.replies.Reply.{Reply}
use Rattle.gtp_wire.specs.Bytes.{is_newline, is_space, is_blank}
use Rattle.gtp_wire.specs.Replies.{has_two_newlines, trim}
use Rattle.gtp_wire.specs.Replies.{IsWhole, IsReply, written_reply, written_id, spaced, is_shown, begins_blank}
use Rattle.gtp_wire.specs.Replies.{IsReplyText}
use Rattle.gtp_wire.proofs.reply_bytes.Newlines.{has_two_newlines_front, body_more}
use Rattle.gtp_wire.proofs.reply_bytes.BytesAndValue.{reply_made, IsReplyByte, prepared_printed, status_past}
use Rattle.gtp_wire.proofs.reply_bytes.BytesAndValue.{status_test, status_ok}

-- a newline or a byte that is shown
abbrev IsShown : ℕ → Type 0
IsShown b = (b ≡ 10) ⊎ ((32 ≤ b) × (b ≤ 126))

shown_byte : (b : ℕ) → is_shown b ≡ true → IsShown b
shown_byte b shown = elim (or_cases (is_newline b) _ shown) [
  | inl e ↦ inl (eqb-true b 10 e)
  | inr h ↦ let parts = and_parts (leb 32 b) (leb b 126) h in inr (leb-true _ _ parts.0, leb-true _ _ parts.1)
]

pub all_shown : (l : List ℕ) → list_all is_shown l ≡ true → AllByRecursion IsShown l
all_shown [] shown = tt
all_shown (b ∷ l) shown = elim (cases_Bool (is_shown b)) [
  | inl e ↦ let rest : list_all is_shown l ≡ true = rw e at shown in (shown_byte b e, all_shown l rest)
  | inr e ↦ let none : false ≡ true = rw e at shown in absurd (cc)
]

shown_printed : (b : ℕ) → IsShown b → IsReplyByte b
shown_printed b (inl e) = inl e
shown_printed b (inr h) = inr (h.0, λ (e : b ≡ 127). omega (arith, h.1, e))

-- digits
abbrev pub IsDigit : ℕ → Type 0
IsDigit c = (48 ≤ c) × (c ≤ 57)

pub digits_of_value : (l : List ℕ) → AllDigits 10 l → AllByRecursion IsDigit l
digits_of_value [] all = tt
digits_of_value (c ∷ l) all = let range = digit_from_value c all.0 in ((range.0, range.1), digits_of_value l all.1)

digit_no_newline : (c : ℕ) → IsDigit c → is_newline c ≡ false
digit_no_newline c digit = let low : 48 ≤ c = digit.0 in grind (arith, nat_tests)

has_two_newlines_cons : (d : ℕ) (l : List ℕ) → is_newline d ≡ false → has_two_newlines (d ∷ l) ≡ has_two_newlines l
has_two_newlines_cons d [] other = refl
has_two_newlines_cons d (x ∷ l) other = rw other refl

has_two_newlines_digits : (ds s : List ℕ) → AllByRecursion IsDigit ds
    → has_two_newlines (ds ++ s) ≡ has_two_newlines s
has_two_newlines_digits [] s all = refl
has_two_newlines_digits (d ∷ ds) s all =
    has_two_newlines_cons d (ds ++ s) (digit_no_newline d all.0) ∙ has_two_newlines_digits ds s all.1

-- the text after its space
spaced_front : (text : List ℕ) → front_while is_ascii_digit (spaced text) ≡ []
spaced_front [] = refl
spaced_front (b ∷ bs) = refl

spaced_rest : (text : List ℕ) → skip_while is_ascii_digit (spaced text) ≡ spaced text
spaced_rest [] = refl
spaced_rest (b ∷ bs) = refl

not_space : (b : ℕ) → is_blank b ≡ false → is_space b ≡ false
not_space b other = (or_parts (is_space b) (is_newline b) other).0

not_newline : (b : ℕ) → is_blank b ≡ false → is_newline b ≡ false
not_newline b other = (or_parts (is_space b) (is_newline b) other).1

skip_none : (b : ℕ) (bs : List ℕ) → is_space b ≡ false → skip_while is_space (b ∷ bs) ≡ b ∷ bs
skip_none b bs other = rw other refl

-- the last byte of a text that doesn't end with a blank
last_byte : (front : List ℕ) (c : ℕ) (text : List ℕ) → text ≡ front ++ c ∷ [] → begins_blank (reverse text) ≡ false
    → is_blank c ≡ false
last_byte front c text e none = sym (ap begins_blank (ap reverse e ∙ reverse-append front (c ∷ []))) ∙ none

trim_spaced : (text : List ℕ) → IsReplyText text → trim (spaced text) ≡ text
trim_spaced [] fits = refl
trim_spaced (b ∷ bs) fits =
    let last = last_of b bs in
    let turned : reverse (b ∷ bs) ≡ last.1 ∷ reverse last.0 =
    ap reverse last.2 ∙ reverse-append last.0 (last.1 ∷ []) in
    let other : is_space last.1 ≡ false = not_space last.1 (last_byte last.0 last.1 (b ∷ bs) last.2 fits.end) in
    ap (λ t. reverse (skip_while is_space (reverse t))) (skip_none b bs (not_space b fits.front))
    ∙ ap (λ t. reverse (skip_while is_space t)) turned
    ∙ ap reverse (skip_none last.1 (reverse last.0) other ∙ sym turned)
    ∙ reverse-reverse (b ∷ bs)

has_two_newlines_spaced : (text : List ℕ) → IsReplyText text → has_two_newlines (spaced text ++ 10 ∷ []) ≡ false
has_two_newlines_spaced [] fits = refl
has_two_newlines_spaced (b ∷ bs) fits =
    let last = last_of b bs in
    let P : List ℕ → Type 0 = λ t. has_two_newlines t ≡ false in
    let front : has_two_newlines last.0 ≡ false =
    has_two_newlines_front last.0 (last.1 ∷ []) (subst P last.2 fits.single) in
    has_two_newlines_cons 32 (b ∷ bs ++ 10 ∷ []) refl
    ∙ ap (λ t. has_two_newlines (t ++ 10 ∷ [])) last.2
    ∙ body_more last.0 last.1 front (not_newline last.1 (last_byte last.0 last.1 (b ∷ bs) last.2 fits.end))

pub length-spaced : (text : List ℕ) → length (spaced text) ≤ length text + 1
length-spaced [] = omega arith
length-spaced (b ∷ bs) = omega arith

-- the digits of an id
pub record IsIdText (id : Option ℕ) (ds : List ℕ) : Type 0 where
  pub digits : AllDigits 10 ds
  pub short : length ds ≤ 10
  pub id_is : id ≡ int_of ds

pub id_text : (id : Option ℕ) → IfSome id (λ n. n ≤ most_int) → IsIdText id (written_id id)
id_text None fits = record { digits = tt; short = omega arith; id_is = refl }
id_text (Some n) fits =
    let limit : n ≤ most_int = fits in
    let numeral = decimal_is_IsNumeral n (omega arith) in
    record {
      digits = numeral.0.1;
      short = length-decimal-le 10 n (omega arith) (omega arith) (omega arith);
      id_is = sym (int_of_spelled n (decimal n) (record { numeral = numeral.0; value = numeral.1; limit = limit }));
    }

abbrev status_of : Bool → ℕ
status_of ok = cond ok 61 63

-- all of its bytes are those of a reply
printed_byte : (b : ℕ) → 32 ≤ b → b ≤ 126 → IsReplyByte b
printed_byte b low high = inr (low, λ (e : b ≡ 127). omega (arith, high, e))

status_printed : (ok : Bool) → IsReplyByte (cond ok 61 63)
status_printed true = printed_byte 61 (omega arith) (omega arith)
status_printed false = printed_byte 63 (omega arith) (omega arith)

digits_printed : (l : List ℕ) → AllDigits 10 l → AllByRecursion IsReplyByte l
digits_printed [] all = tt
digits_printed (c ∷ l) all =
    let range = digit_from_value c all.0 in
    (printed_byte c (omega (arith, range.0)) (omega (arith, range.1)), digits_printed l all.1)

spaced_printed : (text : List ℕ) → AllByRecursion IsReplyByte text → AllByRecursion IsReplyByte (spaced text)
spaced_printed [] all = tt
spaced_printed (b ∷ bs) all = (printed_byte 32 (omega arith) (omega arith), all)

pub reply_printed : (ok : Bool) (id : Option ℕ) (text : List ℕ) → IfSome id (λ n. n ≤ most_int)
    → AllByRecursion IsReplyByte text → AllByRecursion IsReplyByte (written_reply ok id text)
reply_printed ok id text fits all = (
  status_printed ok,
  AllByRecursion-append IsReplyByte (written_id id) (spaced text ++ 10 ∷ 10 ∷ [])
      (digits_printed (written_id id) ((id_text id fits).digits))
      (AllByRecursion-append IsReplyByte (spaced text) (10 ∷ 10 ∷ []) (spaced_printed text all)
      (inl refl, (inl refl, tt))),
)

-- a written reply is one reply
pub written_whole : (ok : Bool) (id : Option ℕ) (text : List ℕ) → IfSome id (λ n. n ≤ most_int) → IsReplyText text
    → IsWhole (written_reply ok id text)
written_whole ok id text fits_id fits_text =
    let word = id_text id fits_id in
    let digits = digits_of_value (written_id id) word.digits in
    let printed = reply_printed ok id text fits_id
    (AllByRecursion-implied IsShown IsReplyByte text shown_printed (all_shown text fits_text.shown)) in
    record {
      fits =
          omega (
            arith,
            length-append (written_id id) (spaced text ++ 10 ∷ 10 ∷ []),
            length-append (spaced text) (10 ∷ 10 ∷ []),
            word.short,
            length-spaced text,
            fits_text.fits,
          );
      front = status_of ok ∷ (written_id id ++ (spaced text ++ 10 ∷ []));
      last = ap (λ t. status_of ok ∷ t)
          (ap (λ t. written_id id ++ t) (sym (append_assoc (spaced text) (10 ∷ []) (10 ∷ [])))
          ∙ sym (append_assoc (written_id id) (spaced text ++ 10 ∷ []) (10 ∷ [])));
      status = status_of ok;
      body = written_id id ++ spaced text;
      shape =
          status_past ok (written_id id ++ (spaced text ++ 10 ∷ 10 ∷ []))
          (prepared_printed (written_id id ++ (spaced text ++ 10 ∷ 10 ∷ [])) printed.1)
          ∙ ap (λ t. status_of ok ∷ t) (sym (append_assoc (written_id id) (spaced text) (10 ∷ 10 ∷ [])));
      known = status_test ok;
      first_end =
          ap has_two_newlines (append_assoc (written_id id) (spaced text) (10 ∷ []))
          ∙ has_two_newlines_digits (written_id id) (spaced text ++ 10 ∷ []) digits
          ∙ has_two_newlines_spaced text fits_text;
    }

-- with or without an id the text is what is after it
text_after : (id : Option ℕ) (text : List ℕ) → list_all is_ascii_digit (written_id id) ≡ true
    → cond (is_some id) (skip_while is_ascii_digit (written_id id ++ spaced text))
    (written_id id ++ spaced text) ≡ spaced text
text_after None text all = refl
text_after (Some n) text all = skip_while-append is_ascii_digit (decimal n) (spaced text) all ∙ spaced_rest text

pub written_is_read : (ok : Bool) (id : Option ℕ) (text : List ℕ) (value : Reply) → IfSome id (λ n. n ≤ most_int)
    → IsReplyText text
    → value.ok ≡ ok → value.id ≡ id → value.text.items ≡ text → IsReply (written_reply ok id text) value
unfolding written_whole
written_is_read ok id text value fits_id fits_text ok_is id_is text_is =
    let word = id_text id fits_id in
    let digits = digits_model.from (written_id id) word.digits in
    reply_made (written_reply ok id text) (written_whole ok id text fits_id fits_text) value.ok value.id value.text
    (ok_is ∙ status_ok ok)
    (id_is ∙ word.id_is ∙ ap int_of (sym (front_while-append is_ascii_digit (written_id id) (spaced text) digits
    ∙ ap (λ t. written_id id ++ t) (spaced_front text) ∙ append-nil (written_id id))))
    (text_is ∙ sym (trim_spaced text fits_text) ∙ ap trim (sym (text_after id text digits))
    ∙ ap
    (λ i. trim (cond (is_some i) (skip_while is_ascii_digit (written_id id ++ spaced text))
    (written_id id ++ spaced text)))
    (sym id_is))
