-- Where faults come.
use Rattle.std.proofs.Common.{◌≡◌, ◌≢◌, ℕ, ◌+◌, ◌<◌, ◌≤◌, List, [], ◌∷◌, ◌++◌, length, take}
use Rattle.std.proofs.Common.{true, false, refl, sym, ◌∙◌, ap, subst, arith, inl, inr}
use Rattle.std.proofs.Common.{append_assoc, append-nil, length-append, Result, Err}
use Rattle.std.proofs.lemmas.Bool.Decides.{nat_tests}
use Rattle.std.proofs.lemmas.List.{length-take-le, take_all, take-take}
use Rattle.std.proofs.lemmas.List.Elements.{recursion_from_All}
use Rattle.std.specs.List.{AllByRecursion}
use Rattle.gtp_wire.specs.declared.replies.Reply.{Reply}
use Rattle.gtp_wire.specs.declared.replies.ReplyFault.{ReplyFault}
use Rattle.gtp_wire.specs.declared.replies.ReplyFault.TheVariants.{Overlong, NoStatus}
use Rattle.gtp_wire.specs.declared.reply_reader.Phase.TheVariants.{Before}
use Rattle.gtp_wire.specs.Bytes.{is_kept, space_for_tab, is_blank}
use Rattle.gtp_wire.specs.Replies.{is_status}
use Rattle.gtp_wire.specs.Replies.{GivesAnswer, IsFirst}
use Rattle.gtp_wire.specs.private.ReplyReading.{IsReading}
use Rattle.gtp_wire.specs.AnyText.{IsPassedOver, BeginsNone, FaultsHavePlaces}
use Rattle.gtp_wire.proofs.first_answers.OneByteMore.{read_removed, read_blank, read_no_status, read_nothing}
use Rattle.gtp_wire.proofs.first_answers.OneByteMore.{first_overlong}
use Rattle.gtp_wire.proofs.first_answers.OneByteMore.{first_more}
use Rattle.gtp_wire.proofs.reply_bytes.Controls.{control_removed}

-- one byte more that is passed over
passed_more : (raw : List ℕ) (b : ℕ) → IsPassedOver b → length raw < 8192 → IsReading raw Before
    → IsReading (raw ++ b ∷ []) Before
passed_more raw b over room reading = elim over [
  | inl control ↦ read_removed Before raw b room (control_removed b control) reading
  | inr other ↦ elim other [
    | inl e ↦ rw e (read_blank raw 9 room refl refl reading)
    | inr last ↦ elim last [
      | inl e ↦ rw e (read_blank raw 10 room refl refl reading)
      | inr e ↦ rw e (read_blank raw 32 room refl refl reading)
    ]
  ]
]

pub passed : (raw front : List ℕ) → AllByRecursion IsPassedOver front → length raw + length front ≤ 8192
    → IsReading raw Before → IsReading (raw ++ front) Before
passed raw [] over room reading =
    let P : List ℕ → Type 0 = λ t. IsReading t Before in subst P (sym (append-nil raw)) reading
passed raw (b ∷ front) over room reading =
    let P : List ℕ → Type 0 = λ t. IsReading t Before in
    let more : length (raw ++ b ∷ []) + length front ≤ 8192 = omega (arith, room, length-append raw (b ∷ [])) in
    subst P (append_assoc raw (b ∷ []) front)
    (passed (raw ++ b ∷ []) front over.1 more (passed_more raw b over.0 (omega arith) reading))

-- the tests of a byte that begins no reply
record IsStrange (b : ℕ) : Type 0 where
  kept : is_kept b ≡ true
  blank : is_blank (space_for_tab b) ≡ false
  status : is_status (space_for_tab b) ≡ false

strange : (b : ℕ) → BeginsNone b → IsStrange b
strange b none =
    let low : 32 ≤ b = none.0.0 in
    let no_delete : b ≢ 127 = none.0.1 in
    let no_space : b ≢ 32 = none.1 in
    let no_equals : b ≢ 61 = none.2 in
    let no_question : b ≢ 63 = none.3 in
    let same : space_for_tab b ≡ b = grind (arith, nat_tests) in
    record {
      kept = grind (arith, nat_tests);
      blank = ap is_blank same ∙ grind (arith, nat_tests);
      status = ap is_status same ∙ grind (arith, nat_tests);
    }

-- what a front gave
first_in_longer : (front : List ℕ) (b : ℕ) (later : List ℕ) (count : ℕ) (answer : Result Reply ReplyFault)
    → IsFirst (front ++ b ∷ []) count answer → IsFirst (front ++ b ∷ later) count answer
first_in_longer front b later count answer first =
    let P : List ℕ → Type 0 = λ t. IsFirst t count answer in
    subst P (append_assoc front (b ∷ []) later) (first_more (front ++ b ∷ []) later count answer first)

pub faults_have_places : FaultsHavePlaces
faults_have_places = record {
  no_status = λ front b later over room none.
      let reading = passed [] front (recursion_from_All _ front over) (omega arith) read_nothing in
      let byte = strange b none in
      let count : length (front ++ b ∷ []) ≡ length front + 1 = omega (arith, length-append front (b ∷ [])) in
      let Q : ℕ → Type 0 = λ n. IsFirst (front ++ b ∷ []) n (Err NoStatus) in
      first_in_longer front b later (length front + 1) (Err NoStatus)
      (subst Q count (read_no_status front b room byte.kept byte.blank byte.status reading));
  overlong = λ text b later full quiet.
      first_in_longer text b later 8193 (Err Overlong) (first_overlong text b 8193 (omega (arith, full)) full quiet);
  place = λ text count first.
      omega (arith, first.is_given, first.inside, length-take-le count text first.inside);
}

-- the first answer of a text is the first of its front
pub first_of_front : (text : List ℕ) (count : ℕ) (answer : Result Reply ReplyFault) → IsFirst text count answer
    → IsFirst (take count text) count answer
first_of_front text count answer first =
    let inside = first.inside in
    record {
      inside = omega (arith, length-take-le count text inside);
      is_given = subst (λ (t : List ℕ). GivesAnswer t answer)
          (sym (take_all count (take count text) (omega (arith, length-take-le count text inside)))) first.is_given;
      before = λ n other less is_given.
          let short : n ≤ count = omega arith in
          first.before n other less (subst (λ (t : List ℕ). GivesAnswer t other) (take-take n count text short) is_given);
    }
