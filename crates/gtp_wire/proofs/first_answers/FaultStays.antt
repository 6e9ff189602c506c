-- A fault stays.
use Rattle.std.proofs.Common.{◌≡◌, ℕ, ◌+◌, List, ◌++◌, length, take, Option, Some, None}
use Rattle.std.proofs.Common.{sym, ◌∙◌, ap, subst, arith}
use Rattle.std.proofs.Common.{append-nil, Result, Err}
use Rattle.std.proofs.lemmas.List.{length-take-le}
use Rattle.std.proofs.Math.Seq.{take-append-add}
use Rattle.gtp_wire.specs.declared.replies.Reply.{Reply}
use Rattle.gtp_wire.specs.declared.replies.ReplyFault.{ReplyFault}
use Rattle.gtp_wire.specs.Replies.{IsFirst, ReadsFirst, rest_after}
use Rattle.gtp_wire.specs.AnyText.{FaultsStay}
use Rattle.gtp_wire.proofs.first_answers.OneAnswer.{one_first}
use Rattle.gtp_wire.proofs.first_answers.OneByteMore.{first_more}
use Rattle.gtp_wire.proofs.first_answers.Faults.{first_of_front}

fault_kept : (answer : Result Reply ReplyFault) (fault : ReplyFault) (text : List ℕ) → answer ≡ Err fault
    → rest_after (Some answer) text ≡ text
fault_kept answer fault text same = ap (λ (a : Result Reply ReplyFault). rest_after (Some a) text) same

pub fault_stays : FaultsStay
fault_stays old piece used fault held later more got new reads next = stays got next
  where
    front : held ≡ take (length old + used) (old ++ piece)
    front = reads.rest ∙ sym (take-append-add old piece used)

    count : length old + used ≡ length held
    count = omega (arith, ap length front, length-take-le (length old + used) (old ++ piece) reads.first.inside)

    -- the bytes that are held show the fault
    shown : IsFirst held (length held) (Err fault)
    shown =
        let P : List ℕ → Type 0 = λ t. IsFirst t (length old + used) (Err fault) in
        let Q : ℕ → Type 0 = λ n. IsFirst held n (Err fault) in
        subst Q count (subst P (sym front) (first_of_front (old ++ piece) (length old + used) (Err fault) reads.first))

    again : IsFirst (held ++ later) (length held) (Err fault)
    again = first_more held later (length held) (Err fault) shown

    stays : (got : Option (Result Reply ReplyFault)) → ReadsFirst held later more got new
        → (more ≡ 0) × (got ≡ Some (Err fault)) × (new ≡ held)
    stays None next = absurd (next.nothing (length held) (Err fault) again.inside again.is_given)
    stays (Some answer) next =
        let one = one_first (held ++ later) (length held + more) (length held) answer (Err fault) next.first again in
        let none : more ≡ 0 = omega (arith, one.0) in (
          none,
          ap (λ a. Some a) one.1,
          next.rest ∙ fault_kept answer fault (held ++ take more later) one.1
              ∙ ap (λ n. held ++ take n later) none ∙ append-nil held,
        )
