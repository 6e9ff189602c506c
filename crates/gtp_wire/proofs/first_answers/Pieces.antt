-- In whatever pieces a text is read, the same answer comes first.
use Rattle.std.proofs.Common.{◌≡◌, ℕ, ◌+◌, List, [], ◌++◌, length, take, Option, Some, None, Result}
use Rattle.std.proofs.Common.{refl, sym, ◌∙◌, ap, subst, arith, append_assoc, append-nil, length-append}
use Rattle.std.proofs.lemmas.List.{take-append-le, take_all}
use Rattle.std.proofs.Math.Seq.{take-append-add}
use Rattle.std.specs.Prelude.{IfSome, IfNone}
use Rattle.std.specs.List.{concat}
use Rattle.gtp_wire.specs.declared.replies.Reply.{Reply}
use Rattle.gtp_wire.specs.declared.replies.ReplyFault.{ReplyFault}
use Rattle.gtp_wire.specs.Replies.{IsFirst, GivesNoAnswer, ReadsFirst, rest_after}
use Rattle.gtp_wire.specs.Laws.{AreRead}
use Rattle.gtp_wire.specs.Laws.AreRead.{all_read, quiet, is_given}
use Rattle.gtp_wire.proofs.first_answers.OneByteMore.{first_more}

-- nothing was read
reads_nothing : (old : List ℕ) → GivesNoAnswer old → ReadsFirst old [] 0 None old
reads_nothing old none =
    let P : List ℕ → Type 0 = λ t. GivesNoAnswer t in
    let same : old ≡ old ++ [] = sym (append-nil old) in
    record { first = tt; nothing = subst P same none; all = refl; within = omega arith; rest = same }

-- a piece that gives an answer, with more after it
reads_longer : (old piece later : List ℕ) (used : ℕ) (answer : Result Reply ReplyFault) (new : List ℕ)
    → ReadsFirst old piece used (Some answer) new → ReadsFirst old (piece ++ later) used (Some answer) new
reads_longer old piece later used answer new reads = record {
  first =
      let P : List ℕ → Type 0 = λ t. IsFirst t (length old + used) answer in
      subst P (append_assoc old piece later) (first_more (old ++ piece) later (length old + used) answer reads.first);
  nothing = tt;
  all = tt;
  within = omega (arith, reads.within, length-append piece later);
  rest = reads.rest
      ∙ ap (λ (t : List ℕ). rest_after (Some answer) (old ++ t)) (sym (take-append-le used piece later reads.within));
}

-- what is held after a piece that gave no answer
held_after : (old piece : List ℕ) (used : ℕ) (mid : List ℕ) → ReadsFirst old piece used None mid → mid ≡ old ++ piece
held_after old piece used mid reads =
    let all : used ≡ length piece = reads.all in
    reads.rest ∙ ap (λ t. old ++ t) (take_all used piece (omega arith))

take_after : (piece rest : List ℕ) (used more : ℕ) → used ≡ length piece
    → take (used + more) (piece ++ rest) ≡ piece ++ take more rest
take_after piece rest used more all = ap (λ (n : ℕ). take (n + more) (piece ++ rest)) all
    ∙ take-append-add piece rest more

-- a piece that gives no answer, and what is read after it
reads_on : (old piece rest : List ℕ) (used more : ℕ) (got : Option (Result Reply ReplyFault)) (mid new : List ℕ)
    → ReadsFirst old piece used None mid → ReadsFirst mid rest more got new
    → ReadsFirst old (piece ++ rest) (used + more) got new
reads_on old piece rest used more got mid new first second = record {
  first = first_on got second.first;
  nothing = nothing_on got second.nothing;
  all = all_on got second.all;
  within = omega (arith, used_all, second.within, length-append piece rest);
  rest = second.rest ∙ ap (rest_after got) (after (take more rest)) ∙ ap (λ t. rest_after got (old ++ t))
      (sym (take_after piece rest used more used_all));
}
  where
    used_all : used ≡ length piece
    used_all = first.all

    after : (t : List ℕ) → mid ++ t ≡ old ++ (piece ++ t)
    after t = ap (λ m. m ++ t) (held_after old piece used mid first) ∙ append_assoc old piece t

    place : length mid + more ≡ length old + (used + more)
    place = omega (arith, ap length (held_after old piece used mid first), length-append old piece, used_all)

    first_on : (got : Option (Result Reply ReplyFault))
        → IfSome got (λ answer. IsFirst (mid ++ rest) (length mid + more) answer)
        → IfSome got (λ answer. IsFirst (old ++ (piece ++ rest)) (length old + (used + more)) answer)
    first_on None first_given = tt
    first_on (Some answer) first_given =
        let P : List ℕ → Type 0 = λ t. IsFirst t (length old + (used + more)) answer in
        let Q : ℕ → Type 0 = λ n. IsFirst (mid ++ rest) n answer in
        subst P (after rest) (subst Q place first_given)

    nothing_on : (got : Option (Result Reply ReplyFault)) → IfNone got (GivesNoAnswer (mid ++ rest))
        → IfNone got (GivesNoAnswer (old ++ (piece ++ rest)))
    nothing_on None none = let P : List ℕ → Type 0 = λ t. GivesNoAnswer t in subst P (after rest) none
    nothing_on (Some answer) none = tt

    all_on : (got : Option (Result Reply ReplyFault)) → IfNone got (more ≡ length rest)
        → IfNone got (used + more ≡ length (piece ++ rest))
    all_on None all = omega (arith, used_all, all, length-append piece rest)
    all_on (Some answer) all = tt

pub pieces_answer_alike : {old : List ℕ} {pieces : List (List ℕ)} {used : ℕ} {got : Option (Result Reply ReplyFault)}
    {new : List ℕ} → GivesNoAnswer old → AreRead old pieces used got new → ReadsFirst old (concat pieces) used got new
pieces_answer_alike {old} none all_read = reads_nothing old none
pieces_answer_alike {old} none (quiet {mid = mid} {new = new} {more = more} {got = got} piece pieces used first rest) =
    let P : List ℕ → Type 0 = λ t. GivesNoAnswer t in
    reads_on old piece (concat pieces) used more got mid new first
    (pieces_answer_alike (subst P (sym (held_after old piece used mid first)) first.nothing) rest)
pieces_answer_alike {old} {new = new} none (is_given piece pieces used answer first) =
    reads_longer old piece (concat pieces) used answer new first
