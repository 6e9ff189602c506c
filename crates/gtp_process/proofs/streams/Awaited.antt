-- A reply that is waited for.
use Rattle.std.proofs.Common.{◌≡◌, ℕ, ◌+◌, ◌≤◌, true, false, List, ◌++◌, length, None, Some, arith}
use Rattle.std.proofs.Common.{Option, Result, Err, ◌∙◌, ap, subst, sym}
use Rattle.std.specs.Prelude.{is_some, option_map}
use Rattle.std.proofs.lemmas.List.{length-take-le, take_all}
use Rattle.gtp_wire.specs.declared.replies.Reply.{Reply}
use Rattle.gtp_wire.specs.declared.replies.ReplyFault.{ReplyFault}
use Rattle.gtp_wire.specs.declared.replies.ReplyFault.TheVariants.{Overlong}
use Rattle.gtp_wire.specs.Replies.{IsFirst, ReadsFirst, GivesNoAnswer, most_reply_bytes, with_reply}

-- 8,193 bytes have a reply or a fault in them
pub too_many_answer : (bytes : List ℕ) → GivesNoAnswer bytes → most_reply_bytes + 1 ≤ length bytes → ⊥
too_many_answer bytes quiet many =
    quiet (most_reply_bytes + 1) (Err Overlong) many (length-take-le (most_reply_bytes + 1) bytes many)

module _ (old input new : List ℕ) (used : ℕ) (reply : Reply) where
  -- a piece in which no reply or fault ends is held
  pub held : (got : Option (Result (Unit {0}) ReplyFault)) → is_some got ≡ false
      → ReadsFirst old input used (option_map (with_reply reply) got) new → new ≡ old ++ input
  held None none reads =
      reads.rest ∙ ap (λ (t : List ℕ). old ++ t) (take_all used input (omega (arith, reads.all)))
  held (Some is_given) none reads = absurd (let no : true ≡ false = none in cc)

  pub quiet_still : (got : Option (Result (Unit {0}) ReplyFault)) → is_some got ≡ false
      → ReadsFirst old input used (option_map (with_reply reply) got) new → GivesNoAnswer new
  quiet_still None none reads =
      let P : List ℕ → Type 0 = λ t. GivesNoAnswer t in subst P (sym (held None none reads)) reads.nothing
  quiet_still (Some is_given) none reads = absurd (let no : true ≡ false = none in cc)

  -- and else the first reply or fault ends in it
  pub given_there : (got : Option (Result (Unit {0}) ReplyFault)) → is_some got ≡ true
      → ReadsFirst old input used (option_map (with_reply reply) got) new
      → (answer : Result Reply ReplyFault) × IsFirst (old ++ input) (length old + used) answer
  given_there None some reads = absurd (let no : false ≡ true = some in cc)
  given_there (Some is_given) some reads = (with_reply reply is_given, reads.first)
