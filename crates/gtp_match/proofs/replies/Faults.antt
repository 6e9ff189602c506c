-- Faults have causes.
use Rattle.std.proofs.Common.{◌≡◌, ℕ, ◌+◌, List, [], ◌∷◌, ◌++◌, length, Option, Some, None, Err, refl, sym}
use Rattle.std.proofs.Common.{Bool, true, false, subst, arith}
use Rattle.std.specs.Prelude.{◌≢◌, MatchOption}
use Rattle.std.proofs.lemmas.Bool.Decides.{nat_tests}
use Rattle.go_base.specs.declared.colours.Colour.{Colour}
use Rattle.gtp_wire.specs.Replies.{IsFirst}
use Rattle.gtp_wire.specs.declared.replies.Reply.{Reply}
use Rattle.gtp_wire.specs.declared.replies.ReplyFault.{ReplyFault}
use Rattle.gtp_wire.specs.declared.replies.ReplyFault.TheVariants as reply_fault
use Rattle.gtp_match.specs.Going.{ShowsFault}
use Rattle.gtp_match.specs.Hearing.{side_fault, Hears}
use Rattle.gtp_match.specs.Replying.{EndsReply}
use Rattle.gtp_match.specs.ReplyTable.{outcome, outcome_of}
use Rattle.gtp_match.specs.ReplyTable.{has_id, fault_of}
use Rattle.gtp_match.specs.Sides.{side_of}
use Rattle.gtp_match.specs.Unanswered.{oldest}
use Rattle.gtp_match.specs.declared.controller.Controller.{Controller}
use Rattle.gtp_match.specs.declared.sides.EngineRun.{EngineRun}
use Rattle.gtp_match.specs.declared.reply_table.Outcome.{Outcome}
use Rattle.gtp_match.specs.declared.reply_table.Outcome.TheVariants.{Down, Unfit, Forfeits, Confirms, Resigns, Moves}
use Rattle.gtp_match.specs.declared.reply_table.Outcome.TheVariants.{Refuses, TakesBack, Keeps}
use Rattle.gtp_match.specs.declared.unanswered.SentCommand.{SentCommand}
use Rattle.gtp_match.specs.declared.verdicts.SideFault.{SideFault}
use Rattle.gtp_match.specs.declared.verdicts.SideFault.TheVariants.{WrongId, Unasked}
use Rattle.gtp_match.proofs.hearing.Changes.{Heard, heard}
use Rattle.gtp_match.proofs.replies.NoFault.{never}

no_id : (x : Option ℕ) (id : ℕ) → has_id x id ≡ false → x ≢ Some id
no_id None id e = λ is. cc
no_id (Some n) id e = λ is. let same : n ≡ id = cc in grind (arith, nat_tests)

none_given : (o : Outcome) (shown : SideFault) → ((f : SideFault) → o ≡ Down f → ⊥) → Some shown ≡ fault_of o → ⊥
none_given (Down f) shown no_down is_given = no_down f refl
none_given Unfit shown no_down is_given = cc
none_given (Forfeits cause) shown no_down is_given = cc
none_given Confirms shown no_down is_given = cc
none_given Resigns shown no_down is_given = cc
none_given (Moves v) shown no_down is_given = cc
none_given Refuses shown no_down is_given = cc
none_given TakesBack shown no_down is_given = cc
none_given Keeps shown no_down is_given = cc

pub faults_have_causes : (c new : Controller) (s : Colour) (bytes : List ℕ) (used : ℕ) (shown : SideFault)
    → Hears c s bytes used (Some shown) new
    → MatchOption (side_of c.sides s).up ⊥ (λ engine. ShowsFault engine bytes used shown)
faults_have_causes c new s bytes used shown hears = by_way (heard c s bytes used (Some shown) new hears)
  where
    up_so : (engine : EngineRun) → (side_of c.sides s).up ≡ Some engine → ShowsFault engine bytes used shown
        → MatchOption (side_of c.sides s).up ⊥ (λ x. ShowsFault x bytes used shown)
    up_so engine up why =
        subst (λ (u : Option EngineRun). MatchOption u ⊥ (λ x. ShowsFault x bytes used shown)) (sym up) why

    by_reader : (engine : EngineRun) (is_given : ReplyFault)
        → IsFirst (engine.reader ++ bytes) (length engine.reader + used) (Err is_given)
        → ShowsFault engine bytes used (side_fault is_given)
    by_reader engine reply_fault.NoStatus first = first
    by_reader engine reply_fault.Overlong first = first

    by_oldest : (engine : EngineRun) (reply : Reply) → EndsReply engine bytes used reply
        → (asked : List SentCommand) → engine.unanswered ≡ asked
        → Some shown ≡ fault_of (outcome c.game s (oldest asked) reply) → ShowsFault engine bytes used shown
    by_oldest engine reply ends [] is e =
        let same : Unasked ≡ shown = cc in
        subst (ShowsFault engine bytes used) same (reply, ends, is)
    by_oldest engine reply ends (entry ∷ later) is e = by_id (has_id reply.id entry.id) refl
      where
        by_id : (same : Bool) → has_id reply.id entry.id ≡ same → ShowsFault engine bytes used shown
        by_id true same =
            absurd (none_given (outcome_of c.game s entry.command reply) shown (never c.game s entry.command reply)
            (rw same at e))
        by_id false same =
            let is_given : Some shown ≡ Some WrongId = rw same at e in
            let is_wrong : WrongId ≡ shown = cc in
            subst (ShowsFault engine bytes used) is_wrong
            (reply, entry, later, ends, is, no_id reply.id entry.id same)

    by_way : Heard c s bytes used (Some shown) new
        → MatchOption (side_of c.sides s).up ⊥ (λ engine. ShowsFault engine bytes used shown)
    by_way (Heard.replied engine reply none up ends fault_is new_is) =
        up_so engine up (by_oldest engine reply ends engine.unanswered refl fault_is)
    by_way (Heard.faulted engine is_given none up first fault_is new_is) =
        let same : side_fault is_given ≡ shown = cc in
        up_so engine up (subst (ShowsFault engine bytes used) same (by_reader engine is_given first))
    by_way (Heard.quiet engine kept none up nothing fault_is new_is) = absurd (cc)
    by_way (Heard.down up fault_is new_is) = absurd (cc)
    by_way (Heard.over v e fault_is new_is) = absurd (cc)
