-- The starts that a check asked for: one that was among them stays so as more are asked for.
use Rattle.std.proofs.Common.{◌≡◌, ◌∙◌, sym, ap, append_assoc, List, [], ◌∷◌, ◌++◌, None, Some, Ok}
use Rattle.std.proofs.lemmas.List.{append-nil}
use Rattle.std.specs.Prelude.{⊤, Result}
use Rattle.go_board.specs.declared.rules.KoRule.{KoRule}
use Rattle.gtp_process.specs.declared.starter.Process.{Ghosts}
use Rattle.gtp_process.specs.declared.starter.StartFault.{StartFault}
use Rattle.gtp_process.specs.Starts.{Attempt, Attempts, Text, Tries, program_line}
use Rattle.gtp_check_talk.specs.Dialogues.{AsksForMore, Wrong}
use Rattle.gtp_check_course.specs.declared.plan.Plan.{Plan}
use Rattle.gtp_check_app.specs.RunLaws.{IsGrounded, IsStartedBy, starts_of}

-- one list of attempts begins with another
pub record Continues {P : Type 0} (before after : List (Attempt P)) : Type 0 where
  pub more : List (Attempt P)
  pub is : after ≡ before ++ more

-- the same, where they are known
abbrev pub Grow : {P : Type 0} → Attempts P → Attempts P → Type 0
Grow None after = ⊤
Grow (Some before) None = ⊥
Grow (Some before) (Some after) = Continues before after

pub grow_none : {P : Type 0} (now : Attempts P) → Grow now now
grow_none None = tt
grow_none (Some attempts) = record { more = []; is = sym (append-nil attempts) }

pub grow_both : {P : Type 0} (before mid after : Attempts P) → Grow before mid → Grow mid after → Grow before after
grow_both None mid after one other = tt
grow_both (Some before) None after one other = absurd one
grow_both (Some before) (Some mid) None one other = absurd other
grow_both (Some before) (Some mid) (Some after) one other = record {
  more = one.more ++ other.more;
  is = other.is ∙ ap (λ list. list ++ other.more) one.is ∙ append_assoc before one.more other.more;
}

pub grow_one : {P : Type 0} (before after : Attempts P) (line : List Text) (answer : Result P StartFault)
    → Tries before after line answer → Grow before after
grow_one None after line answer tries = tt
grow_one (Some before) None line answer tries = absurd tries
grow_one (Some before) (Some after) line answer tries =
    record { more = record { line = line; answer = answer } ∷ []; is = tries }

pub grow_more : {P : Type 0} (line : List Text) (before after : Attempts P) → AsksForMore line before after
    → Grow before after
grow_more line before after AsksForMore.none = grow_none before
grow_more line before after (AsksForMore.one_more {mid = mid} answer more tries) =
    grow_both before mid after (grow_more line before mid more) (grow_one mid after line answer tries)

-- ---- a process that was started

pub just_started : {P : Type 0} (line : List Text) (before after : Attempts P) (process : P)
    → Tries before after line (Ok process) → IsStartedBy line process before after
just_started line None after process tries = tt
just_started line (Some before) None process tries = absurd tries
just_started line (Some before) (Some after) process tries = record {
  earlier = [];
  later = [];
  is = tries ∙ ap (λ list. list ++ record { line = line; answer = Ok process } ∷ []) (sym (append-nil before));
}

pub started_since : {P : Type 0} (line : List Text) (process : P) (first before after : Attempts P)
    → Grow first before → IsStartedBy line process before after → IsStartedBy line process first after
started_since line process None before after grows among = tt
started_since line process (Some first) None after grows among = absurd grows
started_since line process (Some first) (Some before) None grows among = absurd among
started_since line process (Some first) (Some before) (Some after) grows among = record {
  earlier = grows.more ++ among.earlier;
  later = among.later;
  is = among.is
      ∙ ap (λ list. list ++ among.earlier ++ record { line = line; answer = Ok process } ∷ among.later) grows.is
      ∙ ap (λ list. list ++ record { line = line; answer = Ok process } ∷ among.later)
      (append_assoc first grows.more among.earlier);
}

pub started_until : {P : Type 0} (line : List Text) (process : P) (before after last : Attempts P)
    → Grow after last → IsStartedBy line process before after → IsStartedBy line process before last
started_until line process None after last grows among = tt
started_until line process (Some before) None last grows among = absurd among
started_until line process (Some before) (Some after) None grows among = absurd grows
started_until line process (Some before) (Some after) (Some last) grows among = record {
  earlier = among.earlier;
  later = among.later ++ grows.more;
  is = grows.is ∙ ap (λ list. list ++ grows.more) among.is
      ∙ append_assoc (before ++ among.earlier) (record { line = line; answer = Ok process } ∷ among.later) grows.more;
}

-- ---- a conversation that was ended

module _ {P : Type 0} (known : Ghosts P) (rule : KoRule) (plan : Plan) where
  pub grounded_since : (first before after : Attempts P) (wrong : Wrong) → Grow first before
      → IsGrounded known rule (starts_of plan before after) wrong
      → IsGrounded known rule (starts_of plan first after) wrong
  grounded_since first before after wrong more grounded =
      let line = program_line plan.words.items in
      record {
        process = grounded.process;
        started = started_since line grounded.process first before after more grounded.started;
        end = grounded.end;
        ending = grounded.ending;
        is = grounded.is;
        left = grounded.left;
        shown = grounded.shown;
      }

  pub grounded_until : (before after last : Attempts P) (wrong : Wrong)
      → AsksForMore (program_line plan.words.items) after last
      → IsGrounded known rule (starts_of plan before after) wrong
      → IsGrounded known rule (starts_of plan before last) wrong
  grounded_until before after last wrong more grounded =
      let line = program_line plan.words.items in
      record {
        process = grounded.process;
        started = started_until line grounded.process before after last (grow_more line after last more)
            grounded.started;
        end = grounded.end;
        ending = grounded.ending;
        is = grounded.is;
        left = grounded.left;
        shown = grounded.shown;
      }
