-- What comes of commands that were asked.
use Rattle.std.proofs.Common.{◌≡◌, ◌∙◌, ◌+◌, ap, refl, sym, arith, ℕ, List, [], ◌∷◌, ◌++◌, length, append_assoc}
use Rattle.std.proofs.lemmas.List.{append-nil, length-append}
use Rattle.gtp_process.specs.declared.starter.Process.{Ghosts}
use Rattle.gtp_check_judge.specs.declared.asking.CheckCommand.{CheckCommand}
use Rattle.gtp_check_judge.specs.declared.exam.Exam.{Exam}
use Rattle.gtp_check_talk.specs.Said.{commands_of}
use Rattle.gtp_check_talk.specs.Dialogues.{AreFor, Dialogue, Spares, Trial, asks_so}
use Rattle.gtp_check_talk.specs.private.Asking.{AreAsked, none, one_more}
use Rattle.gtp_check_talk.proofs.Trials.{asked_for, asked_more}

-- what becomes of an exam to which so many commands were put: each is unanswered, and nothing was heard
pub record IsAskedMore (count : ℕ) (old new : Exam) : Type 0 where
  pub up : new.up ≡ old.up
  pub reader : new.reader ≡ old.reader
  pub more : length new.unanswered ≡ length old.unanswered + count

module _ {P : Type 0} (tries : Trial) (first : Dialogue P) where
  -- the conversation goes on
  pub asked_on : (known : Ghosts P) (start : Dialogue P) {commands : List CheckCommand} (last : Dialogue P)
      → Spares known tries.unasked start first → AreAsked tries first commands last
      → Spares known tries.unasked start last
  asked_on known start last spares none = spares
  asked_on known start last spares (one_more {mid = mid} command more wanted asked) =
      asks_so tries.purpose command (asked_on known start mid spares more) wanted asked

  -- these are its commands
  pub asked_talk : {commands : List CheckCommand} (last : Dialogue P) → AreAsked tries first commands last
      → commands_of last.talk ≡ commands_of first.talk ++ commands
  asked_talk last none = sym (append-nil (commands_of first.talk))
  asked_talk last (one_more {commands = commands} {mid = mid} command more wanted asked) =
      asked_more tries.purpose mid command last asked
      ∙ ap (λ (talk : List CheckCommand). talk ++ command ∷ []) (asked_talk mid more)
      ∙ append_assoc (commands_of first.talk) commands (command ∷ [])

  -- each for the purpose of those before
  pub asked_purposes : {commands : List CheckCommand} (last : Dialogue P) → AreAsked tries first commands last
      → AreFor tries.purpose first.talk → AreFor tries.purpose last.talk
  asked_purposes last none all = all
  asked_purposes last (one_more {mid = mid} command more wanted asked) all =
      asked_for tries.purpose mid command last asked (asked_purposes mid more all)

  pub asked_exam : {commands : List CheckCommand} (last : Dialogue P) → AreAsked tries first commands last
      → IsAskedMore (length commands) first.exam last.exam
  asked_exam last none = record { up = refl; reader = refl; more = omega arith }
  asked_exam last (one_more {commands = commands} {mid = mid} command more wanted asked) =
      let before = asked_exam mid more in
      let is = asked.asks.new_is in
      let owes : length last.exam.unanswered ≡ length mid.exam.unanswered + 1 =
      ap (λ (exam : Exam). length exam.unanswered) is ∙ length-append mid.exam.unanswered _ in
      record {
        up = ap (λ (exam : Exam). exam.up) is ∙ before.up;
        reader = ap (λ (exam : Exam). exam.reader) is ∙ before.reader;
        more = omega (arith, owes, before.more, length-append commands (command ∷ []));
      }

  -- where none was asked, what waits is the same
  pub asked_none : {commands : List CheckCommand} (last : Dialogue P) → AreAsked tries first commands last
      → length commands ≡ 0 → last.waiting ≡ first.waiting
  asked_none last none is = refl
  asked_none last (one_more {commands = commands} command more wanted asked) is =
      absurd (omega (arith, length-append commands (command ∷ [])))
