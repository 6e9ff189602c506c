-- Each line has one reply, up to the first `quit`.
use Rattle.std.proofs.Common.{[], ◌≡◌, ℕ, List, ◌++◌, true, false, refl, ◌∙◌}
use Rattle.std.specs.Prelude.{codes}
use Rattle.gtp_wire.specs.declared.lines.Line.{Line}
use Rattle.gtp_wire.specs.declared.lines.Line.TheVariants as line
use Rattle.gtp_wire.specs.Lines.{lines}
use Rattle.gtp_session.specs.Policy.{May}
use Rattle.gtp_session.specs.Commands.{answer, ends}
use Rattle.gtp_session.specs.Engine.{State, Engine, WrittenReply, Step, Answers, none, over, more, Replies}
use Rattle.gtp_session.specs.TableLaws.{RepeatsId, HaveOneReplyEach}
use Rattle.gtp_session.proofs.table.LinesOfWords.{not_true}
use Rattle.gtp_session.proofs.engines.Quitting.{quit_lines}

module _ {P : Type 0} (may : May P) where
  answers_over : {old new : State P} {ls : List Line} {rs : List WrittenReply} → Answers may old ls rs new
      → old.ended ≡ true → rs ≡ []
  answers_over none e = refl
  answers_over (over f) e = refl
  answers_over (more f step rest) e = absurd (cc (f, e))

  -- the reply of a step has the id of its line
  step_repeats : (old : State P) (l : Line) (reply : WrittenReply) (new : State P) → Step may old l reply new
      → RepeatsId l reply
  step_repeats old line.TooLong reply new step = (false, codes "syntax error", step.text)
  step_repeats old (line.Command cl) reply new step = (
    (answer old.game (line.Command cl) step.choice).ok,
    (answer old.game (line.Command cl) step.choice).text,
    step.text,
  )

  answers_once : {old new : State P} {ls : List Line} {rs : List WrittenReply} → Answers may old ls rs new
      → old.ended ≡ false → HaveOneReplyEach ls rs
  answers_once none e = tt
  answers_once (over f) e = absurd (cc (f, e))
  answers_once {old} (more {mid = mid} {line = l} {reply = reply} f step rest) e = (
    step_repeats old l reply mid step,
    (
      λ names. answers_over rest (step.ended ∙ (quit_lines l).1 names),
      λ other. answers_once rest (step.ended ∙ not_true (ends l) (λ h. other ((quit_lines l).0 h))),
    ),
  )

  pub replies_once : (old new : Engine P) (text : List ℕ) (rs : List WrittenReply) → old.ended ≡ false
      → Replies may old text new rs → HaveOneReplyEach (lines (old.rest ++ text)) rs
  replies_once old new text rs e replies = answers_once replies.answered e
