-- What holds at any time is kept by each answer, and by what the author sets.
use Rattle.std.proofs.Common.{◌≡◌, ℕ, ◌≤◌, Bool, List, [], ◌∷◌, ◌++◌, Option, Some, true, false}
use Rattle.std.proofs.Common.{refl, lit≤}
use Rattle.std.specs.Prelude.{IfSome, if◌then◌else◌, codes}
use Rattle.std.specs.List.{AllByRecursion}
use Rattle.go_base.specs.Int.{most_int}
use Rattle.go_base.specs.Size.{IsSize}
use Rattle.go_base.specs.declared.choices.Choice.{Choice}
use Rattle.go_board.specs.Game.{GameRecord}
use Rattle.gtp_wire.specs.declared.lines.Line.{Line}
use Rattle.gtp_wire.specs.declared.replies.Reply.{Reply}
use Rattle.gtp_wire.specs.Lines.{head_of, lines, ReadsLine}
use Rattle.gtp_wire.specs.Replies.{IsReplyText, written_reply}
use Rattle.gtp_wire.proofs.written.OneReply.{written_is_read}
use Rattle.gtp_session.specs.Commands.{answer, id_of}
use Rattle.gtp_session.specs.Spoken.{HasIntId, IsLawfulAt, IsSpoken}
use Rattle.gtp_session.specs.declared.events.Wait.{Wait}
use Rattle.gtp_session.specs.declared.events.Wait.TheVariants as wait
use Rattle.gtp_session.specs.OwnCommands.{AreOwnCommands}
use Rattle.gtp_session.specs.Steps.{StepsState, IsOpen, IsStepsState, wait_of, with_line}
use Rattle.gtp_session.proofs.reply_texts.Spoken.{answer_good, ids_fit}

-- what is written of a text that a reply may have is one reply
spoken_text : (ok : Bool) (id : Option ℕ) (text : List ℕ) → IfSome id (λ n. n ≤ most_int) → IsReplyText text
    → IsSpoken (written_reply ok id text)
spoken_text ok id text int fits =
    let said : Reply = record { ok = ok; id = id; text = record { items = text } } in
    record {
      reply = said;
      text = fits;
      written = refl;
      read = written_is_read ok id text said int fits refl refl refl;
    }

-- a text is answered
pub texted_kept : (s : StepsState) (ok : Bool) (text : List ℕ) (w : Wait) (reply : List ℕ) → IsStepsState s
    → IsReplyText text → w ≡ wait.Nothing → reply ≡ written_reply ok (id_of s.line) text
    → IsStepsState (record s { wait = w; reply = reply })
texted_kept s ok text w reply is fits none written = record {
  unread = is.unread;
  waits = λ n. absurd (n none);
  goes_on = λ n. absurd (n none);
  id = is.id;
  spoken = λ _. rw written (spoken_text ok (id_of s.line) text is.id fits);
  name = is.name;
  version = is.version;
  commands = is.commands;
}

-- the table answers
pub answered_kept : (s : StepsState) (choice : Choice) (w : Wait) (game : GameRecord) (ended : Bool) (reply : List ℕ)
    → IsStepsState s → IsSize s.game.size → IsLawfulAt s.game s.line choice → w ≡ wait.Nothing
    → reply ≡ written_reply (answer s.game s.line choice).ok (id_of s.line) (answer s.game s.line choice).text
    → IsStepsState (record s { wait = w; game = game; ended = ended; reply = reply })
answered_kept s choice w game ended reply is size lawful none written =
    let given = answer s.game s.line choice in
    record {
      unread = is.unread;
      waits = λ n. absurd (n none);
      goes_on = λ n. absurd (n none);
      id = is.id;
      spoken = λ _. rw written (spoken_text given.ok (id_of s.line) given.text is.id
          (answer_good s.game s.line choice size lawful).text);
      name = is.name;
      version = is.version;
      commands = is.commands;
    }

first_fits : (ls : List Line) (line : Line) → AllByRecursion HasIntId ls → Some line ≡ head_of ls → HasIntId line
first_fits [] line all e = absurd (cc e)
first_fits (l ∷ ls) line all e = let same : line ≡ l = cc e in rw same all.0

-- a line that was read has an int as its id, or none
pub with_line_kept : (s : StepsState) (input : List ℕ) (used : ℕ) (line : Line) (rest : List ℕ) → IsStepsState s
    → IsOpen s → ReadsLine s.rest input used (Some line) rest → IsStepsState (with_line s line rest)
with_line_kept s input used line rest is reads_on reads = record {
  unread = reads.finds.no_line;
  waits = λ n. absurd (n reads_on.waits_not);
  goes_on = λ _. reads_on.goes_on;
  id = first_fits (lines (s.rest ++ input)) line (ids_fit (s.rest ++ input)) reads.first;
  spoken = is.spoken;
  name = is.name;
  version = is.version;
  commands = is.commands;
}

-- it waits for what that line needs
pub waiting_kept : (s : StepsState) (w : Wait) → IsStepsState s → s.ended ≡ false → w ≡ wait_of s.game s.line
    → IsStepsState (record s { wait = w })
waiting_kept s w is goes_on same = record {
  unread = is.unread;
  waits = λ _. same;
  goes_on = λ _. goes_on;
  id = is.id;
  spoken = is.spoken;
  name = is.name;
  version = is.version;
  commands = is.commands;
}

-- `true` and `false` may be texts of a reply
pub truth_fits : (text : List ℕ) (known : Bool) → text ≡ (if known then codes "true" else codes "false")
    → IsReplyText text
truth_fits text true e = rw e (record { fits = lit≤ tt; shown = refl; single = refl; front = refl; end = refl })
truth_fits text false e = rw e (record { fits = lit≤ tt; shown = refl; single = refl; front = refl; end = refl })

-- with other commands of the author's own
pub commands_set : (s : StepsState) (commands : List (List ℕ)) → IsStepsState s → AreOwnCommands commands
    → IsStepsState (record s { commands = commands })
commands_set s commands is are = record {
  unread = is.unread;
  waits = is.waits;
  goes_on = is.goes_on;
  id = is.id;
  spoken = is.spoken;
  name = is.name;
  version = is.version;
  commands = are;
}
