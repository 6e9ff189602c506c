-- A conversation is a talk of the examiner, and what is found in it is justified.
use Rattle.std.proofs.Common.{◌≡◌, ◌∙◌, ℕ, Bool, true, false, List, [], ◌++◌, take, drop, length, refl, sym, ap, subst}
use Rattle.std.proofs.Common.{Option, None, Some, Result, Ok, Err, append_assoc, take-append-drop}
use Rattle.std.proofs.lemmas.List.{append-nil, nil_from_length}
use Rattle.std.specs.Io.KnownBytes.{Appends, Keeps}
use Rattle.std.proofs.KnownBytes.{Appends-kept, Appends-nil, Appends-trans, Keeps-refl, Keeps-trans}
use Rattle.go_board.specs.declared.rules.KoRule.{KoRule}
use Rattle.gtp_wire.specs.declared.replies.Reply.{Reply}
use Rattle.gtp_wire.specs.declared.replies.ReplyFault.{ReplyFault}
use Rattle.gtp_process.specs.declared.starter.Process.{Ghosts}
use Rattle.gtp_check_judge.specs.declared.judging.Judgement.{Judgement}
use Rattle.gtp_check_judge.specs.declared.judging.Judgement.TheVariants.{Right, Plays, Resized, Undone, Opines, Wrong}
use Rattle.gtp_check_judge.specs.declared.judging.Kind.{Kind}
use Rattle.gtp_check_judge.specs.declared.unanswered.Asked.{Asked}
use Rattle.gtp_check_judge.specs.declared.exam.Exam.{Exam}
use Rattle.gtp_check_judge.specs.Judging.{oldest, has_id}
use Rattle.gtp_check_judge.specs.Exam.{begun, Hears, Leaves, ReplyLeaves, IdLeaves, after_judged, finding_of, hearing, reply_to}
use Rattle.gtp_check_judge.specs.Exam.{with_learned, with_rest}
use Rattle.gtp_check_judge.specs.Laws.{Exchange, FindingsAreJustified, Talks, exchanged}
use Rattle.gtp_check_talk.specs.declared.fault.Fault.{Fault}
use Rattle.gtp_check_talk.specs.declared.fault.Fault.TheVariants.{Wrote}
use Rattle.gtp_check_talk.specs.declared.notes.Notes.{Notes}
use Rattle.gtp_check_talk.specs.Dialogues.{AreHeard, PiecesAreSent, Converses, Dialogue, EndsWrong, IsExchanged, IsHeard}
use Rattle.gtp_check_talk.specs.Dialogues.{IsRead, IsSent, begun_with, ends_in_pieces}
use Rattle.gtp_check_talk.specs.Laws.{IsWronglyWritten}

-- what is wrong with what was written is of one kind
wrote_kind : {one other : Kind} → Wrote one ≡ Wrote other → one ≡ other
wrote_kind same = cc same

-- ---- an engine in which nothing was found stays up

judged_up : (exam : Exam) (entry : Asked) (got : Judgement) → None ≡ finding_of entry got
    → (after_judged exam got).up ≡ exam.up
judged_up exam entry Right none = refl
judged_up exam entry (Plays colour v) none = refl
judged_up exam entry (Resized size) none = refl
judged_up exam entry Undone none = refl
judged_up exam entry (Opines opinion) none = refl
judged_up exam entry (Wrong kind) none = absurd (cc none)

id_up : (exam : Exam) (entry : Asked) (reply : Reply) (same : Bool) (new : Exam)
    → IdLeaves exam (reply_to entry reply) same None new → new.up ≡ exam.up
id_up exam entry reply false new h = absurd (cc (h.0))
id_up exam entry reply true new h =
    ap (λ (e : Exam). e.up) h.3 ∙ judged_up (with_learned exam entry.command reply) entry h.0 h.2

reply_up : (exam : Exam) (entry : Option Asked) (reply : Reply) (new : Exam)
    → ReplyLeaves exam entry reply None new → new.up ≡ exam.up
reply_up exam None reply new h = absurd (cc (h.0))
reply_up exam (Some entry) reply new h = id_up exam entry reply (has_id reply.id entry.id) new h

leaves_up : (exam : Exam) (read : Option (Result Reply ReplyFault)) (new : Exam)
    → Leaves exam read None new → new.up ≡ exam.up
leaves_up exam None new h = ap (λ (e : Exam). e.up) h.1
leaves_up exam (Some (Err shown)) new h = absurd (cc (h.0))
leaves_up exam (Some (Ok reply)) new h = reply_up exam (oldest exam.unanswered) reply new h

heard_up : (old : Exam) (bytes : List ℕ) (used : ℕ) (read : Option (Result Reply ReplyFault)) (new : Exam)
    → Hears old bytes (hearing used read None) new → new.up ≡ old.up
heard_up old bytes used read new h = leaves_up (with_rest old h.0) read new h.2

-- ---- bytes that are heard

-- a talk goes on to an engine that is up
pub record GoesOn (rule : KoRule) (sent came : List ℕ) (exam : Exam) : Type 0 where
  pub said : List Exchange
  pub talks : Talks rule sent came said exam
  pub up : exam.up ≡ true

-- it does where bytes are heard in which nothing is found
heard_on : (rule : KoRule) (sent came bytes : List ℕ) (used : ℕ) (read : Option (Result Reply ReplyFault))
    (old new : Exam)
    → GoesOn rule sent came old → IsHeard old bytes (hearing used read None) new
    → GoesOn rule sent (came ++ take used bytes) new
heard_on rule sent came bytes used read old new goes heard =
    let hears = heard.up goes.up in
    record {
      said = goes.said ++ exchanged (oldest old.unanswered) read;
      talks = Talks.hear bytes used read goes.talks hears;
      up = heard_up old bytes used read new hears ∙ goes.up;
    }

-- ---- a conversation

-- a conversation is a talk, and what was heard and is held is what the process gave
pub record IsTalk {P : Type 0} (known : Ghosts P) (rule : KoRule) (process : P) (now : Dialogue P) : Type 0 where
  pub came : List ℕ
  pub goes : GoesOn rule now.sent came now.exam
  pub gave : Appends (known.given process) (known.given now.process) (came ++ now.held)

module _ {P : Type 0} (known : Ghosts P) (rule : KoRule) (process : P) (first : Notes) where
  -- it was sent what waits, and gave nothing
  sent_gave : {pieces : List (List ℕ)} {before after : P} → PiecesAreSent known pieces before after
      → Keeps (known.given before) (known.given after)
  sent_gave (PiecesAreSent.no_piece {before = before}) = Keeps-refl (known.given before)
  sent_gave (PiecesAreSent.whole {before = before} {mid = mid} {after = after} piece taken more) =
      Keeps-trans (known.given before) (known.given mid) (known.given after) taken.given (sent_gave more)
  sent_gave (PiecesAreSent.part piece cut) = cut.given

  -- bytes were heard without a finding
  quiet_talk : (bytes : List ℕ) (before : Dialogue P) (after : Dialogue P) (came : List ℕ)
      → GoesOn rule before.sent came before.exam
      → Appends (known.given process) (known.given before.process) (came ++ bytes)
      → AreHeard bytes before None after → IsTalk known rule process after
  quiet_talk bytes before after came goes gave heard =
      subst (IsTalk known rule process) (sym heard.leads)
      (record {
        came = came ++ take heard.used bytes;
        goes = heard_on rule before.sent came bytes heard.used heard.read before.exam after.exam goes heard.heard;
        gave = subst (λ (all : List ℕ). Appends (known.given process) (known.given before.process) all)
            (ap (λ (all : List ℕ). came ++ all) (sym (take-append-drop heard.used bytes))
            ∙ sym (append_assoc came (take heard.used bytes) (drop heard.used bytes))
            ∙ ap (λ (left : List ℕ). (came ++ take heard.used bytes) ++ left) (sym heard.rest))
            gave;
      })

  -- what was read follows what was heard before
  read_gave : (came held bytes : List ℕ) (before next : P) → length held ≡ 0
      → Appends (known.given process) (known.given before) (came ++ held)
      → Appends (known.given before) (known.given next) bytes
      → Appends (known.given process) (known.given next) (came ++ bytes)
  read_gave came held bytes before next none gave more =
      Appends-trans (known.given process) (known.given before) (known.given next) came bytes
      (subst (λ (all : List ℕ). Appends (known.given process) (known.given before) all)
      (ap (λ (left : List ℕ). came ++ left) (nil_from_length held none) ∙ append-nil came) gave)
      more

  -- the engine was read, and nothing was found
  read_talk : (before : Dialogue P) (after : Dialogue P)
      → IsTalk known rule process before → length before.held ≡ 0 → IsRead known before None after
      → IsTalk known rule process after
  read_talk before after talk none (IsRead.gives bytes next some gave unbroken taken heard) =
      quiet_talk bytes (record before { process = next }) after talk.came talk.goes
      (read_gave talk.came before.held bytes before.process next none talk.gave gave) heard

  -- what waits was sent
  pub sent_talk : (before : Dialogue P) (next : P) → IsTalk known rule process before
      → IsSent known (ends_in_pieces before.talk) before.waiting before.process next
      → IsTalk known rule process (record before { process = next; waiting = [] })
  sent_talk before next talk sent = record {
    came = talk.came;
    goes = talk.goes;
    gave = Appends-kept (known.given process) (known.given before.process) (known.given next)
        (talk.came ++ before.held) talk.gave (sent_gave sent);
  }

  pub converses_talk : {now : Dialogue P}
      → Converses known (begun_with (begun rule true) process first) now
      → IsTalk known rule process now
  converses_talk Converses.begins = record {
    came = [];
    goes = record { said = []; talks = Talks.start; up = refl };
    gave = Appends-nil (known.given process);
  }
  converses_talk (Converses.asks {before = before} {after = after} purpose command more asked) =
      let talk = converses_talk more in
      subst (IsTalk known rule process) (sym asked.joins)
      (record {
        came = talk.came;
        goes = record {
          said = talk.goes.said;
          talks = Talks.ask command talk.goes.talks asked.may asked.asks;
          up = ap (λ (e : Exam). e.up) asked.asks.new_is ∙ talk.goes.up;
        };
        gave = talk.gave;
      })
  converses_talk (Converses.exchanges {before = before} {after = after} more exchanged) =
      exchanged_talk before after (converses_talk more) exchanged
    where
      exchanged_talk : (before : Dialogue P) (after : Dialogue P)
          → IsTalk known rule process before → IsExchanged known before None after
          → IsTalk known rule process after
      exchanged_talk before after talk (IsExchanged.owes_nothing next none sent) =
          sent_talk before next talk sent
      exchanged_talk before after talk (IsExchanged.held owes some heard) =
          quiet_talk before.held (record before { held = [] }) after talk.came talk.goes talk.gave heard
      exchanged_talk before after talk (IsExchanged.reads next owes none sent read) =
          read_talk (record before { process = next; waiting = [] }) after
          (sent_talk before next talk sent) none read

  -- ---- a finding

  -- something was found in bytes
  found_talk : FindingsAreJustified → (bytes : List ℕ) (before : Dialogue P) (kind : Kind) (after : Dialogue P)
      (came : List ℕ) → GoesOn rule before.sent came before.exam
      → Appends (known.given process) (known.given before.process) (came ++ bytes)
      → AreHeard bytes before (Some (Wrote kind)) after
      → IsWronglyWritten known rule process kind after
  found_talk justify bytes before kind after came goes gave heard =
      let hears = heard.found.up goes.up in
      subst (IsWronglyWritten known rule process kind) (sym heard.leads)
      (record {
        came = came;
        said = goes.said;
        old = before.exam;
        new = after.exam;
        bytes = bytes;
        used = heard.used;
        read = heard.read;
        finding = heard.finding;
        talks = goes.talks;
        hears = hears;
        is = wrote_kind heard.kind;
        justified = justify rule before.sent came goes.said before.exam after.exam bytes heard.used heard.read
            heard.finding goes.talks
            hears;
        gave = gave;
      })

  read_found : FindingsAreJustified → (before : Dialogue P) (kind : Kind) (after : Dialogue P)
      → IsTalk known rule process before → length before.held ≡ 0
      → (fault : Option Fault) → fault ≡ Some (Wrote kind) → IsRead known before fault after
      → IsWronglyWritten known rule process kind after
  read_found justify before kind after talk none fault is
      (IsRead.gives bytes next some gave unbroken taken heard) =
      found_talk justify bytes (record before { process = next }) kind after talk.came talk.goes
      (read_gave talk.came before.held bytes before.process next none talk.gave gave)
      (subst (λ (f : Option Fault). AreHeard bytes (record before { process = next }) f after) is heard)
  read_found justify before kind after talk none fault is (IsRead.ends next ended given taken) = absurd (cc is)
  read_found justify before kind after talk none fault is (IsRead.breaks next cut given taken) = absurd (cc is)

  exchanged_found : FindingsAreJustified → (before : Dialogue P) (kind : Kind) (after : Dialogue P)
      → IsTalk known rule process before
      → (fault : Option Fault) → fault ≡ Some (Wrote kind) → IsExchanged known before fault after
      → IsWronglyWritten known rule process kind after
  exchanged_found justify before kind after talk fault is (IsExchanged.owes_nothing next none sent) =
      absurd (cc is)
  exchanged_found justify before kind after talk fault is (IsExchanged.held owes some heard) =
      found_talk justify before.held (record before { held = [] }) kind after talk.came talk.goes talk.gave
      (subst (λ (f : Option Fault). AreHeard before.held (record before { held = [] }) f after) is heard)
  exchanged_found justify before kind after talk fault is (IsExchanged.reads next owes none sent read) =
      read_found justify (record before { process = next; waiting = [] }) kind after
      (sent_talk before next talk sent) none fault is read

  pub found_in : FindingsAreJustified → (kind : Kind) (after : Dialogue P)
      → EndsWrong known (begun_with (begun rule true) process first) (Wrote kind) after
      → IsWronglyWritten known rule process kind after
  found_in justify kind after ends =
      exchanged_found justify ends.before kind after (converses_talk ends.converses)
      (Some (Wrote kind)) refl
      ends.exchanged
