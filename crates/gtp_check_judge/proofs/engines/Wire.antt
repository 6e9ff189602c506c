-- The bytes of a talk.
use Rattle.std.proofs.Common.{◌≡◌, ℕ, ◌+◌, ◌≤◌, Bool, true, false, List, [], ◌∷◌, ◌++◌, map, Option, Some}
use Rattle.std.proofs.Common.{None, refl, sym, ◌∙◌, ap, subst, arith, append_assoc, take}
use Rattle.std.specs.Prelude.{Result, Ok, Err, drop}
use Rattle.std.specs.List.{AllByRecursion}
use Rattle.std.proofs.lemmas.List.{append-nil, map-append}
use Rattle.std.proofs.Math.Seq.{take-append-add}
use Rattle.go_base.specs.Int.{most_int}
use Rattle.go_board.specs.Game.{GameRecord}
use Rattle.go_board.specs.declared.rules.KoRule.{KoRule}
use Rattle.gtp_check_judge.specs.declared.asking.CheckCommand.{CheckCommand}
use Rattle.gtp_check_judge.specs.declared.asking.CheckCommand.TheVariants.{Match, FinalScore, Name, Version}
use Rattle.gtp_check_judge.specs.declared.asking.CheckCommand.TheVariants.{KnownCommand, PlayInFull, GenmoveInFull, ListCommands}
use Rattle.gtp_check_judge.specs.declared.asking.CheckCommand.TheVariants.{Faulty, Required}
use Rattle.gtp_check_judge.specs.declared.asking.FaultyCommand.TheVariants as faulty
use Rattle.gtp_check_judge.specs.declared.asking.RequiredCommand.TheVariants as required
use Rattle.gtp_wire.specs.declared.commands.Command.TheVariants.{Boardsize, Komi, ClearBoard, FixedHandicap, Play}
use Rattle.gtp_wire.specs.declared.commands.Command.TheVariants.{Genmove, Undo, Quit}
use Rattle.gtp_wire.specs.declared.lines.Line.{Line}
use Rattle.gtp_wire.specs.declared.replies.Reply.{Reply}
use Rattle.gtp_wire.specs.declared.replies.ReplyFault.{ReplyFault}
use Rattle.gtp_check_judge.specs.Asking.{written_check, line_of_check, IsCheckWritable, IsCheckInLimits}
use Rattle.gtp_wire.specs.Lines.{lines}
use Rattle.gtp_wire.specs.Replies.{IsReply, ReadsFirst}
use Rattle.gtp_session.specs.Commands.{ends}
use Rattle.gtp_check_judge.specs.declared.judging.Judgement.{Judgement}
use Rattle.gtp_check_judge.specs.declared.judging.Judgement.TheVariants.{Right, Plays, Resized, Undone, Opines, Wrong}
use Rattle.gtp_check_judge.specs.declared.unanswered.Asked.{Asked}
use Rattle.gtp_check_judge.specs.declared.exam.Exam.{Exam}
use Rattle.gtp_check_judge.specs.Dues.{MayBeAsked}
use Rattle.gtp_check_judge.specs.Judging.{oldest, has_id}
use Rattle.gtp_check_judge.specs.Exam.{Asks, Leaves, ReplyLeaves, IdLeaves, after_judged, finding_of, reply_to}
use Rattle.gtp_check_judge.specs.Exam.{with_learned, with_rest, HasRoomFor}
use Rattle.gtp_check_judge.specs.Laws.{line_of_asked}
use Rattle.gtp_check_judge.specs.Laws.{Exchange, exchanged, Talks}
use Rattle.gtp_check_judge.proofs.commands.Lines.{checks_are_lines}

-- a command that was asked can be written, and ends nothing
pub record IsSent (entry : Asked) : Type 0 where
  pub int : entry.id ≤ most_int
  pub writable : IsCheckWritable entry.command
  pub limits : IsCheckInLimits entry.command
  pub going : ends (line_of_asked entry) ≡ false

goes : (game : GameRecord) (id : ℕ) (command : CheckCommand) → MayBeAsked game command
    → ends (line_of_check id command) ≡ false
goes game id FinalScore may = refl
goes game id Name may = refl
goes game id Version may = refl
goes game id (KnownCommand k) may = refl
goes game id (Match (Boardsize size)) may = refl
goes game id (Match (Komi komi)) may = refl
goes game id (Match ClearBoard) may = refl
goes game id (Match (FixedHandicap stones)) may = refl
goes game id (Match (Play move)) may = refl
goes game id (Match (Genmove colour)) may = refl
goes game id (Match Undo) may = refl
goes game id (Match Quit) may = absurd may
goes game id ListCommands may = refl
goes game id (Faulty faulty.Unknown) may = refl
goes game id (Faulty faulty.UnknownWithArguments) may = refl
goes game id (Faulty faulty.Boardsize) may = refl
goes game id (Faulty faulty.Komi) may = refl
goes game id (Faulty faulty.PlayNowhere) may = refl
goes game id (Faulty faulty.PlayOutside) may = refl
goes game id (Faulty faulty.Genmove) may = refl
goes game id (Required required.ProtocolVersion) may = refl
goes game id (Required required.Name) may = refl
goes game id (Required required.Version) may = refl
goes game id (Required required.KnownCommand) may = refl
goes game id (PlayInFull move) may = refl
goes game id (GenmoveInFull colour) may = refl

abbrev pub bytes_of : List Asked → List ℕ
bytes_of [] = []
bytes_of (entry ∷ later) = written_check entry.id entry.command ++ bytes_of later

bytes_more : (list : List Asked) (entry : Asked)
    → bytes_of (list ++ entry ∷ []) ≡ bytes_of list ++ written_check entry.id entry.command
bytes_more [] entry = append-nil (written_check entry.id entry.command)
bytes_more (first ∷ later) entry =
    ap (λ (t : List ℕ). written_check first.id first.command ++ t) (bytes_more later entry)
    ∙ sym (append_assoc (written_check first.id first.command) (bytes_of later)
    (written_check entry.id entry.command))

pub bytes_lines : (list : List Asked) → AllByRecursion IsSent list → lines (bytes_of list) ≡ map line_of_asked list
unfolding lines
bytes_lines [] all = refl
bytes_lines (entry ∷ later) all =
    checks_are_lines entry.id entry.command (bytes_of later) all.0.int all.0.writable all.0.limits
    ∙ ap (λ (ls : List Line). line_of_asked entry ∷ ls) (bytes_lines later all.1)

sent_more : (list : List Asked) (entry : Asked) → AllByRecursion IsSent list → IsSent entry
    → AllByRecursion IsSent (list ++ entry ∷ [])
sent_more [] entry all one = (one, tt)
sent_more (first ∷ later) entry all one = (all.0, sent_more later entry all.1 one)

abbrev pub entry_of : Exchange → Asked
entry_of x = x.entry

-- the replies that were heard, one after the other
abbrev pub RawsOf : List Exchange → List ℕ → Type 0
RawsOf [] raw = raw ≡ []
RawsOf (x ∷ xs) raw = (first rest : List ℕ) × (raw ≡ first ++ rest) × IsReply first x.reply × RawsOf xs rest

raws_more : (xs : List Exchange) (raw : List ℕ) (entry : Asked) (reply : Reply) (bytes : List ℕ) → RawsOf xs raw
    → IsReply bytes reply → RawsOf (xs ++ record { entry = entry; reply = reply } ∷ []) (raw ++ bytes)
raws_more [] raw entry reply bytes h is =
    (bytes, [], ap (λ (t : List ℕ). t ++ bytes) h ∙ sym (append-nil bytes), is, refl)
raws_more (x ∷ xs) raw entry reply bytes h is = (
  h.0,
  h.1 ++ bytes,
  ap (λ (t : List ℕ). t ++ bytes) h.2 ∙ append_assoc h.0 h.1 bytes,
  h.3,
  raws_more xs h.1 entry reply bytes h.4 is,
)

-- What went over the wire: the bytes of all commands, and those of whole replies and of what the reader holds.
pub record Wire (sent came : List ℕ) (said : List Exchange) (exam : Exam) : Type 0 where
  pub raw : List ℕ
  pub all : AllByRecursion IsSent (map entry_of said ++ exam.unanswered)
  pub sent_is : sent ≡ bytes_of (map entry_of said ++ exam.unanswered)
  pub came_is : came ≡ raw ++ exam.reader
  pub raws : RawsOf said raw

asked_wire : (sent came : List ℕ) (said : List Exchange) (old : Exam) (command : CheckCommand) (new : Exam)
    → Wire sent came said old → HasRoomFor old command → Asks old command new
    → Wire (sent ++ written_check new.sent command) came said new
asked_wire sent came said old command new w room a =
    let entry : Asked = record { id = old.sent + 1; command = command; due = a.due } in
    let one : IsSent entry = record {
      int = omega (arith, room.id);
      writable = a.writable;
      limits = a.limits;
      going = goes old.game (old.sent + 1) command room.may;
    } in
    let joined : (map entry_of said ++ old.unanswered) ++ entry ∷ [] ≡ map entry_of said ++ (old.unanswered
    ++ entry ∷ []) = append_assoc (map entry_of said) old.unanswered (entry ∷ []) in
    subst (λ (e : Exam). Wire (sent ++ written_check e.sent command) came said e) (sym a.new_is) (record {
      raw = w.raw;
      all =
          subst (AllByRecursion IsSent) joined
          (sent_more (map entry_of said ++ old.unanswered) entry w.all one);
      sent_is =
          ap (λ (t : List ℕ). t ++ written_check (old.sent + 1) command) w.sent_is
          ∙ sym (bytes_more (map entry_of said ++ old.unanswered) entry)
          ∙ ap bytes_of joined;
      came_is = w.came_is;
      raws = w.raws;
    })

-- what a right answer leaves
record Left (later : List Asked) (rest : List ℕ) (new : Exam) : Type 0 where
  unanswered : new.unanswered ≡ later
  reader : new.reader ≡ rest

judged_left : (exam : Exam) (entry : Asked) (later : List Asked) (got : Judgement) (new : Exam)
    → exam.unanswered ≡ entry ∷ later → None ≡ finding_of entry got → new ≡ after_judged exam got
    → Left later exam.reader new
judged_left exam entry later Right new list none is = record {
  unanswered = ap (λ (e : Exam). e.unanswered) is ∙ ap (drop 1) list;
  reader = ap (λ (e : Exam). e.reader) is;
}
judged_left exam entry later (Plays colour v) new list none is = record {
  unanswered = ap (λ (e : Exam). e.unanswered) is ∙ ap (drop 1) list;
  reader = ap (λ (e : Exam). e.reader) is;
}
judged_left exam entry later (Resized size) new list none is = record {
  unanswered = ap (λ (e : Exam). e.unanswered) is ∙ ap (drop 1) list;
  reader = ap (λ (e : Exam). e.reader) is;
}
judged_left exam entry later Undone new list none is = record {
  unanswered = ap (λ (e : Exam). e.unanswered) is ∙ ap (drop 1) list;
  reader = ap (λ (e : Exam). e.reader) is;
}
judged_left exam entry later (Opines opinion) new list none is = record {
  unanswered = ap (λ (e : Exam). e.unanswered) is ∙ ap (drop 1) list;
  reader = ap (λ (e : Exam). e.reader) is;
}
judged_left exam entry later (Wrong kind) new list none is = absurd (cc none)

id_left : (exam : Exam) (entry : Asked) (later : List Asked) (reply : Reply) (b : Bool) (new : Exam)
    → exam.unanswered ≡ entry ∷ later
    → IdLeaves exam (reply_to entry reply) b None new → Left later exam.reader new
id_left exam entry later reply false new list h = absurd (cc (h.0))
id_left exam entry later reply true new list h =
    judged_left (with_learned exam entry.command reply) entry later h.0 new list h.2 h.3

reply_wire : (sent came : List ℕ) (said : List Exchange) (old : Exam) (list : List Asked) (reply : Reply)
    (rest t : List ℕ)
    (new : Exam) → Wire sent came said old → old.unanswered ≡ list → IsReply (old.reader ++ t) reply → rest ≡ []
    → ReplyLeaves (with_rest old rest) (oldest list) reply None new
    → Wire sent (came ++ t) (said ++ exchanged (oldest list) (Some (Ok reply))) new
reply_wire sent came said old [] reply rest t new w list is none h = absurd (cc (h.0))
reply_wire sent came said old (entry ∷ later) reply rest t new w list is none h =
    let x : Exchange = record { entry = entry; reply = reply } in
    let left : Left later rest new =
    id_left (with_rest old rest) entry later reply (has_id reply.id entry.id) new list h in
    let same : map entry_of (said ++ x ∷ []) ++ new.unanswered ≡ map entry_of said ++ old.unanswered =
    ap (λ (l : List Asked). l ++ new.unanswered) (map-append entry_of said (x ∷ []))
    ∙ append_assoc (map entry_of said) (entry ∷ []) new.unanswered
    ∙ ap (λ (l : List Asked). map entry_of said ++ (entry ∷ l)) left.unanswered
    ∙ ap (λ (l : List Asked). map entry_of said ++ l) (sym list) in
    record {
      raw = w.raw ++ (old.reader ++ t);
      all = subst (AllByRecursion IsSent) (sym same) w.all;
      sent_is = w.sent_is ∙ ap bytes_of (sym same);
      came_is =
          ap (λ (c : List ℕ). c ++ t) w.came_is ∙ append_assoc w.raw old.reader t
          ∙ sym (append-nil (w.raw ++ (old.reader ++ t)))
          ∙ ap (λ (r : List ℕ). (w.raw ++ (old.reader ++ t)) ++ r) (sym (left.reader ∙ none));
      raws = raws_more said w.raw entry reply (old.reader ++ t) w.raws is;
    }

nothing_more : (o : Option Asked) → exchanged o None ≡ []
nothing_more None = refl
nothing_more (Some entry) = refl

heard_wire : (sent came : List ℕ) (said : List Exchange) (old : Exam) (bytes : List ℕ) (used : ℕ)
    (read : Option (Result Reply ReplyFault)) (rest : List ℕ) (new : Exam)
    → Wire sent came said old → ReadsFirst old.reader bytes used read rest → Leaves (with_rest old rest) read None new
    → Wire sent (came ++ take used bytes) (said ++ exchanged (oldest old.unanswered) read) new
heard_wire sent came said old bytes used None rest new w reads h =
    subst (λ (more : List Exchange). Wire sent (came ++ take used bytes) (said ++ more) new)
    (sym (nothing_more (oldest old.unanswered)))
    (subst (λ (all : List Exchange). Wire sent (came ++ take used bytes) all new) (sym (append-nil said))
    (subst (λ (e : Exam). Wire sent (came ++ take used bytes) said e) (sym h.1) (record {
      raw = w.raw;
      all = w.all;
      sent_is = w.sent_is;
      came_is =
          ap (λ (c : List ℕ). c ++ take used bytes) w.came_is ∙ append_assoc w.raw old.reader (take used bytes)
          ∙ ap (λ (r : List ℕ). w.raw ++ r) (sym reads.rest);
      raws = w.raws;
    })))
heard_wire sent came said old bytes used (Some (Err shown)) rest new w reads h = absurd (cc (h.0))
heard_wire sent came said old bytes used (Some (Ok reply)) rest new w reads h =
    reply_wire sent came said old old.unanswered reply rest (take used bytes) new w refl
    (subst (λ (t : List ℕ). IsReply t reply) (take-append-add old.reader bytes used) reads.first.is_given) reads.rest h

pub wire : (rule : KoRule) (sent came : List ℕ) (said : List Exchange) (exam : Exam)
    → Talks rule sent came said exam → Wire sent came said exam
wire rule sent came said exam Talks.start =
    record { raw = []; all = tt; sent_is = refl; came_is = refl; raws = refl }
wire rule sent came said exam (Talks.ask {sent = s} {came = c} {said = x} {old = old} {new = new} command talk room
    asks) =
    asked_wire s came said old command exam (wire rule s came said old talk) room asks
wire rule sent came said exam (Talks.hear {sent = s} {came = c} {said = x} {old = old} {new = new} bytes used read
    talk hears) =
    heard_wire sent c x old bytes used read hears.0 exam (wire rule sent c x old talk) hears.1 hears.2
