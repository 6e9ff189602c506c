-- A lesson is noted only where a move that was asked in it was answered rightly.
use Rattle.std.proofs.Common.{◌≡◌, ◌⊎◌, ◌∙◌, ◌==◌, ◌+◌, ◌-◌, ◌++◌, ◌∷◌, [], ℕ, Bool, true, false, List, refl, inl, inr}
use Rattle.std.proofs.Common.{nat_lt}
use Rattle.std.proofs.Common.{Option, None, Some, Result, Ok, Err, append_assoc, arith, ap, subst, sym, length}
use Rattle.std.proofs.Common.{slice_get, drop, map}
use Rattle.std.proofs.Common.{if◌then◌else◌}
use Rattle.std.proofs.lemmas.Bool.{eqb-true, or_cases, or_left, or_right}
use Rattle.std.proofs.lemmas.List.{length-append, length-map, map-append}
use Rattle.go_board.specs.declared.rules.KoRule.{KoRule}
use Rattle.gtp_wire.specs.declared.commands.Command.TheVariants.{Boardsize, Komi, ClearBoard, FixedHandicap, Play}
use Rattle.gtp_wire.specs.declared.commands.Command.TheVariants.{Genmove, Undo, Quit}
use Rattle.gtp_wire.specs.declared.replies.Reply.{Reply}
use Rattle.gtp_wire.specs.declared.replies.ReplyFault.{ReplyFault}
use Rattle.gtp_process.specs.declared.starter.Process.{Ghosts}
use Rattle.gtp_check_judge.specs.declared.asking.CheckCommand.{CheckCommand}
use Rattle.gtp_check_judge.specs.declared.asking.CheckCommand.TheVariants.{Match, FinalScore, Name, Version}
use Rattle.gtp_check_judge.specs.declared.asking.CheckCommand.TheVariants.{KnownCommand, ListCommands, PlayInFull}
use Rattle.gtp_check_judge.specs.declared.asking.CheckCommand.TheVariants.{Faulty, Required}
use Rattle.gtp_check_judge.specs.declared.asking.CheckCommand.TheVariants.{GenmoveInFull}
use Rattle.gtp_check_judge.specs.declared.exam.Exam.{Exam}
use Rattle.gtp_check_judge.specs.declared.judging.Judgement.{Judgement}
use Rattle.gtp_check_judge.specs.declared.judging.Judgement.TheVariants.{Right, Plays, Resized, Undone, Opines, Wrong}
use Rattle.gtp_check_judge.specs.declared.skills.Skills.{Skills}
use Rattle.gtp_check_judge.specs.declared.unanswered.Asked.{Asked}
use Rattle.gtp_check_judge.specs.Asking.{written_check}
use Rattle.gtp_check_judge.specs.Exam.{IdLeaves, Leaves, ReplyLeaves, after_judged, begun, finding_of, with_learned, reply_to}
use Rattle.gtp_check_judge.specs.Exam.{with_rest}
use Rattle.gtp_check_judge.specs.Judging.{has_id, oldest, refused_by}
use Rattle.gtp_check_course.specs.Lessons.{all_lessons, number_of}
use Rattle.gtp_check_course.specs.declared.lessons.Lesson.{Lesson}
use Rattle.gtp_check_talk.specs.declared.said.Said.{Said}
use Rattle.gtp_check_talk.specs.Said.{commands_of}
use Rattle.gtp_check_talk.specs.declared.fault.Fault.{Fault}
use Rattle.gtp_check_talk.specs.Among.{is_among}
use Rattle.gtp_check_talk.specs.Counts.{with_more}
use Rattle.gtp_check_talk.specs.declared.notes.Notes.{Notes}
use Rattle.gtp_check_talk.specs.Dialogues.{AreHeard, Converses, Dialogue, IsExchanged, IsRead, begun_with}
use Rattle.gtp_check_talk.specs.Dialogues.{last_move, noted_of_read, owed_purpose, purpose_of}
use Rattle.gtp_check_talk.specs.Laws.{AsksForMove, IsMoveAnswered}
use Rattle.gtp_check_talk.specs.Notes.{asks_for_move, noted, noted_in, with_lesson}
use Rattle.gtp_check_talk.proofs.Kept.{noted_keeps}
use Rattle.gtp_check_talk.proofs.Talks.{converses_talk}
use Rattle.gtp_check_talk.proofs.Trials.{at_back, exchanged_talk}

-- ---- a lesson is noted

among_more : (list : List Lesson) (last other : Lesson) → is_among (list ++ last ∷ []) other ≡ true
    → (is_among list other ≡ true) ⊎ (number_of last ≡ number_of other)
among_more [] last other is =
    elim (or_cases (number_of last == number_of other) false is) [
      | inl same ↦ inr (eqb-true _ _ same)
      | inr never ↦ absurd (cc never)
    ]
among_more (one ∷ list) last other is =
    elim (or_cases (number_of one == number_of other) (is_among (list ++ last ∷ []) other) is) [
      | inl same ↦ inl (or_left (number_of one == number_of other) (is_among list other) same)
      | inr later ↦ elim (among_more list last other later) [
        | inl among ↦ inl (or_right (number_of one == number_of other) (is_among list other) among)
        | inr same ↦ inr same
      ]
    ]

among_with_more : (room : ℕ) (list : List Lesson) (last other : Lesson)
    → is_among (with_more room list last) other ≡ true
    → (is_among list other ≡ true) ⊎ (number_of last ≡ number_of other)
among_with_more room list last other is = by (nat_lt (length list) room) refl is
  where
    by : (b : Bool) → nat_lt (length list) room ≡ b
        → is_among (if b then list ++ last ∷ [] else list) other ≡ true
        → (is_among list other ≡ true) ⊎ (number_of last ≡ number_of other)
    by true test among = among_more list last other among
    by false test among = inl among

among_with : (lesson other : Lesson) (notes : Notes)
    → is_among (with_lesson lesson notes).answered.items other ≡ true
    → (is_among notes.answered.items other ≡ true) ⊎ (number_of lesson ≡ number_of other)
among_with lesson other notes is = by (is_among notes.answered.items lesson) refl is
  where
    by : (b : Bool) → is_among notes.answered.items lesson ≡ b
        → is_among (if b then notes else record notes {
          answered = record { items = with_more (length all_lessons) notes.answered.items lesson };
        }).answered.items other ≡ true
        → (is_among notes.answered.items other ≡ true) ⊎ (number_of lesson ≡ number_of other)
    by true test among = inl among
    by false test among = among_with_more (length all_lessons) notes.answered.items lesson other among

-- a command that asks for a move is a `play` or a `genmove`
moves : (command : CheckCommand) → asks_for_move command ≡ true → AsksForMove command
moves (Match (Play move)) is = AsksForMove.plays move
moves (Match (Genmove colour)) is = AsksForMove.chooses colour
moves (Match (Boardsize size)) is = absurd (cc is)
moves (Match (Komi komi)) is = absurd (cc is)
moves (Match ClearBoard) is = absurd (cc is)
moves (Match (FixedHandicap stones)) is = absurd (cc is)
moves (Match Undo) is = absurd (cc is)
moves (Match Quit) is = absurd (cc is)
moves FinalScore is = absurd (cc is)
moves Name is = absurd (cc is)
moves Version is = absurd (cc is)
moves (KnownCommand known) is = absurd (cc is)
moves ListCommands is = absurd (cc is)
moves (Faulty faulty) is = absurd (cc is)
moves (Required required) is = absurd (cc is)
moves (PlayInFull move) is = AsksForMove.plays_in_full move
moves (GenmoveInFull colour) is = AsksForMove.chooses_in_full colour

-- a lesson that is noted was noted before, or is that of the move that was answered
among_in : (lesson other : Lesson) (entry : Asked) (notes : Notes)
    → is_among (noted_in lesson (Some entry) notes).answered.items other ≡ true
    → (is_among notes.answered.items other ≡ true)
    ⊎ ((number_of lesson ≡ number_of other) × AsksForMove entry.command)
among_in lesson other entry notes is = by (asks_for_move entry.command) refl is
  where
    by : (b : Bool) → asks_for_move entry.command ≡ b
        → is_among (if b then with_lesson lesson notes else notes).answered.items other ≡ true
        → (is_among notes.answered.items other ≡ true)
        ⊎ ((number_of lesson ≡ number_of other) × AsksForMove entry.command)
    by true asks among =
        elim (among_with lesson other notes among) [
          | inl before ↦ inl before
          | inr same ↦ inr (same, moves entry.command asks)
        ]
    by false asks among = inl among

-- ---- what was taken off

-- no reply was read, and nothing was answered; or the oldest command was
pub data Takes (read : Option (Result Reply ReplyFault)) (old new : List Asked) : Type 0 where
  nothing : read ≡ None → new ≡ old → Takes read old new
  oldest_one : (entry : Asked) (reply : Reply) → read ≡ Some (Ok reply) → old ≡ entry ∷ new → Takes read old new

judged_takes : (exam : Exam) (entry : Asked) (later : List Asked) (got : Judgement) → exam.unanswered ≡ entry ∷ later
    → None ≡ finding_of entry got → (after_judged exam got).unanswered ≡ later
judged_takes exam entry later Right is none = ap (drop 1) is
judged_takes exam entry later (Plays colour v) is none = ap (drop 1) is
judged_takes exam entry later (Resized size) is none = ap (drop 1) is
judged_takes exam entry later Undone is none = ap (drop 1) is
judged_takes exam entry later (Opines opinion) is none = ap (drop 1) is
judged_takes exam entry later (Wrong kind) is none = absurd (cc none)

id_takes : (exam : Exam) (entry : Asked) (later : List Asked) (reply : Reply) (same : Bool) (new : Exam)
    → exam.unanswered ≡ entry ∷ later → IdLeaves exam (reply_to entry reply) same None new → new.unanswered ≡ later
id_takes exam entry later reply false new is h = absurd (cc (h.0))
id_takes exam entry later reply true new is h =
    ap (λ (e : Exam). e.unanswered) h.3
    ∙ judged_takes (with_learned exam entry.command reply) entry later h.0 is h.2

reply_takes : (exam : Exam) (list : List Asked) (reply : Reply) (new : Exam) → exam.unanswered ≡ list
    → ReplyLeaves exam (oldest list) reply None new → Takes (Some (Ok reply)) list new.unanswered
reply_takes exam [] reply new is h = absurd (cc (h.0))
reply_takes exam (entry ∷ later) reply new is h =
    Takes.oldest_one entry reply refl
    (ap (λ (rest : List Asked). entry ∷ rest) (sym (id_takes exam entry later reply (has_id reply.id entry.id) new is
    h)))

pub leaves_takes : (old : Exam) (rest : List ℕ) (read : Option (Result Reply ReplyFault)) (new : Exam)
    → Leaves (with_rest old rest) read None new → Takes read old.unanswered new.unanswered
leaves_takes old rest None new h = Takes.nothing refl (ap (λ (e : Exam). e.unanswered) h.1)
leaves_takes old rest (Some (Err shown)) new h = absurd (cc (h.0))
leaves_takes old rest (Some (Ok reply)) new h = reply_takes (with_rest old rest) old.unanswered reply new refl h

-- ---- what is owed

-- The last of what was asked isn't answered.
pub record Owes (talk : List Said) (unanswered : List Asked) : Type 0 where
  pub front : List Said
  pub back : List Said
  pub all : talk ≡ front ++ back
  pub same : commands_of back ≡ map (λ (one : Asked). one.command) unanswered

owes_more : (talk : List Said) (unanswered : List Asked) (said : Said) (entry : Asked) → said.command ≡ entry.command
    → Owes talk unanswered → Owes (talk ++ said ∷ []) (unanswered ++ entry ∷ [])
owes_more talk unanswered said entry is owes = record {
  front = owes.front;
  back = owes.back ++ said ∷ [];
  all = ap (λ (list : List Said). list ++ said ∷ []) owes.all ∙ append_assoc owes.front owes.back (said ∷ []);
  same = map-append (λ (one : Said). one.command) owes.back (said ∷ [])
      ∙ ap (λ (list : List CheckCommand). list ++ said.command ∷ []) owes.same
      ∙ ap (λ (last : CheckCommand). map (λ (one : Asked). one.command) unanswered ++ last ∷ []) is
      ∙ sym (map-append (λ (one : Asked). one.command) unanswered (entry ∷ []));
}

-- the oldest of it
pub record IsOldest (talk : List Said) (entry : Asked) (later : List Asked) : Type 0 where
  pub said : Said
  pub owed : slice_get talk (length talk - length (entry ∷ later)) ≡ Some said
  pub command : said.command ≡ entry.command
  pub rest : Owes talk later

oldest_in : (talk front back : List Said) (entry : Asked) (later : List Asked) → talk ≡ front ++ back
    → commands_of back ≡ map (λ (one : Asked). one.command) (entry ∷ later) → IsOldest talk entry later
oldest_in talk front [] entry later all same = absurd (cc same)
oldest_in talk front (said ∷ back) entry later all same =
    let tail : commands_of back ≡ map (λ (one : Asked). one.command) later = ap (drop 1) same in
    let few : length back ≡ length later =
    sym (length-map back (λ (one : Said). one.command))
    ∙ ap (λ (list : List CheckCommand). length list) tail ∙ length-map later (λ (one : Asked). one.command) in
    let at : length talk - length (entry ∷ later) ≡ length front + 0 =
    omega (arith, few, ap (λ (list : List Said). length list) all, length-append front (said ∷ back)) in
    record {
      said = said;
      owed = ap (λ (n : ℕ). slice_get talk n) at
          ∙ ap (λ (list : List Said). slice_get list (length front + 0)) all ∙ at_back front (said ∷ back) 0;
      command = cc same;
      rest = record {
        front = front ++ said ∷ [];
        back = back;
        all = all ∙ sym (append_assoc front (said ∷ []) back);
        same = tail;
      };
    }

pub oldest_of : (talk : List Said) (old : List Asked) (entry : Asked) (new : List Asked) → old ≡ entry ∷ new
    → Owes talk old → IsOldest talk entry new
oldest_of talk old entry new is owes =
    oldest_in talk owes.front owes.back entry new owes.all
    (owes.same ∙ ap (λ (list : List Asked). map (λ (one : Asked). one.command) list) is)

owes_less : (talk : List Said) (read : Option (Result Reply ReplyFault)) (old new : List Asked) → Takes read old new
    → Owes talk old → Owes talk new
owes_less talk read old new (Takes.nothing none is) owes = subst (Owes talk) (sym is) owes
owes_less talk read old new (Takes.oldest_one entry reply came is) owes = (oldest_of talk old entry new is owes).rest

-- ---- what is noted of what was heard

-- a move was answered rightly, where these commands weren't answered
record IsNotedNow (lesson other : Lesson) (list : List Asked) (read : Option (Result Reply ReplyFault)) : Type 0 where
  entry : Asked
  later : List Asked
  reply : Reply
  are : list ≡ entry ∷ later
  is : read ≡ Some (Ok reply)
  same : number_of lesson ≡ number_of other
  asks : AsksForMove entry.command

noted_among : (lesson other : Lesson) (notes : Notes) (list : List Asked) (read : Option (Result Reply ReplyFault))
    (skills : Skills) → is_among (noted_of_read lesson notes (oldest list) read skills).answered.items other ≡ true
    → (is_among notes.answered.items other ≡ true) ⊎ IsNotedNow lesson other list read
noted_among lesson other notes [] read skills is = inl is
noted_among lesson other notes (entry ∷ later) None skills is = inl is
noted_among lesson other notes (entry ∷ later) (Some (Err shown)) skills is = inl is
noted_among lesson other notes (entry ∷ later) (Some (Ok reply)) skills is =
    let mid = noted notes (Some entry) (refused_by entry.due reply.ok) reply skills in
    let kept = (noted_keeps notes entry (refused_by entry.due reply.ok) reply skills).answered in
    elim (among_in lesson other entry mid is) [
      | inl before ↦ inl (ap (λ (list : List Lesson). is_among list other) (sym kept) ∙ before)
      | inr now ↦ inr (record {
        entry = entry;
        later = later;
        reply = reply;
        are = refl;
        is = refl;
        same = now.0;
        asks = now.1;
      })
    ]

-- the move of the lesson that was answered is the oldest that was owed
now_answered : (talk : List Said) (old new : Exam) (other : Lesson) (read : Option (Result Reply ReplyFault))
    → Owes talk old.unanswered → Takes read old.unanswered new.unanswered
    → IsNotedNow (owed_purpose talk old).lesson other old.unanswered read → IsMoveAnswered other talk old new
now_answered talk old new other read owes (Takes.nothing none same) now = absurd (cc (none, now.is))
now_answered talk old new other read owes (Takes.oldest_one entry reply came is) now =
    let count : length old.unanswered ≡ length (entry ∷ new.unanswered) = ap (λ (list : List Asked). length list) is in
    let first = oldest_of talk old.unanswered entry new.unanswered is owes in
    let owed : slice_get talk (length talk - length old.unanswered) ≡ Some first.said =
    ap (λ (n : ℕ). slice_get talk (length talk - n)) count ∙ first.owed in
    let one : now.entry ≡ entry = cc (now.are, is) in
    record {
      said = first.said;
      owed = owed;
      lesson_is = ap (λ (said : Option Said). number_of (purpose_of said).lesson) (sym owed) ∙ now.same;
      asks = subst AsksForMove (ap (λ (e : Asked). e.command) one ∙ sym first.command) now.asks;
      answered = omega (arith, count);
    }

module _ {P : Type 0} (known : Ghosts P) where
  -- ---- bytes were heard

  quiet_noted : (bytes : List ℕ) (before : Dialogue P) (after : Dialogue P) (other : Lesson)
      → before.exam.up ≡ true → Owes before.talk before.exam.unanswered → AreHeard bytes before None after
      → is_among after.notes.answered.items other ≡ true
      → (is_among before.notes.answered.items other ≡ true) ⊎ IsMoveAnswered other before.talk before.exam after.exam
  quiet_noted bytes before after other up owes heard among =
      let hears = heard.heard.up up in
      let takes = leaves_takes before.exam hears.0 heard.read after.exam hears.2 in
      elim (noted_among (owed_purpose before.talk before.exam).lesson other before.notes before.exam.unanswered
      heard.read after.exam.skills
      (ap (λ (n : Notes). is_among n.answered.items other) (sym heard.notes) ∙ among)) [
        | inl was ↦ inl was
        | inr now ↦ inr (now_answered before.talk before.exam after.exam other heard.read owes takes now)
      ]

  bytes_noted : (bytes : List ℕ) (before : Dialogue P) (fault : Option Fault) (after : Dialogue P) (other : Lesson)
      → before.exam.up ≡ true → Owes before.talk before.exam.unanswered
      → AreHeard bytes before fault after → is_among after.notes.answered.items other ≡ true
      → (is_among before.notes.answered.items other ≡ true)
      ⊎ ((fault ≡ None) × IsMoveAnswered other before.talk before.exam after.exam)
  bytes_noted bytes before None after other up owes heard among =
      elim (quiet_noted bytes before after other up owes heard among) [
        | inl was ↦ inl was
        | inr now ↦ inr (refl, now)
      ]
  bytes_noted bytes before (Some fault) after other up owes heard among =
      inl (ap (λ (d : Dialogue P). is_among d.notes.answered.items other) (sym heard.leads) ∙ among)

  read_noted : (before : Dialogue P) {fault : Option Fault} {after : Dialogue P}
      (other : Lesson) → before.exam.up ≡ true → Owes before.talk before.exam.unanswered
      → IsRead known before fault after
      → is_among after.notes.answered.items other ≡ true
      → (is_among before.notes.answered.items other ≡ true)
      ⊎ ((fault ≡ None) × IsMoveAnswered other before.talk before.exam after.exam)
  read_noted before other up owes
      (IsRead.gives {fault = fault} {after = after} bytes next some gave unbroken taken heard) among =
      bytes_noted bytes (record before { process = next }) fault after other up owes heard among
  read_noted before other up owes (IsRead.ends next ended given taken) among = inl among
  read_noted before other up owes (IsRead.breaks next cut given taken) among = inl among

  exchanged_noted : (before : Dialogue P) {fault : Option Fault} {after : Dialogue P}
      (other : Lesson) → before.exam.up ≡ true → Owes before.talk before.exam.unanswered
      → IsExchanged known before fault after
      → is_among after.notes.answered.items other ≡ true
      → (is_among before.notes.answered.items other ≡ true)
      ⊎ ((fault ≡ None) × IsMoveAnswered other before.talk before.exam after.exam)
  exchanged_noted before other up owes (IsExchanged.owes_nothing next none sent) among = inl among
  exchanged_noted before other up owes
      (IsExchanged.held {fault = fault} {after = after} some more heard) among =
      bytes_noted before.held (record before { held = [] }) fault after other up owes heard among
  exchanged_noted before other up owes (IsExchanged.reads next some none sent read) among =
      read_noted (record before { process = next; waiting = [] }) other up owes read among

  -- ---- what a conversation owes

  quiet_owes : (bytes : List ℕ) (before : Dialogue P) (after : Dialogue P) → before.exam.up ≡ true
      → Owes before.talk before.exam.unanswered → AreHeard bytes before None after
      → Owes before.talk after.exam.unanswered
  quiet_owes bytes before after up owes heard =
      let hears = heard.heard.up up in
      owes_less before.talk heard.read before.exam.unanswered after.exam.unanswered
      (leaves_takes before.exam hears.0 heard.read after.exam hears.2) owes

  read_owes : (before : Dialogue P) (after : Dialogue P) → before.exam.up ≡ true
      → Owes before.talk before.exam.unanswered → IsRead known before None after
      → Owes before.talk after.exam.unanswered
  read_owes before after up owes (IsRead.gives bytes next some gave unbroken taken heard) =
      quiet_owes bytes (record before { process = next }) after up owes heard

  exchanged_owes : (before : Dialogue P) (after : Dialogue P) → before.exam.up ≡ true
      → Owes before.talk before.exam.unanswered → IsExchanged known before None after
      → Owes before.talk after.exam.unanswered
  exchanged_owes before after up owes (IsExchanged.owes_nothing next none sent) = owes
  exchanged_owes before after up owes (IsExchanged.held some more heard) =
      quiet_owes before.held (record before { held = [] }) after up owes heard
  exchanged_owes before after up owes (IsExchanged.reads next some none sent read) =
      read_owes (record before { process = next; waiting = [] }) after up owes read

  module _ (rule : KoRule) (process : P) (first : Notes) where
    pub is_up : {now : Dialogue P} → Converses known (begun_with (begun rule true) process first) now
        → now.exam.up ≡ true
    is_up converses = (converses_talk known rule process first converses).goes.up

    pub converses_owes : {now : Dialogue P}
        → Converses known (begun_with (begun rule true) process first) now → Owes now.talk now.exam.unanswered
    converses_owes Converses.begins = record { front = []; back = []; all = refl; same = refl }
    converses_owes
        (Converses.asks {before = before} {after = after} purpose command more asked) =
        let line = written_check after.exam.sent command in
        let said : Said = record {
          command = command;
          purpose = purpose;
          is_illegal = asked.is_illegal;
          size = before.exam.game.size;
          moves = length before.exam.game.moves;
          last = last_move before.exam.game;
          end = length (before.sent ++ line);
        } in
        let entry : Asked = record { id = before.exam.sent + 1; command = command; due = asked.asks.due } in
        subst (λ (d : Dialogue P). Owes d.talk after.exam.unanswered) (sym asked.joins)
        (subst (λ (e : Exam). Owes (before.talk ++ said ∷ []) e.unanswered) (sym asked.asks.new_is)
        (owes_more before.talk before.exam.unanswered said entry refl (converses_owes more)))
    converses_owes
        (Converses.exchanges {before = before} {after = after} more exchanged) =
        subst (λ (talk : List Said). Owes talk after.exam.unanswered) (sym (exchanged_talk known before exchanged))
        (exchanged_owes before after (is_up more) (converses_owes more) exchanged)

  pub noted_once : (rule : KoRule) (process : P) (first : Notes) (before : Dialogue P) (fault : Option Fault)
      (after : Dialogue P) (lesson : Lesson) → Converses known (begun_with (begun rule true) process first) before
      → IsExchanged known before fault after → is_among after.notes.answered.items lesson ≡ true
      → (is_among before.notes.answered.items lesson ≡ true)
      ⊎ ((fault ≡ None) × IsMoveAnswered lesson before.talk before.exam after.exam)
  noted_once rule process first before fault after other converses exchanged among =
      exchanged_noted before other (is_up rule process first converses)
      (converses_owes rule process first converses) exchanged among
