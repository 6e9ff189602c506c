-- Where nothing is found, each answer was right.
use Rattle.std.proofs.Common.{◌≡◌, ℕ, ◌+◌, Bool, true, false, List, [], ◌∷◌, ◌++◌, length, Option, Some, None, refl}
use Rattle.std.proofs.Common.{sym, ◌∙◌, ap, subst, arith}
use Rattle.std.specs.Prelude.{IfSome, Result, Ok, Err, drop}
use Rattle.std.proofs.lemmas.Bool.Decides.{nat_tests}
use Rattle.std.proofs.lemmas.List.{append-nil}
use Rattle.go_base.specs.Size.{IsSize}
use Rattle.go_board.specs.declared.rules.KoRule.{KoRule}
use Rattle.gtp_check_judge.specs.declared.asking.CheckCommand.{CheckCommand}
use Rattle.gtp_check_judge.specs.declared.asking.CheckCommand.TheVariants.{Match, FinalScore, Name, Version}
use Rattle.gtp_check_judge.specs.declared.asking.CheckCommand.TheVariants.{KnownCommand, PlayInFull, GenmoveInFull, ListCommands}
use Rattle.gtp_check_judge.specs.declared.asking.CheckCommand.TheVariants.{Faulty, Required}
use Rattle.gtp_wire.specs.declared.commands.Command.TheVariants.{Boardsize, Komi, ClearBoard, FixedHandicap, Play}
use Rattle.gtp_wire.specs.declared.commands.Command.TheVariants.{Genmove, Undo, Quit}
use Rattle.gtp_wire.specs.declared.replies.Reply.{Reply}
use Rattle.gtp_wire.specs.declared.replies.ReplyFault.{ReplyFault}
use Rattle.gtp_session.proofs.reply_texts.Spoken.{answer_good}
use Rattle.gtp_check_judge.specs.declared.dues.Due.{Due}
use Rattle.gtp_check_judge.specs.declared.dues.Due.TheVariants.{Succeeds, Fails, Places, Resizes, Scores, AnyReply}
use Rattle.gtp_check_judge.specs.declared.dues.Due.TheVariants.{Chooses, MayUndo, Lists}
use Rattle.gtp_check_judge.specs.declared.judging.Judgement.{Judgement}
use Rattle.gtp_check_judge.specs.declared.judging.Judgement.TheVariants.{Right, Plays, Resized, Undone, Opines, Wrong}
use Rattle.gtp_check_judge.specs.declared.unanswered.Asked.{Asked}
use Rattle.gtp_check_judge.specs.declared.exam.Exam.{Exam}
use Rattle.gtp_check_judge.specs.RightEngine.{RightEngine, fresh_engine}
use Rattle.gtp_check_judge.specs.Dues.{engine_after}
use Rattle.gtp_check_judge.specs.Judging.{oldest, awaits, is_open, has_id, Judged}
use Rattle.gtp_check_judge.specs.Exam.{engine_of, begun, Asks, Hears, Leaves, ReplyLeaves, IdLeaves, after_judged, hearing, reply_to}
use Rattle.gtp_check_judge.specs.Exam.{finding_of}
use Rattle.gtp_check_judge.specs.Exam.{with_learned, with_rest, AreOrderly, IsOrderly, HasRoomFor}
use Rattle.gtp_check_judge.specs.Laws.{line_of_asked, IsRight, Exchange, AllRight, exchanged, Talks, IsAsked, Expects}
use Rattle.gtp_check_judge.specs.Laws.{IsRightSoFar}
use Rattle.gtp_check_judge.specs.Laws.{after_refusal}
use Rattle.gtp_check_judge.proofs.answers.Judged.{judged_holds}
use Rattle.gtp_check_judge.proofs.answers.Statuses.{HoldsOf, moved, opined, resized, taken_back}
use Rattle.gtp_check_judge.proofs.order.Asked.{asked_orderly}
use Rattle.gtp_check_judge.proofs.order.Heard.{heard_orderly, opines_scores, plays_chosen, resized_due, undone_by_undo}

-- ---- what is expected

expects_more : (engine : RightEngine) (list : List Asked) (ahead : RightEngine) (entry : Asked)
    → Expects engine list ahead → IsAsked ahead entry
    → Expects engine (list ++ entry ∷ []) (engine_after ahead entry.command entry.due)
expects_more engine [] ahead entry h a =
    subst (λ (g : RightEngine). IsAsked g entry × (engine_after ahead entry.command entry.due
    ≡ engine_after g entry.command entry.due)) h (a, refl)
expects_more engine (first ∷ later) ahead entry h a =
    (h.0, expects_more (engine_after engine first.command first.due) later ahead entry h.1 a)

pub oldest_asked : (engine : RightEngine) (list : List Asked) (ahead : RightEngine) → Expects engine list ahead
    → IfSome (oldest list) (IsAsked engine)
oldest_asked engine [] ahead h = tt
oldest_asked engine (entry ∷ later) ahead h = h.0

-- ---- ids

pub id_is : (id : Option ℕ) (wanted : ℕ) → has_id id wanted ≡ true → id ≡ Some wanted
id_is None wanted e = absurd (cc e)
id_is (Some n) wanted e = let same : n ≡ wanted = grind (arith, nat_tests) in ap Some same

pub id_has : (id : Option ℕ) (wanted : ℕ) → id ≡ Some wanted → has_id id wanted ≡ true
id_has id wanted e = rw e (same wanted)
  where
    same : (n : ℕ) → has_id (Some n) n ≡ true
    same n = grind (arith, nat_tests)

-- ---- what is awaited is judged in the game before it

pub none_later : (entry : Asked) (later : List Asked) → is_open entry.due ≡ true
    → (awaits (entry ∷ later) ≡ true → length (entry ∷ later) ≡ 1) → later ≡ []
none_later entry [] is alone = refl
none_later entry (x ∷ xs) is alone = absurd (let e = alone (rw is refl) in omega arith)

record IsAlone (before ahead : RightEngine) (later : List Asked) : Type 0 where
  last : later ≡ []
  here : ahead ≡ before

alone_of : (before ahead : RightEngine) (sent : ℕ) (entry : Asked) (later : List Asked)
    → is_open entry.due ≡ true → engine_after before entry.command entry.due ≡ before
    → AreOrderly ahead.game sent (entry ∷ later) → Expects before (entry ∷ later) ahead
    → IsAlone before ahead later
alone_of before ahead sent entry later is stays o h =
    let last : later ≡ [] = none_later entry later is o.alone in
    record {
      last = last;
      here =
          (subst (λ (l : List Asked). Expects (engine_after before entry.command entry.due) l ahead) last h.1) ∙ stays;
    }

-- what leaves open what is done leaves the engine as it is until then
alone : (before ahead : RightEngine) (sent : ℕ) (entry : Asked) (later : List Asked) (due : Due)
    → entry.due ≡ due → is_open due ≡ true → engine_after before entry.command due ≡ before
    → AreOrderly ahead.game sent (entry ∷ later) → Expects before (entry ∷ later) ahead
    → IsAlone before ahead later
alone before ahead sent entry later due is opens stays o h =
    alone_of before ahead sent entry later (ap is_open is ∙ opens)
    (ap (engine_after before entry.command) is ∙ stays) o h

judged_before : (before ahead : RightEngine) (sent : ℕ) (entry : Asked) (later : List Asked) (due : Due) (reply : Reply)
    (got : Judgement) → entry.due ≡ due → AreOrderly ahead.game sent (entry ∷ later)
    → Expects before (entry ∷ later) ahead → Judged ahead.game ahead.opinion due reply got
    → Judged before.game before.opinion due reply got
judged_before before ahead sent entry later Succeeds reply got is o h j = j
judged_before before ahead sent entry later (Fails cause) reply got is o h j = j
judged_before before ahead sent entry later (Places s n) reply got is o h j = j
judged_before before ahead sent entry later (Resizes s) reply got is o h j = j
judged_before before ahead sent entry later (Scores s k) reply got is o h j =
    subst (λ (g : RightEngine). Judged g.game g.opinion (Scores s k) reply got)
    (alone before ahead sent entry later (Scores s k) is refl refl o h).here j
judged_before before ahead sent entry later AnyReply reply got is o h j = j
judged_before before ahead sent entry later MayUndo reply got is o h j = j
judged_before before ahead sent entry later Lists reply got is o h j = j
judged_before before ahead sent entry later (Chooses colour) reply got is o h j =
    subst (λ (g : RightEngine). Judged g.game g.opinion (Chooses colour) reply got)
    (alone before ahead sent entry later (Chooses colour) is refl refl o h).here j

-- what is judged of the reply to the oldest command holds of it
pub holds : (before ahead : RightEngine) (sent : ℕ) (entry : Asked) (later : List Asked) (reply : Reply)
    (got : Judgement)
    → IsSize before.game.size → AreOrderly ahead.game sent (entry ∷ later) → Expects before (entry ∷ later) ahead
    → has_id reply.id entry.id ≡ true → Judged ahead.game ahead.opinion entry.due reply got
    → HoldsOf before entry reply got
holds before ahead sent entry later reply got size o h id j =
    judged_holds before entry entry.due reply got refl size h.0 (id_is reply.id entry.id id)
    (judged_before before ahead sent entry later entry.due reply got refl o h j)

-- ---- silence

refusal_size : (engine : RightEngine) (command : CheckCommand)
    → (after_refusal engine command).game.size ≡ engine.game.size
refusal_size engine (Match (Boardsize size)) = refl
refusal_size engine (Match (Komi komi)) = refl
refusal_size engine (Match ClearBoard) = refl
refusal_size engine (Match (FixedHandicap stones)) = refl
refusal_size engine (Match (Play move)) = refl
refusal_size engine (Match (Genmove colour)) = refl
refusal_size engine (Match Undo) = refl
refusal_size engine (Match Quit) = refl
refusal_size engine FinalScore = refl
refusal_size engine Name = refl
refusal_size engine Version = refl
refusal_size engine (KnownCommand known) = refl
refusal_size engine ListCommands = refl
refusal_size engine (Faulty command) = refl
refusal_size engine (Required command) = refl
refusal_size engine (PlayInFull move) = refl
refusal_size engine (GenmoveInFull colour) = refl

right_size : (before : RightEngine) (entry : Asked) (reply : Reply) (after : RightEngine) → IsSize before.game.size
    → IsRight before entry reply after → IsSize after.game.size
right_size before entry reply after size (IsRight.by_refusal refuses) =
    subst (λ (g : RightEngine). IsSize g.game.size) (sym refuses.leaves)
    (subst IsSize (sym (refusal_size before entry.command)) size)
right_size before entry reply after size (IsRight.by_table right) =
    subst (λ (g : RightEngine). IsSize g.game.size) (sym right.leaves)
    (answer_good before.game (line_of_asked entry) right.choice size right.lawful).size

-- the same, without the order
record IsRightBefore (rule : KoRule) (said : List Exchange) (unanswered : List Asked) (ahead : RightEngine)
    : Type 0 where
  before : RightEngine
  right : AllRight (fresh_engine rule) said before
  expects : Expects before unanswered ahead
  size : IsSize before.game.size

-- The answer to a command that leaves open what is done was right: nothing else is unanswered, and it leaves the engine
-- that the exam has then.
opened_so_far : (rule : KoRule) (said : List Exchange) (exam : Exam) (entry : Asked) (later : List Asked)
    (reply : Reply) (new : Exam) (after : RightEngine → RightEngine)
    → (s : IsRightBefore rule said (entry ∷ later) (engine_of exam)) → exam.unanswered ≡ entry ∷ later
    → IsAlone s.before (engine_of exam) later → IsRight s.before entry reply (after s.before)
    → new.unanswered ≡ drop 1 exam.unanswered → engine_of new ≡ after (engine_of exam)
    → IsRightBefore rule (said ++ record { entry = entry; reply = reply } ∷ []) new.unanswered (engine_of new)
opened_so_far rule said exam entry later reply new after s list only right off is = record {
  before = after s.before;
  right = AllRight.one_more entry reply s.right right;
  expects =
      subst (λ (l : List Asked). Expects (after s.before) l (engine_of new))
      (sym (off ∙ ap (drop 1) list ∙ only.last)) (is ∙ ap after only.here);
  size = right_size s.before entry reply (after s.before) s.size right;
}

judged_so_far : (rule : KoRule) (said : List Exchange) (exam : Exam) (entry : Asked) (later : List Asked)
    (reply : Reply)
    (got : Judgement) (new : Exam)
    → (s : IsRightBefore rule said (entry ∷ later) (engine_of exam))
    → AreOrderly exam.game exam.sent (entry ∷ later)
    → exam.unanswered ≡ entry ∷ later
    → has_id reply.id entry.id ≡ true → Judged exam.game exam.opinion entry.due reply got
    → None ≡ finding_of entry got → new ≡ after_judged exam got
    → IsRightBefore rule (said ++ record { entry = entry; reply = reply } ∷ []) new.unanswered (engine_of new)
judged_so_far rule said exam entry later reply Right new s o list id j none is =
    let after : RightEngine = engine_after s.before entry.command entry.due in
    let right = holds s.before (engine_of exam) exam.sent entry later reply Right s.size o s.expects id j in
    record {
      before = after;
      right = AllRight.one_more entry reply s.right right;
      expects =
          subst (λ (e : Exam). Expects after e.unanswered (engine_of e)) (sym is)
          (subst (λ (l : List Asked). Expects after (drop 1 l) (engine_of exam)) (sym list) s.expects.1);
      size = right_size s.before entry reply after s.size right;
    }
judged_so_far rule said exam entry later reply (Plays colour v) new s o list id j none is =
    let chosen = plays_chosen exam.game exam.opinion entry.due reply colour v j in
    opened_so_far rule said exam entry later reply new (λ (e : RightEngine). moved e colour v) s list
    (alone s.before (engine_of exam) exam.sent entry later (Chooses chosen.0) chosen.1 refl refl o s.expects)
    (holds s.before (engine_of exam) exam.sent entry later reply (Plays colour v) s.size o s.expects id j)
    (ap (λ (e : Exam). e.unanswered) is) (ap engine_of is)
judged_so_far rule said exam entry later reply (Resized size) new s o list id j none is =
    let due = resized_due exam.game exam.opinion entry.due reply size j in
    opened_so_far rule said exam entry later reply new (λ (e : RightEngine). resized e size) s list
    (alone s.before (engine_of exam) exam.sent entry later (Resizes size) due.0 refl refl o s.expects)
    (holds s.before (engine_of exam) exam.sent entry later reply (Resized size) s.size o s.expects id j)
    (ap (λ (e : Exam). e.unanswered) is) (ap engine_of is)
judged_so_far rule said exam entry later reply Undone new s o list id j none is =
    let due = undone_by_undo exam.game exam.opinion entry.due reply j in
    opened_so_far rule said exam entry later reply new taken_back s list
    (alone s.before (engine_of exam) exam.sent entry later MayUndo due.0 refl refl o s.expects)
    (holds s.before (engine_of exam) exam.sent entry later reply Undone s.size o s.expects id j)
    (ap (λ (e : Exam). e.unanswered) is) (ap engine_of is)
judged_so_far rule said exam entry later reply (Opines opinion) new s o list id j none is =
    let due = opines_scores exam.game exam.opinion entry.due reply opinion j in
    opened_so_far rule said exam entry later reply new (λ (e : RightEngine). opined e opinion) s list
    (alone s.before (engine_of exam) exam.sent entry later (Scores due.0 due.1) due.2 refl refl o s.expects)
    (holds s.before (engine_of exam) exam.sent entry later reply (Opines opinion) s.size o s.expects id j)
    (ap (λ (e : Exam). e.unanswered) is) (ap engine_of is)
judged_so_far rule said exam entry later reply (Wrong kind) new s o list id j none is = absurd (cc none)

id_so_far : (rule : KoRule) (said : List Exchange) (exam : Exam) (entry : Asked) (later : List Asked) (reply : Reply)
    (b : Bool) (new : Exam)
    → IsRightBefore rule said (entry ∷ later) (engine_of exam) → AreOrderly exam.game exam.sent (entry ∷ later)
    → exam.unanswered ≡ entry ∷ later → has_id reply.id entry.id ≡ b
    → IdLeaves exam (reply_to entry reply) b None new
    → IsRightBefore rule (said ++ record { entry = entry; reply = reply } ∷ []) new.unanswered (engine_of new)
id_so_far rule said exam entry later reply false new s o list id h = absurd (cc (h.0))
id_so_far rule said exam entry later reply true new s o list id h =
    judged_so_far rule said (with_learned exam entry.command reply) entry later reply h.0 new s o list id h.1 h.2 h.3

reply_so_far : (rule : KoRule) (said : List Exchange) (exam : Exam) (list : List Asked) (reply : Reply) (new : Exam)
    → IsRightBefore rule said list (engine_of exam) → AreOrderly exam.game exam.sent list → exam.unanswered ≡ list
    → ReplyLeaves exam (oldest list) reply None new
    → IsRightBefore rule (said ++ exchanged (oldest list) (Some (Ok reply))) new.unanswered (engine_of new)
reply_so_far rule said exam [] reply new s o list h = absurd (cc (h.0))
reply_so_far rule said exam (entry ∷ later) reply new s o list h =
    id_so_far rule said exam entry later reply (has_id reply.id entry.id) new s o list refl h

pub nothing_exchanged : (o : Option Asked) → exchanged o None ≡ []
nothing_exchanged None = refl
nothing_exchanged (Some entry) = refl

leaves_so_far : (rule : KoRule) (said : List Exchange) (exam : Exam) (read : Option (Result Reply ReplyFault))
    (new : Exam) → IsRightBefore rule said exam.unanswered (engine_of exam) → IsOrderly exam → Leaves exam read None new
    → IsRightBefore rule (said ++ exchanged (oldest exam.unanswered) read) new.unanswered (engine_of new)
leaves_so_far rule said exam None new s o h =
    subst (λ (more : List Exchange). IsRightBefore rule (said ++ more) new.unanswered (engine_of new))
    (sym (nothing_exchanged (oldest exam.unanswered)))
    (subst (λ (all : List Exchange). IsRightBefore rule all new.unanswered (engine_of new)) (sym (append-nil said))
    (subst (λ (e : Exam). IsRightBefore rule said e.unanswered (engine_of e)) (sym h.1) s))
leaves_so_far rule said exam (Some (Err shown)) new s o h = absurd (cc (h.0))
leaves_so_far rule said exam (Some (Ok reply)) new s o h =
    reply_so_far rule said exam exam.unanswered reply new s o refl h

pub begun_orderly : (rule : KoRule) (up : Bool) → IsOrderly (begun rule up)
begun_orderly rule up = record {
  few = omega arith;
  alone = λ e. absurd (cc e);
  ints = omega arith;
  answered = 0;
  count = refl;
  numbered = tt;
  judged = tt;
}

unready : (rule : KoRule) (said : List Exchange) (exam : Exam) → IsRightSoFar rule said exam
    → IsRightBefore rule said exam.unanswered (engine_of exam)
unready rule said exam s = record { before = s.before; right = s.right; expects = s.expects; size = s.size }

asked_so_far : (rule : KoRule) (said : List Exchange) (old : Exam) (command : CheckCommand) (new : Exam)
    → IsRightSoFar rule said old → HasRoomFor old command → Asks old command new → IsRightSoFar rule said new
asked_so_far rule said old command new s room a =
    let entry : Asked = record { id = old.sent + 1; command = command; due = a.due } in
    record {
      before = s.before;
      right = s.right;
      expects =
          subst (λ (e : Exam). Expects s.before e.unanswered (engine_of e)) (sym a.new_is)
          (expects_more s.before old.unanswered (engine_of old) entry s.expects
          (record { writable = a.writable; limits = a.limits; is_due = a.is_due }));
      size = s.size;
      orderly = asked_orderly old command new s.orderly room a;
    }

heard_so_far : (rule : KoRule) (said : List Exchange) (old : Exam) (bytes : List ℕ) (used : ℕ)
    (read : Option (Result Reply ReplyFault)) (new : Exam) → IsRightSoFar rule said old
    → Hears old bytes (hearing used read None) new
    → IsRightSoFar rule (said ++ exchanged (oldest old.unanswered) read) new
heard_so_far rule said old bytes used read new s h =
    let after : IsRightBefore rule (said ++ exchanged (oldest old.unanswered) read) new.unanswered (engine_of new) =
    leaves_so_far rule said (with_rest old h.0) read new (unready rule said old s) s.orderly h.2 in
    record {
      before = after.before;
      right = after.right;
      expects = after.expects;
      size = after.size;
      orderly = heard_orderly old bytes used read None new s.orderly h;
    }

pub right_so_far : (rule : KoRule) (sent came : List ℕ) (said : List Exchange) (exam : Exam)
    → Talks rule sent came said exam → IsRightSoFar rule said exam
right_so_far rule sent came said exam Talks.start = record {
  before = fresh_engine rule;
  right = AllRight.nothing;
  expects = refl;
  size = record { least = omega arith; most = omega arith };
  orderly = begun_orderly rule true;
}
right_so_far rule sent came said exam
    (Talks.ask {sent = s} {came = c} {said = x} {old = old} {new = new} command talk room
    asks) =
    asked_so_far rule said old command exam (right_so_far rule s came said old talk) room asks
right_so_far rule sent came said exam
    (Talks.hear {sent = s} {came = c} {said = x} {old = old} {new = new} bytes used read
    talk hears) =
    heard_so_far rule x old bytes used read exam (right_so_far rule sent c x old talk) hears
