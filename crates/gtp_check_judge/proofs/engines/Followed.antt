-- An engine that was given what was asked is where the answers that were heard have brought a right one.
use Rattle.std.proofs.Common.{◌≡◌, ℕ, ◌+◌, true, false, List, [], ◌∷◌, ◌++◌, length, map, Option, Some}
use Rattle.std.proofs.Common.{None, refl, sym, ◌∙◌, ap, subst, arith, append_assoc}
use Rattle.std.specs.Prelude.{IfSome, Result, Ok}
use Rattle.std.specs.List.{AllByRecursion}
use Rattle.go_base.specs.Size.{IsSize}
use Rattle.go_base.specs.declared.choices.Choice.{Choice}
use Rattle.go_board.specs.Game.{GameRecord, fresh_game_under}
use Rattle.go_board.specs.declared.rules.KoRule.{KoRule}
use Rattle.gtp_wire.specs.declared.lines.Line.{Line}
use Rattle.gtp_wire.specs.declared.replies.Reply.{Reply}
use Rattle.gtp_wire.specs.declared.replies.ReplyFault.{ReplyFault}
use Rattle.gtp_wire.specs.Lines.{lines}
use Rattle.gtp_wire.specs.Replies.{IsReply, IsFirst}
use Rattle.gtp_wire.proofs.first_answers.OneAnswer.{one_first, reply_is_first}
use Rattle.gtp_wire.proofs.first_answers.OneByteMore.{first_more}
use Rattle.gtp_wire.proofs.written.OneReply.{written_is_read}
use Rattle.gtp_session.specs.Policy.{May}
use Rattle.gtp_session.specs.Commands.{answer}
use Rattle.gtp_session.specs.Spoken.{IsLawfulAt, reply_of_answer}
use Rattle.gtp_session.specs.Engine.{Engine, State, state_of, WrittenReply, Step, Answers, Engages, output_of}
use Rattle.gtp_session.specs.Engine.{fresh_under}
use Rattle.gtp_session.proofs.choosing.Policies.{AllowsLawful}
use Rattle.gtp_session.proofs.reply_texts.Spoken.{answer_good, step_lawful}
use Rattle.gtp_check_judge.specs.declared.unanswered.Asked.{Asked}
use Rattle.gtp_check_judge.specs.declared.exam.Exam.{Exam}
use Rattle.gtp_check_judge.specs.declared.exam.Finding.{Finding}
use Rattle.gtp_check_judge.specs.Judging.{oldest}
use Rattle.gtp_check_judge.specs.RightEngine.{RightEngine, fresh_engine, undone_after, opinion_after}
use Rattle.gtp_check_judge.specs.Exam.{engine_of, Hears, hearing}
use Rattle.gtp_check_judge.specs.Laws.{line_of_asked, IsRight}
use Rattle.gtp_check_judge.specs.Laws.{Exchange, Talks, IsAsked}
use Rattle.gtp_check_judge.specs.Laws.{IsRightSoFar}
use Rattle.gtp_check_judge.proofs.answers.Statuses.{engine_with}
use Rattle.gtp_check_judge.proofs.engines.OneGame.{RightsFrom, rights_from}
use Rattle.gtp_check_judge.proofs.engines.Rightly.{nothing_first, one_left, same_rest}
use Rattle.gtp_check_judge.proofs.engines.Says.{engine_says, even_after_at, one_after_at}
use Rattle.gtp_check_judge.proofs.scoring.Even.{IsEven}
use Rattle.gtp_check_judge.proofs.engines.Wire.{IsSent, RawsOf, Wire, bytes_lines, entry_of, wire}
use Rattle.gtp_check_judge.proofs.talks.Findings.{unblamed}
use Rattle.gtp_check_judge.proofs.talks.Silence.{oldest_asked, right_so_far}

module _ {P : Type 0} (may : May P) (lawful : AllowsLawful may) where
  -- one line that an engine answered
  record Answered (entry : Asked) (old mid : State P) (written : WrittenReply) : Type 0 where
    choice : Choice
    fair : IsLawfulAt old.game (line_of_asked entry) choice
    game : mid.game ≡ (answer old.game (line_of_asked entry) choice).game
    is : IsReply written.text (reply_of_answer (Some entry.id) (answer old.game (line_of_asked entry) choice))
    going : mid.ended ≡ false
    size : IsSize mid.game.size

  answered : (entry : Asked) (old mid : State P) (written : WrittenReply) → IsSize old.game.size → IsSent entry
      → Step may old (line_of_asked entry) written mid → Answered entry old mid written
  answered entry old mid written size sent step =
      let given = answer old.game (line_of_asked entry) step.choice in
      let fair : IsLawfulAt old.game (line_of_asked entry) step.choice = step_lawful may lawful step in
      let good = answer_good old.game (line_of_asked entry) step.choice size fair in
      record {
        choice = step.choice;
        fair = fair;
        game = step.game;
        is =
            subst (λ (t : List ℕ). IsReply t (reply_of_answer (Some entry.id) given)) (sym step.text)
            (written_is_read given.ok (Some entry.id) given.text (reply_of_answer
            (Some entry.id) given) sent.int good.text
            refl refl refl);
        going = step.ended ∙ sent.going;
        size = subst (λ (g : GameRecord). IsSize g.size) (sym step.game) good.size;
      }

  -- the engine once it has given the answers that were heard: it still has these lines, and has written this after them
  record Followed (game : GameRecord) (said : List Exchange) (unanswered : List Asked) (rest : List ℕ) (new : State P)
      : Type 0 where
    state : State P
    unread : List Line
    left : List WrittenReply
    lines_are : unread ≡ map line_of_asked unanswered
    answers : Answers may state unread left new
    going : state.ended ≡ false
    size : IsSize state.game.size
    out : output_of left ≡ rest
    game_is : (from after : RightEngine) → from.game ≡ game → IsEven from.opinion → RightsFrom from said after
        → (after.game ≡ state.game) × IsEven after.opinion

  follow : (said : List Exchange) (unanswered : List Asked) (raw rest : List ℕ) (old new : State P) (ls : List Line)
      (replies : List WrittenReply)
      → Answers may old ls replies new → ls ≡ map line_of_asked (map entry_of said ++ unanswered)
      → old.ended ≡ false → IsSize old.game.size → AllByRecursion IsSent (map entry_of said ++ unanswered)
      → RawsOf said raw → output_of replies ≡ raw ++ rest
      → Followed old.game said unanswered rest new
  follow [] unanswered raw rest old new ls replies answers e going size all raws out = record {
    state = old;
    unread = ls;
    left = replies;
    lines_are = e;
    answers = answers;
    going = going;
    size = size;
    out = out ∙ ap (λ (t : List ℕ). t ++ rest) raws;
    game_is = λ from after same even h. (
      ap (λ (e : RightEngine). e.game) h ∙ same,
      subst (λ (e : RightEngine). IsEven e.opinion) (sym h) even,
    );
  }
  follow (x ∷ xs) unanswered raw rest old new ls replies Answers.none e going size all raws out = absurd (cc e)
  follow (x ∷ xs) unanswered raw rest old new ls replies (Answers.over ended) e going size all raws out =
      absurd (let bad : true ≡ false = sym ended ∙ going in cc bad)
  follow (x ∷ xs) unanswered raw rest old new ls replies
      (Answers.more {mid = mid} {line = l} {unread = unread} {reply = written} {replies = more} not_ended step
      later) e going size all raws out =
      let same : l ≡ line_of_asked x.entry = cc e in
      let left : unread ≡ map line_of_asked (map entry_of xs ++ unanswered) = cc e in
      let a : Answered x.entry old mid written = answered x.entry old mid written size all.0 (rw same at step) in
      let value : Reply =
      reply_of_answer (Some x.entry.id) (answer old.game (line_of_asked x.entry) a.choice) in
      let texts : written.text ++ output_of more ≡ raws.0 ++ (raws.1 ++ rest) =
      out ∙ ap (λ (t : List ℕ). t ++ rest) raws.2 ∙ append_assoc raws.0 raws.1 rest in
      let both = one_first (raws.0 ++ (raws.1 ++ rest)) (length written.text) (length raws.0) (Ok value) (Ok x.reply)
      (subst (λ (t : List ℕ). IsFirst t (length written.text) (Ok value)) texts
      (reply_is_first written.text (output_of more) value a.is))
      (reply_is_first raws.0 (raws.1 ++ rest) x.reply raws.3) in
      let read : Ok value ≡ Ok x.reply = both.1 in
      let reply_is : x.reply ≡ value = let v : value ≡ x.reply = cc read in sym v in
      let f : Followed mid.game xs unanswered rest new =
      follow xs unanswered raws.1 rest mid new unread more later left a.going a.size all.1 raws.4
      (same_rest written.text (output_of more) raws.0 (raws.1 ++ rest) texts both.0) in
      record {
        state = f.state;
        unread = f.unread;
        left = f.left;
        lines_are = f.lines_are;
        answers = f.answers;
        going = f.going;
        size = f.size;
        out = f.out;
        game_is = λ from after same even h.
            f.game_is h.0 after
            (one_after_at from old.game x.entry x.reply h.0 a.choice same size all.0.limits a.fair h.1 reply_is
            ∙ sym a.game)
            (even_after_at from old.game x.entry x.reply h.0 a.choice same all.0.limits h.1 reply_is even) h.2;
      }

  -- what is read next of the engine's output is its answer to the oldest command
  record Next (state : State P) (unanswered : List Asked) (said : Result Reply ReplyFault) : Type 0 where
    entry : Asked
    choice : Choice
    oldest_is : oldest unanswered ≡ Some entry
    fair : IsLawfulAt state.game (line_of_asked entry) choice
    read : said ≡ Ok (reply_of_answer (Some entry.id) (answer state.game (line_of_asked entry) choice))

  next_given : (unanswered : List Asked) (state new : State P) (ls : List Line) (left : List WrittenReply)
      (text : List ℕ)
      (n : ℕ) (read : Result Reply ReplyFault) → Answers may state ls left new → ls ≡ map line_of_asked unanswered
      → state.ended ≡ false → IsSize state.game.size → AllByRecursion IsSent unanswered
      → output_of left ≡ text → IsFirst text n read → Next state unanswered read
  next_given unanswered state new ls left text n read Answers.none e going size all out first =
      absurd (nothing_first n read (subst (λ (t : List ℕ). IsFirst t n read) (sym out) first))
  next_given unanswered state new ls left text n read (Answers.over ended) e going size all out first =
      absurd (let bad : true ≡ false = sym ended ∙ going in cc bad)
  next_given [] state new ls left text n read
      (Answers.more {mid = mid} {line = l} {unread = unread} {reply = written} {replies = more} not_ended step
      later) e going size all out first = absurd (cc e)
  next_given (entry ∷ us) state new ls left text n read
      (Answers.more {mid = mid} {line = l} {unread = unread} {reply = written} {replies = more} not_ended step
      later) e going size all out first =
      let same : l ≡ line_of_asked entry = cc e in
      let a : Answered entry state mid written = answered entry state mid written size all.0 (rw same at step) in
      let value : Reply = reply_of_answer (Some entry.id) (answer state.game (line_of_asked entry) a.choice) in
      let both = one_first text (length written.text) n (Ok value) read
      (subst (λ (t : List ℕ). IsFirst t (length written.text) (Ok value)) out
      (reply_is_first written.text (output_of more) value a.is)) first in
      record { entry = entry; choice = a.choice; oldest_is = refl; fair = a.fair; read = sym both.1 }

  -- ---- nothing is found

  all_later : (xs : List Asked) (ys : List Asked) → AllByRecursion IsSent (xs ++ ys) → AllByRecursion IsSent ys
  all_later [] ys all = all
  all_later (x ∷ xs) ys all = all_later xs ys all.1

  asked_of_oldest : (engine : RightEngine) (o : Option Asked) (entry : Asked) → o ≡ Some entry
      → IfSome o (IsAsked engine) → IsAsked engine entry
  asked_of_oldest engine o entry e h = subst (λ (p : Option Asked). IfSome p (IsAsked engine)) e h

  engine_right : (before : RightEngine) (game : GameRecord) (entry : Asked) (ch : Choice) → before.game ≡ game
      → IsEven before.opinion
      → IsSize before.game.size → IsAsked before entry → IsLawfulAt game (line_of_asked entry) ch
      → (after : RightEngine)
      × IsRight before entry (reply_of_answer (Some entry.id) (answer game (line_of_asked entry) ch)) after
  engine_right before game entry ch same even size is fair =
      subst (λ (g : GameRecord). IsLawfulAt g (line_of_asked entry) ch → (after : RightEngine)
      × IsRight before entry (reply_of_answer (Some entry.id) (answer g (line_of_asked entry) ch)) after) same
      (λ fair. (
        engine_with (answer before.game (line_of_asked entry) ch).game
            (undone_after before.undone entry.command
            (reply_of_answer (Some entry.id) (answer before.game (line_of_asked entry) ch)))
            (opinion_after before entry.command
            (reply_of_answer (Some entry.id) (answer before.game (line_of_asked entry) ch))),
        IsRight.by_table (record {
          id = refl;
          choice = ch;
          lawful = fair;
          status = refl;
          says = engine_says before entry.id entry.command entry.due ch size is.writable is.limits is.is_due fair even;
          leaves = refl;
        }),
      )) fair

  pub never_blamed : (rule : KoRule) (policy : P) (engine : Engine P) (out sent came : List ℕ) (said : List Exchange)
      (old new : Exam) (bytes later : List ℕ) (used : ℕ) (read : Option (Result Reply ReplyFault))
      (finding : Option Finding)
      → Talks rule sent came said old → Hears old bytes (hearing used read finding) new
      → Engages may (fresh_under rule policy) sent engine out → out ≡ came ++ (bytes ++ later)
      → finding ≡ None
  never_blamed rule policy engine out sent came said old new bytes later used None finding talk h engages front = h.2.0
  never_blamed rule policy engine out sent came said old new bytes later used (Some read) finding talk h engages front =
      let w : Wire sent came said old = wire rule sent came said old talk in
      let s : IsRightSoFar rule said old = right_so_far rule sent came said old talk in
      let f : Followed (fresh_game_under rule) said old.unanswered (old.reader ++ (bytes ++ later)) (state_of engine) =
      follow said old.unanswered w.raw (old.reader ++ (bytes ++ later)) (state_of (fresh_under rule policy))
      (state_of engine) (lines sent) engages.0 engages.1.answered
      (ap lines w.sent_is ∙ bytes_lines (map entry_of said ++ old.unanswered) w.all)
      refl (record { least = omega arith; most = omega arith }) w.all w.raws
      (sym engages.2 ∙ front ∙ ap (λ (t : List ℕ). t ++ (bytes ++ later)) w.came_is
      ∙ append_assoc w.raw old.reader (bytes ++ later)) in
      let first : IsFirst (old.reader ++ (bytes ++ later)) (length old.reader + used) read =
      subst (λ (t : List ℕ). IsFirst t (length old.reader + used) read) (append_assoc old.reader bytes later)
      (first_more (old.reader ++ bytes) later (length old.reader + used) read h.1.first) in
      let next : Next f.state old.unanswered read =
      next_given old.unanswered f.state (state_of engine) f.unread f.left (old.reader ++ (bytes ++ later))
      (length old.reader + used) read f.answers f.lines_are f.going f.size
      (all_later (map entry_of said) old.unanswered w.all) f.out first in
      let here : IsAsked s.before next.entry =
      asked_of_oldest s.before (oldest old.unanswered) next.entry next.oldest_is
      (oldest_asked s.before old.unanswered (engine_of old) s.expects) in
      let same : (s.before.game ≡ f.state.game) × IsEven s.before.opinion =
      f.game_is (fresh_engine rule) s.before refl tt (rights_from (fresh_engine rule) said s.before s.right) in
      unblamed rule sent came said old new bytes used
      (reply_of_answer (Some next.entry.id) (answer f.state.game (line_of_asked next.entry) next.choice)) finding
      next.entry talk
      (subst (λ (r : Result Reply ReplyFault). Hears old bytes (hearing used (Some r) finding) new) next.read h)
      next.oldest_is
      (λ before all.
      subst (λ (e : RightEngine). (after : RightEngine) × IsRight e next.entry
      (reply_of_answer (Some next.entry.id) (answer f.state.game (line_of_asked next.entry) next.choice)) after)
      (one_left rule sent came said old s.before before talk s.right all)
      (engine_right s.before f.state.game next.entry next.choice same.0 same.1 s.size here next.fair))
