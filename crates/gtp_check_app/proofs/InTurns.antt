-- What holds of a check between two turns: of its engine, and of its ko rule.
use Rattle.std.proofs.Common.{◌≡◌, ◌∙◌, refl, sym, ap, subst, arith, Bool, true, false, List, [], ℕ}
use Rattle.std.proofs.Common.{Option, None, Some}
use Rattle.std.proofs.lemmas.List.Elements.{All-cons, All-nil}
use Rattle.std.specs.Prelude.{All, Ok, if◌then◌else◌, not, unwrap_or}
use Rattle.go_board.specs.declared.rules.KoRule.{KoRule}
use Rattle.gtp_process.specs.declared.starter.Process.{Ghosts}
use Rattle.gtp_process.specs.Starts.{Attempts, Tries, program_line}
use Rattle.gtp_check_judge.specs.declared.exam.Exam.{Exam}
use Rattle.gtp_check_judge.specs.Check.{after_loss, started, with_exam}
use Rattle.gtp_check_judge.specs.Exam.{begun}
use Rattle.gtp_check_course.specs.Course.{Course}
use Rattle.gtp_check_talk.specs.declared.fault.Fault.{Fault}
use Rattle.gtp_check_texts.specs.Complaints.{complaint_lines}
use Rattle.gtp_check_talk.specs.declared.engine.Engine.{Engine}
use Rattle.gtp_check_talk.specs.declared.notes.Notes.{Notes}
use Rattle.gtp_check_talk.specs.Notes.{started as noted_start}
use Rattle.gtp_check_talk.specs.Dialogues.{Converses, Dialogue, EndsSo, IsExchanged, Wrong, begun_with, dialogue}
use Rattle.gtp_check_course.specs.declared.plan.Plan.{Plan}
use Rattle.gtp_check_course.specs.declared.lessons.Lesson.{Lesson}
use Rattle.gtp_check_talk.specs.Dialogues.{wrong_purpose}
use Rattle.gtp_check_app.specs.declared.tally.Tally.{Tally}
use Rattle.gtp_check_app.specs.Tally.{found, is_shown, started_again, with_hidden, with_known, with_one, without_start}
use Rattle.gtp_check_app.specs.RunLaws.{IsGrounded, IsHeldWith, IsJustComplaint, came_in, complaints_in, fault_in}
use Rattle.gtp_check_app.specs.RunLaws.{starts_of}
use Rattle.gtp_check_app.specs.Unjudged.{is_blamed}
use Rattle.gtp_check_app.specs.Sequence.{Beginning, Known, Point, Turns, first_point}
use Rattle.gtp_check_app.specs.Turns.{Asks, Closes, Complains, Exchanges, IsHeardOut, Moment, State, Turn, WritesFirst}
use Rattle.gtp_check_app.specs.Turns.{before_all, found_in, moment, state}
use Rattle.gtp_check_app.proofs.InStarts.{Grow, grounded_until, grow_both, grow_more, grow_none, grow_one, just_started}
use Rattle.gtp_check_app.proofs.InStarts.{started_since}
use Rattle.gtp_check_app.proofs.InTrials.{IsFair, Laws, fair_from, grounded_by, one_there, shortened_comes}
use Rattle.gtp_check_app.proofs.Shortening.{shortened_asks}

-- an engine that is there is held with in a conversation in which so far this is wrong, if anything
abbrev pub IsHeld : {P : Type 0} → Ghosts P → Plan → Attempts P → Option Fault → Moment P → Engine P → Type 0
IsHeld known plan since fault now engine =
    IsHeldWith known plan.rule (starts_of plan since now.asked) fault
    (dialogue engine now.state.check.exam now.state.notes)

module _ {P : Type 0} (known : Ghosts P) (laws : Laws known) (plan : Plan) (since : Attempts P) where
  -- the ko rule is the plan's, an engine that is there was started by the check, which asked for starts since then, and
  -- is held with
  pub record IsSound (fault : Option Fault) (now : Moment P) : Type 0 where
    pub rule : now.state.check.exam.game.rule ≡ plan.rule
    pub grows : Grow since now.asked
    pub engine : (engine : Engine P) → now.state.engine ≡ Some engine → IsHeld known plan since fault now engine

module _ {P : Type 0} (known : Ghosts P) where
  -- an exchange of a conversation in which nothing was found
  exchange_ends : (start before after : Dialogue P) (fault : Option Fault)
      → Converses known start before → IsExchanged known before fault after
      → EndsSo known start fault after
  exchange_ends start before after None converses exchanged =
      Converses.exchanges converses exchanged
  exchange_ends start before after (Some fault) converses exchanged =
      record { before = before; converses = converses; exchanged = exchanged }

  -- a conversation that begins under this ko rule
  fresh_converses : (rule other : KoRule) → other ≡ rule → (process : P) (notes : Notes) (now : Dialogue P)
      → now ≡ begun_with (begun other true) process notes
      → Converses known (begun_with (begun rule true) process notes) now
  fresh_converses rule other same process notes now is =
      subst
      (Converses known (begun_with (begun rule true) process notes)) (sym is)
      (subst (λ (r : KoRule).
      Converses known (begun_with (begun rule true) process notes) (begun_with (begun r true) process notes))
      (sym same) Converses.begins)

module _ {P : Type 0} {since : Attempts P} (known : Ghosts P) (laws : Laws known) (plan : Plan) where
  -- ---- steps of the course

  -- a state with another course, or with something else found, has the same engine
  with_course : (now : State P) (has : Attempts P) (course : Course)
      → IsSound known laws plan since None (moment now has)
      → IsSound known laws plan since None (moment (record now { course = course }) has)
  with_course now has course sound =
      record { rule = sound.rule; grows = sound.grows; engine = sound.engine }

  -- an engine is held with, and something came of it
  engine_after : (before : State P) (has : Attempts P) (fault : Option Fault) (old : Engine P) (exam : Exam)
      (now : Engine P) (notes : Notes) (grows : Grow since has)
      (held : IsHeld known plan since None (moment before has) old)
      → EndsSo known (begun_with (begun plan.rule true) held.process held.first) fault (dialogue now exam notes)
      → (after : State P)
      → after ≡ record before { check = with_exam before.check exam; engine = Some now; notes = notes }
      → IsSound known laws plan since fault (moment after has)
  engine_after before has fault old exam now notes grows held ends after leads =
      subst (λ (s : State P). IsSound known laws plan since fault (moment s has)) (sym leads)
      (record {
        rule = laws.stays (begun_with (begun plan.rule true) held.process held.first) (dialogue now exam notes) fault
            ends;
        grows = grows;
        engine = λ one is.
            subst
            (IsHeld known plan since fault
            (moment (record before { check = with_exam before.check exam; engine = Some now; notes = notes }) has))
            (one_there is)
            (record {
              process = held.process;
              started = held.started;
              first = held.first;
              ends = ends;
            });
      })

  pub asked_sound : {singly : Bool} (first : State P) (has : Attempts P) {now : State P}
      → IsSound known laws plan since None (moment first has) → Asks singly first now
      → IsSound known laws plan since None (moment now has)
  asked_sound first has sound Asks.nothing = sound
  asked_sound first has sound (Asks.passes {mid = mid} course more next) =
      with_course mid has course (asked_sound first has sound more)
  asked_sound first has sound (Asks.asks {mid = mid} {after = after} command course more next free asked) =
      let earlier : IsSound known laws plan since None (moment (record mid { course = course }) has) =
      with_course mid has course (asked_sound first has sound more) in
      let held = earlier.engine asked.engine asked.had in
      engine_after (record mid { course = course }) has None asked.engine asked.exam asked.now asked.notes
      earlier.grows held
      (Converses.asks _ command held.ends asked.asked) after asked.leads

  -- ---- an exchange

  heard_sound : (before : State P) (has : Attempts P) (fault : Option Fault) (after : State P)
      → IsSound known laws plan since None (moment before has) → IsHeardOut known before fault after
      → IsSound known laws plan since fault (moment after has)
  heard_sound before has fault after sound heard =
      let held = sound.engine heard.engine heard.had in
      engine_after before has fault heard.engine heard.exam heard.heard heard.notes sound.grows held
      (exchange_ends known (begun_with (begun plan.rule true) held.process held.first)
      (dialogue heard.engine before.check.exam before.notes) (dialogue heard.heard heard.exam heard.notes) fault
      held.ends
      heard.exchanged)
      after heard.leads

  first_sound : (before : State P) (has : Attempts P) (fault : Option Fault) (is_wrong : Bool) {after : State P}
      {line : List (List ℕ)} → IsSound known laws plan since fault (moment before has)
      → WritesFirst known plan before is_wrong after line
      → IsSound known laws plan since fault (moment after has)
  first_sound before has fault is_wrong sound (WritesFirst.not_due is) = sound
  first_sound before has fault is_wrong sound (WritesFirst.due is) =
      record { rule = sound.rule; grows = sound.grows; engine = sound.engine }

  -- ---- the end of an engine

  -- without an engine there is only the rule
  pub down : (now : Moment P) → now.state.check.exam.game.rule ≡ plan.rule → Grow since now.asked
      → now.state.engine ≡ None → IsSound known laws plan since None now
  down now rule grows none =
      record { rule = rule; grows = grows; engine = λ engine is. absurd (let e = sym none ∙ is in cc e) }

  closed_down : (fault : Fault) (before : Moment P) (wrong : Wrong) (mid : State P)
      → IsSound known laws plan since (Some fault) before → Closes known fault before.state wrong mid
      → IsSound known laws plan since None (moment (found_in mid wrong fault) before.asked)
  closed_down fault before wrong mid sound closes =
      down (moment (found_in mid wrong fault) before.asked)
      (ap (λ (s : State P). s.check.exam.game.rule) closes.leads ∙ sound.rule) sound.grows
      (ap (λ (s : State P). s.engine) closes.leads)

  closed_grounded : (fault : Fault) (before : Moment P) (wrong : Wrong) (mid : State P)
      → IsSound known laws plan since (Some fault) before → Closes known fault before.state wrong mid
      → IsGrounded known plan.rule (starts_of plan since before.asked) wrong
  closed_grounded fault before wrong mid sound closes =
      let held = sound.engine closes.engine closes.had in
      subst (IsGrounded known plan.rule (starts_of plan since before.asked)) (sym closes.is)
      (grounded_by known laws plan.rule (starts_of plan since before.asked) held.process held.first fault
      (dialogue closes.engine before.state.check.exam before.state.notes) closes.ending held.started held.ends
      closes.ended)

  -- what is shown has its ground, and ended like what was found
  of_shown : (before : Moment P) (wrong : Wrong) (shorter : Option Wrong) (after : Moment P)
      → IsFair known plan wrong plan.rule since after.asked wrong
      → ((tried : Wrong) → shorter ≡ Some tried
      → IsFair known plan wrong plan.rule since after.asked tried)
      → IsFair known plan wrong plan.rule since after.asked (unwrap_or shorter wrong)
  of_shown before wrong None after whole shown = whole
  of_shown before wrong (Some tried) after whole shown = shown tried refl

  complained_sound : (before : Moment P) {fault : Option Fault} {after : Moment P} {said : List (List ℕ)}
      → IsSound known laws plan since fault before → Complains known plan before fault after said
      → IsSound known laws plan since None after
  complained_sound before sound Complains.nothing = sound
  complained_sound before sound (Complains.passed_over {after = after} unjudged passes) =
      down (moment after before.asked) (ap (λ (s : State P). s.check.exam.game.rule) passes.leads ∙ sound.rule)
      sound.grows
      (ap (λ (s : State P). s.engine) passes.leads)
  complained_sound before sound (Complains.hidden {fault = fault} {mid = mid} wrong judged closes not_shown) =
      closed_down fault before wrong mid sound closes
  complained_sound before sound
      (Complains.shown {fault = fault} {mid = mid} {after = after} wrong complaint judged closes shows shortened
      about) =
      let closed = closed_down fault before wrong mid sound closes in
      let comes = shortened_comes known laws plan wrong plan.rule (moment (found_in mid wrong fault) before.asked)
      closed.rule shortened in
      let more = shortened_asks known plan wrong (moment (found_in mid wrong fault) before.asked) shortened in
      down after (comes.0.rule ∙ closed.rule)
      (grow_both since before.asked after.asked sound.grows (grow_more _ before.asked after.asked more))
      (comes.0.engine ∙ ap (λ (s : State P). s.engine) closes.leads)

  complained_just : (before : Moment P) {fault : Option Fault} {after : Moment P} {said : List (List ℕ)}
      → IsSound known laws plan since fault before → Complains known plan before fault after said
      → All (IsJustComplaint known plan.rule (starts_of plan since after.asked)
      (Some (record { fault = fault; state = before.state }))) said
  complained_just before sound Complains.nothing = All-nil _
  complained_just before sound (Complains.passed_over unjudged passes) = All-nil _
  complained_just before sound (Complains.hidden wrong judged closes not_shown) = All-nil _
  complained_just before sound
      (Complains.shown {fault = fault} {mid = mid} {after = after} {shorter = shorter} wrong complaint judged closes
      shows shortened about) =
      let closed = closed_down fault before wrong mid sound closes in
      let comes = shortened_comes known laws plan wrong plan.rule (moment (found_in mid wrong fault) before.asked)
      closed.rule shortened in
      let more = shortened_asks known plan wrong (moment (found_in mid wrong fault) before.asked) shortened in
      let found_so = grounded_until known plan.rule plan since before.asked after.asked wrong more
      (closed_grounded fault before wrong mid sound closes) in
      let fair = of_shown before wrong shorter after
      (record { grounded = found_so; alike = record { fault = refl; command = refl } })
      (λ tried is. fair_from known plan wrong plan.rule since before.asked after.asked tried sound.grows
      (comes.1 tried is)) in
      All-cons (IsJustComplaint known plan.rule (starts_of plan since after.asked)
      (Some (record { fault = Some fault; state = before.state })))
      (complaint_lines complaint) []
      (record {
        complaint = complaint;
        is = refl;
        caption = _;
        wrong = unwrap_or shorter wrong;
        of = about;
        grounded = fair.grounded;
        cause = fault;
        state = before.state;
        came_so = refl;
        found = wrong;
        down = mid;
        closed = closes;
        found_so = found_so;
        alike = fair.alike;
      })
      (All-nil (IsJustComplaint known plan.rule (starts_of plan since after.asked)
      (Some (record { fault = Some fault; state = before.state }))))

  -- ---- a turn

  begun_sound : (mid : State P) (had has : Attempts P) (course : Course) (engine : Engine P) (process : P)
      → IsSound known laws plan since None (moment mid had) → Tries had has (program_line plan.words.items) (Ok process)
      → ((exam : Exam) (notes : Notes) → dialogue engine exam notes ≡ begun_with exam process notes)
      → IsSound known laws plan since None (moment
      (state (started mid.check) course (Some engine) (started_again mid.tally) (noted_start mid.notes)) has)
  begun_sound mid had has course engine process sound tries fresh = record {
    rule = sound.rule;
    grows = grow_both since had has sound.grows (grow_one had has _ _ tries);
    engine = λ one is.
        subst
        (IsHeld known plan since None (moment
        (state (started mid.check) course (Some engine) (started_again mid.tally) (noted_start mid.notes)) has))
        (one_there is)
        (record {
          process = process;
          started = started_since _ process since had has sound.grows (just_started _ had has process tries);
          first = noted_start mid.notes;
          ends = fresh_converses known plan.rule mid.check.exam.game.rule sound.rule process (noted_start mid.notes)
              (dialogue engine (started mid.check).exam (noted_start mid.notes))
              (fresh (started mid.check).exam (noted_start mid.notes));
        });
  }

  -- the state in which the first line was written, and what was wrong
  written_sound : (before : Moment P) (mid next : State P) (fault : Option Fault) (line : List (List ℕ))
      → IsSound known laws plan since None before → (heard : Exchanges known plan before.state fault mid)
      → WritesFirst known plan mid (is_blamed plan.unasked fault) next line
      → IsSound known laws plan since fault (moment next before.asked)
  written_sound before mid next fault line sound heard first =
      first_sound mid before.asked fault (is_blamed plan.unasked fault)
      (heard_sound heard.mid before.asked fault mid (asked_sound before.state before.asked sound heard.asks)
      heard.heard)
      first

  pub turn_sound : (before : Moment P) {after : Moment P} {texts shows : List (List ℕ)}
      → IsSound known laws plan since None before
      → Turn known plan before after texts shows → IsSound known laws plan since None after
  turn_sound before sound
      (Turn.starts {mid = mid} {course = course} {has = has} {engine = engine} process steps next fruitful may tries
      quits fresh) =
      begun_sound mid before.asked has course engine process (asked_sound before.state before.asked sound steps) tries
      fresh
  turn_sound before sound (Turn.restarts {mid = mid} {course = course} steps next quits) =
      down (moment (record mid { check = after_loss mid.check; course = course; engine = None }) before.asked)
      (asked_sound before.state before.asked sound steps).rule sound.grows refl
  turn_sound before sound (Turn.kills {mid = mid} {course = course} steps next ended) =
      down (moment (record mid { check = after_loss mid.check; course = course; engine = None }) before.asked)
      (asked_sound before.state before.asked sound steps).rule sound.grows refl
  turn_sound before sound
      (Turn.exchanges {mid = mid} {next = next} {fault = fault} {line = line} heard first complains) =
      complained_sound (moment next before.asked) (written_sound before mid next fault line sound heard first) complains

  pub turn_just : (before : Moment P) {after : Moment P} {texts shows : List (List ℕ)}
      → IsSound known laws plan since None before
      → (turn : Turn known plan before after texts shows)
      → All (IsJustComplaint known plan.rule (starts_of plan since after.asked) (came_in turn)) (complaints_in turn)
  turn_just before sound (Turn.starts process steps next fruitful may tries quits fresh) = All-nil _
  turn_just before sound (Turn.restarts steps next quits) = All-nil _
  turn_just before sound (Turn.kills steps next ended) = All-nil _
  turn_just before sound
      (Turn.exchanges {mid = mid} {next = next} {fault = fault} {line = line} heard first complains) =
      complained_just (moment next before.asked) (written_sound before mid next fault line sound heard first) complains

-- ---- turns

module _ {P O E : Type 0} {since : Attempts P} (known : Known P O E) (laws : Laws known.processes) (plan : Plan) where
  pub turns_sound : (first : Point P O E) {count : ℕ} {last : Point P O E}
      → IsSound known.processes laws plan since None first.now → Turns known plan first count last
      → IsSound known.processes laws plan since None last.now
  turns_sound first sound Turns.not_yet = sound
  turns_sound first sound (Turns.turns {before = before} more turn flushed shown) =
      turn_sound known.processes laws plan before.now (turns_sound first sound more) turn

-- a check begins soundly
pub begins_sound : {P O E : Type 0} (known : Known P O E) (laws : Laws known.processes) (begins : Beginning P O E)
    → IsSound known.processes laws begins.plan begins.asked None (first_point begins).now
begins_sound known laws begins =
    down known.processes laws begins.plan (moment (before_all begins.plan) begins.asked) refl (grow_none begins.asked)
    refl

-- a check is sound at each point to which it comes
pub all_sound : {P O E : Type 0} (known : Known P O E) (laws : Laws known.processes) (begins : Beginning P O E)
    {count : ℕ} {last : Point P O E} → Turns known begins.plan (first_point begins) count last
    → IsSound known.processes laws begins.plan begins.asked None last.now
all_sound known laws begins more =
    turns_sound known laws begins.plan (first_point begins) (begins_sound known laws begins) more

-- ---- in a check that found nothing

module _ {P : Type 0} (known : Ghosts P) (laws : Laws known) (plan : Plan) where
  pub asked_tally : {singly : Bool} (first : State P) {now : State P} → Asks singly first now → now.tally ≡ first.tally
  asked_tally first Asks.nothing = refl
  asked_tally first (Asks.passes course more next) = asked_tally first more
  asked_tally first (Asks.asks command course more next free asked) =
      ap (λ (s : State P). s.tally) asked.leads ∙ asked_tally first more

  pub some_found : (tally : Tally) (lesson : Lesson) (fault : Fault) → (found tally lesson fault).complaints ≡ 0 → ⊥
  some_found tally lesson fault = by (is_shown tally fault)
    where
      by : (b : Bool) → (if b then with_known (with_one tally) fault
          else with_hidden (with_one tally) lesson).complaints ≡ 0 → ⊥
      by true is = absurd (omega (arith, is))
      by false is = absurd (omega (arith, is))

  started_none : (tally : Tally) → (started_again tally).complaints ≡ 0 → tally.complaints ≡ 0
  started_none tally = by tally.is_after_fault
    where
      by : (b : Bool)
          → (if b then record (without_start tally) { is_after_fault = false } else tally).complaints ≡ 0
          → tally.complaints ≡ 0
      by true is = is
      by false is = is

  first_none : (before : State P) (is_wrong : Bool) {after : State P} {line : List (List ℕ)}
      → WritesFirst known plan before is_wrong after line → after.tally.complaints ≡ before.tally.complaints
  first_none before is_wrong (WritesFirst.not_due is) = refl
  first_none before is_wrong (WritesFirst.due is) = refl

  complained_none : (before : Moment P) {fault : Option Fault} {after : Moment P} {said : List (List ℕ)}
      → Complains known plan before fault after said → after.state.tally.complaints ≡ 0
      → (before.state.tally.complaints ≡ 0) × (is_blamed plan.unasked fault ≡ false)
  complained_none before Complains.nothing is = (is, refl)
  complained_none before (Complains.passed_over unjudged passes) is =
      (sym (ap (λ (s : State P). s.tally.complaints) passes.leads) ∙ is, ap not unjudged)
  complained_none before (Complains.hidden {fault = fault} {mid = mid} wrong judged closes not_shown) is =
      absurd (some_found mid.tally (wrong_purpose wrong).lesson fault is)
  complained_none before
      (Complains.shown {fault = fault} {mid = mid} wrong complaint judged closes shows shortened about) is =
      let start = found_in mid wrong fault in
      let comes = shortened_comes known laws plan wrong start.check.exam.game.rule (moment start before.asked) refl
      shortened in
      absurd (some_found mid.tally (wrong_purpose wrong).lesson fault
      (sym (ap (λ (t : Tally). t.complaints) comes.0.tally) ∙ is))

  pub turn_none : (before : Moment P) {after : Moment P} {texts shows : List (List ℕ)}
      → (turn : Turn known plan before after texts shows) → after.state.tally.complaints ≡ 0
      → (before.state.tally.complaints ≡ 0) × (is_blamed plan.unasked (fault_in turn) ≡ false)
  turn_none before (Turn.starts {mid = mid} process steps next fruitful may tries quits fresh) is =
      (sym (ap (λ (t : Tally). t.complaints) (asked_tally before.state steps)) ∙ started_none mid.tally is, refl)
  turn_none before (Turn.restarts steps next quits) is =
      (sym (ap (λ (t : Tally). t.complaints) (asked_tally before.state steps)) ∙ is, refl)
  turn_none before (Turn.kills steps next ended) is =
      (sym (ap (λ (t : Tally). t.complaints) (asked_tally before.state steps)) ∙ is, refl)
  turn_none before (Turn.exchanges {mid = mid} {next = next} {fault = fault} heard first complains) is =
      let none = complained_none (moment next before.asked) complains is in (
        sym (ap (λ (t : Tally). t.complaints) (asked_tally before.state heard.asks))
            ∙ sym (ap (λ (s : State P). s.tally.complaints) heard.heard.leads)
            ∙ sym (first_none mid (is_blamed plan.unasked fault) first) ∙ none.0,
        none.1,
      )

module _ {P O E : Type 0} (known : Known P O E) (laws : Laws known.processes) (plan : Plan) where
  pub turns_none : (first : Point P O E) {count : ℕ} {last : Point P O E} → Turns known plan first count last
      → last.now.state.tally.complaints ≡ 0 → first.now.state.tally.complaints ≡ 0
  turns_none first Turns.not_yet is = is
  turns_none first (Turns.turns {before = before} more turn flushed shown) is =
      turns_none first more (turn_none known.processes laws plan before.now turn is).0
