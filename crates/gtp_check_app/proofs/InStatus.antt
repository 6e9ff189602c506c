-- What the status of a run says of its turns.
use Rattle.std.proofs.Common.{◌≡◌, ◌∙◌, ◌<◌, ◌+◌, ◌⊎◌, arith, refl, sym, ap, Bool, true, false, List, [], ℕ}
use Rattle.std.proofs.Common.{Option, inl, inr, zero, suc}
use Rattle.std.specs.Prelude.{if◌then◌else◌, length, nat_lt, All}
use Rattle.std.proofs.lemmas.List.Elements.{All-weaker}
use Rattle.cli.specs.Requests.{Outputs, Shows, Writers}
use Rattle.cli.specs.Status.{done}
use Rattle.gtp_process.specs.declared.starter.Process.{Ghosts}
use Rattle.gtp_process.specs.Starts.{Attempts, Text}
use Rattle.gtp_check_course.specs.declared.lessons.Lesson.{Lesson}
use Rattle.gtp_check_talk.specs.declared.fault.Fault.{Fault}
use Rattle.gtp_check_talk.specs.Among.{is_among}
use Rattle.gtp_check_talk.specs.Dialogues.{wrong_purpose}
use Rattle.gtp_check_course.specs.declared.plan.Plan.{Plan}
use Rattle.gtp_check_texts.specs.declared.summary.Over.{Over}
use Rattle.gtp_check_app.specs.declared.streams.Streams.{Streams}
use Rattle.gtp_check_app.specs.declared.tally.Tally.{Tally}
use Rattle.gtp_check_app.specs.Checks.{AsksForList, HasRun, IsHeld}
use Rattle.gtp_check_app.specs.Laws.{APassIsEarned, IsPass}
use Rattle.gtp_check_app.specs.Options.{AsksForText}
use Rattle.gtp_check_app.specs.RunLaws.{AsksForCheck, HasAnswered, HasComplained, HasEarned, HasNotPassed, HasPassed}
use Rattle.gtp_check_app.specs.RunLaws.{HasTurn}
use Rattle.gtp_check_app.specs.RunLaws.{IsOverAt}
use Rattle.gtp_check_app.specs.RunLaws.{StatusesSay, complaints_in, fault_in}
use Rattle.gtp_check_app.specs.Sequence.{Beginning, Known, Point, Turns, TurnsAreOver, beginning, first_point}
use Rattle.gtp_check_app.specs.Status.{not_earned, something_found}
use Rattle.gtp_check_app.specs.Tally.{alike, is_shown, most_shown_alike, started_again, without_start}
use Rattle.gtp_check_app.specs.Unjudged.{is_blamed}
use Rattle.gtp_check_app.specs.Turns.{Complains, IsOver, Moment, State, Turn, WritesFirst, found_in, moment}
use Rattle.gtp_check_app.proofs.Answered.{over_answered, over_noted}
use Rattle.gtp_check_app.proofs.InTrials.{Laws, shortened_comes}
use Rattle.gtp_check_app.proofs.InTurns.{asked_tally, some_found, turn_none}
use Rattle.gtp_check_app.proofs.OverTurns.{silent_checks}

-- ---- what is known of faults while nothing was found

started_same : (tally : Tally) → (started_again tally).complaints ≡ tally.complaints
started_same tally = by tally.is_after_fault
  where
    by : (b : Bool)
        → (if b then record (without_start tally) { is_after_fault = false } else tally).complaints
        ≡ tally.complaints
    by true = refl
    by false = refl

started_faults : (tally : Tally) → (started_again tally).faults.items ≡ tally.faults.items
started_faults tally = by tally.is_after_fault
  where
    by : (b : Bool)
        → (if b then record (without_start tally) { is_after_fault = false } else tally).faults.items
        ≡ tally.faults.items
    by true = refl
    by false = refl

-- the first fault of all is shown
first_is_shown : (tally : Tally) (fault : Fault) → tally.faults.items ≡ [] → is_shown tally fault ≡ true
first_is_shown tally fault none = ap (λ (known : List Fault). nat_lt (alike known fault) most_shown_alike) none

module _ {P : Type 0} (known : Ghosts P) (laws : Laws known) (plan : Plan) where
  first_tally : (before : State P) (is_wrong : Bool) {after : State P} {line : List (List ℕ)}
      → WritesFirst known plan before is_wrong after line
      → (after.tally.complaints ≡ before.tally.complaints) × (after.tally.faults.items ≡ before.tally.faults.items)
  first_tally before is_wrong (WritesFirst.not_due is) = (refl, refl)
  first_tally before is_wrong (WritesFirst.due is) = (refl, refl)

  complained_unknown : (before : Moment P) {fault : Option Fault} {after : Moment P} {said : List (List ℕ)}
      → Complains known plan before fault after said → before.state.tally.faults.items ≡ []
      → after.state.tally.complaints ≡ 0 → after.state.tally.faults.items ≡ []
  complained_unknown before Complains.nothing none is = none
  complained_unknown before (Complains.passed_over unjudged passes) none is =
      ap (λ (s : State P). s.tally.faults.items) passes.leads ∙ none
  complained_unknown before (Complains.hidden {fault = fault} {mid = mid} wrong judged closes not_shown) none is =
      absurd (some_found known laws plan mid.tally (wrong_purpose wrong).lesson fault is)
  complained_unknown before
      (Complains.shown {fault = fault} {mid = mid} wrong complaint judged closes shows shortened about) none is =
      let start = found_in mid wrong fault in
      let comes = shortened_comes known laws plan wrong start.check.exam.game.rule (moment start before.asked) refl
      shortened in
      absurd (some_found known laws plan mid.tally (wrong_purpose wrong).lesson fault
      (sym (ap (λ (t : Tally). t.complaints) comes.0.tally) ∙ is))

  complained_writes : (before : Moment P) {fault : Option Fault} {after : Moment P} {said : List (List ℕ)}
      → Complains known plan before fault after said → before.state.tally.complaints ≡ 0
      → before.state.tally.faults.items ≡ [] → 0 < after.state.tally.complaints → 0 < length said
  complained_writes before Complains.nothing nought none some = absurd (omega (arith, nought, some))
  complained_writes before (Complains.passed_over unjudged passes) nought none some =
      let same = ap (λ (s : State P). s.tally.complaints) passes.leads in absurd (omega (arith, same, nought, some))
  complained_writes before (Complains.hidden {fault = fault} {mid = mid} wrong judged closes not_shown) nought none
      some =
      let at_mid = ap (λ (s : State P). s.tally.faults.items) closes.leads ∙ none in
      let is = first_is_shown mid.tally fault at_mid in
      absurd (let never : true ≡ false = sym is ∙ not_shown in cc never)
  complained_writes before (Complains.shown wrong complaint judged closes shows shortened about) nought none some =
      omega arith

  turn_unknown : (before : Moment P) {after : Moment P} {texts shows : List (List ℕ)}
      → Turn known plan before after texts shows → before.state.tally.faults.items ≡ []
      → after.state.tally.complaints ≡ 0 → after.state.tally.faults.items ≡ []
  turn_unknown before (Turn.starts {mid = mid} process steps next fruitful may tries quits fresh) none is =
      started_faults mid.tally ∙ ap (λ (t : Tally). t.faults.items) (asked_tally known laws plan before.state steps)
      ∙ none
  turn_unknown before (Turn.restarts steps next quits) none is =
      ap (λ (t : Tally). t.faults.items) (asked_tally known laws plan before.state steps) ∙ none
  turn_unknown before (Turn.kills steps next ended) none is =
      ap (λ (t : Tally). t.faults.items) (asked_tally known laws plan before.state steps) ∙ none
  turn_unknown before (Turn.exchanges {mid = mid} {next = next} {fault = fault} heard first complains) none is =
      complained_unknown (moment next before.asked) complains (heard_faults ∙ none) is
    where
      heard_faults : next.tally.faults.items ≡ before.state.tally.faults.items
      heard_faults =
          (first_tally mid (is_blamed plan.unasked fault) first).1
          ∙ ap (λ (s : State P). s.tally.faults.items) heard.heard.leads
          ∙ ap (λ (t : Tally). t.faults.items) (asked_tally known laws plan before.state heard.asks)

  turn_writes : (before : Moment P) {after : Moment P} {texts shows : List (List ℕ)}
      → (turn : Turn known plan before after texts shows) → before.state.tally.complaints ≡ 0
      → before.state.tally.faults.items ≡ [] → 0 < after.state.tally.complaints
      → 0 < length (complaints_in turn)
  turn_writes before (Turn.starts {mid = mid} process steps next fruitful may tries quits fresh) nought none some =
      let same = started_same mid.tally in
      let asked = ap (λ (t : Tally). t.complaints) (asked_tally known laws plan before.state steps) in
      absurd (omega (arith, same, asked, nought, some))
  turn_writes before (Turn.restarts steps next quits) nought none some =
      let asked = ap (λ (t : Tally). t.complaints) (asked_tally known laws plan before.state steps) in
      absurd (omega (arith, asked, nought, some))
  turn_writes before (Turn.kills steps next ended) nought none some =
      let asked = ap (λ (t : Tally). t.complaints) (asked_tally known laws plan before.state steps) in
      absurd (omega (arith, asked, nought, some))
  turn_writes before (Turn.exchanges {mid = mid} {next = next} {fault = fault} heard first complains) nought none
      some =
      complained_writes (moment next before.asked) complains (heard_complaints ∙ nought) (heard_faults ∙ none) some
    where
      heard_tally : mid.tally ≡ before.state.tally
      heard_tally =
          ap (λ (s : State P). s.tally) heard.heard.leads ∙ asked_tally known laws plan before.state heard.asks

      heard_complaints : next.tally.complaints ≡ before.state.tally.complaints
      heard_complaints =
          (first_tally mid (is_blamed plan.unasked fault) first).0 ∙ ap (λ (t : Tally). t.complaints) heard_tally

      heard_faults : next.tally.faults.items ≡ before.state.tally.faults.items
      heard_faults =
          (first_tally mid (is_blamed plan.unasked fault) first).1
          ∙ ap (λ (t : Tally). t.faults.items) heard_tally

module _ {P O E : Type 0} (known : Known P O E) (laws : Laws known.processes) (begins : Beginning P O E) where
  unknown_at : {count : ℕ} {last : Point P O E} → Turns known begins.plan (first_point begins) count last
      → last.now.state.tally.complaints ≡ 0 → last.now.state.tally.faults.items ≡ []
  unknown_at Turns.not_yet is = refl
  unknown_at (Turns.turns {before = before} more turn flushed shown) is =
      turn_unknown known.processes laws begins.plan before.now turn
      (unknown_at more (turn_none known.processes laws begins.plan before.now turn is).0) is

  -- a turn in which a complaint was written
  record WroteOne (now : Point P O E) : Type 0 where
    turn : HasTurn known begins now
    written : 0 < length (complaints_in turn.is.turn)

  wrote_one : {count : ℕ} {last : Point P O E} → Turns known begins.plan (first_point begins) count last
      → 0 < last.now.state.tally.complaints → WroteOne last
  wrote_one Turns.not_yet some = absurd (omega (arith, some))
  wrote_one (Turns.turns {count = count} {before = before} {after = after} {texts = texts} {shows = shows} more turn
      flushed shown) some =
      by before.now.state.tally.complaints refl (wrote_one more)
    where
      by : (n : ℕ) → before.now.state.tally.complaints ≡ n
          → (0 < before.now.state.tally.complaints → WroteOne before) → WroteOne after
      by zero is earlier = record {
        turn = record {
          before = before;
          after = after;
          comes = record { count = count; turns = more };
          is = record { texts = texts; shows = shows; turn = turn; flushed = flushed; shown = shown };
          more = 0;
          goes_on = Turns.not_yet;
        };
        written = turn_writes known.processes laws begins.plan before.now turn is (unknown_at more is) some;
      }
      by (suc n) is earlier =
          let one = earlier (omega (arith, is)) in
          record {
            turn = record {
              before = one.turn.before;
              after = one.turn.after;
              comes = one.turn.comes;
              is = one.turn.is;
              more = one.turn.more + 1;
              goes_on = Turns.turns one.turn.goes_on turn flushed shown;
            };
            written = one.written;
          }

-- ---- a check that was held

-- a text that is shown has one of two statuses
shown_status : {O E : Type 0} (streams : Writers O E) (name text : List ℕ) (before : Outputs O E) {status : ℕ}
    {after : Outputs O E} → Shows streams name text before status after → (status ≡ 0) ⊎ (status ≡ 3)
shown_status streams name text before (Shows.flushed out) = inl refl
shown_status streams name text before (Shows.broke breaks reports) = inr refl

module _ {P O E : Type 0} (known : Known P O E) (laws : Laws known.processes) (earned : APassIsEarned known.processes)
  where
    module _ (begins : Beginning P O E) where
      over_tally : (before : Moment P) (why : Over) (last : Moment P)
          → IsOver known.processes begins.plan before why last
          → last.state.tally.complaints ≡ before.state.tally.complaints
      over_tally before why last is =
          ap (λ (s : State P). s.tally.complaints) is.leads
          ∙ ap (λ (t : Tally). t.complaints) (asked_tally known.processes laws begins.plan before.state is.asks)

      -- the point to which the turns come of a check that is over
      abbrev last_before : {why : Over} {last : Point P O E}
          → TurnsAreOver known begins.plan (first_point begins) why last → Point P O E
      last_before {last = last} over = record last { now = over.before }

      abbrev over_at : {why : Over} {last : Point P O E}
          → TurnsAreOver known begins.plan (first_point begins) why last → IsOverAt known begins last.now.state
      over_at {why = why} {last = last} over = record {
        now = last_before over;
        comes = record { count = over.count; turns = over.turns };
        why = why;
        has = last.now.asked;
        over = over.over;
      }

      -- in a check that found nothing nothing was wrong
      quiet : {why : Over} {last : Point P O E}
          → (over : TurnsAreOver known begins.plan (first_point begins) why last)
          → last.now.state.tally.complaints ≡ 0 → (turn : HasTurn known begins (last_before over))
          → is_blamed begins.plan.unasked (fault_in turn.is.turn) ≡ false
      quiet {why = why} {last = last} over none =
          (silent_checks known laws).no_fault begins (last_before over)
          (sym (over_tally over.before why last.now over.over) ∙ none)

      -- and a move was answered rightly in each lesson of which that is noted
      answered_all : {why : Over} {last : Point P O E}
          → (over : TurnsAreOver known begins.plan (first_point begins) why last) → IsPass begins.plan last.now.state
          → All (HasAnswered known begins (last_before over)) begins.plan.lessons.items
      answered_all {why = why} {last = last} over pass =
          All-weaker (λ (lesson : Lesson). is_among last.now.state.notes.answered.items lesson ≡ true)
          (HasAnswered known begins (last_before over))
          (λ lesson among. over_answered known laws earned.noted begins lesson last.now over.turns over.over
          (sym (over_tally over.before why last.now over.over) ∙ pass.nothing_found) among)
          begins.plan.lessons.items pass.moves

      -- a check that found nothing, and has earned a pass, is one
      pass_of : {why : Over} {last : Point P O E}
          → (over : TurnsAreOver known begins.plan (first_point begins) why last)
          → last.now.state.tally.complaints ≡ 0 → HasEarned known begins (last_before over) last.now.state
          → IsPass begins.plan last.now.state
      pass_of {why = why} {last = last} over none has = record {
        nothing_found = none;
        over = has.asked;
        moves = All-weaker (HasAnswered known begins (last_before over))
            (λ (lesson : Lesson). is_among last.now.state.notes.answered.items lesson ≡ true)
            (λ lesson answered. over_noted known laws earned.noted begins lesson last.now over.over
            (sym (over_tally over.before why last.now over.over) ∙ none) answered)
            begins.plan.lessons.items has.answered;
      }

      held_found : {status : ℕ} {has : Attempts P} {after : Streams O E}
          → IsHeld known begins status has after → status ≡ something_found → HasComplained known begins
      held_found (IsHeld.is_over {why = why} {last = last} over shown not_first closed lines flushed) is =
          let some : 0 < last.now.state.tally.complaints = (earned.found begins.plan last.now.state).0 is in
          let same = over_tally over.before why last.now over.over in
          let one = wrote_one known laws begins over.turns (omega (arith, some, same)) in
          record {
            last = last.now.state;
            over = over_at over;
            found = some;
            turn = one.turn;
            written = one.written;
          }
      held_found (IsHeld.not_started over shown first closed reported) is = absurd (omega (arith, is))

      held_passed : {status : ℕ} {has : Attempts P} {after : Streams O E}
          → IsHeld known begins status has after → status ≡ done → HasPassed known begins
      held_passed (IsHeld.is_over {last = last} over shown not_first closed lines flushed) is =
          let pass : IsPass begins.plan last.now.state = (earned.passed begins.plan last.now.state).0 is in
          record {
            last = last.now.state;
            over = over_at over;
            pass = pass;
            earned = record { asked = pass.over; answered = answered_all over pass };
            no_fault = quiet over pass.nothing_found;
          }
      held_passed (IsHeld.not_started over shown first closed reported) is = absurd (omega (arith, is))

      held_not_passed : {status : ℕ} {has : Attempts P} {after : Streams O E}
          → IsHeld known begins status has after → status ≡ not_earned → HasNotPassed known begins
      held_not_passed (IsHeld.is_over {last = last} over shown not_first closed lines flushed) is =
          let neither = (earned.neither begins.plan last.now.state).0 is in
          record {
            last = last.now.state;
            over = over_at over;
            no_pass = neither.1;
            not_earned = λ earned. neither.1 (pass_of over neither.0 earned);
            no_fault = quiet over neither.0;
          }
      held_not_passed (IsHeld.not_started over shown first closed reported) is = absurd (omega (arith, is))

    -- ---- a run

    -- a text that was shown has no other status
    no_other : {status other : ℕ} → (status ≡ 0) ⊎ (status ≡ 3) → status ≡ other → 0 < other → (other ≡ 3 → ⊥) → ⊥
    no_other (inl none) is some not_three = absurd (omega (arith, none, is, some))
    no_other (inr three) is some not_three = not_three (sym is ∙ three)

    module _ (words : List Text) (shows_progress : Bool) (asked : Attempts P) (streams : Streams O E) where
      run_found : {status : ℕ} {has : Attempts P} {after : Streams O E}
          → HasRun known words shows_progress asked streams status has after → status ≡ something_found
          → AsksForCheck words shows_progress asked streams (HasComplained known)
      run_found (HasRun.checked plan asks held) is =
          record { plan = plan; asks = asks; holds = held_found (beginning plan asked streams) held is }
      run_found (HasRun.stopped plan failure asks stops reports) is = absurd (omega (arith, is))
      run_found (HasRun.shown text asks shows) is =
          absurd (no_other (shown_status _ _ _ _ shows) is (omega arith) (λ three. absurd (omega (arith, three))))
      run_found (HasRun.listed asks shows) is =
          absurd (no_other (shown_status _ _ _ _ shows) is (omega arith) (λ three. absurd (omega (arith, three))))
      run_found (HasRun.mistaken mistake) is = absurd (omega (arith, is))
      run_found (HasRun.no_memory reports) is = absurd (omega (arith, is))

      run_passed : {status : ℕ} {has : Attempts P} {after : Streams O E}
          → HasRun known words shows_progress asked streams status has after → status ≡ done
          → AsksForCheck words shows_progress asked streams (HasPassed known) ⊎ AsksForText words ⊎ AsksForList words
      run_passed (HasRun.checked plan asks held) is =
          inl (record { plan = plan; asks = asks; holds = held_passed (beginning plan asked streams) held is })
      run_passed (HasRun.stopped plan failure asks stops reports) is = absurd (omega (arith, is))
      run_passed (HasRun.shown text asks shows) is = inr (inl asks)
      run_passed (HasRun.listed asks shows) is = inr (inr asks)
      run_passed (HasRun.mistaken mistake) is = absurd (omega (arith, is))
      run_passed (HasRun.no_memory reports) is = absurd (omega (arith, is))

      run_not_passed : {status : ℕ} {has : Attempts P} {after : Streams O E}
          → HasRun known words shows_progress asked streams status has after → status ≡ not_earned
          → AsksForCheck words shows_progress asked streams (HasNotPassed known)
      run_not_passed (HasRun.checked plan asks held) is =
          record { plan = plan; asks = asks; holds = held_not_passed (beginning plan asked streams) held is }
      run_not_passed (HasRun.stopped plan failure asks stops reports) is = absurd (omega (arith, is))
      run_not_passed (HasRun.shown text asks shows) is =
          absurd (no_other (shown_status _ _ _ _ shows) is (omega arith) (λ three. absurd (omega (arith, three))))
      run_not_passed (HasRun.listed asks shows) is =
          absurd (no_other (shown_status _ _ _ _ shows) is (omega arith) (λ three. absurd (omega (arith, three))))
      run_not_passed (HasRun.mistaken mistake) is = absurd (omega (arith, is))
      run_not_passed (HasRun.no_memory reports) is = absurd (omega (arith, is))

pub say : {P O E : Type 0} (known : Known P O E) → Laws known.processes → APassIsEarned known.processes
    → StatusesSay known
say known laws earned = record {
  found = λ words shows_progress asked has streams after run.
      run_found known laws earned words shows_progress asked streams run refl;
  passed = λ words shows_progress asked has streams after run.
      run_passed known laws earned words shows_progress asked streams run refl;
  not_passed = λ words shows_progress asked has streams after run.
      run_not_passed known laws earned words shows_progress asked streams run refl;
}
