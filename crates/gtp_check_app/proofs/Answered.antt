-- Where nothing was found, just those lessons are noted that had a turn in which a move of them was answered rightly.
use Rattle.std.proofs.Common.{◌≡◌, ◌∙◌, ◌⊎◌, ◌==◌, ◌+◌, refl, ap, subst, sym, Bool, true, List, ℕ, inl, inr}
use Rattle.std.proofs.Common.{Option, None}
use Rattle.std.specs.List.{IsDistinct}
use Rattle.gtp_process.specs.declared.starter.Process.{Ghosts}
use Rattle.gtp_process.specs.Starts.{Attempts}
use Rattle.gtp_check_course.specs.Lessons.{number_of}
use Rattle.gtp_check_course.specs.declared.lessons.Lesson.{Lesson}
use Rattle.gtp_check_talk.specs.declared.fault.Fault.{Fault}
use Rattle.gtp_check_talk.specs.Among.{is_among}
use Rattle.gtp_check_talk.specs.Dialogues.{Dialogue, IsExchanged, dialogue, wrong_purpose}
use Rattle.gtp_check_talk.specs.Laws.{AreNotedOnce, IsMoveAnswered, MovesAreNotedOnceAnswered}
use Rattle.gtp_check_talk.specs.Notes.{nothing_noted, started}
use Rattle.gtp_check_talk.specs.declared.notes.Notes.{Notes}
use Rattle.gtp_check_course.specs.declared.plan.Plan.{Plan}
use Rattle.gtp_check_texts.specs.declared.summary.Over.{Over}
use Rattle.gtp_check_app.specs.declared.tally.Tally.{Tally}
use Rattle.gtp_check_app.specs.RunLaws.{HasAnswered, IsAnsweredIn}
use Rattle.gtp_check_app.specs.Sequence.{Beginning, Known, Point, Turns, first_point}
use Rattle.gtp_check_app.specs.Unjudged.{is_blamed}
use Rattle.gtp_check_app.specs.Turns.{Asks, Complains, Exchanges, IsHeardOut, IsOver, Moment, State, Turn}
use Rattle.gtp_check_app.specs.Turns.{WritesFirst}
use Rattle.gtp_check_app.specs.Turns.{found_in, moment}
use Rattle.gtp_check_app.proofs.InTrials.{Laws, shortened_comes}
use Rattle.gtp_check_app.proofs.InTurns.{IsSound, all_sound, asked_sound, some_found, turn_none, turns_none}

-- the same lessons are noted
same_noted : (one other : Notes) (lesson : Lesson) → one.answered ≡ other.answered
    → is_among one.answered.items lesson ≡ true → is_among other.answered.items lesson ≡ true
same_noted one other lesson same among = ap (λ list. is_among list.items lesson) (sym same) ∙ among

module _ {P : Type 0} (known : Ghosts P) (laws : Laws known) (noted : MovesAreNotedOnceAnswered known) (plan : Plan)
  where
    asked_noted : {singly : Bool} (first : State P) {now : State P} → Asks singly first now
        → now.notes.answered ≡ first.notes.answered
    asked_noted first Asks.nothing = refl
    asked_noted first (Asks.passes course more next) = asked_noted first more
    asked_noted first (Asks.asks {mid = mid} command course more next free asked) =
        ap (λ (s : State P). s.notes.answered) asked.leads
        ∙ noted.asked _ (dialogue asked.engine mid.check.exam mid.notes) command
        (dialogue asked.now asked.exam asked.notes) asked.asked
        ∙ asked_noted first more

    heard_noted : {since : Attempts P} (before : State P) (has : Attempts P) (fault : Option Fault) (after : State P)
        (lesson : Lesson)
        → IsSound known laws plan since None (moment before has) → (heard : IsHeardOut known before fault after)
        → is_among after.notes.answered.items lesson ≡ true
        → (is_among before.notes.answered.items lesson ≡ true)
        ⊎ ((fault ≡ None) × IsMoveAnswered lesson heard.engine.talk.items before.check.exam heard.exam)
    heard_noted before has fault after lesson sound heard among =
        let held = sound.engine heard.engine heard.had in
        noted.heard plan.rule held.process held.first (dialogue heard.engine before.check.exam before.notes) fault
        (dialogue heard.heard heard.exam heard.notes) lesson held.ends heard.exchanged
        (same_noted after.notes heard.notes lesson (ap (λ (s : State P). s.notes.answered) heard.leads) among)

    first_noted : (before : State P) (is_wrong : Bool) {after : State P} {line : List (List ℕ)}
        → WritesFirst known plan before is_wrong after line → after.notes.answered ≡ before.notes.answered
    first_noted before is_wrong (WritesFirst.not_due is) = refl
    first_noted before is_wrong (WritesFirst.due is) = refl

    -- where nothing was found, nothing is noted by what is written
    complained_noted : (before : Moment P) {fault : Option Fault} {after : Moment P} {said : List (List ℕ)}
        → Complains known plan before fault after said → after.state.tally.complaints ≡ 0
        → after.state.notes.answered ≡ before.state.notes.answered
    complained_noted before Complains.nothing none = refl
    complained_noted before (Complains.passed_over unjudged passes) none =
        ap (λ (s : State P). s.notes.answered) passes.leads
    complained_noted before (Complains.hidden {fault = fault} {mid = mid} wrong judged closes not_shown) none =
        absurd (some_found known laws plan mid.tally (wrong_purpose wrong).lesson fault none)
    complained_noted before
        (Complains.shown {fault = fault} {mid = mid} wrong complaint judged closes shows shortened about) none =
        let start = found_in mid wrong fault in
        let comes = shortened_comes known laws plan wrong start.check.exam.game.rule (moment start before.asked) refl
        shortened in
        absurd (some_found known laws plan mid.tally (wrong_purpose wrong).lesson fault
        (sym (ap (λ (t : Tally). t.complaints) comes.0.tally) ∙ none))

    turn_noted : {since : Attempts P} (before : Moment P) {after : Moment P} {texts shows : List (List ℕ)}
        (lesson : Lesson)
        → IsSound known laws plan since None before → (turn : Turn known plan before after texts shows)
        → after.state.tally.complaints ≡ 0 → is_among after.state.notes.answered.items lesson ≡ true
        → (is_among before.state.notes.answered.items lesson ≡ true) ⊎ IsAnsweredIn lesson turn
    turn_noted before lesson sound (Turn.starts {mid = mid} process steps next fruitful may tries quits fresh) none
        among =
        inl (same_noted mid.notes before.state.notes lesson (asked_noted before.state steps) among)
    turn_noted before lesson sound (Turn.restarts {mid = mid} steps next quits) none among =
        inl (same_noted mid.notes before.state.notes lesson (asked_noted before.state steps) among)
    turn_noted before lesson sound (Turn.kills {mid = mid} steps next ended) none among =
        inl (same_noted mid.notes before.state.notes lesson (asked_noted before.state steps) among)
    turn_noted before {after = after} lesson sound
        (Turn.exchanges {mid = mid} {next = next} {fault = fault} heard first complains) none among =
        let at_next = same_noted after.state.notes next.notes lesson
        (complained_noted (moment next before.asked) complains none) among in
        let at_mid = same_noted next.notes mid.notes lesson
        (first_noted mid (is_blamed plan.unasked fault) first) at_next in
        elim (heard_noted heard.mid before.asked fault mid lesson
        (asked_sound known laws plan before.state before.asked sound heard.asks) heard.heard at_mid) [
          | inl was ↦ inl (same_noted heard.mid.notes before.state.notes lesson (asked_noted before.state heard.asks)
              was)
          | inr now ↦ inr now
        ]

    -- ---- what is noted stays

    -- what holds of notes by the lessons in them, and whatever is heard
    module _ (Holds : Notes → Type 0)
        (same : (one other : Notes) → other.answered ≡ one.answered → Holds one → Holds other)
        (heard_so : (before : Dialogue P) (fault : Option Fault) (after : Dialogue P)
        → IsExchanged known before fault after → Holds before.notes → Holds after.notes) where
      after_heard : (before : Moment P) {mid next : State P} {fault : Option Fault} {after : Moment P}
          {line said : List (List ℕ)} → (heard : Exchanges known plan before.state fault mid)
          → WritesFirst known plan mid (is_blamed plan.unasked fault) next line
          → Complains known plan (moment next before.asked) fault after said
          → after.state.tally.complaints ≡ 0 → Holds heard.heard.notes → Holds after.state.notes
      after_heard before {mid = mid} {next = next} {fault = fault} {after = after} heard first complains none holds =
          same next.notes after.state.notes (complained_noted (moment next before.asked) complains none)
          (same mid.notes next.notes (first_noted mid (is_blamed plan.unasked fault) first)
          (same heard.heard.notes mid.notes (ap (λ (s : State P). s.notes.answered) heard.heard.leads) holds))

      turn_holds : (before : Moment P) {after : Moment P} {texts shows : List (List ℕ)}
          → Turn known plan before after texts shows → after.state.tally.complaints ≡ 0
          → Holds before.state.notes → Holds after.state.notes
      turn_holds before (Turn.starts {mid = mid} process steps next fruitful may tries quits fresh) none holds =
          same mid.notes (started mid.notes) (noted.starts mid.notes)
          (same before.state.notes mid.notes (asked_noted before.state steps) holds)
      turn_holds before (Turn.restarts {mid = mid} steps next quits) none holds =
          same before.state.notes mid.notes (asked_noted before.state steps) holds
      turn_holds before (Turn.kills {mid = mid} steps next ended) none holds =
          same before.state.notes mid.notes (asked_noted before.state steps) holds
      turn_holds before (Turn.exchanges {fault = fault} heard first complains) none holds =
          let one = heard.heard in
          after_heard before heard first complains none
          (heard_so (dialogue one.engine heard.mid.check.exam heard.mid.notes) fault
          (dialogue one.heard one.exam one.notes) one.exchanged
          (same before.state.notes heard.mid.notes (asked_noted before.state heard.asks) holds))

    -- by the lessons in them each is noted once
    same_once : (one other : Notes) → other.answered ≡ one.answered → AreNotedOnce one → AreNotedOnce other
    same_once one other is once =
        subst (λ list. IsDistinct (λ first later. number_of first == number_of later) list.items) (sym is) once

    same_among : (lesson : Lesson) (one other : Notes) → other.answered ≡ one.answered
        → is_among one.answered.items lesson ≡ true → is_among other.answered.items lesson ≡ true
    same_among lesson one other is among = same_noted one other lesson (sym is) among

    -- in this turn a move of the lesson was answered: it is noted
    turn_answered : {since : Attempts P} (before : Moment P) {after : Moment P} {texts shows : List (List ℕ)}
        (lesson : Lesson)
        → IsSound known laws plan since None before → AreNotedOnce before.state.notes
        → (turn : Turn known plan before after texts shows) → after.state.tally.complaints ≡ 0
        → IsAnsweredIn lesson turn → is_among after.state.notes.answered.items lesson ≡ true
    turn_answered before lesson sound once (Turn.starts process steps next fruitful may tries quits fresh) none is =
        absurd is
    turn_answered before lesson sound once (Turn.restarts steps next quits) none is = absurd is
    turn_answered before lesson sound once (Turn.kills steps next ended) none is = absurd is
    turn_answered before lesson sound once (Turn.exchanges {fault = fault} heard first complains) none is =
        let one = heard.heard in
        let held = (asked_sound known laws plan before.state before.asked sound heard.asks).engine one.engine one.had in
        let old = dialogue one.engine heard.mid.check.exam heard.mid.notes in
        let new = dialogue one.heard one.exam one.notes in
        after_heard (λ notes. is_among notes.answered.items lesson ≡ true) (same_among lesson)
        (λ first fault later. noted.stays first fault later lesson) before heard first complains none
        (noted.answered plan.rule held.process held.first old new lesson held.ends
        (same_once before.state.notes heard.mid.notes (asked_noted before.state heard.asks) once)
        (subst (λ (f : Option Fault). IsExchanged known old f new) is.0 one.exchanged) is.1)

-- at first no lesson is noted
none_once : AreNotedOnce nothing_noted
unfolding IsDistinct
none_once = tt

module _ {P O E : Type 0} (known : Known P O E) (laws : Laws known.processes)
    (noted : MovesAreNotedOnceAnswered known.processes) (plan : Plan) (Holds : Notes → Type 0)
    (same : (one other : Notes) → other.answered ≡ one.answered → Holds one → Holds other)
    (heard_so : (before : Dialogue P) (fault : Option Fault) (after : Dialogue P)
    → IsExchanged known.processes before fault after → Holds before.notes → Holds after.notes) where
  turns_hold : (first : Point P O E) {count : ℕ} {last : Point P O E} → Turns known plan first count last
      → last.now.state.tally.complaints ≡ 0 → Holds first.now.state.notes → Holds last.now.state.notes
  turns_hold first Turns.not_yet none holds = holds
  turns_hold first (Turns.turns {before = before} more turn flushed shown) none holds =
      turn_holds known.processes laws noted plan Holds same heard_so before.now turn none
      (turns_hold first more (turn_none known.processes laws plan before.now turn none).0 holds)

module _ {P O E : Type 0} (known : Known P O E) (laws : Laws known.processes)
    (noted : MovesAreNotedOnceAnswered known.processes) (begins : Beginning P O E) (lesson : Lesson) where
  has_answered : {count : ℕ} {last : Point P O E} → Turns known begins.plan (first_point begins) count last
      → last.now.state.tally.complaints ≡ 0 → is_among last.now.state.notes.answered.items lesson ≡ true
      → HasAnswered known begins last lesson
  has_answered Turns.not_yet none among = absurd (cc among)
  has_answered
      (Turns.turns {count = count} {before = before} {after = after} {texts = texts} {shows = shows} more turn flushed
      shown) none among =
      elim (turn_noted known.processes laws noted begins.plan before.now lesson
      (all_sound known laws begins more) turn none among) [
        | inl was ↦ later (has_answered more (turn_none known.processes laws begins.plan before.now turn none).0 was)
        | inr now ↦ record {
          turn = record {
            before = before;
            after = after;
            comes = record { count = count; turns = more };
            is = record { texts = texts; shows = shows; turn = turn; flushed = flushed; shown = shown };
            more = 0;
            goes_on = Turns.not_yet;
          };
          answered = now;
        }
      ]
    where
      later : HasAnswered known begins before lesson → HasAnswered known begins after lesson
      later one = record {
        turn = record {
          before = one.turn.before;
          after = one.turn.after;
          comes = one.turn.comes;
          is = one.turn.is;
          more = one.turn.more + 1;
          goes_on = Turns.turns one.turn.goes_on turn flushed shown;
        };
        answered = one.answered;
      }

  -- a check that is over notes no more
  pub over_answered : {count : ℕ} {last : Point P O E} (end : Moment P) {why : Over}
      → Turns known begins.plan (first_point begins) count last → IsOver known.processes begins.plan last.now why end
      → last.now.state.tally.complaints ≡ 0 → is_among end.state.notes.answered.items lesson ≡ true
      → HasAnswered known begins last lesson
  over_answered {last = last} end more over none among =
      has_answered more none
      (same_noted end.state.notes last.now.state.notes lesson
      (ap (λ (s : State P). s.notes.answered) over.leads
      ∙ asked_noted known.processes laws noted begins.plan last.now.state over.asks) among)

  -- where a move of it was answered in a turn, it is noted since
  answered_noted : (last : Point P O E) → last.now.state.tally.complaints ≡ 0 → HasAnswered known begins last lesson
      → is_among last.now.state.notes.answered.items lesson ≡ true
  answered_noted last none one =
      let turn = one.turn in
      let plan = begins.plan in
      let none_after = turns_none known laws plan turn.after turn.goes_on none in
      let none_before = (turn_none known.processes laws plan turn.before.now turn.is.turn none_after).0 in
      let once = turns_hold known laws noted plan AreNotedOnce
      (same_once known.processes laws noted plan) noted.once (first_point begins) turn.comes.turns none_before
      none_once in
      turns_hold known laws noted plan (λ notes. is_among notes.answered.items lesson ≡ true)
      (same_among known.processes laws noted plan lesson)
      (λ before fault after. noted.stays before fault after lesson) turn.after turn.goes_on none
      (turn_answered known.processes laws noted plan turn.before.now lesson
      (all_sound known laws begins turn.comes.turns) once turn.is.turn none_after one.answered)

  -- and where the check is over
  pub over_noted : {last : Point P O E} (end : Moment P) {why : Over}
      → IsOver known.processes begins.plan last.now why end → last.now.state.tally.complaints ≡ 0
      → HasAnswered known begins last lesson → is_among end.state.notes.answered.items lesson ≡ true
  over_noted {last = last} end over none answered =
      same_noted last.now.state.notes end.state.notes lesson
      (sym (ap (λ (s : State P). s.notes.answered) over.leads
      ∙ asked_noted known.processes laws noted begins.plan last.now.state over.asks))
      (answered_noted last none answered)
