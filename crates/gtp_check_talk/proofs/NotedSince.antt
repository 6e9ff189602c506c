-- Where a move was answered rightly its lesson is noted, and stays so.
use Rattle.std.proofs.Common.{◌≡◌, ◌∙◌, ◌==◌, ◌-◌, ◌++◌, ◌∷◌, [], ℕ, Bool, true, false, List, refl}
use Rattle.std.proofs.Common.{Option, None, Some, Result, Ok, Err, arith, ap, subst, sym, length, slice_get, nat_lt}
use Rattle.std.proofs.Common.{if◌then◌else◌, inl, inr}
use Rattle.std.specs.Prelude.{◌||◌}
use Rattle.std.specs.Cmp.{IsEquivalence}
use Rattle.std.specs.List.{AllByRecursion, IsDistinct, list_any}
use Rattle.std.specs.Set.{is_member}
use Rattle.std.proofs.lemmas.Bool.{or_cases, or_left, or_right}
use Rattle.std.proofs.lemmas.Bool.Decides.{nat_tests}
use Rattle.std.proofs.lemmas.Cmp.{nat_eq_equiv}
use Rattle.std.proofs.lemmas.Map.Made.{length-le_from_is_member}
use Rattle.gtp_wire.specs.declared.replies.Reply.{Reply}
use Rattle.gtp_wire.specs.declared.replies.ReplyFault.{ReplyFault}
use Rattle.gtp_process.specs.declared.starter.Process.{Ghosts}
use Rattle.gtp_check_judge.specs.declared.asking.CheckCommand.{CheckCommand}
use Rattle.gtp_check_judge.specs.declared.skills.Skills.{Skills}
use Rattle.gtp_check_judge.specs.declared.unanswered.Asked.{Asked}
use Rattle.gtp_check_judge.specs.Judging.{oldest, refused_by}
use Rattle.gtp_check_course.specs.Lessons.{all_lessons, number_of}
use Rattle.gtp_check_course.specs.declared.lessons.Lesson.{Lesson}
use Rattle.gtp_check_course.specs.declared.lessons.Lesson.TheVariants as lesson
use Rattle.gtp_check_talk.specs.declared.said.Said.{Said}
use Rattle.gtp_check_talk.specs.declared.fault.Fault.{Fault}
use Rattle.gtp_check_talk.specs.Among.{is_among}
use Rattle.gtp_check_talk.specs.Counts.{with_more}
use Rattle.gtp_check_talk.specs.declared.notes.Notes.{Notes}
use Rattle.gtp_check_talk.specs.Dialogues.{AreHeard, Dialogue, IsExchanged, IsRead, noted_of_read, owed_purpose}
use Rattle.gtp_check_talk.specs.Dialogues.{purpose_of}
use Rattle.gtp_check_talk.specs.Laws.{AreNotedOnce, AsksForMove, IsMoveAnswered, MovesAreNotedOnceAnswered}
use Rattle.gtp_check_talk.specs.Notes.{asks_for_move, noted, with_lesson}
use Rattle.gtp_check_talk.proofs.Kept.{noted_keeps}
use Rattle.gtp_check_talk.proofs.Noted.{Owes, Takes, converses_owes, is_up, leaves_takes, noted_once, oldest_of}

-- ---- lists of lessons, each once

abbrev same_lesson : Lesson → Lesson → Bool
same_lesson one other = number_of one == number_of other

same_laws : IsEquivalence same_lesson
same_laws = record {
  refl = λ one. nat_eq_equiv.refl (number_of one);
  symm = λ one other. nat_eq_equiv.symm (number_of one) (number_of other);
  congr = λ one other third. nat_eq_equiv.congr (number_of one) (number_of other) (number_of third);
}

-- neither of two tests passes
neither : (a b : Bool) → (a || b) ≡ false → (a ≡ false) × (b ≡ false)
neither true b is = absurd (cc is)
neither false b is = (refl, is)

-- a lesson that isn't among these is none of them
apart : (lesson : Lesson) (list : List Lesson) → is_among list lesson ≡ false
    → AllByRecursion (λ one. same_lesson lesson one ≡ false) list
apart lesson [] is = tt
apart lesson (one ∷ list) is =
    let both = neither (number_of one == number_of lesson) (is_among list lesson) is in
    (same_laws.symm lesson one ∙ both.0, apart lesson list both.1)

one_more : (one lesson : Lesson) (list : List Lesson) → AllByRecursion (λ other. same_lesson one other ≡ false) list
    → same_lesson one lesson ≡ false → AllByRecursion (λ other. same_lesson one other ≡ false) (list ++ lesson ∷ [])
one_more one lesson [] all last = (last, tt)
one_more one lesson (first ∷ list) (is, all) last = (is, one_more one lesson list all last)

once_more : (lesson : Lesson) (list : List Lesson) → is_among list lesson ≡ false → IsDistinct same_lesson list
    → IsDistinct same_lesson (list ++ lesson ∷ [])
unfolding IsDistinct
once_more lesson [] is once = (tt, tt)
once_more lesson (one ∷ list) is (all, once) =
    let both = neither (number_of one == number_of lesson) (is_among list lesson) is in
    (one_more one lesson list all both.0, once_more lesson list both.1 once)

-- each lesson is one of all
each_lesson : (lesson : Lesson) → is_member same_lesson all_lessons lesson ≡ true
each_lesson lesson.Start = refl
each_lesson lesson.Placed = refl
each_lesson lesson.Errors = refl
each_lesson lesson.Sizes = refl
each_lesson lesson.Ko = refl
each_lesson lesson.Captures = refl
each_lesson lesson.Suicide = refl
each_lesson lesson.Joining = refl
each_lesson lesson.Handicaps = refl
each_lesson lesson.Komi = refl
each_lesson lesson.Drawn = refl
each_lesson lesson.Record = refl
each_lesson lesson.Genmoves = refl
each_lesson lesson.Games = refl
each_lesson lesson.Restarts = refl

-- so there is room for one that isn't among these
has_room : (lesson : Lesson) (list : List Lesson) → is_among list lesson ≡ false → IsDistinct same_lesson list
    → nat_lt (length list) (length all_lessons) ≡ true
unfolding IsDistinct
has_room lesson list none once =
    let few = length-le_from_is_member same_laws (lesson ∷ list) all_lessons (apart lesson list none, once)
    (λ one is. each_lesson one) in
    grind (arith, nat_tests, few)

last_among : (list : List Lesson) (lesson : Lesson) → is_among (list ++ lesson ∷ []) lesson ≡ true
last_among [] lesson = or_left (number_of lesson == number_of lesson) false (same_laws.refl lesson)
last_among (one ∷ list) lesson =
    or_right (number_of one == number_of lesson) (is_among (list ++ lesson ∷ []) lesson) (last_among list lesson)

still_among : (list : List Lesson) (last lesson : Lesson) → is_among list lesson ≡ true
    → is_among (list ++ last ∷ []) lesson ≡ true
still_among [] last lesson is = absurd (cc is)
still_among (one ∷ list) last lesson is =
    elim (or_cases (number_of one == number_of lesson) (is_among list lesson) is) [
      | inl same ↦ or_left (number_of one == number_of lesson) (is_among (list ++ last ∷ []) lesson) same
      | inr later ↦ or_right (number_of one == number_of lesson) (is_among (list ++ last ∷ []) lesson)
          (still_among list last lesson later)
    ]

-- ---- a lesson more

-- the lessons that are noted, with this one
abbrev with_one : Lesson → List Lesson → List Lesson
with_one lesson list = if is_among list lesson then list else with_more (length all_lessons) list lesson

listed : (lesson : Lesson) (notes : Notes)
    → (with_lesson lesson notes).answered.items ≡ with_one lesson notes.answered.items
listed lesson notes = by (is_among notes.answered.items lesson)
  where
    by : (b : Bool)
        → (if b then notes else record notes {
          answered = record { items = with_more (length all_lessons) notes.answered.items lesson };
        }).answered.items
        ≡ (if b then notes.answered.items else with_more (length all_lessons) notes.answered.items lesson)
    by true = refl
    by false = refl

-- what holds of the list holds of it with one more
with_one_so : (Holds : List Lesson → Type 0) (lesson : Lesson) (list : List Lesson) → Holds list
    → (is_among list lesson ≡ false → Holds (list ++ lesson ∷ [])) → Holds (with_one lesson list)
with_one_so Holds lesson list so more = by (is_among list lesson) refl (nat_lt (length list) (length all_lessons))
  where
    by : (among : Bool) → is_among list lesson ≡ among → (room : Bool)
        → Holds (if among then list else if room then list ++ lesson ∷ [] else list)
    by true is room = so
    by false is true = more is
    by false is false = so

once_with : (lesson : Lesson) (list : List Lesson) → IsDistinct same_lesson list
    → IsDistinct same_lesson (with_one lesson list)
once_with lesson list once =
    with_one_so (IsDistinct same_lesson) lesson list once (λ none. once_more lesson list none once)

stays_with : (lesson other : Lesson) (list : List Lesson) → is_among list other ≡ true
    → is_among (with_one lesson list) other ≡ true
stays_with lesson other list is =
    with_one_so (λ all. is_among all other ≡ true) lesson list is (λ none. still_among list lesson other is)

among_with : (lesson : Lesson) (list : List Lesson) → IsDistinct same_lesson list
    → is_among (with_one lesson list) lesson ≡ true
among_with lesson list once = by (is_among list lesson) refl
  where
    by : (among : Bool) → is_among list lesson ≡ among
        → is_among (if among then list else with_more (length all_lessons) list lesson) lesson ≡ true
    by true is = is
    by false is = rw (has_room lesson list is once) (last_among list lesson)

-- the same lesson by another name
same_among : (lesson other : Lesson) (list : List Lesson) → number_of lesson ≡ number_of other
    → is_among list lesson ≡ true → is_among list other ≡ true
same_among lesson other list same is =
    subst (λ (n : ℕ). list_any (λ (one : Lesson). number_of one == n) list ≡ true) same is

-- ---- what is noted of what was read

-- the same lessons are noted, or one more
data NotesMore (old new : List Lesson) : Type 0 where
  as_before : new ≡ old → NotesMore old new
  one_lesson : (lesson : Lesson) → new ≡ with_one lesson old → NotesMore old new

mid_keeps : (notes : Notes) (entry : Asked) (reply : Reply) (skills : Skills)
    → (noted notes (Some entry) (refused_by entry.due reply.ok) reply skills).answered.items ≡ notes.answered.items
mid_keeps notes entry reply skills =
    (noted_keeps notes entry (refused_by entry.due reply.ok) reply skills).answered

more_in : (lesson : Lesson) (notes : Notes) (entry : Asked) (reply : Reply) (skills : Skills)
    → NotesMore notes.answered.items
    (noted_of_read lesson notes (Some entry) (Some (Ok reply)) skills).answered.items
more_in lesson notes entry reply skills = by (asks_for_move entry.command)
  where
    mid : Notes
    mid = noted notes (Some entry) (refused_by entry.due reply.ok) reply skills

    by : (b : Bool) → NotesMore notes.answered.items (if b then with_lesson lesson mid else mid).answered.items
    by true =
        NotesMore.one_lesson lesson (listed lesson mid ∙ ap (with_one lesson) (mid_keeps notes entry reply skills))
    by false = NotesMore.as_before (mid_keeps notes entry reply skills)

more_noted : (lesson : Lesson) (notes : Notes) (list : List Asked) (read : Option (Result Reply ReplyFault))
    (skills : Skills)
    → NotesMore notes.answered.items (noted_of_read lesson notes (oldest list) read skills).answered.items
more_noted lesson notes [] read skills = NotesMore.as_before refl
more_noted lesson notes (entry ∷ later) None skills = NotesMore.as_before refl
more_noted lesson notes (entry ∷ later) (Some (Err shown)) skills = NotesMore.as_before refl
more_noted lesson notes (entry ∷ later) (Some (Ok reply)) skills = more_in lesson notes entry reply skills

-- a move that was answered is noted
move_in : (lesson : Lesson) (notes : Notes) (entry : Asked) (reply : Reply) (skills : Skills)
    → asks_for_move entry.command ≡ true
    → (noted_of_read lesson notes (Some entry) (Some (Ok reply)) skills).answered.items
    ≡ with_one lesson notes.answered.items
move_in lesson notes entry reply skills asks =
    let mid = noted notes (Some entry) (refused_by entry.due reply.ok) reply skills in
    let now : (if asks_for_move entry.command then with_lesson lesson mid else mid) ≡ with_lesson lesson mid =
    rw asks refl in
    ap (λ (n : Notes). n.answered.items) now ∙ listed lesson mid
    ∙ ap (with_one lesson) (mid_keeps notes entry reply skills)

asks_so : (command : CheckCommand) → AsksForMove command → asks_for_move command ≡ true
asks_so _ (AsksForMove.plays move) = refl
asks_so _ (AsksForMove.chooses colour) = refl
asks_so _ (AsksForMove.plays_in_full move) = refl
asks_so _ (AsksForMove.chooses_in_full colour) = refl

-- ---- what was heard

module _ {P : Type 0} (known : Ghosts P) where
  abbrev lessons : Dialogue P → List Lesson
  lessons now = now.notes.answered.items

  bytes_more : (bytes : List ℕ) (before : Dialogue P) (fault : Option Fault) (after : Dialogue P)
      → AreHeard bytes before fault after → NotesMore (lessons before) (lessons after)
  bytes_more bytes before None after heard =
      subst (λ (n : Notes). NotesMore (lessons before) n.answered.items) (sym heard.notes)
      (more_noted (owed_purpose before.talk before.exam).lesson before.notes before.exam.unanswered heard.read
      after.exam.skills)
  bytes_more bytes before (Some fault) after heard = NotesMore.as_before (ap lessons heard.leads)

  read_more : (before : Dialogue P) {fault : Option Fault} {after : Dialogue P} → IsRead known before fault after
      → NotesMore (lessons before) (lessons after)
  read_more before (IsRead.gives {fault = fault} {after = after} bytes next some gave unbroken taken heard) =
      bytes_more bytes (record before { process = next }) fault after heard
  read_more before (IsRead.ends next ended given taken) = NotesMore.as_before refl
  read_more before (IsRead.breaks next cut given taken) = NotesMore.as_before refl

  exchanged_more : (before : Dialogue P) {fault : Option Fault} {after : Dialogue P}
      → IsExchanged known before fault after → NotesMore (lessons before) (lessons after)
  exchanged_more before (IsExchanged.owes_nothing next none sent) = NotesMore.as_before refl
  exchanged_more before (IsExchanged.held {fault = fault} {after = after} some more heard) =
      bytes_more before.held (record before { held = [] }) fault after heard
  exchanged_more before (IsExchanged.reads next some none sent read) =
      read_more (record before { process = next; waiting = [] }) read

  -- ---- a move that was answered

  quiet_answered : (bytes : List ℕ) (before : Dialogue P) (after : Dialogue P) (other : Lesson)
      → before.exam.up ≡ true → Owes before.talk before.exam.unanswered → AreNotedOnce before.notes
      → AreHeard bytes before None after → IsMoveAnswered other before.talk before.exam after.exam
      → is_among (lessons after) other ≡ true
  quiet_answered bytes before after other up owes once heard move =
      let hears = heard.heard.up up in
      by (leaves_takes before.exam hears.0 heard.read after.exam hears.2)
    where
      by : Takes heard.read before.exam.unanswered after.exam.unanswered → is_among (lessons after) other ≡ true
      by (Takes.nothing none is) = absurd (omega (arith, move.answered, ap (λ (list : List Asked). length list) is))
      by (Takes.oldest_one entry reply came is) =
          let lesson = (owed_purpose before.talk before.exam).lesson in
          let first = oldest_of before.talk before.exam.unanswered entry after.exam.unanswered is owes in
          let count : length before.exam.unanswered ≡ length (entry ∷ after.exam.unanswered) =
          ap (λ (list : List Asked). length list) is in
          let owed : slice_get before.talk (length before.talk - length before.exam.unanswered) ≡ Some first.said =
          ap (λ (n : ℕ). slice_get before.talk (length before.talk - n)) count ∙ first.owed in
          let one : move.said ≡ first.said = cc (move.owed, owed) in
          let asks : AsksForMove entry.command =
          subst AsksForMove (ap (λ (s : Said). s.command) one ∙ first.command) move.asks in
          let same : number_of lesson ≡ number_of other =
          ap (λ (said : Option Said). number_of (purpose_of said).lesson) move.owed ∙ move.lesson_is in
          let noted : lessons after ≡ with_one lesson (lessons before) =
          ap (λ (n : Notes). n.answered.items) heard.notes
          ∙ ap (λ (list : List Asked).
          (noted_of_read lesson before.notes (oldest list) heard.read after.exam.skills).answered.items) is
          ∙ ap (λ (read : Option (Result Reply ReplyFault)).
          (noted_of_read lesson before.notes (Some entry) read after.exam.skills).answered.items) came
          ∙ move_in lesson before.notes entry reply after.exam.skills (asks_so entry.command asks) in
          same_among lesson other (lessons after) same
          (subst (λ (list : List Lesson). is_among list lesson ≡ true) (sym noted)
          (among_with lesson (lessons before) once))

  read_answered : (before : Dialogue P) (after : Dialogue P) (other : Lesson) → before.exam.up ≡ true
      → Owes before.talk before.exam.unanswered → AreNotedOnce before.notes → IsRead known before None after
      → IsMoveAnswered other before.talk before.exam after.exam → is_among (lessons after) other ≡ true
  read_answered before after other up owes once (IsRead.gives bytes next some gave unbroken taken heard) move =
      quiet_answered bytes (record before { process = next }) after other up owes once heard move

  exchanged_answered : (before : Dialogue P) (after : Dialogue P) (other : Lesson) → before.exam.up ≡ true
      → Owes before.talk before.exam.unanswered → AreNotedOnce before.notes → IsExchanged known before None after
      → IsMoveAnswered other before.talk before.exam after.exam → is_among (lessons after) other ≡ true
  exchanged_answered before after other up owes once (IsExchanged.owes_nothing next none sent) move =
      absurd (omega (arith, move.answered))
  exchanged_answered before after other up owes once (IsExchanged.held some more heard) move =
      quiet_answered before.held (record before { held = [] }) after other up owes once heard move
  exchanged_answered before after other up owes once (IsExchanged.reads next some none sent read) move =
      read_answered (record before { process = next; waiting = [] }) after other up owes once read move

  once_since : (before after : Dialogue P) → NotesMore (lessons before) (lessons after) → AreNotedOnce before.notes
      → AreNotedOnce after.notes
  once_since before after (NotesMore.as_before is) once = subst (IsDistinct same_lesson) (sym is) once
  once_since before after (NotesMore.one_lesson lesson is) once =
      subst (IsDistinct same_lesson) (sym is) (once_with lesson (lessons before) once)

  stays_since : (before after : Dialogue P) (other : Lesson) → NotesMore (lessons before) (lessons after)
      → is_among (lessons before) other ≡ true → is_among (lessons after) other ≡ true
  stays_since before after other (NotesMore.as_before is) among =
      subst (λ (list : List Lesson). is_among list other ≡ true) (sym is) among
  stays_since before after other (NotesMore.one_lesson lesson is) among =
      subst (λ (list : List Lesson). is_among list other ≡ true) (sym is)
      (stays_with lesson other (lessons before) among)

  pub are_noted : MovesAreNotedOnceAnswered known
  are_noted = record {
    at_first = refl;
    starts = λ notes. refl;
    asked = λ purpose before command after asked. ap (λ (d : Dialogue P). d.notes.answered) asked.joins;
    heard = noted_once known;
    answered = λ rule process first before after lesson converses once exchanged move.
        exchanged_answered before after lesson (is_up known rule process first converses)
        (converses_owes known rule process first converses) once exchanged move;
    once = λ before fault after exchanged once. once_since before after (exchanged_more before exchanged) once;
    stays = λ before fault after lesson exchanged among.
        stays_since before after lesson (exchanged_more before exchanged) among;
  }
