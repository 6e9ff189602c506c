-- Texts of the progress: how they are written one after the other, and what is waited for.
use Rattle.std.proofs.Common.{◌≡◌, ◌++◌, ◌∷◌, ◌-◌, ℕ, zero, suc, List, [], Bool, true, false, None, Some, ap, refl}
use Rattle.std.proofs.Common.{length, slice_get, take}
use Rattle.std.specs.Prelude.{codes}
use Rattle.byte_streams.specs.declared.calls.WriteOnce.{Ghosts as WriterGhosts}
use Rattle.gtp_check_course.specs.declared.lessons.Lesson.{Lesson}
use Rattle.gtp_check_talk.specs.declared.said.Said.{Said}
use Rattle.gtp_check_talk.specs.Dialogues.{Dialogue}
use Rattle.gtp_check_app.specs.Progress.{EachWritesOrBreaks, IsShown, before_read, in_place, is_read_next, most_columns}
use Rattle.gtp_check_app.specs.Progress.{no_text}
use Rattle.gtp_check_app.specs.Progress.{text_written, waiting_for}

module _ {W : Type 0} (known : WriterGhosts W) where
  both_written : (one other : List (List ℕ)) (before between after : W)
      → EachWritesOrBreaks known one before between → EachWritesOrBreaks known other between after
      → EachWritesOrBreaks known (one ++ other) before after
  both_written one other before between after no_text later = later
  both_written one other before between after (text_written {texts = texts} {mid = mid} first rest) later =
      text_written first (both_written texts other mid between after rest later)

  -- texts were shown, and then others
  pub both_shown : (progress : Bool) (one other : List (List ℕ)) (before between after : W)
      → IsShown known progress one before between → IsShown known progress other between after
      → IsShown known progress (one ++ other) before after
  both_shown true one other before between after first later = both_written one other before between after first later
  both_shown false one other before between after no_text later = later

  -- where there is no text nothing was written
  pub none_shown : (progress : Bool) (now : W) → IsShown known progress [] now now
  none_shown true now = no_text
  none_shown false now = no_text

-- ---- what is waited for

-- what is cut is placed as it is
cut_twice : (n : ℕ) (text : List ℕ) → take n (take n text) ≡ take n text
cut_twice zero text = refl
cut_twice (suc n) [] = refl
cut_twice (suc n) (x ∷ text) = ap (λ (t : List ℕ). x ∷ t) (cut_twice n text)

pub placed_cut : (text : List ℕ) → in_place (take most_columns text) ≡ in_place text
placed_cut text = ap (λ (t : List ℕ). 13 ∷ t ++ 27 ∷ codes "[K") (cut_twice 79 text)

module _ {P : Type 0} (lessons : List Lesson) (starts : ℕ) (engine : Dialogue P) where
  pub waits_not : is_read_next engine ≡ false → before_read lessons starts engine ≡ []
  waits_not is = rw is refl

  pub waits_for_none : is_read_next engine ≡ true
      → slice_get engine.talk (length engine.talk - length engine.exam.unanswered) ≡ None
      → before_read lessons starts engine ≡ []
  waits_for_none is lacks = rw (is, lacks) refl

  pub waits_for : (said : Said) → is_read_next engine ≡ true
      → slice_get engine.talk (length engine.talk - length engine.exam.unanswered) ≡ Some said
      → before_read lessons starts engine
      ≡ waiting_for lessons engine (length engine.talk - length engine.exam.unanswered) starts (Some said)
  waits_for said is has = rw (is, has) refl
