-- What a step asks is asked.
use Rattle.std.proofs.Common.{◌≡◌, ◌∙◌, ◌+◌, ◌<◌, ◌≤◌, inl, inr, arith, refl, ap, subst, Bool, true, false, ℕ}
use Rattle.std.proofs.Common.{Option, Some, length, slice_get}
use Rattle.std.proofs.lemmas.Bool.Decides.{nat_tests}
use Rattle.std.specs.Prelude.{if◌then◌else◌, nat_lt}
use Rattle.go_base.specs.declared.moves.Move.{Move}
use Rattle.gtp_wire.specs.declared.commands.Command.TheVariants as command
use Rattle.gtp_check_judge.specs.declared.asking.CheckCommand.{CheckCommand}
use Rattle.gtp_check_judge.specs.declared.asking.CheckCommand.TheVariants.{Match}
use Rattle.gtp_check_judge.specs.declared.skills.Skill.TheVariants.{Has}
use Rattle.gtp_check_judge.specs.Exam.{HasRoomFor}
use Rattle.gtp_check_course.specs.declared.actions.Action.{Action}
use Rattle.gtp_check_course.specs.declared.actions.Action.TheVariants.{Start, Restart, Kill, Ask, Wait, Skip, Done}
use Rattle.gtp_check_course.specs.declared.actions.Question.{Question}
use Rattle.gtp_check_course.specs.declared.actions.Question.TheVariants as asked
use Rattle.gtp_check_course.specs.declared.stretches.Stretch.{Stretch}
use Rattle.gtp_check_course.specs.Asking.{Call, IsWanted, Poses, Takes, Tries, after_step, call, is_later}
use Rattle.gtp_check_course.specs.Course.{Course, part_over, step_over}
use Rattle.gtp_check_course.specs.Lessons.{stretches_of}
use Rattle.gtp_check_course.specs.Places.{next_step, next_stretch}
use Rattle.gtp_check_course.specs.Posing.{EachQuestionIsAsked, GoesOneOn, IsAskable, IsDone, IsIdle}
use Rattle.gtp_check_course.specs.Posing.{IsTurnOf, Turn, play_of}
use Rattle.gtp_check_course.specs.Stretches.{steps_if, steps_of}
use Rattle.gtp_check_course.proofs.OneQuestion.{one_step}

-- ---- a command

poses_asks : (now : Call) (command : CheckCommand) (action : Action) (new : Course) → Poses now command action new
    → HasRoomFor now.exam command → IsWanted now command → action ≡ Ask command
poses_asks now command (Ask asked) new poses may wanted = ap Ask poses.0
poses_asks now command Wait new poses may wanted = absurd (poses.1 may)
poses_asks now command Skip new (is, inl (none, never)) may wanted = absurd (never may)
poses_asks now command Skip new (is, inr (room, left)) may wanted = absurd (wanted left)
poses_asks now command Start new poses may wanted = absurd poses
poses_asks now command Restart new poses may wanted = absurd poses
poses_asks now command Kill new poses may wanted = absurd poses
poses_asks now command Done new poses may wanted = absurd poses

tries_asks : (now : Call) (move : Move) (action : Action) (new : Course) → Tries now move action new
    → HasRoomFor now.exam (play_of move) → now.exam.skills.undo ≡ Has
    → (action ≡ Ask (play_of move)) × (new.place.undoing ≡ true)
tries_asks now move (Ask asked) new tries may has = (ap Ask tries.0, ap (λ (c : Course). c.place.undoing) tries.3)
tries_asks now move Wait new tries may has = absurd (tries.2 may has)
tries_asks now move Skip new tries may has = absurd (tries.2 may has)
tries_asks now move Start new tries may has = absurd tries
tries_asks now move Restart new tries may has = absurd tries
tries_asks now move Kill new tries may has = absurd tries
tries_asks now move Done new tries may has = absurd tries

-- ---- what is passed over

poses_idle : (turn : Turn) (command : CheckCommand)
    → Poses (call turn.lesson turn.old turn.exam) command Skip turn.new → ¬ IsAskable turn command
poses_idle turn command (is, inl (none, never)) askable = never askable.may
poses_idle turn command (is, inr (room, left)) askable = askable.wanted left

takes_idle : (turn : Turn) (question : Question)
    → Takes (call turn.lesson turn.old turn.exam) question Skip turn.new → IsIdle turn question
takes_idle turn (asked.Ask command) takes = poses_idle turn command takes
takes_idle turn (asked.Probe move) takes = (
  λ legal both. (takes.tries legal).2 both.0 both.1,
  λ illegal. poses_idle turn (play_of move) (takes.poses illegal),
)
takes_idle turn (asked.Size size) takes = tt
takes_idle turn (asked.Found size) takes = tt
takes_idle turn asked.Nothing takes = tt
takes_idle turn asked.Fresh takes = by (is_later turn.old.place) refl
  where
    by : (b : Bool) → is_later turn.old.place ≡ b → is_later turn.old.place ≡ false
    by true is = absurd (takes.0 is)
    by false is = is
takes_idle turn asked.Restart takes = takes
takes_idle turn asked.Kill takes = takes

-- ---- the next step

less : (one other : ℕ) → nat_lt one other ≡ true → one < other
less one other is = grind (arith, nat_tests)

not_less : (one other : ℕ) → nat_lt one other ≡ false → other ≤ one
not_less one other is = grind (arith, nat_tests)

module _ (turn : Turn) (stretch : Stretch)
    (has : slice_get (stretches_of turn.lesson turn.old.place.part) turn.old.place.stretch ≡ Some stretch)
    (is : turn.new ≡ step_over turn.lesson turn.old) where
  abbrev steps : ℕ
  steps = steps_of stretch

  abbrev count : ℕ
  count = length (stretches_of turn.lesson turn.old.place.part)

  -- the course after the step, where these say whether there is another step, and another stretch
  abbrev after : Bool → Bool → Course
  after another later =
      if another then record turn.old { place = next_step turn.old.place }
      else if later then record turn.old { place = next_stretch turn.old.place }
      else part_over turn.lesson turn.old

  over : turn.new ≡ after (nat_lt (turn.old.place.step + 1) steps) (nat_lt (turn.old.place.stretch + 1) count)
  over =
      is ∙ ap (λ (o : Option Stretch).
      after (nat_lt (turn.old.place.step + 1) (steps_if o)) (nat_lt (turn.old.place.stretch + 1) count)) has

  to_step : turn.old.place.step + 1 < steps
      → (turn.new.place.stretch ≡ turn.old.place.stretch) × (turn.new.place.step ≡ turn.old.place.step + 1)
  to_step more = by (nat_lt (turn.old.place.step + 1) steps) refl over
    where
      by : (b : Bool) → nat_lt (turn.old.place.step + 1) steps ≡ b
          → turn.new ≡ after b (nat_lt (turn.old.place.stretch + 1) count)
          → (turn.new.place.stretch ≡ turn.old.place.stretch) × (turn.new.place.step ≡ turn.old.place.step + 1)
      by true tests new = (ap (λ (c : Course). c.place.stretch) new, ap (λ (c : Course). c.place.step) new)
      by false tests new = let few = not_less _ _ tests in absurd (omega (arith, few, more))

  to_stretch : steps ≤ turn.old.place.step + 1 → turn.old.place.stretch + 1 < count
      → (turn.new.place.stretch ≡ turn.old.place.stretch + 1) × (turn.new.place.step ≡ 0)
  to_stretch last more =
      by (nat_lt (turn.old.place.step + 1) steps) (nat_lt (turn.old.place.stretch + 1) count) refl refl over
    where
      by : (b d : Bool) → nat_lt (turn.old.place.step + 1) steps ≡ b
          → nat_lt (turn.old.place.stretch + 1) count ≡ d → turn.new ≡ after b d
          → (turn.new.place.stretch ≡ turn.old.place.stretch + 1) × (turn.new.place.step ≡ 0)
      by true d tests other new = let some = less _ _ tests in absurd (omega (arith, some, last))
      by false true tests other new =
          (ap (λ (c : Course). c.place.stretch) new, ap (λ (c : Course). c.place.step) new)
      by false false tests other new = let few = not_less _ _ other in absurd (omega (arith, few, more))

  in_part : turn.old.place.stretch + 1 < count
      → (turn.new.place.lesson ≡ turn.old.place.lesson) × (turn.new.place.part ≡ turn.old.place.part)
  in_part more =
      by (nat_lt (turn.old.place.step + 1) steps) (nat_lt (turn.old.place.stretch + 1) count) refl over
    where
      by : (b d : Bool) → nat_lt (turn.old.place.stretch + 1) count ≡ d → turn.new ≡ after b d
          → (turn.new.place.lesson ≡ turn.old.place.lesson) × (turn.new.place.part ≡ turn.old.place.part)
      by true d other new = (ap (λ (c : Course). c.place.lesson) new, ap (λ (c : Course). c.place.part) new)
      by false true other new = (ap (λ (c : Course). c.place.lesson) new, ap (λ (c : Course). c.place.part) new)
      by false false other new = let few = not_less _ _ other in absurd (omega (arith, few, more))

  one_on : GoesOneOn turn stretch
  one_on = record { next_step = to_step; next_stretch = to_stretch; same_part = in_part }

poses_over : (now : Call) (command other : CheckCommand) (new : Course) → Poses now command (Ask other) new
    → new ≡ after_step now
poses_over now command other new poses = poses.3

skip_over : (turn : Turn) (question : Question) → IsDone turn question
    → Takes (call turn.lesson turn.old turn.exam) question turn.action turn.new
    → turn.new ≡ step_over turn.lesson turn.old
skip_over turn (asked.Ask command) (inl is) takes =
    poses_over (call turn.lesson turn.old turn.exam) command command turn.new
    (subst (λ (a : Action). Poses (call turn.lesson turn.old turn.exam) command a turn.new) is takes)
skip_over turn (asked.Ask command) (inr is) takes =
    (subst (λ (a : Action). Poses (call turn.lesson turn.old turn.exam) command a turn.new) is takes).0
skip_over turn (asked.Probe move) (inl (is, illegal)) takes =
    poses_over (call turn.lesson turn.old turn.exam) (play_of move) (play_of move) turn.new
    (subst (λ (a : Action). Poses (call turn.lesson turn.old turn.exam) (play_of move) a turn.new) is
    (takes.poses illegal))
skip_over turn (asked.Probe move) (inr (is, inl legal)) takes =
    (subst (λ (a : Action). Tries (call turn.lesson turn.old turn.exam) move a turn.new) is (takes.tries legal)).1
skip_over turn (asked.Probe move) (inr (is, inr illegal)) takes =
    (subst (λ (a : Action). Poses (call turn.lesson turn.old turn.exam) (play_of move) a turn.new) is
    (takes.poses illegal)).0
skip_over turn asked.Nothing is takes = takes.1
skip_over turn (asked.Size size) is takes = absurd is
skip_over turn (asked.Found size) is takes = absurd is
skip_over turn asked.Fresh is takes = by (is_later turn.old.place) refl
  where
    skipped : Takes (call turn.lesson turn.old turn.exam) asked.Fresh Skip turn.new
    skipped =
        subst (λ (a : Action). Takes (call turn.lesson turn.old turn.exam) asked.Fresh a turn.new) is takes

    by : (b : Bool) → is_later turn.old.place ≡ b → turn.new ≡ step_over turn.lesson turn.old
    by true later = absurd (skipped.0 later)
    by false first = (skipped.1 first).1
skip_over turn asked.Restart is takes = absurd is
skip_over turn asked.Kill is takes = absurd is

-- ---- a turn

module _ (turn : Turn) (question : Question) (of : IsTurnOf turn question) where
  pub taken : Takes (call turn.lesson turn.old turn.exam) question turn.action turn.new
  taken =
      let has = of.is.asks of.opened of.due in
      subst (λ (q : Question). Takes (call turn.lesson turn.old turn.exam) q turn.action turn.new)
      (one_step turn.lesson turn.old turn.exam.game _ has.0 question has.1 of.step) has.2

pub each_asked : EachQuestionIsAsked
each_asked = record {
  asks = λ turn command of askable.
      poses_asks (call turn.lesson turn.old turn.exam) command turn.action turn.new
      (taken turn (asked.Ask command) of) askable.may askable.wanted;
  probes = λ turn move of illegal askable.
      poses_asks (call turn.lesson turn.old turn.exam) (play_of move) turn.action turn.new
      ((taken turn (asked.Probe move) of).poses illegal) askable.may askable.wanted;
  tries = λ turn move of legal may has.
      tries_asks (call turn.lesson turn.old turn.exam) move turn.action turn.new
      ((taken turn (asked.Probe move) of).tries legal) may has;
  undoes = λ turn is opened due askable.
      poses_asks (call turn.lesson turn.old turn.exam) (Match command.Undo) turn.action turn.new
      (is.undoes opened due) askable.may askable.wanted;
  passes = λ turn question of is.
      takes_idle turn question
      (subst (λ (a : Action). Takes (call turn.lesson turn.old turn.exam) question a turn.new) is
      (taken turn question of));
  goes_on = λ turn question stretch of over has.
      one_on turn stretch has (skip_over turn question over (taken turn question of));
}
