-- Which conversations are tried in place of a long one, and how many. (Own.)
use Rattle.std.specs.Prelude.{ℕ, ◌+◌, ◌-◌, ◌&&◌, max, nat_lt, Bool, List, length, filter, take, count_by, if◌then◌else◌}
use Rattle.std.specs.Prelude.{Option, None, Some, true, false, [], ◌∷◌, ◌++◌, ◌||◌, ◌==◌}
use Rattle.gtp_wire.specs.declared.commands.Command.{Command}
use Rattle.gtp_wire.specs.declared.commands.Command.TheVariants.{Boardsize, Komi, ClearBoard, FixedHandicap, Play}
use Rattle.gtp_wire.specs.declared.commands.Command.TheVariants.{Genmove, Undo, Quit}
use Rattle.gtp_check_judge.specs.declared.asking.CheckCommand.{CheckCommand}
use Rattle.gtp_check_judge.specs.declared.asking.CheckCommand.TheVariants.{Match, FinalScore, Name, Version}
use Rattle.gtp_check_judge.specs.declared.asking.CheckCommand.TheVariants.{KnownCommand, PlayInFull, GenmoveInFull}
use Rattle.gtp_check_judge.specs.declared.asking.CheckCommand.TheVariants.{ListCommands}
use Rattle.gtp_check_judge.specs.declared.asking.CheckCommand.TheVariants.{Faulty, Required}
use Rattle.gtp_check_texts.specs.reasons.RunOn.{runs_on}
use Rattle.gtp_check_course.specs.declared.plan.Plan.{Plan}
use Rattle.gtp_check_shortening.specs.declared.flat.Shortening.{Shortening}
use Rattle.gtp_check_shortening.specs.declared.limits.Limits.{Limits}
use Rattle.gtp_check_talk.specs.declared.said.Said.{Said}
use Rattle.gtp_check_talk.specs.Said.{is_same_lesson}
use Rattle.gtp_check_shortening.specs.Reduction.{ended_after}
use Rattle.gtp_check_shortening.specs.Shortening.{shortened, shortenings}
use Rattle.gtp_check_talk.specs.Dialogues.{Wrong, wrong_purpose, wrong_talk}

-- a conversation of so many commands isn't shortened
abbrev pub few_commands : ℕ
few_commands = 12

-- so many commands may be asked in trials of a conversation, however short its lesson was
abbrev pub least_tried : ℕ
least_tried = 20000

-- how many commands of the conversation were asked in the lesson in which it ended
abbrev pub lesson_commands : Wrong → ℕ
lesson_commands wrong = count_by (λ said. is_same_lesson (wrong_purpose wrong) said.purpose) (wrong_talk wrong)

-- How much may be tried, where the conversation that was found is this one, so many shorter ones were tried before, and
-- parts of the last of them are left out now: as many trials as the plan has, less these, where that has more commands
-- than are few; and in all of them together as many commands as the one that was found had in its lesson, or twenty
-- thousand. (A `name` that is asked since an answer may run on isn't counted.)
abbrev pub limits_of : Plan → Wrong → Wrong → ℕ → Limits
limits_of plan found longer tried = record {
  trials = if nat_lt few_commands (length (wrong_talk longer)) then plan.trials - tried else 0;
  commands = max least_tried (lesson_commands found);
}

-- A conversation is shortened so where it has more commands than are few, and what is left of it has fewer than it.
abbrev pub is_for : List Said → Shortening → Bool
is_for talk how = nat_lt few_commands (length talk) && nat_lt (length (shortened how talk)) (length talk)

-- those of the shortenings that are for it
unfoldable pub those_for : List Said → List Shortening → List Shortening
those_for talk all = filter (is_for talk) all

-- the shortenings that are tried of a conversation, so many at most
abbrev pub shortenings_of : ℕ → List Said → List Shortening
shortenings_of trials talk = take trials (those_for talk shortenings)

-- What came of the last games of a conversation: the first of them that ended like it, if one did, and how many were
-- tried. And the commands of the conversation that are left then, without the `name` that were asked besides.
pub record LastGames : Type 0 where
  pub ended : Option Wrong
  pub tried : ℕ
  pub left : List CheckCommand

-- ---- what a trial asks

-- Whether a command of a match may be one that is asked only where no answer is waited for.
abbrev pub match_may_wait : Command → Bool
match_may_wait (Boardsize size) = true
match_may_wait (Genmove colour) = true
match_may_wait Undo = true
match_may_wait (Komi komi) = false
match_may_wait ClearBoard = false
match_may_wait (FixedHandicap stones) = false
match_may_wait (Play move) = false
match_may_wait Quit = false

-- the same of any command
abbrev pub may_wait : CheckCommand → Bool
may_wait (Match command) = match_may_wait command
may_wait FinalScore = true
may_wait Name = false
may_wait Version = false
may_wait (KnownCommand known) = false
may_wait ListCommands = false
may_wait (Faulty faulty) = false
may_wait (Required required) = false
may_wait (PlayInFull move) = false
may_wait (GenmoveInFull colour) = true

-- So many commands are asked at most between two `name` and the next two: with these they are eight, and no more may be
-- unanswered.
abbrev pub most_between : ℕ
most_between = 6

-- Whether two `name` are asked before a command, where so many may be asked before the next two: it may wait for the
-- answers to those before it, or none may be asked. Before the first command they aren't asked.
abbrev pub needs_names : CheckCommand → ℕ → Bool
needs_names command left = nat_lt left most_between && (may_wait command || left == 0)

-- how many may be asked after it before the next two
abbrev pub left_after : CheckCommand → ℕ → ℕ
left_after command left = if needs_names command left then most_between - 1 else left - 1

-- the command, after two `name` where it needs them
abbrev pub with_names_before : CheckCommand → ℕ → List CheckCommand
with_names_before command left =
    if needs_names command left then Name ∷ Name ∷ command ∷ [] else command ∷ []

-- commands with two `name` between them wherever answers may be waited for
unfoldable pub spaced : ℕ → List CheckCommand → List CheckCommand
spaced left [] = []
spaced left (command ∷ later) = with_names_before command left ++ spaced (left_after command left) later

-- The same, and two at the end. Answers that run on have no end before that of a `name`; the next `name` is answered by
-- an id that isn't due. So none is waited for in vain of an engine whose failures alone run on, where the answers that are
-- waited for are successes.
abbrev pub with_names : List CheckCommand → List CheckCommand
with_names commands = spaced most_between commands ++ (Name ∷ Name ∷ [])

-- Whether an answer may have run on into the next one, where a conversation ended so.
abbrev pub ran_on : Wrong → Bool
ran_on wrong = runs_on wrong.fault wrong.answered (length wrong.talk) wrong.wrote

-- What is asked where these commands are tried in place of the conversation that was found: they alone; but with those
-- `name` where an answer may have run on. An answer that runs on has no end before the next success. So without them
-- an engine could be waited for that has nothing more to write.
abbrev pub asked_for : Wrong → List CheckCommand → List CheckCommand
asked_for found commands = if ran_on found then with_names commands else commands

-- how many of the first so many commands that are asked with two `name` between them are commands of the conversation
unfoldable pub own_spaced : ℕ → List CheckCommand → ℕ → ℕ
own_spaced left [] count = 0
own_spaced left (command ∷ later) count =
    if nat_lt count (length (with_names_before command left)) then 0
    else own_spaced (left_after command left) later (count - length (with_names_before command left)) + 1

-- The same of what is asked in place of the conversation that was found: without such `name` all of them are.
abbrev pub own_of : Wrong → List CheckCommand → ℕ → ℕ
own_of found commands count = if ran_on found then own_spaced most_between commands count else count

-- What is left of these commands, where a trial of them ended like the conversation that was found: those that were
-- answered rightly, and the last one.
abbrev pub left_by : Wrong → List CheckCommand → Wrong → List CheckCommand
left_by found commands tried = ended_after (own_of found commands tried.answered) commands

-- the one, if there is one, or else the other
abbrev pub or_else : Option Wrong → Option Wrong → Option Wrong
or_else None other = other
or_else (Some one) other = Some one
