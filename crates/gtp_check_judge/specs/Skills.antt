-- Which of the commands that an engine may be without it has, as it said itself. (The standard asks of each engine that
-- it has `known_command`, and not that it has `fixed_handicap`, `undo` or `final_score`.) Such a command is asked only
-- of an engine that was asked by `known_command` whether it has it, and didn't say `false`.
use Rattle.std.specs.Prelude.{ℕ, Bool, true, false, List, [], ◌∷◌, Option, None, Some, codes, if◌then◌else◌}
use Rattle.std.specs.Str.{bytes_eq}
use Rattle.gtp_wire.specs.declared.commands.Command.{Command}
use Rattle.gtp_wire.specs.declared.commands.Command.TheVariants.{Boardsize, Komi, ClearBoard, FixedHandicap, Play}
use Rattle.gtp_wire.specs.declared.commands.Command.TheVariants.{Genmove, Undo, Quit}
use Rattle.gtp_wire.specs.declared.replies.Reply.{Reply}
use Rattle.gtp_wire.specs.Words.{reply_words}
use Rattle.gtp_check_judge.specs.declared.asking.Known.{Known}
use Rattle.gtp_check_judge.specs.declared.asking.Known.TheVariants as known
use Rattle.gtp_check_judge.specs.declared.asking.CheckCommand.{CheckCommand}
use Rattle.gtp_check_judge.specs.declared.asking.CheckCommand.TheVariants.{Match, FinalScore, Name, Version}
use Rattle.gtp_check_judge.specs.declared.asking.CheckCommand.TheVariants.{KnownCommand, PlayInFull, GenmoveInFull, ListCommands}
use Rattle.gtp_check_judge.specs.declared.asking.CheckCommand.TheVariants.{Faulty, Required}
use Rattle.gtp_check_judge.specs.declared.skills.Skill.{Skill}
use Rattle.gtp_check_judge.specs.declared.skills.Skill.TheVariants.{Unasked, Has, Lacks}
use Rattle.gtp_check_judge.specs.declared.skills.Skills.{Skills}

-- the one of these commands that a command of a match is, if any
abbrev pub skill_of : Command → Option Known
skill_of (FixedHandicap stones) = Some known.FixedHandicap
skill_of Undo = Some known.Undo
skill_of (Boardsize size) = None
skill_of (Komi komi) = None
skill_of ClearBoard = None
skill_of (Play move) = None
skill_of (Genmove colour) = None
skill_of Quit = None

-- the one of them that a command is, if any
abbrev pub needed_skill : CheckCommand → Option Known
needed_skill (Match command) = skill_of command
needed_skill FinalScore = Some known.FinalScore
needed_skill Name = None
needed_skill Version = None
needed_skill (KnownCommand asked) = None
needed_skill ListCommands = None
needed_skill (Faulty command) = None
needed_skill (Required command) = None
needed_skill (PlayInFull move) = None
needed_skill (GenmoveInFull colour) = None

-- before any `known_command`
abbrev pub none_asked : Skills
none_asked = record { fixed_handicap = Unasked; undo = Unasked; final_score = Unasked }

abbrev pub said_of : Skills → Known → Skill
said_of skills known.FixedHandicap = skills.fixed_handicap
said_of skills known.Undo = skills.undo
said_of skills known.FinalScore = skills.final_score

abbrev pub with_skill : Skills → Known → Skill → Skills
with_skill skills known.FixedHandicap now = record skills { fixed_handicap = now }
with_skill skills known.Undo now = record skills { undo = now }
with_skill skills known.FinalScore now = record skills { final_score = now }

-- the one word is `false`
abbrev pub are_false : List (List ℕ) → Bool
are_false [] = false
are_false (word ∷ []) = bytes_eq word (codes "false")
are_false (word ∷ more ∷ words) = false

-- What a reply to `known_command` says: the engine lacks the command where it is a success that says `false`. Of any
-- other reply it counts as one that has it.
abbrev pub said_skill : Bool → List ℕ → Skill
said_skill false text = Has
said_skill true text = if are_false (reply_words text) then Lacks else Has

-- what is known once a command was answered so
abbrev pub learned : Skills → CheckCommand → Reply → Skills
learned skills (KnownCommand asked) reply = with_skill skills asked (said_skill reply.ok reply.text.items)
learned skills (Match command) reply = skills
learned skills FinalScore reply = skills
learned skills Name reply = skills
learned skills Version reply = skills
learned skills ListCommands reply = skills
learned skills (Faulty command) reply = skills
learned skills (Required command) reply = skills
learned skills (PlayInFull move) reply = skills
learned skills (GenmoveInFull colour) reply = skills
