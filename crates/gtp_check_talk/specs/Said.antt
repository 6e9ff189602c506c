-- What an engine was asked, and for what. (Own.)
use Rattle.std.specs.Prelude.{◌==◌, ◌&&◌, Bool, List, map}
use Rattle.gtp_check_judge.specs.declared.asking.CheckCommand.{CheckCommand}
use Rattle.gtp_check_course.specs.Lessons.{number_of}
use Rattle.gtp_check_talk.specs.declared.said.Purpose.{Purpose}
use Rattle.gtp_check_talk.specs.declared.said.Said.{Said}

-- the same lesson, in whichever part
abbrev pub is_same_lesson : Purpose → Purpose → Bool
is_same_lesson one other = number_of one.lesson == number_of other.lesson

-- whether it is the same lesson, and the same part of it
abbrev pub is_same_purpose : Purpose → Purpose → Bool
is_same_purpose one other = is_same_lesson one other && (one.part == other.part)

-- the commands of a conversation
abbrev pub commands_of : List Said → List CheckCommand
commands_of talk = map (λ said. said.command) talk
