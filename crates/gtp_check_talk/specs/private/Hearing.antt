-- What is noted of what was heard.
use Rattle.std.specs.Prelude.{◌≡◌, Option, option_map}
use Rattle.gtp_wire.specs.declared.replies.Reply.{Reply}
use Rattle.gtp_wire.specs.Replies.{with_reply}
use Rattle.gtp_check_judge.specs.declared.exam.Heard.{Heard}
use Rattle.gtp_check_judge.specs.declared.skills.Skills.{Skills}
use Rattle.gtp_check_judge.specs.declared.unanswered.Asked.{Asked}
use Rattle.gtp_check_course.specs.declared.lessons.Lesson.{Lesson}
use Rattle.gtp_check_talk.specs.Dialogues.{noted_of_read}
use Rattle.gtp_check_talk.specs.Notes.{noted, noted_in}
use Rattle.gtp_check_talk.specs.declared.notes.Notes.{Notes}

-- What is noted of what was heard, in whichever lesson, is noted of what was read, where this is the oldest command, if
-- any.
abbrev pub AreNotesOf : Heard → Reply → Option Asked → Skills → Type 0
AreNotesOf heard reply asked skills = (lesson : Lesson) (notes : Notes)
    → noted_in lesson heard.answered (noted notes heard.answered heard.refused reply skills)
    ≡ noted_of_read lesson notes asked (option_map (with_reply reply) heard.read) skills
