use Rattle.std.proofs.Common.{◌≡◌, Bool, true, false, refl, Option, None, Some, Result, Ok, Err}
use Rattle.std.specs.Prelude.{IfNone, option_map}
use Rattle.gtp_wire.specs.declared.replies.Reply.{Reply}
use Rattle.gtp_wire.specs.declared.replies.ReplyFault.{ReplyFault}
use Rattle.gtp_wire.specs.Replies.{with_reply}
use Rattle.gtp_check_judge.specs.declared.exam.Finding.{Finding}
use Rattle.gtp_check_judge.specs.declared.exam.Heard.{Heard}
use Rattle.gtp_check_judge.specs.declared.skills.Skills.{Skills}
use Rattle.gtp_check_judge.specs.declared.unanswered.Asked.{Asked}
use Rattle.gtp_check_judge.specs.Exam.{answered_by, refused_what}
use Rattle.gtp_check_judge.specs.Judging.{oldest}
use Rattle.gtp_check_course.specs.declared.lessons.Lesson.{Lesson}
use Rattle.gtp_check_talk.specs.declared.notes.Notes.{Notes}
use Rattle.gtp_check_talk.specs.Notes.{noted, noted_in}
use Rattle.gtp_check_talk.specs.Dialogues.{noted_of_read}
use Rattle.gtp_check_talk.specs.private.Hearing.{AreNotesOf}
use Rattle.gtp_check_talk.proofs.engine.hear.Goals as goal

-- what is noted of an engine that is up
noted_up : (lesson : Lesson) (notes : Notes) (asked : Option Asked) (read : Option (Result (Unit {0}) ReplyFault))
    (reply : Reply) (skills : Skills)
    → noted_in lesson (answered_by asked (option_map (with_reply reply) read) None)
    (noted notes (answered_by asked (option_map (with_reply reply) read) None)
    (refused_what asked (option_map (with_reply reply) read) None) reply skills)
    ≡ noted_of_read lesson notes asked (option_map (with_reply reply) read) skills
noted_up lesson notes None read reply skills = refl
noted_up lesson notes (Some asked) None reply skills = refl
noted_up lesson notes (Some asked) (Some (Ok done)) reply skills = refl
noted_up lesson notes (Some asked) (Some (Err shown)) reply skills = refl

-- where nothing was read nothing is noted
noted_nothing : (lesson : Lesson) (notes : Notes) (asked : Option Asked) (skills : Skills)
    → notes ≡ noted_of_read lesson notes asked None skills
noted_nothing lesson notes None skills = refl
noted_nothing lesson notes (Some asked) skills = refl

-- what is noted of an engine, be it up or not
noted_so : (up : Bool) (asked : Option Asked) (heard : Heard) (reply : Reply) (skills : Skills)
    → (up ≡ true → heard.answered ≡ answered_by asked (option_map (with_reply reply) heard.read) heard.finding)
    → (up ≡ true → heard.refused ≡ refused_what asked (option_map (with_reply reply) heard.read) heard.finding)
    → (up ≡ false → (heard.read ≡ None) × (heard.answered ≡ None) × (heard.refused ≡ None))
    → heard.finding ≡ None → AreNotesOf heard reply asked skills
noted_so true asked heard reply skills has sized still none = λ lesson notes.
    rw (has refl, sized refl, none) (noted_up lesson notes asked heard.read reply skills)
noted_so false asked heard reply skills has sized still none = λ lesson notes.
    rw ((still refl).0, (still refl).1) (noted_nothing lesson notes asked skills)

-- where nothing was found
none_found : (found : Option Finding) (X : Type 0) → (found ≡ None → X) → IfNone found X
none_found None X holds = holds refl
none_found (Some f) X holds = tt

pub returns-clause-noted : goal.returns-clause-noted
returns-clause-noted c =
    none_found c.heard-heard.result.finding _ (λ none.
    noted_so c.args.examiner.now.exam.up (oldest c.args.examiner.now.exam.unanswered) c.heard-heard.result
    c.heard-heard.new.reply c.heard-heard.new.self.exam.skills c.heard-heard.ensures.answered
    c.heard-heard.ensures.refused c.heard-heard.ensures.still none)
