-- What an engine is asked before it is heard.
use Rattle.std.specs.Prelude.{List, [], ◌∷◌, ◌++◌}
use Rattle.gtp_check_judge.specs.declared.asking.CheckCommand.{CheckCommand}
use Rattle.gtp_check_course.specs.Course.{IsLeftOut}
use Rattle.gtp_check_talk.specs.Dialogues.{Dialogue, IsAsked, Trial}

-- In a trial it was asked these commands, one after the other, each for its purpose. None of them is left out.
pub data AreAsked {P : Type 0} (tries : Trial) (first : Dialogue P)
    : List CheckCommand → Dialogue P → Type 0 where
  none : AreAsked tries first [] first
  one_more : {commands : List CheckCommand} {mid last : Dialogue P} (command : CheckCommand)
      → AreAsked tries first commands mid → ¬ IsLeftOut tries.unasked mid.exam.game command
      → IsAsked tries.purpose mid command last
      → AreAsked tries first (commands ++ command ∷ []) last
