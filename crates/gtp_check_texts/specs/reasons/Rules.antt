-- What is right, where the game isn't known, and where an answer was lost. (Own.)
use Rattle.std.specs.Prelude.{ℕ, ◌==◌, if◌then◌else◌, List, codes, Option, None, Some}
use Rattle.gtp_process.specs.declared.starter.Ending.{Ending}
use Rattle.gtp_process.specs.declared.starter.Ending.TheVariants as ended
use Rattle.gtp_check_judge.specs.declared.asking.CheckCommand.{CheckCommand}
use Rattle.gtp_check_judge.specs.declared.asking.CheckCommand.TheVariants.{Match}
use Rattle.gtp_check_judge.specs.declared.judging.Kind.TheVariants.{Refused}
use Rattle.gtp_check_talk.specs.declared.fault.Fault.{Fault}
use Rattle.gtp_check_talk.specs.declared.fault.Fault.TheVariants.{Wrote, CutOff}
use Rattle.gtp_check_texts.specs.reasons.Sentences.{command_sentence, kind_sentence, other_sentence}

-- why a right engine takes a command
abbrev pub refused_rule : Option CheckCommand → List ℕ
refused_rule (Some (Match command)) = command_sentence command
refused_rule (Some other) = other_sentence other
refused_rule None = codes "the command succeeds"

-- the status by which a program with a limit of time ends an engine that is late
abbrev pub late : ℕ
late = 124

-- the rule where an answer was lost, and the process ended so: it was late, by that status or by itself, or otherwise
abbrev pub lost_rule : Ending → List ℕ
lost_rule (ended.Status status) =
    if status == late then codes "an engine answers in time: does it flush each answer, and end it with an empty line?"
    else codes "an engine answers each command, and reads on until quit"
lost_rule (ended.Late seconds) =
    codes "an engine answers in time: does it flush each answer, and end it with an empty line?"
lost_rule _ = codes "an engine answers each command, and reads on until quit"

-- what a right engine answers to the command, and the rule that says so, in whatever game
abbrev pub rule_text : Fault → Ending → Option CheckCommand → List ℕ
rule_text (CutOff cause) ending command = lost_rule ending
rule_text (Wrote Refused) ending command = refused_rule command
rule_text (Wrote kind) ending command = kind_sentence kind
