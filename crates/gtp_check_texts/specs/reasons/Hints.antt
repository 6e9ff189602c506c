-- What to try, where the engine isn't to be blamed. (Own.)
use Rattle.std.specs.Prelude.{ℕ, Bool, true, false, List, [], codes, Option, Some}
use Rattle.go_board.specs.declared.faults.PlayFault.TheVariants.{Suicide}
use Rattle.gtp_check_judge.specs.declared.asking.CheckCommand.{CheckCommand}
use Rattle.gtp_check_judge.specs.declared.asking.CheckCommand.TheVariants.{FinalScore, Match}
use Rattle.gtp_check_judge.specs.declared.dues.Cause.TheVariants.{BadMove}
use Rattle.gtp_check_judge.specs.declared.judging.Kind.TheVariants.{NoScore, OtherScore, Refused, Took, Unlawful}
use Rattle.gtp_wire.specs.declared.commands.Command.TheVariants.{FixedHandicap, Undo}
use Rattle.gtp_check_talk.specs.declared.fault.Fault.{Fault}
use Rattle.gtp_check_talk.specs.declared.fault.Fault.TheVariants.{Wrote}

-- what an engine has to say that never can do what the command asks for, where it may say so
abbrev pub known_hint : Option CheckCommand → List ℕ
known_hint (Some (Match Undo)) = codes "# if it never can: it has to answer known_command undo with false\n"
known_hint (Some (Match (FixedHandicap stones))) =
    codes "# if it never can: it has to answer known_command fixed_handicap with false\n"
known_hint (Some FinalScore) = codes "# if it never can: it has to answer known_command final_score with false\n"
known_hint _ = []

-- What to try, by what was wrong with the answer to the command: the other ko rule, where it explains the refusal; the
-- option for rules that allow suicide, or for scores that are estimates; or what `known_command` has to say.
abbrev pub hint_line : Bool → Fault → Option CheckCommand → List ℕ
hint_line true fault command =
    codes "# under positional ko the refusal is right: try --ko positional, or --ko unasked\n"
hint_line false (Wrote (Took (BadMove Suicide))) command = codes "# if its rules allow suicide: try --suicide unasked\n"
hint_line false (Wrote (Unlawful Suicide)) command = codes "# if its rules allow suicide: try --suicide unasked\n"
hint_line false (Wrote NoScore) command = codes "# if it estimates scores: try --score unasked\n"
hint_line false (Wrote OtherScore) command = codes "# if it estimates scores: try --score unasked\n"
hint_line false (Wrote Refused) command = known_hint command
hint_line false fault command = []
