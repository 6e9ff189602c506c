-- What is wrong with an engine, in words. (Own.)
use Rattle.std.specs.Prelude.{ℕ, List, codes}
use Rattle.gtp_check_judge.specs.declared.judging.Kind.{Kind}
use Rattle.gtp_check_judge.specs.declared.judging.Kind.TheVariants as kind
use Rattle.gtp_process.specs.Shown.{pipe_text}
use Rattle.gtp_check_talk.specs.declared.fault.Fault.{Fault}
use Rattle.gtp_check_talk.specs.declared.fault.Fault.TheVariants.{Wrote, CutOff}

-- what was wrong with what it wrote
abbrev pub kind_text : Kind → List ℕ
kind_text kind.Refused = codes "it was refused"
kind_text (kind.Took cause) = codes "it was accepted"
kind_text kind.OtherPoints = codes "other points than those of the handicap"
kind_text kind.NoMove = codes "no move: the genmove failed"
kind_text kind.NoVertex = codes "neither a vertex nor resign"
kind_text (kind.Unlawful fault) = codes "an illegal move"
kind_text kind.Unlisted = codes "a list without a row for a command that each engine has"
kind_text kind.NoScore = codes "no score"
kind_text kind.OtherScore = codes "a score that doesn't differ from its others as the komis do"
kind_text kind.WrongId = codes "a reply without the id of the command"
kind_text kind.Unasked = codes "a reply to nothing that was asked"
kind_text kind.NoStatus = codes "not a GTP reply (it begins with neither = nor ?)"
kind_text kind.Overlong = codes "no end of a reply in 8192 bytes"

-- what was wrong, after the command
abbrev pub fault_text : Fault → List ℕ
fault_text (Wrote kind) = kind_text kind
fault_text (CutOff cause) = pipe_text cause
