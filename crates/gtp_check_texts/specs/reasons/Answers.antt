-- What a right engine answers: the points of a handicap. (Own.)
use Rattle.std.specs.Prelude.{ℕ, List, [], ◌∷◌, ◌++◌, codes, Option, if◌then◌else◌}
use Rattle.std.specs.Char.{is_ascii_digit}
use Rattle.std.specs.Option.{option_map_or}
use Rattle.go_base.specs.Decide.{allows?, holds}
use Rattle.go_base.specs.Handicap.{handicap_points}
use Rattle.gtp_check_judge.specs.declared.asking.CheckCommand.{CheckCommand}
use Rattle.gtp_check_judge.specs.declared.asking.CheckCommand.TheVariants.{Match}
use Rattle.gtp_check_judge.specs.declared.judging.Kind.TheVariants as kind
use Rattle.go_base.specs.Text.{front_while}
use Rattle.go_base.specs.Vertex.{written_vertices}
use Rattle.gtp_wire.specs.declared.commands.Command.TheVariants.{FixedHandicap}
use Rattle.gtp_check_talk.specs.declared.fault.Fault.{Fault}
use Rattle.gtp_check_talk.specs.declared.fault.Fault.TheVariants.{Wrote}
use Rattle.gtp_check_talk.specs.declared.said.Said.{Said}

-- the points of so many handicap stones on the board of this size, which allows them
abbrev pub stones_on : ℕ → ℕ → List ℕ
stones_on stones size =
    if holds (allows? size stones) then written_vertices (handicap_points size stones) else []

-- the points that a right engine answers to the command, where it places a handicap, on a board of this size
abbrev pub points_of : CheckCommand → ℕ → List ℕ
points_of (Match (FixedHandicap stones)) size = stones_on stones size
points_of _ size = []

-- the same on the board that it was asked on
abbrev pub right_points : Option Said → List ℕ
right_points said = option_map_or (λ one. points_of one.command one.size) said []

-- what a right engine answers to the command, where other points were wrong
abbrev pub right_answer : Fault → Option Said → List ℕ
right_answer (Wrote kind.OtherPoints) said = right_points said
right_answer _ said = []

-- that the id of this line is due, where another one came
abbrev pub id_due : Fault → List ℕ → List ℕ
id_due (Wrote kind.WrongId) line = codes ": " ++ front_while is_ascii_digit line
id_due fault line = []

-- it comes before the rule
abbrev pub before_rule : List ℕ → List ℕ
before_rule [] = []
before_rule (first ∷ rest) = (first ∷ rest) ++ codes "; "
