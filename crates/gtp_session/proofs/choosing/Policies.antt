-- What lemmas suppose of a policy: the law of the trait `Policy`.
use Rattle.go_base.specs.declared.colours.Colour.{Colour}
use Rattle.go_base.specs.declared.choices.Choice.{Choice}
use Rattle.go_board.specs.Game.{GameRecord}
use Rattle.gtp_session.specs.Policy.{May, IsLawful}

-- every choice that the relation allows is lawful
abbrev pub AllowsLawful : {P : Type 0} → May P → Type 0
AllowsLawful {P} may =
    (old : P) (game : GameRecord) (colour : Colour) (choice : Choice) (new : P)
    → may old game colour choice new → IsLawful game colour choice
