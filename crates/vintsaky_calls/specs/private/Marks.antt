-- What is written for a stone and for a mark.
use Rattle.std.specs.Prelude.{Option, Some, Bool, true, false}
use Rattle.go_base.specs.declared.colours.Colour.{Colour}
use Rattle.go_base.specs.declared.colours.Colour.TheVariants.{Black, White}

-- `one` where the stone is of this colour, and else `zero`
abbrev pub stone_mark : {A : Type 0} → A → A → Colour → Option Colour → A
stone_mark zero one Black (Some Black) = one
stone_mark zero one White (Some White) = one
stone_mark zero one c stone = zero

-- `one` for true, and `zero` for false
abbrev pub bool_mark : {A : Type 0} → A → A → Bool → A
bool_mark zero one true = one
bool_mark zero one false = zero
