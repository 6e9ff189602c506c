-- The two colours, and the texts that spell them. (The standard's simple entities: color.)
use Rattle.std.specs.Prelude.{◌≡◌, ℕ, ◌||◌, ◌⊎◌, ◌↔◌, List, Option, Some, None, codes, if◌then◌else◌}
use Rattle.go_base.specs.Word.{IsWord, is_word}
use Rattle.go_base.specs.declared.colours.Colour.{Colour}
use Rattle.go_base.specs.declared.colours.Colour.TheVariants.{Black, White}

-- the other colour
abbrev pub other : Colour → Colour
other Black = White
other White = Black

-- The text spells the colour: it is its letter or its name, whatever the case.
abbrev pub SpellsColour : Colour → List ℕ → Type 0
SpellsColour Black text = IsWord (codes "b") text ⊎ IsWord (codes "black") text
SpellsColour White text = IsWord (codes "w") text ⊎ IsWord (codes "white") text

-- the one spelling that is written: the small letter
abbrev pub written_colour : Colour → List ℕ
written_colour Black = codes "b"
written_colour White = codes "w"

-- the colour that the text spells, where it spells one
abbrev pub colour_of : List ℕ → Option Colour
colour_of text =
    if is_word (codes "b") text || is_word (codes "black") text then Some Black
    else (if is_word (codes "w") text || is_word (codes "white") text then Some White else None)

-- the function agrees with the relation
abbrev pub ColourOfAgrees : Type 0
ColourOfAgrees = (colour : Colour) (text : List ℕ) → SpellsColour colour text ↔ (colour_of text ≡ Some colour)

-- what is written of a colour spells it, and so it is read back
abbrev pub ColoursReadBack : Type 0
ColoursReadBack = (colour : Colour) → SpellsColour colour (written_colour colour)

-- a text spells at most one colour
abbrev pub SpellsOneColour : Type 0
SpellsOneColour = (a b : Colour) (text : List ℕ) → SpellsColour a text → SpellsColour b text → a ≡ b
