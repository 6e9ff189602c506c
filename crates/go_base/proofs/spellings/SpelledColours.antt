-- The two ways to say which colour a text spells.
use Rattle.std.proofs.Common.{◌≡◌, ℕ, List, Option, Some, None, Bool, true, false, refl, sym, subst, ◌∙◌, ap, cond}
use Rattle.std.proofs.Common.{◌||◌, Decides, inl, inr}
use Rattle.std.specs.Prelude.{codes}
use Rattle.std.specs.Str.{str_to_ascii_lowercase, bytes_eq}
use Rattle.std.proofs.lemmas.Bool.Decides.{Decides-or}
use Rattle.std.proofs.lemmas.Slice.Eq.{bytes_eq-Decides}
use Rattle.go_base.specs.declared.colours.Colour.{Colour}
use Rattle.go_base.specs.declared.colours.Colour.TheVariants.{Black, White}
use Rattle.go_base.specs.Colour.{SpellsColour, written_colour, colour_of}

-- the colour of a word in small letters
abbrev colour_in : List ℕ → Option Colour
colour_in word =
    cond (bytes_eq word (codes "b") || bytes_eq word (codes "black")) (Some Black)
    (cond (bytes_eq word (codes "w") || bytes_eq word (codes "white")) (Some White) None)

-- where a text spells a colour, that is the colour of it
pub colour_of_spelled : (colour : Colour) (text : List ℕ) → SpellsColour colour text → colour_of text ≡ Some colour
colour_of_spelled Black text (inl letter) = ap colour_in letter
colour_of_spelled Black text (inr name) = ap colour_in name
colour_of_spelled White text (inl letter) = ap colour_in letter
colour_of_spelled White text (inr name) = ap colour_in name

spelled_by_tests : (text : List ℕ) (black white : Bool) → Decides black (SpellsColour Black text)
    → Decides white (SpellsColour White text)
    → (colour : Colour) → cond black (Some Black) (cond white (Some White) None) ≡ Some colour
    → SpellsColour colour text
spelled_by_tests text true white is_black is_white colour e =
    let same : Black ≡ colour = cc in
    subst (λ (c : Colour). SpellsColour c text) same (is_black.0 refl)
spelled_by_tests text false true is_black is_white colour e =
    let same : White ≡ colour = cc in
    subst (λ (c : Colour). SpellsColour c text) same (is_white.0 refl)
spelled_by_tests text false false is_black is_white colour e = absurd (cc)

-- the colour of a text is spelled by it
pub spells_colour_of : (colour : Colour) (text : List ℕ) → colour_of text ≡ Some colour → SpellsColour colour text
spells_colour_of colour text =
    let word = str_to_ascii_lowercase text in
    spelled_by_tests text _ _
    (Decides-or _ _ (bytes_eq-Decides word (codes "b")) (bytes_eq-Decides word (codes "black")))
    (Decides-or _ _ (bytes_eq-Decides word (codes "w")) (bytes_eq-Decides word (codes "white")))
    colour

-- what is written spells the colour
pub spells_written_colour : (colour : Colour) → SpellsColour colour (written_colour colour)
spells_written_colour Black = inl refl
spells_written_colour White = inl refl

-- a text spells at most one colour
pub one_colour : (a b : Colour) (text : List ℕ) → SpellsColour a text → SpellsColour b text → a ≡ b
one_colour a b text spells_a spells_b =
    let e : Some a ≡ Some b = sym (colour_of_spelled a text spells_a) ∙ colour_of_spelled b text spells_b in
    cc
