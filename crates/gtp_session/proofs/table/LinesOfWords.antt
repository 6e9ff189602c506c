-- Lines of words: the command that they name, and their arguments.
use Rattle.std.proofs.Common.{◌≡◌, [], ℕ, List, ◌∷◌, Bool, true, false, cond, Option, Some, None, refl, sym, ap, ◌∙◌}
use Rattle.std.proofs.lemmas.Slice.Eq.{bytes_eq-Decides}
use Rattle.std.specs.Prelude.{find, slice_get, option_and_then}
use Rattle.std.specs.Str.{bytes_eq}
use Rattle.go_base.specs.Colour.{colour_of, SpellsColour}
use Rattle.go_base.specs.declared.colours.Colour.{Colour}
use Rattle.go_base.specs.declared.vertices.Vertex.{Vertex}
use Rattle.go_base.proofs.spellings.SpelledColours.{colour_of_spelled, spells_colour_of}
use Rattle.gtp_session.specs.declared.commands.CommandName.{CommandName}
use Rattle.gtp_session.specs.Commands.{spelled, all_commands, command_named, named_command, argument, move_of}
use Rattle.gtp_session.specs.TableLaws.{Names, IsArgument}
use Rattle.gtp_session.proofs.table.Names.{named_by_name}

pub found : (cs : List CommandName) (word : List ℕ) (c : CommandName)
    → find (λ (d : CommandName). bytes_eq (spelled d) word) cs ≡ Some c → spelled c ≡ word
found [] word c e = absurd (cc e)
found (d ∷ ds) word c e = by_test (bytes_eq (spelled d) word) refl e (λ f. found ds word c f)
  where
    by_test : (t : Bool) → bytes_eq (spelled d) word ≡ t
        → cond t (Some d) (find (λ (x : CommandName). bytes_eq (spelled x) word) ds) ≡ Some c
        → (find (λ (x : CommandName). bytes_eq (spelled x) word) ds ≡ Some c → spelled c ≡ word) → spelled c ≡ word
    by_test true t e later = let same : d ≡ c = cc in ap spelled (sym same) ∙ (bytes_eq-Decides (spelled d) word).0 t
    by_test false t e later = later e

pub word_names : (o : Option (List ℕ)) (c : CommandName) → option_and_then command_named o ≡ Some c
    → o ≡ Some (spelled c)
word_names None c e = absurd (cc e)
word_names (Some word) c e = ap (λ (w : List ℕ). Some w) (sym (found all_commands word c e))

-- the command that the words name
pub names_of : (words : List (List ℕ)) (c : CommandName) → named_command words ≡ Some c → Names words (spelled c)
names_of words c e = word_names (slice_get words 0) c e

pub of_names : (words : List (List ℕ)) (c : CommandName) → Names words (spelled c) → named_command words ≡ Some c
of_names words c n = ap (option_and_then command_named) n ∙ named_by_name c

-- ---- arguments

-- what is read spells the colour
pub argument_of : (words : List (List ℕ)) (number : ℕ) (colour : Colour) → argument colour_of words number ≡ Some colour
    → IsArgument SpellsColour words number colour
argument_of words number colour e = by_word (slice_get words number) refl e
  where
    by_word : (o : Option (List ℕ)) → slice_get words number ≡ o → option_and_then colour_of o ≡ Some colour
        → IsArgument SpellsColour words number colour
    by_word None is e = absurd (cc e)
    by_word (Some word) is e = (word, is, spells_colour_of colour word e)

-- and the other way round
pub of_argument : (words : List (List ℕ)) (number : ℕ) (colour : Colour) → IsArgument SpellsColour words number colour
    → argument colour_of words number ≡ Some colour
of_argument words number colour h =
    ap (option_and_then colour_of) h.1 ∙ colour_of_spelled colour h.0 h.2

pub move_reads : (o : Option Colour) (p : Option Vertex) (c : Colour) (v : Vertex) → o ≡ Some c → p ≡ Some v
    → move_of o p ≡ Some (record { colour = c; vertex = v })
move_reads o p c v e f =
    ap (λ (x : Option Colour). move_of x p) e ∙ ap (λ (x : Option Vertex). move_of (Some c) x) f

-- ---- answers

-- a test that isn't true is false
pub not_true : (b : Bool) → ¬ (b ≡ true) → b ≡ false
not_true true f = absurd (f refl)
not_true false f = refl
