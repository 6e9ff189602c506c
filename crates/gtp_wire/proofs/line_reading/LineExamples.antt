-- Lines of example texts, computed.
use Rattle.std.proofs.Common.{◌≡◌, ℕ, List, [], ◌∷◌, ◌++◌, Option, Some, None, refl}
use Rattle.std.specs.Prelude.{codes, replicate}
use Rattle.gtp_wire.specs.declared.lines.Line.{Line}
use Rattle.gtp_wire.specs.declared.lines.Line.TheVariants.{Command, TooLong}
use Rattle.gtp_wire.specs.Lines.{lines, line_of, line_of_words}

abbrev command : Option ℕ → List (List ℕ) → Line
command id ws = Command (record { id = id; words = ws })

-- a comment, a line of HT alone, and a command with HT, a control character, a comment and CR
comments_and_control_characters : lines (codes "# a game" ++ 10 ∷ 9 ∷ 10 ∷ codes "3" ++ 9 ∷ codes "pl" ++ 1 ∷
    codes "ay b D4 # corner" ++ 13 ∷ 10 ∷ [])
    ≡ command (Some 3) (codes "play" ∷ codes "b" ∷ codes "D4" ∷ []) ∷ []
unfolding lines line_of line_of_words
comments_and_control_characters = refl

-- too many digits, an id alone, the greatest int, one more, leading zeros
ids : lines (codes "99999999999 name" ++ 10 ∷ codes "5" ++ 10 ∷ codes "2147483647 name" ++ 10 ∷
    codes "2147483648 name" ++ 10 ∷ codes "007 version" ++ 10 ∷ [])
    ≡ command None (codes "99999999999" ∷ codes "name" ∷ []) ∷ command (Some 5) []
    ∷ command (Some 2147483647) (codes "name" ∷ []) ∷ command None (codes "2147483648" ∷ codes "name" ∷ [])
    ∷ command (Some 7) (codes "version" ∷ []) ∷ []
unfolding lines line_of line_of_words
ids = refl

-- 1,000 bytes of words, one more, and one more with the id
the_greatest_line : lines (codes "known_command " ++ replicate 986 120 ++ 10 ∷
    codes "known_command " ++ replicate 987 120 ++ 10 ∷ codes "7 known_command " ++ replicate 985 120 ++ 10 ∷ [])
    ≡ command None (codes "known_command" ∷ replicate 986 120 ∷ []) ∷ TooLong ∷ TooLong ∷ []
unfolding lines line_of line_of_words
the_greatest_line = refl

-- spaces don't count, however many
spaces_without_end : lines (replicate 5000 32 ++ codes "name" ++ replicate 5000 32 ++ 10 ∷ [])
    ≡ command None (codes "name" ∷ []) ∷ []
unfolding lines line_of line_of_words
spaces_without_end = refl

-- an unfinished line is none
an_unfinished_line : lines (codes "play b D1") ≡ []
unfolding lines line_of line_of_words
an_unfinished_line = refl
