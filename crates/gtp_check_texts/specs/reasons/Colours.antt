-- Whether it may be the colour in full that decides: the engine took none like it before, in the same conversation. (Own.)
use Rattle.std.specs.Prelude.{ℕ, Bool, true, false, not, ◌&&◌, List, [], codes}
use Rattle.std.specs.List.{list_any}
use Rattle.go_board.specs.Taken.{same_colour}
use Rattle.gtp_wire.specs.declared.commands.Command.TheVariants.{Genmove, Play}
use Rattle.gtp_check_judge.specs.declared.asking.CheckCommand.{CheckCommand}
use Rattle.gtp_check_judge.specs.declared.asking.CheckCommand.TheVariants.{GenmoveInFull, Match, PlayInFull}
use Rattle.gtp_check_judge.specs.declared.judging.Kind.{Kind}
use Rattle.gtp_check_judge.specs.declared.judging.Kind.TheVariants as kind
use Rattle.gtp_check_talk.specs.declared.said.Said.{Said}
use Rattle.gtp_check_texts.specs.Texts.{text_if}

-- whether both are a `play`, or both a `genmove`, with the same colour written in full
abbrev pub is_spelled_alike : CheckCommand → CheckCommand → Bool
is_spelled_alike (PlayInFull one) (PlayInFull other) = same_colour one.colour other.colour
is_spelled_alike (GenmoveInFull one) (GenmoveInFull other) = same_colour one other
is_spelled_alike _ _ = false

-- Whether the right answer to this one shows that the engine reads the colour of the command as it is written: it is
-- spelled alike, and a right engine takes it. (One that is refused may be refused for its colour.)
abbrev pub shows_spelling : CheckCommand → Said → Bool
shows_spelling command said = is_spelled_alike command said.command && not said.is_illegal

-- what is to be tried
abbrev pub spelling_text : List ℕ
spelling_text = codes "# if it takes the same with b or w, this is the cause: a colour may be written in full, black or white\n"

-- The command for which it is said what is right: the same with the colour's letter, where the colour is written in full.
abbrev pub with_letter : CheckCommand → CheckCommand
with_letter (PlayInFull move) = Match (Play move)
with_letter (GenmoveInFull colour) = Match (Genmove colour)
with_letter command = command

-- whether a `play` or a `genmove` has its colour written in full
abbrev pub is_in_full : CheckCommand → Bool
is_in_full (PlayInFull move) = true
is_in_full (GenmoveInFull colour) = true
is_in_full _ = false

-- Whether the colour in full may be the cause of a refusal after these right answers: none of them shows that the engine
-- reads it. (Only the same with the colour's letter, in the same place, would tell.)
abbrev pub may_be_spelling : List Said → CheckCommand → Bool
may_be_spelling before command = is_in_full command && not (list_any (shows_spelling command) before)

-- that it may be, of a command that was refused after these
abbrev pub spelling_line : List Said → CheckCommand → Kind → List ℕ
spelling_line before command kind.Refused = text_if (may_be_spelling before command) spelling_text
spelling_line before command kind.NoMove = text_if (may_be_spelling before command) spelling_text
spelling_line before command other = []
