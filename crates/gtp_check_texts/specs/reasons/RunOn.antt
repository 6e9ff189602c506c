-- An answer that runs on into the next one, where it doesn't end with an empty line. (Own.)
use Rattle.std.specs.Prelude.{ℕ, ◌+◌, ◌-◌, ◌==◌, ◌&&◌, ◌||◌, nat_le, nat_lt, Bool, false, List, [], ◌∷◌, codes}
use Rattle.std.specs.Prelude.{drop}
use Rattle.std.specs.Prelude.{Option, None, Some}
use Rattle.std.specs.Char.{is_ascii_digit}
use Rattle.std.specs.List.{position_or_len}
use Rattle.go_base.specs.Int.{int_of}
use Rattle.go_base.specs.Text.{front_while}
use Rattle.gtp_check_judge.specs.declared.judging.Kind.TheVariants.{WrongId}
use Rattle.gtp_check_talk.specs.declared.fault.Fault.{Fault}
use Rattle.gtp_check_talk.specs.declared.fault.Fault.TheVariants.{Wrote}
use Rattle.gtp_check_talk.specs.Lines.{is_newline}
use Rattle.gtp_check_texts.specs.Texts.{text_if}

-- whether a byte begins a reply
abbrev pub is_mark : ℕ → Bool
is_mark byte = byte == 61 || byte == 63

-- whether a text begins with a digit, as one of an id
abbrev pub begins_id : List ℕ → Bool
begins_id [] = false
begins_id (digit ∷ more) = is_ascii_digit digit

-- whether a text begins as a reply with an id does: with = or ?, and a digit
abbrev pub begins_reply : List ℕ → Bool
begins_reply [] = false
begins_reply (mark ∷ more) = is_mark mark && begins_id more

-- whether the line after the first one begins so
abbrev pub has_later_reply : List ℕ → Bool
has_later_reply wrote = begins_reply (drop (position_or_len is_newline wrote + 1) wrote)

-- the id of the reply with which a text begins, if it has one
abbrev pub id_that_came : List ℕ → Option ℕ
id_that_came wrote = int_of (front_while is_ascii_digit (drop 1 wrote))

-- whether it is the id of a later command than the one after so many answers, of so many that were asked
abbrev pub is_later : ℕ → ℕ → Option ℕ → Bool
is_later answered asked None = false
is_later answered asked (Some id) = nat_lt answered (id - 1) && nat_le id asked

-- The reply that came is one to a later command.
abbrev pub has_later_id : Fault → ℕ → ℕ → List ℕ → Bool
has_later_id (Wrote WrongId) answered asked wrote = is_later answered asked (id_that_came wrote)
has_later_id _ answered asked wrote = false

-- After so many answers to so many commands this was wrong, and that was written. It may be that an answer ran on: the
-- reply that came is one to a later command, or the second line of what was written begins as a reply does.
abbrev pub runs_on : Fault → ℕ → ℕ → List ℕ → Bool
runs_on fault answered asked wrote = has_later_id fault answered asked wrote || has_later_reply wrote

-- that it may be so
abbrev pub run_on_line : Bool → List ℕ
run_on_line is_so =
    text_if is_so
    (codes "# an answer may have run on into the next: does each end with an empty line, a failure too?\n")
