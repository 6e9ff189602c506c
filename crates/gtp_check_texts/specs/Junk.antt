-- What is shown of what an engine wrote in place of a reply. (Own.)
use Rattle.std.specs.Prelude.{ℕ, List, take}
use Rattle.std.specs.List.{before_first}
use Rattle.gtp_wire.specs.Replies.{most_shown}
use Rattle.gtp_check_talk.specs.Lines.{is_newline}

-- its first line, without the newline and no more than 80 bytes of it
abbrev pub first_line : List ℕ → List ℕ
first_line wrote = take most_shown (before_first is_newline wrote)
