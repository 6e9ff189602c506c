-- The ends of lines. (Own.)
use Rattle.std.specs.Prelude.{ℕ, ◌==◌, Bool}
use Rattle.go_base.specs.Bytes.{newline}

-- whether a byte is the newline
abbrev pub is_newline : ℕ → Bool
is_newline byte = byte == newline
