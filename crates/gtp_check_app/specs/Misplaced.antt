-- Options after the engine's command, and the line in which they are reported. (Own.)
use Rattle.std.specs.Prelude.{ℕ, ◌+◌, ◌-◌, ◌==◌, ◌||◌, nat_lt, Bool, false}
use Rattle.std.specs.Prelude.{if◌then◌else◌, List, [], ◌∷◌, codes, drop, get_or, length, map, take}
use Rattle.std.specs.List.{concat, list_any}
use Rattle.std.specs.Str.{bytes_eq}
use Rattle.clap.specs.Words.{Text}
use Rattle.byte_streams.specs.declared.calls.WriteOnce.{Ghosts}
use Rattle.byte_streams.specs.Writing.{WritesOrBreaks}
use Rattle.cli.specs.Status.{own_failure, usage_failure}
use Rattle.cli.specs.declared.failure.Failure.TheVariants.{OutOfMemory}
use Rattle.gtp_check_app.specs.Status.{ReportsFailure}
use Rattle.gtp_check_app.specs.declared.misplaced.TheConstants.{VALUED}

-- ---- where the command stands

-- the next word is the value of this one, which is an option of the program
unfoldable pub takes_value : Text → Bool
takes_value word = list_any (λ option. bytes_eq option.now word) VALUED

-- the word begins with a dash
abbrev pub is_option : Text → Bool
is_option [] = false
is_option (first ∷ rest) = first == 45

-- it is an option, or the value of the word before
abbrev pub is_before_command : Text → Text → Bool
is_before_command last word = is_option word || takes_value last

-- how many of these words stand before the engine's command, where this one is before them
unfoldable pub before_command : Text → List Text → ℕ
before_command last [] = 0
before_command last (word ∷ words) =
    if is_before_command last word then before_command word words + 1 else 0

-- the place of the engine's command among the words, of which the first is the program's name
abbrev pub command_at : List Text → ℕ
command_at words = before_command (get_or words 0 []) (drop 1 words) + 1

-- words follow on the engine's command
abbrev pub has_words_after : List Text → Bool
has_words_after words = nat_lt (command_at words) (length words - 1)

-- ---- the line

-- these words, each after a space
abbrev pub spaced : List Text → List ℕ
spaced words = concat (map (λ word. 32 ∷ word) words)

-- the line on options after the engine's command, with the words as they should stand
abbrev pub misplaced_line : List Text → List ℕ
misplaced_line words =
    let at = command_at words in
    concat (
    codes "gtp_check: options stand before the engine's command: gtp_check"
    ∷ spaced (take (at - 1) (drop 1 words)) ∷ spaced (drop (at + 1) words)
    ∷ codes " '" ∷ get_or words at [] ∷ codes "'\n" ∷ [])

-- it was reported, whole unless the stream broke at it; or memory was refused for the line, which is reported
pub data Reports {E : Type 0} (errs : Ghosts E) (words : List Text) (before : E) : ℕ → E → Type 0 where
  reported : {after : E} → WritesOrBreaks errs (misplaced_line words) before after
      → Reports errs words before usage_failure after
  refused : {after : E} → ReportsFailure errs OutOfMemory before after
      → Reports errs words before own_failure after
