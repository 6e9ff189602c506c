-- How a process and what it wrote are shown: its bytes, why it was not started, which pipe cut it off, how it ended.
-- (Own.)
use Rattle.std.specs.Prelude.{ℕ, ◌+◌, ◌/◌, ◌%◌, ◌==◌, ◌&&◌, nat_le, if◌then◌else◌, List, [], ◌∷◌, ◌++◌, codes}
use Rattle.std.specs.Prelude.{map, take}
use Rattle.std.specs.Fmt.{decimal}
use Rattle.std.specs.List.{concat}
use Rattle.gtp_wire.specs.Replies.{most_shown}
use Rattle.gtp_process.specs.declared.causes.PipeCause.{PipeCause}
use Rattle.gtp_process.specs.declared.causes.PipeCause.TheVariants.{Writing, Reading, Ended}
use Rattle.gtp_process.specs.declared.causes.Unstarted.{Unstarted}
use Rattle.gtp_process.specs.declared.starter.Ending.{Ending}
use Rattle.gtp_process.specs.declared.starter.Ending.TheVariants.{Unknown, Status, Signal, Running, Late}
use Rattle.gtp_process.specs.declared.starter.StartReason.{StartReason}
use Rattle.gtp_process.specs.declared.starter.StartReason.TheVariants as reason
use Rattle.gtp_process.specs.Starts.{Text, first_word}

-- ---- bytes

-- a digit of a byte in base 16
abbrev pub hex_digit : ℕ → ℕ
hex_digit n = if nat_le 10 n then n + 55 else n + 48

-- A byte as it is shown: from the space to `~` as it is, a quote and a backslash after a backslash; a newline, a
-- carriage return and a tab by their letters; any other by its number.
abbrev pub shown_byte : ℕ → List ℕ
shown_byte b =
    if b == 34 then codes "\\\""
    else (if b == 92 then codes "\\\\"
    else (if b == 10 then codes "\\n"
    else (if b == 13 then codes "\\r"
    else (if b == 9 then codes "\\t"
    else (if nat_le 32 b && nat_le b 126 then b ∷ []
    else codes "\\x" ++ hex_digit (b / 16) ∷ hex_digit (b % 16) ∷ [])))))

-- bytes as they are shown
abbrev pub shown_bytes : List ℕ → List ℕ
shown_bytes bytes = concat (map shown_byte bytes)

-- bytes as they are shown, in quotes
abbrev pub quoted : List ℕ → List ℕ
quoted bytes = concat (codes "\"" ∷ shown_bytes bytes ∷ codes "\"" ∷ [])

-- ---- causes

-- why no process was started
abbrev pub reason_text : StartReason → List ℕ
reason_text reason.NotFound = codes "no such file"
reason_text reason.NotAllowed = codes "not allowed"
reason_text reason.NotADirectory = codes "a part of its path is no directory"
reason_text reason.Busy = codes "the file is open for writing"
reason_text reason.TooLong = codes "too long"
reason_text reason.NoFiles = codes "too many open files"
reason_text reason.NoProcesses = codes "too many processes"
reason_text reason.NoProgram = codes "not a program that the system can run"
reason_text reason.Other = codes "the system refused it"

-- which pipe cut a process off, and how
abbrev pub pipe_text : PipeCause → List ℕ
pipe_text Writing = codes "writing failed"
pipe_text Reading = codes "reading failed"
pipe_text Ended = codes "its output ended"

-- the word after a number of seconds
abbrev pub unit_text : ℕ → List ℕ
unit_text seconds = if seconds == 1 then codes " second" else codes " seconds"

-- that it didn't answer within so many seconds
abbrev pub late_text : ℕ → List ℕ
late_text seconds = codes "no answer in " ++ (decimal seconds ++ unit_text seconds)

-- how its process ended, where that is known
abbrev pub ending_text : Ending → List ℕ
ending_text Unknown = []
ending_text (Status number) = codes ", exit status " ++ decimal number
ending_text (Signal number) = codes ", signal " ++ decimal number
ending_text Running = codes ", but it ran on"
ending_text (Late seconds) = codes ", " ++ late_text seconds

-- ---- a program that was not started

-- The program of this command line was not started for this reason. It is named by the beginning of the first word.
abbrev pub unstarted : List Text → StartReason → Unstarted
unstarted line reason = record {
  reason = reason;
  program = record { items = take most_shown (first_word line) };
}

-- why it was not started, and the program that was looked for
abbrev pub unstarted_text : Unstarted → List ℕ
unstarted_text start =
    codes "not started: " ++ (reason_text start.reason ++ (codes ": " ++ quoted start.program.items))
