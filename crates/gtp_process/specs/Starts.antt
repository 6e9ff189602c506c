-- The starts of programs that are asked for.
use Rattle.std.specs.Prelude.{◌≡◌, ⊤, ℕ, ℤ, pos, negsuc, ◌==◌, ◌||◌, if◌then◌else◌, List, [], ◌∷◌, ◌++◌, Option}
use Rattle.std.specs.Prelude.{None, Some, Result, map, unwrap_or}
use Rattle.std.specs.Borrow.{Bor}
use Rattle.std.specs.declared.io.ErrorKind.{ErrorKind}
use Rattle.std.specs.declared.io.ErrorKind.TheVariants.{NotFound, PermissionDenied, NotADirectory, ExecutableFileBusy}
use Rattle.std.specs.declared.io.ErrorKind.TheVariants.{ArgumentListTooLong, InvalidFilename, OutOfMemory}
use Rattle.std.specs.declared.io.ErrorKind.TheVariants.{WouldBlock, Uncategorized}
use Rattle.gtp_process.specs.declared.starter.StartFault.{StartFault}
use Rattle.gtp_process.specs.declared.starter.StartFault.TheVariants as start_fault
use Rattle.gtp_process.specs.declared.starter.StartReason.{StartReason}
use Rattle.gtp_process.specs.declared.starter.StartReason.TheVariants as reason

-- the bytes of a text
abbrev pub Text : Type 0
Text = List ℕ

-- a command line: the name of a program, and its arguments
abbrev pub program_line : List (Bor Text) → List Text
program_line words = map (λ word. word.now) words

-- the first word of a command line, which names the program; no byte where it has no word
abbrev pub first_word : List Text → Text
first_word [] = []
first_word (word ∷ words) = word

-- ---- why a program is not started

-- The limit of files that the system has come to, by the number of its error: 23 or 24 where it opens no file more, on
-- Linux, the BSDs and macOS.
abbrev pub limit_at : ℕ → Option StartReason
limit_at number = if number == 23 || number == 24 then Some reason.NoFiles else None

abbrev pub limit_of : Option ℤ → Option StartReason
limit_of None = None
limit_of (Some (pos number)) = limit_at number
limit_of (Some (negsuc number)) = None

-- Why the system doesn't start a program, by the kind of its error. Where it starts no process more, that is
-- `WouldBlock`, on every system.
abbrev pub kind_reason : ErrorKind → StartReason
kind_reason NotFound = reason.NotFound
kind_reason PermissionDenied = reason.NotAllowed
kind_reason NotADirectory = reason.NotADirectory
kind_reason ExecutableFileBusy = reason.Busy
kind_reason ArgumentListTooLong = reason.TooLong
kind_reason InvalidFilename = reason.TooLong
kind_reason WouldBlock = reason.NoProcesses
kind_reason Uncategorized = reason.NoProgram
kind_reason _ = reason.Other

-- why it doesn't, by the number of its error, where it has one that is of a limit of files, and else by its kind
abbrev pub reason_of : Option ℤ → ErrorKind → StartReason
reason_of number kind = unwrap_or (limit_of number) (kind_reason kind)

-- why no process was started, by the number and the kind of the error: want of memory, or else a reason
abbrev pub start_fault_of : Option ℤ → ErrorKind → StartFault
start_fault_of number OutOfMemory = start_fault.OutOfMemory
start_fault_of number kind = start_fault.NotStarted (reason_of number kind)

-- ---- attempts

-- an attempt to start a program: its command line, and the answer, the process that was started or why none was
pub record Attempt (P : Type 0) : Type 0 where
  pub line : List Text
  pub answer : Result P StartFault

-- the attempts that were made, where they are known
abbrev pub Attempts : Type 0 → Type 0
Attempts P = Option (List (Attempt P))

-- One attempt more was made, to start this command line, with this answer. Where the attempts are known, they stay so.
abbrev pub Tries : {P : Type 0} → Attempts P → Attempts P → List Text → Result P StartFault → Type 0
Tries None asked line answer = ⊤
Tries (Some before) None line answer = ⊥
Tries (Some before) (Some after) line answer = after ≡ before ++ (record { line = line; answer = answer } ∷ [])
