-- The conversation of a complaint, in lines as they were sent. (Own.)
use Rattle.std.specs.Prelude.{ℕ, zero, suc, List, drop, length, slice_get, take}
use Rattle.std.specs.Io.BufRead.{strip_last}
use Rattle.std.specs.Option.{option_map_or}
use Rattle.go_base.specs.Bytes.{newline}
use Rattle.gtp_check_texts.specs.declared.complaint.Complaint.{Complaint}

-- where the line of the command with this number, counted from 0, ends in all that was sent
abbrev pub line_end : Complaint → ℕ → ℕ
line_end complaint number =
    option_map_or (λ said. said.end) (slice_get complaint.talk.now number) (length complaint.sent.now)

-- where it begins: where the line before it ends
abbrev pub line_start : Complaint → ℕ → ℕ
line_start complaint zero = 0
line_start complaint (suc before) = line_end complaint before

-- the lines that were sent, up to that of this command
abbrev pub lines_to : Complaint → ℕ → List ℕ
lines_to complaint number = take (line_end complaint number) complaint.sent.now

-- its line as it was sent
abbrev pub line_of : Complaint → ℕ → List ℕ
line_of complaint number = drop (line_start complaint number) (lines_to complaint number)

-- ---- round the faulty command: the first one that wasn't answered before

-- its line
abbrev pub asked_line : Complaint → List ℕ
asked_line complaint = line_of complaint complaint.answered

-- the same without its newline
abbrev pub faulty_line : Complaint → List ℕ
faulty_line complaint = strip_last newline (asked_line complaint)

-- the lines that were sent after it: those that still waited aren't among them
abbrev pub after_lines : Complaint → List ℕ
after_lines complaint = drop (line_end complaint complaint.answered) (take complaint.delivered complaint.sent.now)
