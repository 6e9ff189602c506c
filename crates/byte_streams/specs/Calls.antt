-- Single calls of a reader or a writer, and how they came out. (Own.)
use Rattle.std.specs.Prelude.{ℕ, ◌<◌, ◌⊎◌, List, length, take, Result, Ok, Err}
use Rattle.byte_streams.specs.declared.calls.CallFault.{CallFault}

-- One call, with what it returned: a read into room for so many bytes, with the bytes that it gave; a write of a text,
-- with how many bytes of it were taken; or a flush. Where the call failed, its fault is in their place.
pub data Call : Type 0 where
  Reads : ℕ → Result (List ℕ) CallFault → Call
  Writes : List ℕ → Result ℕ CallFault → Call
  Flushes : Result (Unit {0}) CallFault → Call

-- the bytes that a read with this answer gave: the first ones of the buffer
abbrev pub given_bytes : {E : Type 0} → List ℕ → Result ℕ E → Result (List ℕ) E
given_bytes buffer (Ok count) = Ok (take count buffer)
given_bytes buffer (Err fault) = Err fault

-- What the calls of a reader or a writer do: whether a call that came out so led from the one to the other.
abbrev pub Calls : Type 0 → Type 1
Calls S = S → Call → S → Type 0

module _ {S : Type 0} (calls : Calls S) where
  -- one read, into room for so many bytes, failed
  abbrev pub ReadBreaks : ℕ → S → S → Type 0
  ReadBreaks room before after = (fault : CallFault) × calls before (Reads room (Err fault)) after

  -- one write of a text failed, or took no byte of a text that has one
  abbrev pub WriteBreaks : List ℕ → S → S → Type 0
  WriteBreaks text before after =
      ((fault : CallFault) × calls before (Writes text (Err fault)) after)
      ⊎ ((0 < length text) × calls before (Writes text (Ok 0)) after)

  -- one flush failed
  abbrev pub FlushBreaks : S → S → Type 0
  FlushBreaks before after = (fault : CallFault) × calls before (Flushes (Err fault)) after

  module _ {E : Type 0} where
    -- one read into the buffer led from the one to the other, with the same answer except for the fault
    abbrev pub IsOneRead : List ℕ → Result ℕ E → S → S → Type 0
    IsOneRead buffer (Ok count) before after = calls before (Reads (length buffer) (Ok (take count buffer))) after
    IsOneRead buffer (Err _) before after = ReadBreaks (length buffer) before after

    -- one write of the text did, with the same answer except the fault; to take no byte of a text that has one fails
    abbrev pub IsOneWrite : List ℕ → Result ℕ E → S → S → Type 0
    IsOneWrite text (Ok count) before after = calls before (Writes text (Ok count)) after
    IsOneWrite text (Err _) before after = WriteBreaks text before after

    -- one flush did, with the same answer except for the fault
    abbrev pub IsOneFlush : Result (Unit {0}) E → S → S → Type 0
    IsOneFlush (Ok nothing) before after = calls before (Flushes (Ok nothing)) after
    IsOneFlush (Err _) before after = FlushBreaks before after
