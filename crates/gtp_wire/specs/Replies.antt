-- The replies in the bytes from an engine. (The standard, preprocessing and response structure.)
use Rattle.std.specs.Prelude.{◌≡◌, ℕ, ◌+◌, ◌<◌, ◌≤◌, Bool, true, false, ◌&&◌, ◌||◌, ◌==◌, nat_le, if◌then◌else◌}
use Rattle.std.specs.Prelude.{List, [], ◌∷◌, ◌++◌, length, take, filter, map, reverse}
use Rattle.std.specs.Prelude.{Option, Some, None, is_some, IfSome, IfNone, Result, Ok, Err}
use Rattle.std.specs.Char.{is_ascii_digit}
use Rattle.std.specs.List.{list_all}
use Rattle.go_base.specs.Bytes.{newline, space}
use Rattle.go_base.specs.Text.{front_while, skip_while}
use Rattle.go_base.specs.Int.{int_of, written_int}
use Rattle.gtp_wire.specs.declared.replies.Reply.{Reply}
use Rattle.gtp_wire.specs.declared.replies.ReplyFault.{ReplyFault}
use Rattle.gtp_wire.specs.declared.replies.ReplyFault.TheVariants.{Overlong, NoStatus}
use Rattle.gtp_wire.specs.Bytes.{is_kept, space_for_tab, is_newline, is_space, is_blank}
use Rattle.gtp_wire.specs.Bytes.{equals_sign, question_mark, tilde}

-- the most raw bytes of a reply, what is removed and skipped included (own)
abbrev pub most_reply_bytes : ℕ
most_reply_bytes = 8192

-- the most bytes of the text of a reply that is written (own)
abbrev pub most_text_bytes : ℕ
most_text_bytes = 2000

-- the most bytes of a reply that is written: room for the text, the status, the id, a space and two newlines (own)
abbrev pub most_written_bytes : ℕ
most_written_bytes = 2048

-- the most bytes of what an engine wrote that are shown (own)
abbrev pub most_shown : ℕ
most_shown = 80

-- What the controller does before it parses: the control characters but HT and LF are removed, and HT becomes a space.
-- It knows no comments.
abbrev pub prepared : List ℕ → List ℕ
prepared raw = map space_for_tab (filter is_kept raw)

-- the prepared bytes without the spaces and newlines before the reply
unfoldable pub past_blanks : List ℕ → List ℕ
past_blanks raw = skip_while is_blank (prepared raw)

-- `=` for success, or `?` for failure
abbrev pub is_status : ℕ → Bool
is_status b = b == equals_sign || b == question_mark

-- whether two newlines come in a row
abbrev pub has_two_newlines : List ℕ → Bool
has_two_newlines [] = false
has_two_newlines (x ∷ []) = false
has_two_newlines (x ∷ y ∷ more) = (is_newline x && is_newline y) || has_two_newlines (y ∷ more)

-- without the spaces at the front and at the end
abbrev pub trim : List ℕ → List ℕ
trim text = reverse (skip_while is_space (reverse (skip_while is_space text)))

-- What a status and a body say: the run of digits at the body's front is the id where it is an int, and the rest is the
-- text; where it is none, there is no id and the whole body is the text. Single newlines stay in the text, and the
-- spaces at its ends are dropped.
abbrev pub reply_of : ℕ → List ℕ → Reply
reply_of status body =
    let id = int_of (front_while is_ascii_digit body) in
    let text = if is_some id then skip_while is_ascii_digit body else body in
    record { ok = status == equals_sign; id = id; text = record { items = trim text } }

-- The raw bytes are one reply: at most 8,192, the last of them a newline; and prepared, they are spaces and newlines, a
-- status, a body, and two newlines, the first in a row after the status.
pub record IsWhole (raw : List ℕ) : Type 0 where
  pub fits : length raw ≤ most_reply_bytes
  pub front : List ℕ
  pub last : raw ≡ front ++ newline ∷ []
  pub status : ℕ
  pub body : List ℕ
  pub shape : past_blanks raw ≡ status ∷ (body ++ newline ∷ newline ∷ [])
  pub known : is_status status ≡ true
  -- in the body and the first newline after it no two newlines come in a row
  pub first_end : has_two_newlines (body ++ newline ∷ []) ≡ false

-- the raw bytes are one reply, of this value
pub record IsReply (raw : List ℕ) (value : Reply) : Type 0 where
  pub whole : IsWhole raw
  pub value_is : value ≡ reply_of whole.status whole.body

-- The raw bytes, at most 8,192, begin no reply: what is left of them begins with another byte than a status.
pub record IsNoStatus (raw : List ℕ) : Type 0 where
  pub fits : length raw ≤ most_reply_bytes
  pub byte : ℕ
  pub more : List ℕ
  pub shape : past_blanks raw ≡ byte ∷ more
  pub other : is_status byte ≡ false

-- The answer that the raw bytes are, where no front of them is one: a reply; that they begin none; or, with byte 8,193,
-- whatever it is, that they are too many (own).
abbrev pub GivesAnswer : List ℕ → Result Reply ReplyFault → Type 0
GivesAnswer raw (Ok value) = IsReply raw value
GivesAnswer raw (Err NoStatus) = IsNoStatus raw
GivesAnswer raw (Err Overlong) = length raw ≡ most_reply_bytes + 1

-- neither the text nor a front of it is a reply or a fault
abbrev pub GivesNoAnswer : List ℕ → Type 0
GivesNoAnswer text = (n : ℕ) (answer : Result Reply ReplyFault) → n ≤ length text → GivesAnswer (take n text) answer → ⊥

-- What comes first in the text, and how many bytes of it give it: a reply, and its length; or a fault, and the
-- bytes up to and with the one that shows it.
pub record IsFirst (text : List ℕ) (count : ℕ) (answer : Result Reply ReplyFault) : Type 0 where
  pub inside : count ≤ length text
  pub is_given : GivesAnswer (take count text) answer
  pub before : (n : ℕ) (other : Result Reply ReplyFault) → n < count → GivesAnswer (take n text) other → ⊥

-- What stays of the text after this answer: a reply is taken off, and the rest begins again; else all of it stays.
abbrev pub rest_after : Option (Result Reply ReplyFault) → List ℕ → List ℕ
rest_after None text = text
rest_after (Some (Ok value)) text = []
rest_after (Some (Err fault)) text = text

-- What reading a chunk after what is held gives: the answer that comes first in both together, at the last byte of what
-- was held and what is used. Where there is none, neither reply nor fault has come yet, and all of the chunk is used.
pub record ReadsFirst (old input : List ℕ) (used : ℕ) (got : Option (Result Reply ReplyFault)) (new : List ℕ)
    : Type 0 where
  pub first : IfSome got (λ answer. IsFirst (old ++ input) (length old + used) answer)
  pub nothing : IfNone got (GivesNoAnswer (old ++ input))
  pub all : IfNone got (used ≡ length input)
  pub within : used ≤ length input
  -- a reply is taken off, and all else is kept as it came
  pub rest : new ≡ rest_after got (old ++ take used input)

-- the answer, with the reply where it is one
abbrev pub with_reply : Reply → Result (Unit {0}) ReplyFault → Result Reply ReplyFault
with_reply reply (Ok done) = Ok reply
with_reply reply (Err fault) = Err fault

-- the id as it is written: nothing where there is none
abbrev pub written_id : Option ℕ → List ℕ
written_id None = []
written_id (Some n) = written_int n

-- a space and the text, where there is one
abbrev pub spaced : List ℕ → List ℕ
spaced [] = []
spaced (b ∷ bs) = space ∷ b ∷ bs

-- the bytes of a reply that is written: the status, the id, a space and the text, and two newlines
abbrev pub written_reply : Bool → Option ℕ → List ℕ → List ℕ
written_reply ok id text =
    (if ok then equals_sign else question_mark) ∷ (written_id id ++ (spaced text ++ newline ∷ newline ∷ []))

-- a byte of a text that is written: a newline, or from the space to `~`
abbrev pub is_shown : ℕ → Bool
is_shown b = is_newline b || (nat_le space b && nat_le b tilde)

-- whether a space or a newline is in front
abbrev pub begins_blank : List ℕ → Bool
begins_blank [] = false
begins_blank (b ∷ bs) = is_blank b

-- A text that may be written: at most 2,000 bytes, each a newline or from the space to `~`, no two newlines in a row,
-- and neither a space nor a newline at its front or at its end.
pub record IsReplyText (text : List ℕ) : Type 0 where
  pub fits : length text ≤ most_text_bytes
  pub shown : list_all is_shown text ≡ true
  pub single : has_two_newlines text ≡ false
  pub front : begins_blank text ≡ false
  pub end : begins_blank (reverse text) ≡ false
