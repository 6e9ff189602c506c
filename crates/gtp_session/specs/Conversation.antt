-- What an engine, a reader and a writer did together.
use Rattle.std.specs.Prelude.{◌≡◌, ℕ, ◌<◌, ◌≤◌, false, List, [], ◌∷◌, ◌++◌, length, Option, Some}
use Rattle.std.specs.Io.KnownBytes.{Consumes, Appends}
use Rattle.go_base.specs.Bytes.{newline}
use Rattle.gtp_session.specs.Policy.{May}
use Rattle.gtp_session.specs.Engine.{Engine, WrittenReply, Replies, output_of}

-- The engine read this input and the writer took its replies, each whole.
pub record Delivered {P : Type 0} (may : May P) (old : Engine P) (input : List ℕ) (new : Engine P)
    (held holds : Option (List ℕ)) : Type 0 where
  pub replies : List WrittenReply
  pub engine : Replies may old input new replies
  pub taken : Appends held holds (output_of replies)

-- The engine read the input up to and with the LF of a line. The writer took the replies before that line's whole,
-- and the beginning of that line's.
pub record Breaks {P : Type 0} (may : May P) (old : Engine P) (input : List ℕ) (new : Engine P)
    (held holds : Option (List ℕ)) : Type 0 where
  pub front : List ℕ
  pub unread : List ℕ
  pub upto : input ≡ front ++ newline ∷ unread
  pub between : Engine P
  pub replies : List WrittenReply
  -- nothing is answered between those replies and the LF
  pub before : Replies may old front between replies
  pub last : WrittenReply
  pub engine : Replies may old (front ++ newline ∷ []) new (replies ++ last ∷ [])
  pub part : List ℕ
  pub left : List ℕ
  pub cut : last.text ≡ part ++ left
  pub taken : Appends held holds (output_of replies ++ part)

-- what the reader gave was read and answered
pub record Conversation {P : Type 0} (may : May P) (old new : Engine P)
    (gives gives_now held holds : Option (List ℕ)) : Type 0 where
  pub input : List ℕ
  pub given : Consumes gives gives_now input
  pub delivered : Delivered may old input new held holds

-- The last read gave the LF of a line: as many bytes as it gave reach back over those that come after the LF, which
-- are not read as lines any more. So nothing was read after the line was executed.
abbrev pub GaveLine : Option ℕ → List ℕ → Type 0
GaveLine last unread = (count : ℕ) × (last ≡ Some count) × (length unread < count)

-- What the reader gave was read and answered up to a fault of the writer. Nothing was read after that.
pub record BrokenConversation {P : Type 0} (may : May P) (old new : Engine P)
    (gives gives_now : Option (List ℕ)) (last : Option ℕ) (held holds : Option (List ℕ)) : Type 0 where
  pub input : List ℕ
  pub given : Consumes gives gives_now input
  pub breaks : Breaks may old input new held holds
  pub in_last : GaveLine last breaks.unread

-- When the last read came, what was read before had not ended the session. (So it came before a `quit`.)
pub record ReadWhileOpen {P : Type 0} (may : May P) (old : Engine P)
    (gives gives_now : Option (List ℕ)) (last : Option ℕ) : Type 0 where
  pub before : List ℕ
  pub piece : List ℕ
  pub given : Consumes gives gives_now (before ++ piece)
  pub last_is : last ≡ Some (length piece)
  pub between : Engine P
  pub replies : List WrittenReply
  pub engine : Replies may old before between replies
  pub is_open : between.ended ≡ false

-- the reader gave at least as many bytes
pub record GivesAtLeast (gives gives_now : Option (List ℕ)) (least : ℕ) : Type 0 where
  pub input : List ℕ
  pub given : Consumes gives gives_now input
  pub enough : least ≤ length input
