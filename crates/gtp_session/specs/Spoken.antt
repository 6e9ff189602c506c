-- What is answered is one reply, as a controller reads it.
use Rattle.std.specs.Prelude.{◌≡◌, ℕ, ◌≤◌, Bool, true, false, List, [], length, take, All, Option, None, IfSome}
use Rattle.arrayvec.specs.ArrayVec.{ArrayVec}
use Rattle.go_base.specs.Int.{most_int}
use Rattle.go_base.specs.Size.{IsSize}
use Rattle.go_board.specs.Game.{GameRecord}
use Rattle.gtp_wire.specs.declared.lines.Line.{Line}
use Rattle.gtp_wire.specs.declared.replies.Reply.{Reply}
use Rattle.gtp_wire.specs.Lines.{lines}
use Rattle.gtp_wire.specs.Replies.{IsReply, IsReplyText, written_reply}
use Rattle.gtp_session.specs.Policy.{May, IsLawful}
use Rattle.go_base.specs.declared.choices.Choice.{Choice}
use Rattle.gtp_session.specs.Commands.{Answer, asked, id_of}
use Rattle.gtp_session.specs.Engine.{Engine, WrittenReply, Replies, StopsAtLine, replies_of}

-- the line's id, where it has one, is an int
abbrev pub HasIntId : Line → Type 0
HasIntId line = IfSome (id_of line) (λ id. id ≤ most_int)

-- where the line asks the policy, the choice is lawful for the colour
abbrev pub IsLawfulAt : GameRecord → Line → Choice → Type 0
IsLawfulAt game line choice = IfSome (asked game line) (λ colour. IsLawful game colour choice)

-- an answer as a reply, with the id that it repeats
abbrev pub reply_of_answer : Option ℕ → Answer → Reply
reply_of_answer id given = record { ok = given.ok; id = id; text = record { items = given.text } }

-- The bytes are one reply, which was written of this status, this id and this text, and the text is one that a reply
-- may have: what a controller reads in them is the same.
pub record IsSpoken (bytes : List ℕ) : Type 0 where
  pub reply : Reply
  pub text : IsReplyText reply.text.items
  pub written : bytes ≡ written_reply reply.ok reply.id reply.text.items
  pub read : IsReply bytes reply

-- An engine is given `input`. It uses the first `used` bytes, and gives this reply to the line that they end, or none.
pub record IsFed {P : Type 0} (may : May P) (old : Engine P) (input : List ℕ) (used : ℕ) (new : Engine P)
    (reply : Option (ArrayVec ℕ)) (genmove : Bool) : Type 0 where
  pub within : used ≤ length input
  -- The bytes that are used are read and answered, by a reply or by none, and `genmove` says whether that answers a
  -- `genmove` that succeeded.
  pub replies : Replies may old (take used input) new (replies_of reply genmove)
  pub no_genmove : reply ≡ None → genmove ≡ false
  -- With a reply, the last byte used is the newline that ends the line that it answers.
  pub line : IfSome reply (λ _. StopsAtLine may old (take used input))
  -- The reply is one reply: a status, an id or none, and a text that a reply may have.
  pub spoken : IfSome reply (λ text. IsSpoken text.items)
  -- Without one, all are used.
  pub all : reply ≡ None → old.ended ≡ false → used ≡ length input
  pub over : old.ended ≡ true → (used ≡ 0) × (reply ≡ None)
  -- No whole line is held back.
  pub unread : lines new.rest ≡ []

-- ---- laws

-- Each of the replies of an engine is one reply, whatever it is given.
abbrev pub EachReplyIsOne : {P : Type 0} → May P → Type 0
EachReplyIsOne {P} may = (old new : Engine P) (text : List ℕ) (replies : List WrittenReply)
    → IsSize old.game.size → Replies may old text new replies → All (λ reply. IsSpoken reply.text) replies
