-- The calls of a reader of replies.
use Rattle.std.specs.Prelude.{◌≡◌, ◌≢◌, ℕ, false, List, [], Option, Some, None, Result, Ok, Err, IfSome, IfOk}
use Rattle.std.specs.Prelude.{OnOk, OnErr, IfErr}
use Rattle.gtp_wire.specs.Replies.{ReadsFirst}
use Rattle.gtp_wire.specs.declared.replies.Reply.{Reply}
use Rattle.gtp_wire.specs.declared.replies.ReplyFault.{ReplyFault}
use Rattle.gtp_wire.specs.declared.replies.ReplyFault.TheVariants as fault
use Rattle.vintsaky_calls.specs.Codes.{CallResult}
use Rattle.vintsaky_calls.specs.declared.causes.Cause.TheVariants as cause
use Rattle.vintsaky_calls.specs.declared.replies.Replies.{Replies}

-- a reader that was given nothing
abbrev pub fresh_replies : Replies
fresh_replies = record { reader = []; reply = record { ok = false; id = None; text = record { items = [] } } }

-- the number of what was read: 0 where that is nothing yet
abbrev pub read_code : Option (Result Reply ReplyFault) → ℕ
read_code None = 0
read_code (Some (Ok reply)) = 1
read_code (Some (Err fault.NoStatus)) = 2
read_code (Some (Err fault.Overlong)) = 3

-- a chunk is read, and a reply is kept
pub record ReadsReply (old input : List ℕ) (used number : ℕ) (reply : Reply) (new : List ℕ) : Type 0 where
  pub got : Option (Result Reply ReplyFault)
  pub number_is : number ≡ read_code got
  pub reads : ReadsFirst old input used got new
  pub kept : IfSome got (λ answer. IfOk answer (λ read. reply ≡ read))

-- A chunk is read, with the number of what was; where that is no reply, the reply before stays.
pub record FeedCall (input : List ℕ) (old new : Replies) (used number : ℕ) : Type 0 where
  pub reads : ReadsReply old.reader input used number new.reply new.reader
  pub kept : number ≢ 1 → new.reply ≡ old.reply

-- The id of the reply that was read last is found; or it has none, and nothing is written.
pub record IdCall (read : Reply) (old new : ℕ) (made : CallResult) : Type 0 where
  pub found : OnOk made (read.id ≡ Some new)
  pub kept : OnErr made (new ≡ old)
  pub why : IfErr made (λ why. (why ≡ cause.NoId) × (read.id ≡ None))
