-- The calls that write lines.
use Rattle.std.specs.Prelude.{◌≡◌, ◌≢◌, ◌⊎◌, ℕ, ℤ, pos, negsuc, List, length, Option, Some, None, OnOk, OnErr, IfErr}
use Rattle.go_base.specs.Komi.{IsKomi}
use Rattle.go_base.specs.Size.{IsSize}
use Rattle.go_base.specs.declared.colours.Colour.{Colour}
use Rattle.gtp_wire.specs.Commands.{written_command}
use Rattle.gtp_wire.specs.Replies.{IsReplyText, written_reply}
use Rattle.gtp_wire.specs.declared.commands.Command.{Command}
use Rattle.gtp_wire.specs.declared.commands.Command.TheVariants.{Boardsize, Komi, ClearBoard, FixedHandicap}
use Rattle.gtp_wire.specs.declared.commands.Command.TheVariants.{Play, Genmove, Undo, Quit}
use Rattle.vintsaky_calls.specs.Codes.{colour_code, IsCodeOf, NoVertex, CallResult}
use Rattle.vintsaky_calls.specs.Engines.{is_success}
use Rattle.vintsaky_calls.specs.Texts.{Puts}
use Rattle.vintsaky_calls.specs.declared.causes.Cause.{Cause}
use Rattle.vintsaky_calls.specs.declared.causes.Cause.TheVariants as cause

-- ---- ids

-- -1 is no id
abbrev pub id_code : Option ℕ → ℤ
id_code None = negsuc 0
id_code (Some id) = pos id

-- the number represents no id, and not for none either
abbrev pub NoId : ℤ → Type 0
NoId number = (id : Option ℕ) → number ≢ id_code id

-- the number represents an id, or for none
abbrev pub IsId : ℤ → Type 0
IsId number = (id : Option ℕ) × (number ≡ id_code id)

-- ---- commands

-- the number of each command
abbrev pub command_code : Command → ℕ
command_code (Boardsize size) = 1
command_code (Komi komi) = 2
command_code ClearBoard = 3
command_code (FixedHandicap stones) = 4
command_code (Play move) = 5
command_code (Genmove colour) = 6
command_code Undo = 7
command_code Quit = 8

-- the value and the vertex are those of the command, where it has them
abbrev pub HasValues : ℤ → ℕ → Command → Type 0
HasValues value vertex (Boardsize size) = (value ≡ pos size) × IsSize size
HasValues value vertex (Komi komi) = (value ≡ komi) × IsKomi komi
HasValues value vertex ClearBoard = Unit {0}
HasValues value vertex (FixedHandicap stones) = value ≡ pos stones
HasValues value vertex (Play move) = (value ≡ pos (colour_code move.colour)) × IsCodeOf vertex move.vertex
HasValues value vertex (Genmove colour) = value ≡ pos (colour_code colour)
HasValues value vertex Undo = Unit {0}
HasValues value vertex Quit = Unit {0}

-- the numbers represent this command
pub record IsCommandOf (number : ℕ) (value : ℤ) (vertex : ℕ) (command : Command) : Type 0 where
  pub number_is : number ≡ command_code command
  pub values : HasValues value vertex command

-- the line of the command is written, with its length
pub record WritesCommand (id : ℤ) (number : ℕ) (value : ℤ) (vertex : ℕ) (old new : List ℕ) (count : ℕ)
    : Type 0 where
  pub given : Option ℕ
  pub command : Command
  pub id_is : id ≡ id_code given
  pub is : IsCommandOf number value vertex command
  pub puts : Puts (written_command given command) old new
  pub count_is : count ≡ length (written_command given command)

-- the value is no size, no number of stones, no colour
abbrev pub NoSize : ℤ → Type 0
NoSize value = (size : ℕ) → IsSize size → value ≢ pos size

abbrev pub NoStones : ℤ → Type 0
NoStones value = (stones : ℕ) → value ≢ pos stones

abbrev pub NoSide : ℤ → Type 0
NoSide value = (colour : Colour) → value ≢ pos (colour_code colour)

-- the number is that of no command
abbrev pub NoCommand : ℕ → Type 0
NoCommand number = (command : Command) → number ≢ command_code command

-- why numbers represent no command
abbrev pub RefusesValues : ℕ → ℤ → ℕ → Cause → Type 0
RefusesValues number value vertex cause.BadCommand = NoCommand number
RefusesValues number value vertex cause.BadSize = (number ≡ 1) × NoSize value
RefusesValues number value vertex cause.BadKomi = (number ≡ 2) × ¬ IsKomi value
RefusesValues number value vertex cause.BadHandicap = (number ≡ 4) × NoStones value
RefusesValues number value vertex cause.BadColour = ((number ≡ 5) ⊎ (number ≡ 6)) × NoSide value
RefusesValues number value vertex cause.BadVertex =
    (number ≡ 5) × ((colour : Colour) × (value ≡ pos (colour_code colour))) × NoVertex vertex
RefusesValues number value vertex _ = ⊥

-- why the line isn't written: the id is none, or else the numbers represent no command
abbrev pub RefusesCommand : ℤ → ℕ → ℤ → ℕ → Cause → Type 0
RefusesCommand id number value vertex cause.BadId = NoId id
RefusesCommand id number value vertex why = IsId id × RefusesValues number value vertex why

-- The line of a command is written; or nothing is, for a cause.
pub record WriteCommandCall (id : ℤ) (number : ℕ) (value : ℤ) (vertex : ℕ) (old new : List ℕ)
    (count_old count_new : ℕ) (made : CallResult) : Type 0 where
  pub written : OnOk made (WritesCommand id number value vertex old new count_new)
  pub kept : OnErr made ((new ≡ old) × (count_new ≡ count_old))
  pub why : IfErr made (RefusesCommand id number value vertex)

-- ---- replies

-- the reply is written, with its length
pub record WritesReply (id : ℤ) (ok : ℕ) (said old new : List ℕ) (count : ℕ) : Type 0 where
  pub given : Option ℕ
  pub id_is : id ≡ id_code given
  pub text : IsReplyText said
  pub puts : Puts (written_reply (is_success ok) given said) old new
  pub count_is : count ≡ length (written_reply (is_success ok) given said)

-- why it isn't: the id is none, or else no reply may have the text
abbrev pub RefusesReply : ℤ → List ℕ → Cause → Type 0
RefusesReply id said cause.BadId = NoId id
RefusesReply id said cause.BadText = IsId id × ¬ IsReplyText said
RefusesReply id said _ = ⊥

-- A reply is written; or nothing is, for a cause.
pub record WriteReplyCall (id : ℤ) (ok : ℕ) (said old new : List ℕ) (count_old count_new : ℕ) (made : CallResult)
    : Type 0 where
  pub written : OnOk made (WritesReply id ok said old new count_new)
  pub kept : OnErr made ((new ≡ old) × (count_new ≡ count_old))
  pub why : IfErr made (RefusesReply id said)
