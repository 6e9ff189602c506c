-- What the code says of engines that read bytes of their lists, and of the room that the lists have.
use Rattle.std.specs.Prelude.{◌≡◌, ℕ, ◌+◌, ◌*◌, ◌≤◌, Bool, true, false, List, [], ◌++◌, length, Some}
use Rattle.go_base.specs.declared.colours.Colour.{Colour}
use Rattle.gtp_wire.specs.Commands.{most_command_bytes}
use Rattle.gtp_wire.specs.Lines.{lines}
use Rattle.gtp_wire.specs.Replies.{most_written_bytes}
use Rattle.gtp_session.specs.Policy.{May}
use Rattle.gtp_session.specs.Engine.{Engine, Engages}
use Rattle.gtp_session.specs.Steps.{StepsState}
use Rattle.gtp_match.specs.declared.controller.Controller.{Controller}
use Rattle.gtp_match.specs.declared.verdicts.Action.TheVariants.{Send}
use Rattle.gtp_match.specs.Next.{next}
use Rattle.gtp_world.specs.Kinds.{Call, Calls}
use Rattle.gtp_world.specs.Lane.{LaneOf, Does}
use Rattle.gtp_world.specs.World.{most_to_engine, most_to_controller}

-- ---- what is written

-- this comes of an engine, and what it writes comes after what is there
pub record ReadsInto {E : Type 0} (does : Does E) (old : E) (coming before : List ℕ) (new : E) (left after : List ℕ)
    : Type 0 where
  pub written : List ℕ
  pub done : does old coming new left written
  pub appended : after ≡ before ++ written

-- a session reads these bytes, and what it writes comes after what is there
pub record ReadsAndReplies {P : Type 0} (may : May P) (old : Engine P) (bytes : List ℕ) (new : Engine P)
    (before after : List ℕ) : Type 0 where
  pub written : List ℕ
  pub engages : Engages may old bytes new written
  pub appended : after ≡ before ++ written

-- the reply of a sans-IO engine, where there is one
abbrev pub reply_where : Bool → StepsState → List ℕ
reply_where true s = s.reply
reply_where false s = []

-- ---- its room

-- What a session may still write to these bytes has room: a reply to each line that they end.
abbrev pub HasReplyRoom : {P : Type 0} → Engine P → List ℕ → List ℕ → Type 0
HasReplyRoom engine bytes out =
    length out + most_written_bytes * length (lines (engine.rest ++ bytes)) ≤ most_to_controller

-- whatever is written when this comes of an engine has room
abbrev pub WritesWithin : {E : Type 0} → Does E → E → List ℕ → List ℕ → Type 0
WritesWithin {E} does engine coming out =
    (after : E) (left written : List ℕ) → does engine coming after left written
    → length out + length written ≤ most_to_controller

abbrev pub HasWrittenRoom : {E : Type 0} → Does E → LaneOf E → Type 0
HasWrittenRoom {E} does lane =
    (engine : E) → lane.engine ≡ Some engine → WritesWithin does engine lane.to_engine lane.to_controller

-- what an engine writes when it reads the first `count` bytes has room
abbrev pub HasReadRoom : {E : Type 0} → (E → ℕ → List ℕ → List ℕ → Type 0) → ℕ → LaneOf E → Type 0
HasReadRoom {E} has_room count lane =
    (engine : E) → lane.engine ≡ Some engine → has_room engine count lane.to_engine lane.to_controller

-- A side's lists have room: for what its engine may write, and for a command that the side is to be sent.
pub record HasRoom {E : Type 0} (has_room : E → ℕ → List ℕ → List ℕ → Type 0) (side : Colour) (before : Controller)
    (lane : LaneOf E) : Type 0 where
  pub reads : (count : ℕ) → HasReadRoom has_room count lane
  pub command : next before ≡ Send side → length lane.to_engine + most_command_bytes ≤ most_to_engine

-- whatever the author of a sans-IO engine writes when he calls it has room
abbrev pub HasCallRoom : LaneOf StepsState → Call → Type 0
HasCallRoom lane call =
    (engine after : StepsState) (written : List ℕ) → lane.engine ≡ Some engine → Calls engine call after written
    → length lane.to_controller + length written ≤ most_to_controller
