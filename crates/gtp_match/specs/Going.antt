-- That a match goes on, and what shows a fault, said without the tables.
use Rattle.std.specs.Prelude.{◌≡◌, ◌≢◌, ℕ, ◌+◌, ◌≤◌, ◌↔◌, true, List, [], ◌∷◌, ◌++◌, length, slice_get, None, Some}
use Rattle.std.specs.Prelude.{MatchOption, Err}
use Rattle.go_base.specs.Colour.{other}
use Rattle.go_base.specs.declared.colours.Colour.{Colour}
use Rattle.go_board.specs.Game.{GameRecord}
use Rattle.gtp_wire.specs.Replies.{IsFirst}
use Rattle.gtp_wire.specs.declared.replies.Reply.{Reply}
use Rattle.gtp_wire.specs.declared.replies.ReplyFault.TheVariants as reply_fault
use Rattle.gtp_match.specs.Controller.{in_step}
use Rattle.gtp_match.specs.Hearing.{Hears}
use Rattle.gtp_match.specs.Next.{next}
use Rattle.gtp_match.specs.Replying.{EndsReply, IsGenmove}
use Rattle.gtp_match.specs.Script.{script}
use Rattle.gtp_match.specs.Sides.{side_of}
use Rattle.gtp_match.specs.Sound.{IsSound, IsIdle}
use Rattle.gtp_match.specs.declared.controller.Controller.{Controller}
use Rattle.gtp_match.specs.declared.sides.EngineRun.{EngineRun}
use Rattle.gtp_match.specs.declared.unanswered.SentCommand.{SentCommand}
use Rattle.gtp_match.specs.declared.verdicts.Action.{Action}
use Rattle.gtp_match.specs.declared.verdicts.Action.TheVariants.{Start, Send, Wait, Done}
use Rattle.gtp_match.specs.declared.verdicts.SideFault.{SideFault}
use Rattle.gtp_match.specs.declared.verdicts.SideFault.TheVariants.{NoStatus, Overlong, WrongId, Unasked}

-- ---- what comes next

-- Why an engine has to answer before it is sent more: eight commands of it are unanswered; or a `genmove` is; or some
-- command is, and it was sent the whole script.
pub data HasToAnswer (game : GameRecord) (engine : EngineRun) : Type 0 where
  eight : 8 ≤ length engine.unanswered → HasToAnswer game engine
  move : (place : ℕ) (entry : SentCommand) → slice_get engine.unanswered place ≡ Some entry
      → IsGenmove entry.command → HasToAnswer game engine
  whole : engine.unanswered ≢ [] → length (script game) ≤ engine.confirmed + length engine.unanswered
      → HasToAnswer game engine

-- A side is started that is down, where nothing of the other is unanswered and no move is to be taken back.
pub record MayStart (c : Controller) (side : Colour) : Type 0 where
  pub verdict : c.verdict ≡ None
  pub down : (side_of c.sides side).up ≡ None
  pub other_idle : IsIdle (side_of c.sides (other side)).up
  pub none_taken_back : c.pending ≡ None

-- After a verdict it is returned. Before one, a side is started that may be, a side is sent a command that is up and
-- need not answer first, and a side is waited for that has to answer.
abbrev pub IsDue : Controller → Action → Type 0
IsDue c (Done verdict) = c.verdict ≡ Some verdict
IsDue c (Wait side) = (c.verdict ≡ None) × MatchOption (side_of c.sides side).up ⊥ (HasToAnswer c.game)
IsDue c (Start side) = MayStart c side
IsDue c (Send side) =
    (c.verdict ≡ None) × MatchOption (side_of c.sides side).up ⊥ (λ engine. ¬ HasToAnswer c.game engine)

-- what comes next of a sound match is due
abbrev pub NextIsDue : Type 0
NextIsDue = (c : Controller) → IsSound c → IsDue c (next c)

-- ---- a side that is in step

-- nothing of the engine is unanswered, and it has confirmed as many commands as the script has
pub record HasWholeScript (game : GameRecord) (engine : EngineRun) : Type 0 where
  pub idle : engine.unanswered ≡ []
  pub as_many : engine.confirmed ≡ length (script game)

-- a side is in step exactly where it is up and so; nothing else counts
abbrev pub InStepSays : Type 0
InStepSays =
    (c : Controller) (side : Colour)
    → in_step c side ≡ true ↔ MatchOption (side_of c.sides side).up ⊥ (HasWholeScript c.game)

-- ---- what shows a fault

-- The bytes that were used show this fault: they end a reply where nothing is unanswered, or one without the id of the
-- command that was sent first of those that are unanswered; or the last of them begins no reply, or is one too many.
abbrev pub ShowsFault : EngineRun → List ℕ → ℕ → SideFault → Type 0
ShowsFault engine bytes used Unasked = (reply : Reply) × EndsReply engine bytes used reply × (engine.unanswered ≡ [])
ShowsFault engine bytes used WrongId =
    (reply : Reply) × (entry : SentCommand) × (later : List SentCommand) × EndsReply engine bytes used reply
    × (engine.unanswered ≡ entry ∷ later) × (reply.id ≢ Some entry.id)
ShowsFault engine bytes used NoStatus =
    IsFirst (engine.reader ++ bytes) (length engine.reader + used) (Err reply_fault.NoStatus)
ShowsFault engine bytes used Overlong =
    IsFirst (engine.reader ++ bytes) (length engine.reader + used) (Err reply_fault.Overlong)

-- each fault comes only where its cause is
abbrev pub FaultsHaveCauses : Type 0
FaultsHaveCauses =
    (c new : Controller) (s : Colour) (bytes : List ℕ) (used : ℕ) (shown : SideFault)
    → Hears c s bytes used (Some shown) new
    → MatchOption (side_of c.sides s).up ⊥ (λ engine. ShowsFault engine bytes used shown)
