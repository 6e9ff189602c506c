-- What a match does with the bytes of a side, and what it reports of them: a refused `play` that is retaken, and why a
-- side fails.
use Rattle.std.specs.Prelude.{◌≡◌, ◌+◌, ◌<◌, ℕ, List, [], ◌++◌, length, take, drop, Option, None, Some, Ok, Err}
use Rattle.std.specs.Prelude.{option_map}
use Rattle.std.specs.Option.{option_to_list}
use Rattle.go_base.specs.declared.colours.Colour.{Colour}
use Rattle.gtp_wire.specs.declared.replies.Reply.{Reply}
use Rattle.gtp_wire.specs.declared.replies.ReplyFault.{ReplyFault}
use Rattle.gtp_wire.specs.Replies.{GivesNoAnswer, IsFirst}
use Rattle.gtp_match.specs.declared.controller.Controller.{Controller}
use Rattle.gtp_match.specs.declared.losses.Loss.{Loss}
use Rattle.gtp_match.specs.declared.losses.LossCause.{LossCause}
use Rattle.gtp_match.specs.declared.losses.LossCause.TheVariants.{Shows}
use Rattle.gtp_match.specs.declared.reports.Report.{Report}
use Rattle.gtp_match.specs.declared.reports.Retake.{Retake}
use Rattle.gtp_match.specs.declared.sides.EngineRun.{EngineRun}
use Rattle.gtp_match.specs.declared.verdicts.SideFault.{SideFault}
use Rattle.gtp_match.specs.declared.verdicts.Verdict.{Verdict}
use Rattle.gtp_match.specs.Controller.{with_side_up, downed}
use Rattle.gtp_match.specs.Hearing.{side_fault}
use Rattle.gtp_match.specs.Losing.{HasLossCause, loss_of, first_of, ReportsLoss}
use Rattle.gtp_match.specs.ReplyTable.{outcome, after_outcome, fault_of}
use Rattle.gtp_match.specs.Retaking.{retake_by, AreReported}
use Rattle.gtp_match.specs.Sides.{side_of, heard_reply}
use Rattle.gtp_match.specs.Sound.{IsSound}
use Rattle.gtp_match.specs.Unanswered.{oldest}

-- ---- up to one reply or fault

-- what the engine wrote since its last whole reply, up to the end of the first `used` of these bytes
abbrev pub text_up_to : EngineRun → List ℕ → ℕ → List ℕ
text_up_to engine bytes used = take (length engine.reader + used) (engine.reader ++ bytes)

-- Bytes of a side are heard up to the end of one reply, or the byte that shows a fault, or else all of them: how many
-- are used, the fault, what is reported (a retake, a loss), and the match after them.
--
-- A reply does what the table says, and is shown alone, without what follows it. A fault of the reader puts the side
-- down, and all that was read is shown. What is no whole reply yet is kept as it came. While the side is down, and
-- after a verdict, nothing changes.
pub data HearsOnce (c : Controller) (side : Colour) (bytes : List ℕ)
    : ℕ → Option SideFault → Option Retake → Option Loss → Controller → Type 0 where
  replied : {used : ℕ} (engine : EngineRun) (reply : Reply) (cause : Option LossCause) → c.verdict ≡ None
      → (side_of c.sides side).up ≡ Some engine
      → IsFirst (engine.reader ++ bytes) (length engine.reader + used) (Ok reply)
      → HasLossCause c side engine reply (outcome c.game side (oldest engine.unanswered) reply) cause
      → HearsOnce c side bytes used (fault_of (outcome c.game side (oldest engine.unanswered) reply))
      (retake_by c side engine (text_up_to engine bytes used) (outcome c.game side (oldest engine.unanswered) reply))
      (option_map (loss_of engine (text_up_to engine bytes used)) cause)
      (after_outcome c side (heard_reply engine) (outcome c.game side (oldest engine.unanswered) reply))
  faulted : {used : ℕ} (engine : EngineRun) (shown : ReplyFault) → c.verdict ≡ None
      → (side_of c.sides side).up ≡ Some engine
      → IsFirst (engine.reader ++ bytes) (length engine.reader + used) (Err shown)
      → HearsOnce c side bytes used (Some (side_fault shown)) None
      (Some (loss_of engine (engine.reader ++ bytes) (Shows (side_fault shown)))) (downed c side)
  nothing_yet : (engine : EngineRun) → c.verdict ≡ None → (side_of c.sides side).up ≡ Some engine
      → GivesNoAnswer (engine.reader ++ bytes)
      → HearsOnce c side bytes (length bytes) None None None
      (with_side_up c side (record engine { reader = engine.reader ++ bytes }))
  while_down : c.verdict ≡ None → (side_of c.sides side).up ≡ None
      → HearsOnce c side bytes (length bytes) None None None c
  after_verdict : (verdict : Verdict) → c.verdict ≡ Some verdict
      → HearsOnce c side bytes (length bytes) None None None c

-- ---- all bytes

-- Bytes are heard until they are used up or show a fault, each time some of those that are left. Every retake by them
-- is reported, in its order, and the first loss.
pub data HearsChunk (side : Colour)
    : Controller → List ℕ → Option SideFault → List Retake → Option Loss → Controller → Type 0 where
  used_up : {c : Controller} → HearsChunk side c [] None [] None c
  faulty : {c new : Controller} {bytes : List ℕ} {shown : SideFault} {loss : Option Loss} (used : ℕ)
      (retake : Option Retake) → 0 < length bytes → HearsOnce c side bytes used (Some shown) retake loss new
      → HearsChunk side c bytes (Some shown) (option_to_list retake) loss new
  goes_on : {c mid new : Controller} {bytes : List ℕ} {shown : Option SideFault} {retakes : List Retake}
      {later : Option Loss} (used : ℕ) (retake : Option Retake) (loss : Option Loss) → 0 < length bytes
      → HearsOnce c side bytes used None retake loss mid
      → HearsChunk side mid (drop used bytes) shown retakes later new
      → HearsChunk side c bytes shown (option_to_list retake ++ retakes) (first_of loss later) new

-- all bytes are heard, whatever fault they show, and this is reported of them: no other retake, and the first loss
abbrev pub HearsReport : Colour → Controller → List ℕ → Report → Controller → Type 0
HearsReport side c bytes report new =
    (fault : Option SideFault) × HearsChunk side c bytes fault (option_to_list report.retake) report.loss new

-- ---- what is reported, without the table

-- This holds of bytes that are heard once, and of all bytes of a chunk, which are heard reply by reply. Of the match
-- nothing is asked. Once a verdict was given no side fails by what is heard, and nothing is reported.
pub record LossesAreReported : Type 0 where
  pub once : (c new : Controller) (side : Colour) (bytes : List ℕ) (used : ℕ) (fault : Option SideFault)
      (retake : Option Retake) (loss : Option Loss) → HearsOnce c side bytes used fault retake loss new
      → ReportsLoss side c new fault loss
  pub all : (c new : Controller) (side : Colour) (bytes : List ℕ) (fault : Option SideFault) (retakes : List Retake)
      (loss : Option Loss) → HearsChunk side c bytes fault retakes loss new → ReportsLoss side c new fault loss

-- This holds of bytes that are heard once, and of all bytes of a chunk, which are heard reply by reply.
pub record RetakesAreReported : Type 0 where
  pub once : (c new : Controller) (side : Colour) (bytes : List ℕ) (used : ℕ) (fault : Option SideFault)
      (retake : Option Retake) (loss : Option Loss) → IsSound c → HearsOnce c side bytes used fault retake loss new
      → AreReported side c new (option_to_list retake)
  pub all : (c new : Controller) (side : Colour) (bytes : List ℕ) (fault : Option SideFault) (retakes : List Retake)
      (loss : Option Loss) → IsSound c → HearsChunk side c bytes fault retakes loss new
      → AreReported side c new retakes
