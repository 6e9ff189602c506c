-- A command that is sent leaves the other side as it was, and what is owed then.
use Rattle.std.proofs.Common.{◌≡◌, ◌+◌, [], ◌∷◌, ◌++◌, Option, Some, None, refl, ◌∙◌, ap}
use Rattle.go_base.specs.Colour.{other}
use Rattle.go_base.specs.declared.colours.Colour.{Colour}
use Rattle.go_base.specs.declared.colours.Colour.TheVariants.{Black, White}
use Rattle.gtp_wire.specs.Commands.{words_of}
use Rattle.gtp_wire.specs.Lines.{lines}
use Rattle.gtp_wire.specs.declared.lines.Line.TheVariants as line
use Rattle.gtp_match.specs.Controller.{next_command, next_text, sent, sent_to}
use Rattle.gtp_match.specs.Next.{next}
use Rattle.gtp_match.specs.Sides.{side_of, with_side, with_sent}
use Rattle.gtp_match.specs.Sound.{IsSound}
use Rattle.gtp_match.specs.declared.controller.Controller.{Controller}
use Rattle.gtp_match.specs.declared.sides.EngineRun.{EngineRun}
use Rattle.gtp_match.specs.declared.sides.Sides.{Sides}
use Rattle.gtp_match.specs.declared.sides.SideState.{SideState}
use Rattle.gtp_match.specs.declared.unanswered.SentCommand.{SentCommand}
use Rattle.gtp_match.specs.declared.verdicts.Action.TheVariants.{Send}
use Rattle.gtp_match.proofs.scripts.Lines.{sent_line}
use Rattle.gtp_match.proofs.hearing.Changes.{up_there}

-- ---- the other side

-- with another state of one side the other side stays
with_side_other : (sides : Sides) (s : Colour) (state : SideState)
    → side_of (with_side s state sides) (other s) ≡ side_of sides (other s)
with_side_other sides Black state = refl
with_side_other sides White state = refl

pub send_leaves : (c : Controller) (s : Colour) → side_of (sent c s).sides (other s) ≡ side_of c.sides (other s)
send_leaves c s = by_up (side_of c.sides s).up
  where
    by_up : (up : Option EngineRun) → side_of (sent_to c s up).sides (other s) ≡ side_of c.sides (other s)
    by_up None = refl
    by_up (Some engine) = with_side_other c.sides s _

-- ---- what is owed

-- The side's engine after it was sent a command: this is the last that it has unanswered, with the id and the words of
-- its line. What it had unanswered before, what it has confirmed and what it wrote stay.
pub record OwesWhatIsSent (c : Controller) (s : Colour) (engine : EngineRun) : Type 0 where
  pub after : EngineRun
  pub up : (side_of (sent c s).sides s).up ≡ Some after
  pub entry : SentCommand
  pub last : after.unanswered ≡ engine.unanswered ++ entry ∷ []
  pub line : lines (next_text c s engine)
      ≡ line.Command (record { id = Some entry.id; words = words_of entry.command }) ∷ []
  pub confirmed : after.confirmed ≡ engine.confirmed
  pub reader : after.reader ≡ engine.reader

pub sent_is_owed : (c : Controller) (s : Colour) (engine : EngineRun) → IsSound c → next c ≡ Send s
    → (side_of c.sides s).up ≡ Some engine → OwesWhatIsSent c s engine
sent_is_owed c s engine h e up =
    let after = with_sent (next_command c s engine) engine in
    record {
      after = after;
      up = ap (λ (u : Option EngineRun). (side_of (sent_to c s u).sides s).up) up ∙ up_there c.sides s after;
      entry = record { id = engine.sent + 1; command = next_command c s engine };
      last = refl;
      line = (sent_line c s engine h e up).line;
      confirmed = refl;
      reader = refl;
    }
