-- What a line waits for, and what its answer then is.
use Rattle.std.proofs.Common.{◌≡◌, ◌≢◌, ℕ, Bool, true, false, Option, Some, None, List, refl, sym, ap, subst}
use Rattle.go_base.specs.declared.colours.Colour.{Colour}
use Rattle.go_base.specs.declared.choices.Choice.{Choice}
use Rattle.go_board.specs.Game.{GameRecord}
use Rattle.gtp_wire.specs.Lines.{ReadsLine}
use Rattle.gtp_wire.specs.declared.lines.Line.{Line}
use Rattle.gtp_session.specs.Commands.{asked}
use Rattle.gtp_session.specs.Policy.{IsLawful}
use Rattle.gtp_session.specs.Spoken.{IsLawfulAt}
use Rattle.gtp_session.specs.declared.events.Wait.{Wait}
use Rattle.gtp_session.specs.declared.events.Wait.TheVariants as wait
use Rattle.gtp_session.specs.declared.events.Event.{Event}
use Rattle.gtp_session.specs.declared.events.Event.TheVariants as event
use Rattle.gtp_session.specs.Steps.{StepsState, wait_by, wait_of, event_of, after_line, after_wait, ReadsOn}

-- what waits for a colour's choice is asked for it
pub by-choice : (o : Option Colour) (b : Bool) (colour : Colour) → wait_by o b ≡ wait.Choice colour → o ≡ Some colour
by-choice (Some c) b colour e = cc
by-choice None true colour e = cc
by-choice None false colour e = cc

-- what waits for nothing is asked for nothing
pub by-nothing : (o : Option Colour) (b : Bool) → wait_by o b ≡ wait.Nothing → o ≡ None
by-nothing (Some c) b e = cc
by-nothing None b e = refl

-- what waits for an answer is a line of another command
pub by-answer : (o : Option Colour) (b : Bool) → wait_by o b ≡ wait.Answer → b ≡ true
by-answer (Some c) b e = cc
by-answer None true e = refl
by-answer None false e = cc

pub event-reply : (w : Wait) → event.Reply ≡ event_of w → w ≡ wait.Nothing
event-reply wait.Nothing e = refl
event-reply (wait.Choice c) e = cc
event-reply wait.Answer e = cc

pub lawful_at : (game : GameRecord) (line : Line) (colour : Colour) (ch : Choice) → asked game line ≡ Some colour
    → IsLawful game colour ch → IsLawfulAt game line ch
lawful_at game line colour ch e l = rw e l

pub lawful_at-none : (game : GameRecord) (line : Line) (ch : Choice) → asked game line ≡ None → IsLawfulAt game line ch
lawful_at-none game line ch e = rw e tt

-- a line that needs something waits for it
pub after_wait-waits : (s : StepsState) (w : Wait) → w ≢ wait.Nothing → after_wait s w ≡ record s { wait = w }
after_wait-waits s wait.Nothing n = absurd (n refl)
after_wait-waits s (wait.Choice colour) n = refl
after_wait-waits s wait.Answer n = refl

-- a line that was read
pub reads_on : (old new : StepsState) (input : List ℕ) (used : ℕ) (line : Line) (rest : List ℕ) (w : Wait)
    (event : Event) → wait_of old.game line ≡ w → event ≡ event_of w
    → ReadsLine old.rest input used (Some line) rest → new ≡ after_line old line rest
    → ReadsOn old input used event new
reads_on old new input used line rest wait.Nothing event is e reads new_is =
    subst (λ (x : Event). ReadsOn old input used x new) (sym e)
    (record { line = line; rest = rest; reads = reads; new_is = new_is; event_is = ap event_of (sym is) })
reads_on old new input used line rest (wait.Choice colour) event is e reads new_is =
    subst (λ (x : Event). ReadsOn old input used x new) (sym e)
    (record { line = line; rest = rest; reads = reads; new_is = new_is; event_is = ap event_of (sym is) })
reads_on old new input used line rest wait.Answer event is e reads new_is =
    subst (λ (x : Event). ReadsOn old input used x new) (sym e)
    (record { line = line; rest = rest; reads = reads; new_is = new_is; event_is = ap event_of (sym is) })

-- what waits for an answer is asked for no choice
pub by-unasked : (o : Option Colour) (b : Bool) → wait_by o b ≡ wait.Answer → o ≡ None
by-unasked (Some c) b e = cc
by-unasked None b e = refl

-- what waits for nothing is no line of another command
pub by-no_answer : (o : Option Colour) (b : Bool) → wait_by o b ≡ wait.Nothing → b ≡ false
by-no_answer (Some c) b e = cc
by-no_answer None true e = cc
by-no_answer None false e = refl
