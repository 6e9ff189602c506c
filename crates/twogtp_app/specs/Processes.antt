-- The processes of the sides, and what is done with the one of a side.
use Rattle.std.specs.Prelude.{◌≡◌, Option, Some, None}
use Rattle.go_base.specs.declared.colours.Colour.{Colour}
use Rattle.go_base.specs.declared.colours.Colour.TheVariants.{Black, White}
use Rattle.gtp_match.specs.declared.controller.Controller.{Controller}
use Rattle.gtp_match.specs.declared.sides.Status.{Status}
use Rattle.gtp_match.specs.declared.sides.Status.TheVariants.{Down, Up}
use Rattle.gtp_match.specs.Sides.{side_of, status_of}
use Rattle.twogtp_app.specs.declared.processes.Processes.{Processes}
use Rattle.gtp_process.specs.declared.starter.Process.{Ghosts}
use Rattle.gtp_process.specs.declared.starter.Ending.{Ending}
use Rattle.gtp_process.specs.declared.starter.Ending.TheVariants.{Unknown}
use Rattle.gtp_process.specs.Endings.{EndsAs, IsEnded}

-- no side has a process
abbrev pub no_processes : {P : Type 0} → Processes P
no_processes = record { black = None; white = None }

-- the process of a side
abbrev pub process_of : {P : Type 0} → Processes P → Colour → Option P
process_of processes Black = processes.black
process_of processes White = processes.white

-- the process of the other side stays as it was
abbrev pub OtherStays : {P : Type 0} → Colour → Processes P → Processes P → Type 0
OtherStays Black before after = after.white ≡ before.white
OtherStays White before after = after.black ≡ before.black

-- a side keeps its process while it is up
abbrev pub while_up : {P : Type 0} → Status → Option P → Option P
while_up Down process = None
while_up (Up confirmed unanswered asked) process = process

-- the process that a side keeps in a match
abbrev pub kept_by : {P : Type 0} → Controller → Colour → Option P → Option P
kept_by c side process = while_up (status_of (side_of c.sides side).up) process

-- A side that is down has no process any more: the one that it had ended so. Of any other nothing is known.
abbrev pub EndsWhere : {P : Type 0} → Ghosts P → Status → Option P → Ending → Type 0
EndsWhere known Down process ending = EndsAs known process ending
EndsWhere known (Up confirmed unanswered asked) process ending = ending ≡ Unknown

-- how the process of a side ended in a match, if it did
abbrev pub Ends : {P : Type 0} → Ghosts P → Controller → Colour → Option P → Ending → Type 0
Ends known c side process ending = EndsWhere known (status_of (side_of c.sides side).up) process ending

-- the processes of both sides have ended, each if there is one
pub record AreEnded {P : Type 0} (known : Ghosts P) (processes : Processes P) : Type 0 where
  pub black : IsEnded known processes.black
  pub white : IsEnded known processes.white

-- Where there is a process, before and after, this was done with it; where there is none, that was done.
abbrev pub WithProcess : {P : Type 0} → Option P → Option P → (P → P → Type 0) → Type 0 → Type 0
WithProcess None None Did Without = Without
WithProcess (Some before) (Some after) Did Without = Did before after
WithProcess None (Some after) Did Without = ⊥
WithProcess (Some before) None Did Without = ⊥
