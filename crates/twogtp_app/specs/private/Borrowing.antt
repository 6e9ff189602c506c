-- The process of a side, borrowed to be changed.
use Rattle.std.specs.Prelude.{Option}
use Rattle.std.specs.Borrow.{Fml, Lends, MutBor, RattleType}
use Rattle.std.specs.contracts.option.Option.{the_row as OptionOf}
use Rattle.go_base.specs.declared.colours.Colour.{Colour}
use Rattle.go_base.specs.declared.colours.Colour.TheVariants.{Black, White}
use Rattle.twogtp_app.specs.contracts.processes.Processes.{the_row}
use Rattle.twogtp_app.specs.declared.processes.Processes.{Processes}

-- the processes with this one in place of a side's
abbrev pub with_process : {P : Type 0} → Colour → Option P → Processes P → Processes P
with_process Black process processes = record processes { black = process }
with_process White process processes = record processes { white = process }

-- the processes end with the last value that the reference shows in place of the side's
abbrev pub BorrowsProcess : (P : RattleType) → MutBor (Processes P.Denot) → Colour → MutBor (Option P.Denot) → Fml
BorrowsProcess P processes side borrow =
    Lends (the_row P) (OptionOf P) processes borrow (λ process. with_process side process processes.now)
