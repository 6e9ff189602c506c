-- The command lines of the sides' engines.
use Rattle.std.specs.Prelude.{List}
use Rattle.go_base.specs.declared.colours.Colour.{Colour}
use Rattle.go_base.specs.declared.colours.Colour.TheVariants.{Black, White}
use Rattle.gtp_process.specs.Starts.{Text, program_line}
use Rattle.twogtp_app.specs.declared.task.Commands.{Commands}

-- the command line of a side's engine
abbrev pub program_line_for : Commands → Colour → List Text
program_line_for commands Black = program_line commands.black.items
program_line_for commands White = program_line commands.white.items
