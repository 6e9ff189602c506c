-- What the function that makes the command line says of it.
use Rattle.std.specs.Prelude.{◌≡◌}
use Rattle.clap.specs.Words.{App}
use Rattle.gtp_check_app.specs.Options.{AreKept, KeptNames, command_line}

-- the program's command line
pub record IsCommandLine (app : App) : Type 0 where
  pub names : KeptNames
  pub are_kept : AreKept names
  pub is : app ≡ command_line names
