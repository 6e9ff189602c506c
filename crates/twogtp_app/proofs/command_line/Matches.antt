-- The program's command line.
use Rattle.std.proofs.Common.{◌≡◌, true, refl}
use Rattle.clap.specs.Words.{is_simple, is_simple_and_free}
use Rattle.clap.proofs.OnLiterals.{clap_on_literals}
use Rattle.twogtp_app.specs.Options.{command_line}

-- the command line uses nothing that changes how words are read
pub is_simple-command_line : is_simple command_line ≡ true
unfolding clap_on_literals
is_simple-command_line = refl

-- and no option has a rule on another
pub is_simple_and_free-command_line : is_simple_and_free command_line ≡ true
unfolding clap_on_literals
is_simple_and_free-command_line = refl
