use Rattle.std.proofs.Common.{arith, ◌<◌, ◌∙◌, ap, refl, List, ℕ, length}
use Rattle.go_base.proofs.general.Joined.{joined-take}
use Rattle.go_base.specs.Text.{joined}
use Rattle.gtp_session.specs.Commands.{all_commands, spelled}
use Rattle.gtp_session.specs.declared.commands.CommandName.{CommandName}
use Rattle.gtp_session.specs.declared.commands.CommandName.TheVariants as command
use Rattle.gtp_session.proofs.commands.all_names.Goals as goal

-- no name is empty
spelled-some : (c : CommandName) → 0 < length (spelled c)
spelled-some command.Name = omega arith
spelled-some c = omega arith

pub loop-command-preserved : goal.loop-command-preserved
loop-command-preserved c = record {
  short = omega (arith, c.push_word.ensures.len, c.loop-command.invariant.short, c.name.ensures.few);
  written =
      c.push_word.ensures.bytes
      ∙ ap (λ (t : List ℕ). joined 10 t c.name.result.now) c.loop-command.invariant.written
      ∙ ap (joined 10 _) c.name.ensures.name
      ∙ joined-take 10 spelled spelled-some all_commands c.loop-command.command-index _ _ c.loop-command-test.true refl;
}
