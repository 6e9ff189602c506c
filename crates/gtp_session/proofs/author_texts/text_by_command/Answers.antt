use Rattle.std.proofs.Common.{◌≡◌, ◌≢◌, ℕ, List, Some, None, refl}
use Rattle.gtp_session.specs.declared.commands.CommandName.{CommandName}
use Rattle.gtp_session.specs.declared.commands.CommandName.TheVariants as command
use Rattle.gtp_session.specs.Steps.{StepsState, author_text}
use Rattle.gtp_session.proofs.author_texts.text_by_command.Goals as goal

-- an author can set no text for any other command
no_text : (s : StepsState) (other : CommandName) (words : List (List ℕ)) → other ≢ command.Name
    → other ≢ command.Version → other ≢ command.KnownCommand → other ≢ command.ListCommands
    → author_text s (Some other) words ≡ None
no_text s command.Name words name version known listed = absurd (name refl)
no_text s command.Version words name version known listed = absurd (version refl)
no_text s command.KnownCommand words name version known listed = absurd (known refl)
no_text s command.ListCommands words name version known listed = absurd (listed refl)
no_text s other words name version known listed = refl

pub returns-in_default : goal.returns-in_default
returns-in_default c = λ s same.
    rw c.in_ok-command.was
    (no_text s _ c.args.line.now.words c.in_default.not-Name c.in_default.not-Version c.in_default.not-KnownCommand
    c.in_default.not-ListCommands)
