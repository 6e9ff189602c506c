-- The texts in which what an author has set is named.
use Rattle.std.specs.Prelude.{ℕ, List, Option, Some, None, if◌then◌else◌, codes}
use Rattle.gtp_session.specs.declared.author_texts.AuthorText.{AuthorText}
use Rattle.gtp_session.specs.declared.author_texts.AuthorText.TheVariants as text
use Rattle.gtp_session.specs.OwnCommands.{names_with}
use Rattle.gtp_session.specs.Steps.{StepsState}

-- that text, of an engine with this state
abbrev pub text_in : StepsState → Option AuthorText → Option (List ℕ)
text_in s None = None
text_in s (Some text.Name) = Some s.name
text_in s (Some text.Version) = Some s.version
text_in s (Some (text.Known known)) = Some (if known then codes "true" else codes "false")
text_in s (Some text.Commands) = Some (names_with s.commands)
