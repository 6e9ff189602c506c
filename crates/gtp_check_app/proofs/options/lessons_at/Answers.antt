use Rattle.std.proofs.Common.{◌∙◌, ap, List, Option, []}
use Rattle.std.specs.Prelude.{unwrap_or}
use Rattle.clap.specs.Words.{Text}
use Rattle.gtp_check_app.specs.Options.{lessons_named}
use Rattle.gtp_check_app.proofs.options.lessons_at.Goals as goal

pub returns-in-Some : goal.returns-in-Some
returns-in-Some c =
    c.lessons_named.ensures
    ∙ ap (λ (names : Option (List Text)). lessons_named (unwrap_or names [])) c.in-Some.ensures

pub returns-in-None : goal.returns-in-None
returns-in-None c =
    c.new.ensures ∙ ap (λ (names : Option (List Text)). lessons_named (unwrap_or names [])) c.in-None.ensures
