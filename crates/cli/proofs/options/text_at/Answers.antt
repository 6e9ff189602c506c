use Rattle.std.proofs.Common.{◌∙◌, ap, refl, []}
use Rattle.std.specs.Prelude.{unwrap_or}
use Rattle.clap.specs.Words.{found_of}
use Rattle.clap.proofs.WalkLemmas.{first_value-rows}
use Rattle.cli.proofs.CommandLine.{now-unwrap_or}
use Rattle.cli.proofs.options.text_at.Goals as goal

pub returns : goal.returns
returns c =
    ap (λ s. s.now) c.unwrap_or.ensures ∙ (now-unwrap_or c.get_str.result _ refl
    ∙ ap (λ o. unwrap_or o []) (c.get_str.ensures ∙ first_value-rows (found_of c.args.matches.now) c.args.name.now))
