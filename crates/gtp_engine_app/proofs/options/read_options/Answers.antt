use Rattle.std.proofs.Common.{◌∙◌, sym, ap, map, subst}
use Rattle.clap.specs.Words.{fault_of, is_simple, is_simple_and_free, matches_of}
use Rattle.gtp_engine_app.specs.Options.{Ask}
use Rattle.gtp_engine_app.proofs.command_line.Matches.{is_simple-command_line, is_simple_and_free-command_line}
use Rattle.gtp_engine_app.proofs.options.read_options.Goals as goal

pub returns-clause-asked : goal.returns-clause-asked
returns-clause-asked g c =
    let line = c.in_ok-command.ensures in
    let words = map g.S.AsStr.text c.args.words.now in
    record {
      names = line.names;
      are_kept = line.are_kept;
      no_fault = sym (ap (λ app. fault_of app words) line.is)
          ∙ c.in_ok-matches.ensures.kinds
          (ap is_simple_and_free line.is ∙ is_simple_and_free-command_line line.names);
      asked = subst (λ (rows : _). Ask rows c.options_of.result)
          ((c.in_ok-matches.ensures.matches
          (ap is_simple line.is ∙ is_simple-command_line line.names)).0
          ∙ ap (λ app. matches_of app words) line.is)
          c.options_of.ensures;
    }
