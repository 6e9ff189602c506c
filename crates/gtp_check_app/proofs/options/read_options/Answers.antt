use Rattle.std.proofs.Common.{◌∙◌, ap, subst, sym, List, map}
use Rattle.std.proofs.lemmas.Result.{err_from_is_err_and}
use Rattle.clap.specs.Kinds.{HasKind}
use Rattle.clap.specs.Words.{App, Row, fault_of, is_simple, is_simple_and_free, matches_of}
use Rattle.gtp_check_app.specs.Options.{Ask}
use Rattle.gtp_check_app.proofs.CommandLine.{fault_from_kind, is_simple-command_line, is_simple_and_free-command_line}
use Rattle.gtp_check_app.proofs.options.read_options.Goals as goal

pub returns-clause-asked : goal.returns-clause-asked
returns-clause-asked g c =
    let line = c.in_ok-command.ensures in
    let words = map g.S.AsStr.text c.args.words.now in
    record {
      names = line.names;
      are_kept = line.are_kept;
      no_fault = sym (ap (λ app. fault_of app words) line.is)
          ∙ c.in_ok-matches.ensures.kinds
          (ap is_simple_and_free line.is ∙ is_simple_and_free-command_line line.names);
      asked = subst (λ (rows : List Row). Ask rows c.options_of.result)
          ((c.in_ok-matches.ensures.matches (ap is_simple line.is ∙ is_simple-command_line line.names)).0
          ∙ ap (λ app. matches_of app words) line.is)
          c.options_of.ensures;
    }

pub returns-in_err-matches-clause-fault : goal.returns-in_err-matches-clause-fault
returns-in_err-matches-clause-fault g c =
    let line = c.in_ok-command.ensures in
    let words = map g.S.AsStr.text c.args.words.now in
    let error = c.in_err-matches.field-0.0 in
    let exit = c.from_residual-in_err-matches in
    let is_given = err_from_is_err_and exit.result exit.ensures.1 in
    rw (is_given.1, is_given.2) (fault_from_kind line.names words error line.are_kept
    (subst (λ (app : App). HasKind (fault_of app words) error) line.is
    (c.in_err-matches.ensures.kinds (ap is_simple_and_free line.is ∙ is_simple_and_free-command_line line.names))))
