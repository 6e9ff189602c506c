use Rattle.std.proofs.Common.{◌≡◌, ◌∙◌, ap, rules, subst, sym, map}
use Rattle.std.proofs.lemmas.Result.{err_from_is_err_and}
use Rattle.clap.specs.Kinds.{HasKind}
use Rattle.clap.specs.Words.{App, fault_of, found_of, is_simple, is_simple_and_free, matches_of, rows_of}
use Rattle.twogtp_app.specs.Options.{command_line}
use Rattle.twogtp_app.proofs.command_line.Matches.{is_simple-command_line, is_simple_and_free-command_line}
use Rattle.twogtp_app.proofs.options.read_options.Goals as goal

pub returns-clause-asked : goal.returns-clause-asked
returns-clause-asked g c =
    let line = c.in_ok-command.ensures in
    let words = map g.S.AsStr.text c.args.words.now in
    let rows : rows_of (found_of c.in_ok-matches.matches) ≡ matches_of command_line words =
    (c.in_ok-matches.ensures.matches (ap is_simple line ∙ is_simple-command_line)).0
    ∙ ap (λ app. matches_of app words) line in
    record {
      no_fault = sym (ap (λ app. fault_of app words) line)
          ∙ c.in_ok-matches.ensures.kinds (ap is_simple_and_free line ∙ is_simple_and_free-command_line);
      asked = rw (sym rows) (search rules);
    }

pub returns-in_err-matches-clause-fault : goal.returns-in_err-matches-clause-fault
returns-in_err-matches-clause-fault g c =
    let exit = c.from_residual-in_err-matches in
    let is_given = err_from_is_err_and exit.result exit.ensures.1 in
    rw (is_given.1, is_given.2)
    (subst (λ (app : App). HasKind (fault_of app (map g.S.AsStr.text c.args.words.now)) c.in_err-matches.field-0.0)
    c.in_ok-command.ensures
    (c.in_err-matches.ensures.kinds (ap is_simple_and_free c.in_ok-command.ensures ∙ is_simple_and_free-command_line)))
