use Rattle.std.proofs.Common.{refl, rules, [], ◌∷◌}
use Rattle.std.proofs.lemmas.Result.{err_from_is_err_and}
use Rattle.byte_streams.specs.Writing.{line_flushed, no_line}
use Rattle.gtp_check_texts.specs.Summary.{first_line}
use Rattle.gtp_check_app.specs.Turns.{due, not_due}
use Rattle.gtp_check_app.specs.private.Steps.{first_broke, first_flushed, first_refused}
use Rattle.gtp_check_app.proofs.Progressing.{none_shown}
use Rattle.gtp_check_app.proofs.check.Check.write_first.Goals as goal

pub returns-then-not-is_first_due-clause-flushed : goal.returns-then-not-is_first_due-clause-flushed
returns-then-not-is_first_due-clause-flushed g c =
    first_flushed [] (not_due (search rules)) no_line
    (none_shown g.E.WriteOnce c.args.plan.now.shows_progress c.args.streams.now.errors)

pub returns-in_err-line-clause-stops : goal.returns-in_err-line-clause-stops
returns-in_err-line-clause-stops g c =
    let exit = c.from_residual in
    let failed = err_from_is_err_and exit.result exit.ensures.1 in
    rw (failed.1, failed.2) (first_refused refl refl)

pub returns-in_err-write_text-clause-stops : goal.returns-in_err-write_text-clause-stops
returns-in_err-write_text-clause-stops g c =
    let exit = c.from_residual-in_err-write_text in
    let failed = err_from_is_err_and exit.result exit.ensures.1 in
    rw (failed.1, failed.2)
    (first_broke (due (search rules))
    (rw (c.as_slice.ensures.value, c.in_ok-line.ensures) at c.in_err-write_text.ensures.broke) c.clear.ensures refl)

pub returns-clause-flushed : goal.returns-clause-flushed
returns-clause-flushed g c =
    first_flushed (first_line c.args.plan.now c.args.self.now.notes ∷ []) (due (search rules))
    (line_flushed (rw (c.as_slice.ensures.value, c.in_ok-line.ensures) at c.in_ok-write_text.ensures.whole) no_line)
    c.clear.ensures
