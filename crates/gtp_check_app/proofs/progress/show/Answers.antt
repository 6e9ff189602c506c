use Rattle.gtp_check_app.specs.Progress.{no_text, text_written}
use Rattle.gtp_check_app.proofs.progress.show.Goals as goal

pub returns-then-shows_progress : goal.returns-then-shows_progress
returns-then-shows_progress g c =
    rw c.if-shows_progress.true
    (text_written (rw (c.as_slice.ensures.value, c.in_place.ensures) at c.write_or_break.ensures) no_text)

pub returns-else-shows_progress : goal.returns-else-shows_progress
returns-else-shows_progress g c = rw c.if-shows_progress.false no_text
