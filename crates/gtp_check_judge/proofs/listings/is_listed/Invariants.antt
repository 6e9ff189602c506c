use Rattle.gtp_check_judge.specs.Listings.{rows}
use Rattle.gtp_check_judge.proofs.answers.Rows.{HasLeft}
use Rattle.gtp_check_judge.proofs.listings.is_listed.Given as goal

abbrev pub invariant-loop-row : goal.invariant-loop-row
invariant-loop-row l = HasLeft (goal.iterator-loop-row).next_gives l.row-iterator (rows l.text) l.name
