use Rattle.std.specs.List.{slice_split}
use Rattle.std.specs.Prelude.{◌==◌}
use Rattle.gtp_session.proofs.choosing.Books.{HasRead}
use Rattle.gtp_session.proofs.book.Book.read.Given as goal

abbrev pub invariant-loop-part : goal.invariant-loop-part
invariant-loop-part l = HasRead (goal.iterator-loop-part).next_gives l.part-iterator
    (slice_split (λ b. b == 44) l.text) l.entries.items
