-- What each of the policies may do when it is asked. (Own.)
use Rattle.std.specs.Prelude.{◌≡◌, List, slice_get}
use Rattle.rand_pcg.specs.Lcg.{Lcg}
use Rattle.gtp_session.specs.declared.book.Entry.{Entry}
use Rattle.gtp_session.specs.declared.first.First.{First}
use Rattle.gtp_session.specs.Policy.{May}
use Rattle.gtp_session.specs.Candidates.{candidates, play_or_pass}
use Rattle.gtp_session.specs.Random.{MayDraw}
use Rattle.gtp_session.specs.Book.{book_choice}

-- `first` chooses the first candidate, or a pass where there is none
abbrev pub first_may : May First
first_may old game colour choice new = choice ≡ play_or_pass (slice_get (candidates game colour) 0)

-- `random` chooses the candidate that the next word of its generator names, or a pass where there is none
abbrev pub random_may : May Lcg
random_may old game colour choice new = MayDraw (candidates game colour) old choice new

-- `book` chooses by the entry that has the number of the record's moves, and keeps its entries
abbrev pub book_may : May (List Entry)
book_may old game colour choice new = (choice ≡ book_choice old game colour) × (new ≡ old)
