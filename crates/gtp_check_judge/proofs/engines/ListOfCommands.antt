-- What our own engine answers to `list_commands` has each command that the standard requires.
use Rattle.std.proofs.Common.{◌≡◌, true, refl}
use Rattle.gtp_wire.specs.Words.{reply_words}
use Rattle.gtp_session.specs.Commands.{all_names}
use Rattle.gtp_check_judge.specs.Listings.{lists_required, rows}

pub all_listed : lists_required (rows all_names) ≡ true
unfolding reply_words rows
all_listed = refl
