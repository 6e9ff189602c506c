use Rattle.vintsaky_calls.proofs.AddedNames.{names_wait}
use Rattle.vintsaky_calls.proofs.laws.lines_of_added_names_wait.Goals as goal

pub returns : goal.returns
returns ctx name before after did id arguments is old new used number is_open nothing fed =
    names_wait name before after did id arguments is old new used number is_open nothing fed
