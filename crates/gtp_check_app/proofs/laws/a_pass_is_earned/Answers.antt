use Rattle.gtp_check_app.proofs.Passing.{fails_where, found_where, passes_where}
use Rattle.gtp_check_app.proofs.laws.a_pass_is_earned.Goals as goal

pub returns : goal.returns
returns g c = record {
  found = found_where;
  passed = passes_where;
  neither = fails_where;
  noted = c.moves_are_noted_once_answered.ensures;
}
