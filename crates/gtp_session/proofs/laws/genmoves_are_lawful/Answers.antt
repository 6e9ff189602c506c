use Rattle.gtp_session.proofs.table.Asking.{genmove-lawful}
use Rattle.gtp_session.proofs.laws.genmoves_are_lawful.Goals as goal

pub returns : goal.returns
returns g c old new line reply colour step e = genmove-lawful g.P.Policy.may g.met.P.Policy.lawful step e
