use Rattle.gtp_match.specs.Setup.{IsSetup}
use Rattle.gtp_match.proofs.soundness.CallLists.{opening_is_game}
use Rattle.gtp_match.proofs.soundness.Calls.{new_sound}
use Rattle.gtp_match.proofs.matches.Match.new.Goals as goal

pub invariant_of-result : goal.invariant_of-result
invariant_of-result c =
    let is : IsSetup c.args.setup = search in
    rw (c.opening_game.ensures, c.new.ensures, c.new-2.ensures)
    (new_sound c.args.setup is (opening_is_game c.args.setup is))
