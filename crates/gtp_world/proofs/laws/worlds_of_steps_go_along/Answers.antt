use Rattle.gtp_world.specs.Worlds.{policies_by}
use Rattle.gtp_world.proofs.stepping.EngineLemmas.{lawful_any, steps_like}
use Rattle.gtp_world.proofs.stepping.LikenessLemmas.{sessions_like}
use Rattle.gtp_world.proofs.stepping.WorldLemmas.{goes_along}
use Rattle.gtp_world.proofs.laws.worlds_of_steps_go_along.Goals as goal

pub returns-clause-both : goal.returns-clause-both
returns-clause-both g c black white = goes_along (steps_like black) (steps_like white) lawful_any lawful_any

pub returns-clause-black : goal.returns-clause-black
returns-clause-black g c black white =
    goes_along (steps_like black) (sessions_like (policies_by g.O.Made.Policy.may g.O.Maker.may_make white)) lawful_any
    g.met.O.Made.Policy.lawful

pub returns-clause-white : goal.returns-clause-white
returns-clause-white g c black white =
    goes_along (sessions_like (policies_by g.O.Made.Policy.may g.O.Maker.may_make black)) (steps_like white)
    g.met.O.Made.Policy.lawful lawful_any
