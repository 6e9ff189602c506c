use Rattle.std.proofs.Common.{rules}
use Rattle.gtp_check_course.specs.Draws.{generator_of_step}
use Rattle.gtp_check_course.proofs.draws.Draws.generator.Goals as goal

pub returns : goal.returns
unfolding generator_of_step
returns c = search rules
