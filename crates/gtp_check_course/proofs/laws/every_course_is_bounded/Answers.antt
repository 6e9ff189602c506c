use Rattle.gtp_check_course.proofs.Bounds.{bounded}
use Rattle.gtp_check_course.proofs.laws.every_course_is_bounded.Goals as goal

pub returns : goal.returns
returns c lessons scene_size seed unasked asked started course walks inside =
    bounded lessons scene_size seed unasked asked started course walks inside
