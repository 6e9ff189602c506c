use Rattle.gtp_check_course.proofs.NotAsked.{of_walk, plays_not, scores_not}
use Rattle.gtp_check_course.proofs.laws.nothing_unasked_is_asked.Goals as goal

pub returns : goal.returns
returns c = record {
  plays = λ lessons scene_size seed unasked asked started old new exam command move fault walks.
      plays_not unasked old new exam command move fault
      (of_walk lessons scene_size seed unasked asked started old walks);
  scores = λ lessons scene_size seed unasked asked started old new exam walks.
      scores_not unasked old new exam (of_walk lessons scene_size seed unasked asked started old walks);
}
