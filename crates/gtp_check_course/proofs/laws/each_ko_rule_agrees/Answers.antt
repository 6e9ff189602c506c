use Rattle.std.proofs.Common.{sym, ◌∙◌, true≢false}
use Rattle.go_board.specs.declared.faults.PlayFault.TheVariants.{Ko}
use Rattle.gtp_check_course.proofs.KoRulesAgree.{legal_by, legal_in, only_ko}
use Rattle.gtp_check_course.proofs.NotAsked.{of_walk, plays_not}
use Rattle.gtp_check_course.proofs.laws.each_ko_rule_agrees.Goals as goal

pub returns : goal.returns
returns c = record {
  asked = λ rule lessons scene_size seed unasked asked started old new exam command move walks play goes no_ko is. (
    legal_by rule exam.game move.colour move.vertex is,
    λ legal. legal_in rule exam.game move.colour move.vertex legal (λ refuses.
        true≢false (sym no_ko ∙ plays_not unasked old new exam command move Ko
        (of_walk lessons scene_size seed unasked asked started old walks) play goes refuses)),
  );
  chosen = λ rule game colour vertex fault. only_ko rule game colour vertex fault;
}
