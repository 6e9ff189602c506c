use Rattle.std.proofs.Common.{Option, List, length, ◌++◌}
use Rattle.std.specs.Prelude.{IfSome, IsSome}
use Rattle.std.specs.Option.{option_to_list}
use Rattle.gtp_match.specs.declared.controller.Controller.{Controller}
use Rattle.gtp_match.specs.declared.losses.Loss.{Loss}
use Rattle.gtp_match.specs.declared.reports.Retake.{Retake}
use Rattle.gtp_match.specs.declared.verdicts.SideFault.{SideFault}
use Rattle.gtp_match.specs.Losing.{CanBeShown, first_of}
use Rattle.gtp_match.specs.Reporting.{HearsChunk}
use Rattle.gtp_match.specs.Sides.{side_of}
use Rattle.gtp_match.specs.Sound.{IsIdle}
use Rattle.gtp_match.proofs.matches.Match.hear_each.Given as goal

-- Whatever is heard and reported of what is left is heard of all, after the loss and the retake so far. Once there is a
-- retake, nothing of the side is unanswered.
abbrev pub invariant-loop-rest : goal.invariant-loop-rest
invariant-loop-rest l = record {
  heard : (shown : Option SideFault) (retakes : List Retake) (later : Option Loss) (new : Controller)
      → HearsChunk l.side l.self l.rest shown retakes later new
      → HearsChunk l.side l.fn.self l.bytes shown (option_to_list l.report.retake ++ retakes)
      (first_of l.report.loss later) new;
  idle : IsSome l.report.retake → IsIdle (side_of l.self.sides l.side).up;
  loss_shown : IfSome l.report.loss (λ loss. CanBeShown loss.owed);
  retake_shown : IfSome l.report.retake (λ retake. CanBeShown retake.owed);
}

abbrev pub decreases-loop-rest : goal.decreases-loop-rest
decreases-loop-rest l = length l.rest
