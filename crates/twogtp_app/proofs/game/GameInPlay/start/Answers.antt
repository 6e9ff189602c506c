use Rattle.std.proofs.Common.{◌∙◌, List, Ok, Err, Option, ap, refl, subst}
use Rattle.clap.specs.Words.{Text}
use Rattle.gtp_match.specs.declared.controller.Controller.{Controller}
use Rattle.gtp_match.specs.Controller.{lost}
use Rattle.gtp_process.specs.declared.starter.StartFault.{StartFault}
use Rattle.gtp_process.specs.declared.starter.StartFault.TheVariants.{NotStarted}
use Rattle.gtp_process.specs.Endings.{IsEnded}
use Rattle.gtp_process.specs.Starts.{Tries, program_line}
use Rattle.twogtp_app.specs.Turns.{fails_to_start, starts}
use Rattle.twogtp_app.proofs.game.GameInPlay.start.Goals as goal

pub returns-in-Ok-clause-begins : goal.returns-in-Ok-clause-begins
returns-in-Ok-clause-begins g c = rw c.only_loss.ensures (
  starts c.in-Ok.process
      (subst (λ (line : List Text). Tries (g.S.Starter.asked c.args.starter.now) (g.S.Starter.asked c.start.new.self)
      line (Ok c.in-Ok.process)) c.of.ensures c.in-Ok.ensures.asked)
      c.replace.ensures.put
      (subst (λ (had : Option g.row.S-Process.Denot). IsEnded g.S.Process.Process had) c.replace.ensures.had
      c.end.ensures)
      c.started.ensures,
  refl,
)

pub returns-in-Err-NotStarted-clause-begins : goal.returns-in-Err-NotStarted-clause-begins
returns-in-Err-NotStarted-clause-begins g c =
    rw (c.only_loss-in-Err-NotStarted.ensures, c.new-unstarted.ensures, c.of-in-Err-NotStarted.ensures) (
      fails_to_start c.in-Err-NotStarted.reason
          (subst (λ (line : List Text). Tries (g.S.Starter.asked c.args.starter.now)
          (g.S.Starter.asked c.start.new.self) line (Err (NotStarted c.in-Err-NotStarted.reason))) c.of.ensures
          (subst (λ (fault : StartFault). Tries (g.S.Starter.asked c.args.starter.now)
          (g.S.Starter.asked c.start.new.self) (program_line c.of.result.now) (Err fault))
          c.in-Err-NotStarted.field-0-is c.in-Err-NotStarted.ensures.asked))
          refl
          (c.lost.ensures ∙ ap (λ (x : Controller). lost x c.args.side) c.started-in-Err-NotStarted.ensures),
      refl,
    )
