use Rattle.std.proofs.Common.{subst}
use Rattle.gtp_match.specs.private.Conditions.{MayBe}
use Rattle.gtp_match.specs.declared.reply_table.Outcome.{Outcome}
use Rattle.gtp_match.specs.declared.reply_table.Outcome.TheVariants.{Moves}
use Rattle.gtp_match.specs.Sides.{with_side, with_engine}
use Rattle.gtp_match.proofs.replies.LegalMoves.{is_played, applied_move, confirms_borrowed}
use Rattle.gtp_match.proofs.controller.Controller.apply.Goals as goal

pub returns-in-Moves-clause-applied : goal.returns-in-Moves-clause-applied
returns-in-Moves-clause-applied c =
    let may : MayBe c.args.self.now.game c.args.side (Moves c.in-Moves.vertex) =
    subst (λ (o : Outcome). MayBe c.args.self.now.game c.args.side o) c.in-Moves.is c.requires.outcome in
    applied_move c.args.self.now c.args.side c.in-Moves.vertex c.args.outcome c.play.new.self
    (with_side c.args.side (with_engine c.confirm-in-Moves.new.self c.side_of_mut.result.now) c.args.self.now.sides)
    c.verdict_after-self.result c.in-Moves.is
    (is_played c.args.self.now.game c.play.new.self c.args.side c.in-Moves.vertex c.play.result may.0 may.1
    c.play.ensures.played c.play.ensures.answer)
    (rw c.confirm-in-Moves.ensures (confirms_borrowed c.args.self.now.sides c.args.side c.side_of_mut.result.now
    c.in-Some.engine c.side_of_mut.ensures.value c.in-Some.is))
    c.verdict_after-self.ensures
