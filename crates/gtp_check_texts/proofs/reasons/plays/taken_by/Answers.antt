use Rattle.std.proofs.Common.{subst, ap, ◌∙◌}
use Rattle.go_board.specs.Game.{GameRecord, IsLegal, HasRoom, with_move}
use Rattle.go_board.specs.LastTaken.{AreTakenByLast}
use Rattle.go_board.specs.Refusals.{Refuses}
use Rattle.gtp_check_texts.proofs.StonesTaken.{taken-made, taken-refused}
use Rattle.gtp_check_texts.proofs.reasons.plays.taken_by.Goals as goal

pub returns-in-Ok : goal.returns-in-Ok
returns-in-Ok c =
    let made = c.args.made in
    let copy = c.copied-next.ensures in
    let after = c.in-Ok.ensures.played
    ∙ ap (λ (g : GameRecord). with_move g made.colour made.vertex) copy in
    taken-made c.args.game.now made c.taken_by_last_move.result.items c.size.ensures.game
    (subst (λ (g : GameRecord). IsLegal g made.colour made.vertex × HasRoom g) copy c.in-Ok.ensures.answer)
    (subst (λ (g : GameRecord). AreTakenByLast g c.taken_by_last_move.result.items) after
    c.taken_by_last_move.ensures)

pub returns-in-Err : goal.returns-in-Err
returns-in-Err c =
    let made = c.args.made in
    taken-refused c.args.game.now made c.in-Err.field-0
    (subst (λ (g : GameRecord). Refuses g made.colour made.vertex c.in-Err.field-0) c.copied-next.ensures
    c.in-Err.ensures.answer)
