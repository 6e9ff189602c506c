use Rattle.std.proofs.Common.{◌≡◌, ◌∙◌, ap, arith}
use Rattle.std.proofs.lemmas.Grind.{common_steps}
use Rattle.go_base.specs.Decide.{holds}
use Rattle.go_board.specs.Game.{GameRecord, without_last}
use Rattle.go_board.specs.decisions.Game.{legal?}
use Rattle.gtp_check_texts.proofs.reasons.history.was_legal.Goals as goal

pub returns : goal.returns
returns c =
    let undone : c.undo.new.self ≡ without_last c.copied-before.result = grind (arith, common_steps) in
    c.is_legal.ensures
    ∙ ap (λ (g : GameRecord). holds (legal? g c.args.colour c.args.vertex))
    (undone ∙ ap without_last c.copied-before.ensures)
