use Rattle.std.proofs.Common.{◌∙◌, ◌++◌, ap, append_assoc, List, ℕ}
use Rattle.gtp_check_shortening.specs.LastGame.{last_game, left_out, shows}
use Rattle.gtp_check_shortening.specs.declared.last_game.LastGame.{LastGame}
use Rattle.gtp_check_texts.specs.LastGame.{left_out_line, lines_where}
use Rattle.gtp_check_texts.proofs.last_game.add_last_game.Goals as goal

pub returns : goal.returns
returns c =
    let complaint = c.args.complaint.now in
    let game = c.last_game-game.ensures ∙ ap last_game c.asked.ensures in
    c.in_ok-add_lines.ensures
    ∙ ap (λ (all : List ℕ). all ++ lines_where (shows c.last_game-game.result) complaint)
    (c.in_ok-add_left_out.ensures ∙ ap (λ (count : ℕ). c.args.text.now.items ++ left_out_line count) c.left_out.ensures)
    ∙ append_assoc c.args.text.now.items (left_out_line (left_out c.last_game-game.result))
    (lines_where (shows c.last_game-game.result) complaint)
    ∙ ap (λ (one : LastGame). c.args.text.now.items ++ (left_out_line (left_out one) ++ lines_where (shows one) complaint)) game
