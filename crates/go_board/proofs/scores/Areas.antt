-- The score, from both areas.
use Rattle.std.proofs.Common.{◌≡◌, ℕ, List, ◌∙◌, ap}
use Rattle.std.specs.Prelude.{ℤ, pos, ◌*ℤ◌, ◌-ℤ◌}
use Rattle.go_base.specs.declared.colours.Colour.TheVariants.{Black, White}
use Rattle.go_board.specs.Area.{area, score}
use Rattle.go_board.specs.Game.{GameRecord, board_of}
use Rattle.go_board.specs.declared.board.Cell.{Cell}

pub score-from_areas : (game : GameRecord) (cells : List Cell) (black white : ℕ) (komi : ℤ) → cells ≡ board_of game
    → black ≡ area cells Black → white ≡ area cells White → komi ≡ game.komi
    → ((pos 2 *ℤ (pos black -ℤ pos white)) -ℤ komi) ≡ score game
unfolding score
score-from_areas game cells black white komi is b w k =
    let bb : black ≡ area (board_of game) Black = b ∙ ap (λ (x : List Cell). area x Black) is in
    let ww : white ≡ area (board_of game) White = w ∙ ap (λ (x : List Cell). area x White) is in
    ap (λ (n : ℕ). (pos 2 *ℤ (pos n -ℤ pos white)) -ℤ komi) bb
    ∙ ap (λ (n : ℕ). (pos 2 *ℤ (pos (area (board_of game) Black) -ℤ pos n)) -ℤ komi) ww
    ∙ ap (λ (z : ℤ). (pos 2 *ℤ (pos (area (board_of game) Black) -ℤ pos (area (board_of game) White))) -ℤ z) k
