-- Earlier moves of a game.
use Rattle.std.proofs.Common.{◌≡◌, ℕ, zero, suc, ◌+◌, ◌-◌, ◌<◌, Bool, true, false, refl, sym, ap, ◌∙◌, arith}
use Rattle.std.proofs.lemmas.Bool.{false≢true}
use Rattle.std.specs.Prelude.{◌↔◌, IsTrue, Option, is_some, if◌then◌else◌}
use Rattle.go_base.specs.Decide.{holds}
use Rattle.go_base.specs.declared.moves.Move.{Move}
use Rattle.go_board.specs.Board.{stone_at}
use Rattle.go_board.specs.Game.{GameRecord, board_of, without_last}
use Rattle.go_board.proofs.captures.CapturedStones.{holds-yes, holds-no}
use Rattle.gtp_check_texts.specs.reasons.History.{emptied_in, last_move}

-- what is so by an equivalence is what the decision says
pub as_decided : {A : Type 0} (d : Dec A) (is : Bool) → IsTrue is ↔ A → is ≡ holds d
as_decided d true h = sym (holds-yes d (h.0 refl))
as_decided d false h = sym (holds-no d (λ a. absurd (false≢true (h.1 a))))

-- what the last moves but so many say is what one of them says, or those before it
pub one_earlier : (moves number p : ℕ) (game : GameRecord) → number < moves
    → emptied_in (moves - number) game p
    ≡ (if is_some (stone_at (board_of (without_last game)) p) then last_move game
    else emptied_in (moves - (number + 1)) (without_last game) p)
unfolding emptied_in
one_earlier moves number p game below =
    let more : moves - number ≡ suc (moves - (number + 1)) = omega (arith, below) in
    ap (λ (n : ℕ). emptied_in n game p) more
