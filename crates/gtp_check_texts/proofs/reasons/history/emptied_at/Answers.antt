use Rattle.std.proofs.Common.{◌≡◌, ◌∙◌, ℕ, ◌+◌, ◌-◌, ◌<◌, Bool, true, false, List, Option, ap, arith, sym, length}
use Rattle.std.specs.Prelude.{is_some, if◌then◌else◌}
use Rattle.std.proofs.lemmas.Grind.{common_steps}
use Rattle.go_base.specs.declared.colours.Colour.{Colour}
use Rattle.go_base.specs.declared.moves.Move.{Move}
use Rattle.go_board.specs.Board.{stone_at}
use Rattle.go_board.specs.Game.{GameRecord, board_of, without_last}
use Rattle.gtp_check_texts.specs.reasons.History.{emptied_in, last_move}
use Rattle.gtp_check_texts.proofs.Earlier.{one_earlier}
use Rattle.gtp_check_texts.proofs.reasons.history.emptied_at.Goals as goal

pub loop-ago-init : goal.loop-ago-init
loop-ago-init c =
    let count = length c.args.game.now.moves in
    let none : count ≡ count - 0 = omega arith in
    ap (λ (n : ℕ). emptied_in n c.args.game.now c.args.point) none
    ∙ ap (λ (g : GameRecord). emptied_in (count - 0) g c.args.point) (sym c.copied-earlier.ensures)

pub loop-ago-preserved : goal.loop-ago-preserved
loop-ago-preserved c =
    let p = c.args.point in
    let count = length c.args.game.now.moves in
    let ago = c.loop-ago._ago in
    let earlier = c.loop-ago.earlier in
    let end = ap (λ (moves : List Move). length moves) c.moves-ago-end.ensures.moves in
    let below : ago < count = omega (arith, c.loop-ago-test.true, end) in
    let undone : c.undo.new.self ≡ without_last earlier = grind (arith, common_steps) in
    let none : is_some (stone_at (board_of (without_last earlier)) p) ≡ false =
    ap (λ (g : GameRecord). is_some (stone_at (board_of g) p)) (sym undone)
    ∙ ap (λ (stone : Option Colour). is_some stone) (sym c.at.ensures) ∙ sym c.is_some.ensures ∙ c.if-is_some.false in
    c.loop-ago.invariant ∙ one_earlier count ago p earlier below
    ∙ ap (λ (b : Bool). if b then last_move earlier else emptied_in (count - (ago + 1)) (without_last earlier) p) none
    ∙ ap (λ (g : GameRecord). emptied_in (count - (ago + 1)) g p) (sym undone)

pub returns-then-is_some : goal.returns-then-is_some
returns-then-is_some c =
    let p = c.args.point in
    let count = length c.args.game.now.moves in
    let ago = c.loop-ago._ago in
    let earlier = c.loop-ago.earlier in
    let end = ap (λ (moves : List Move). length moves) c.moves-ago-end.ensures.moves in
    let below : ago < count = omega (arith, c.loop-ago-test.true, end) in
    let undone : c.undo.new.self ≡ without_last earlier = grind (arith, common_steps) in
    let some : is_some (stone_at (board_of (without_last earlier)) p) ≡ true =
    ap (λ (g : GameRecord). is_some (stone_at (board_of g) p)) (sym undone)
    ∙ ap (λ (stone : Option Colour). is_some stone) (sym c.at.ensures) ∙ sym c.is_some.ensures ∙ c.if-is_some.true in
    c.last_move-last.ensures
    ∙ sym (c.loop-ago.invariant ∙ one_earlier count ago p earlier below
    ∙ ap (λ (b : Bool). if b then last_move earlier else emptied_in (count - (ago + 1)) (without_last earlier) p) some)

pub returns : goal.returns
unfolding emptied_in
returns c =
    let count = length c.args.game.now.moves in
    let end = ap (λ (moves : List Move). length moves) c.moves-ago-end.ensures.moves in
    let over : count - c.loop-ago._ago ≡ 0 = omega (arith, c.loop-ago-test.false, end) in
    sym (c.loop-ago.invariant ∙ ap (λ (n : ℕ). emptied_in n c.loop-ago.earlier c.args.point) over)
