use Rattle.vintsaky_calls.proofs.BegunAnew.{placed_again}
use Rattle.vintsaky_calls.proofs.batches.begin_anew.Goals as goal

pub returns-then-handicap-ne0 : goal.returns-then-handicap-ne0
returns-then-handicap-ne0 c =
    placed_again c.args.game.now c.clear.new.self c.place_handicap.new.self c.handicap-handicap.result
    c.place_handicap.result c.size.ensures.game.handicap c.handicap-handicap.ensures c.if-handicap-ne0.true
    c.clear.ensures c.place_handicap.ensures.placed c.place_handicap.ensures.answer
