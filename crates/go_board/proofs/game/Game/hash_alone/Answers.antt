use Rattle.std.proofs.lemmas.Bool.{false≢true}
use Rattle.std.proofs.Common.{sym, ◌∙◌}
use Rattle.go_board.proofs.records.PlayHashes.{alone-after}
use Rattle.go_board.proofs.game.Game.hash_alone.Goals as goal

pub returns-clause-some : goal.returns-clause-some
returns-clause-some c =
    alone-after c.self.inside c.args.self.now c.args.colour c.other.result c.place_of-place.result c.args.point
    c.last.result c.key_at.result c.self.invariant c.self.view_is c.requires.rule c.requires.empty
    c.place_of-place.ensures.value c.other.ensures
    (λ takes. false≢true (sym c.if-takes_any.false ∙ c.takes_any.ensures.1 takes)) c.last.ensures c.key_at.ensures
