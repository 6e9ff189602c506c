use Rattle.std.proofs.Common.{◌≡◌, Option, Some, None, sym, ◌∙◌, ap, subst}
use Rattle.std.specs.Prelude.{MatchOption}
use Rattle.go_base.specs.declared.colours.Colour.TheVariants.{Black, White}
use Rattle.go_board.specs.Game.{GameRecord}
use Rattle.gtp_world.specs.Worlds.{MadeWorld, game_at}
use Rattle.gtp_world.proofs.world.World.game_of.Goals as goal

pub returns-in-Black-clause-running : goal.returns-in-Black-clause-running
returns-in-Black-clause-running g c =
    subst (λ (x : Option GameRecord). MatchOption c.game.result (x ≡ None) (λ game. x ≡ Some game.now))
    (ap (λ (w : MadeWorld _ _ _ _). game_at w.world Black) c.self.view_is
    ∙ ap (game_at c.args.self.now.world) (sym c.in-Black.is)) c.game.ensures

pub returns-in-White-clause-running : goal.returns-in-White-clause-running
returns-in-White-clause-running g c =
    subst (λ (x : Option GameRecord). MatchOption c.game-in-White.result (x ≡ None) (λ game. x ≡ Some game.now))
    (ap (λ (w : MadeWorld _ _ _ _). game_at w.world White) c.self.view_is
    ∙ ap (game_at c.args.self.now.world) (sym c.in-White.is)) c.game-in-White.ensures
