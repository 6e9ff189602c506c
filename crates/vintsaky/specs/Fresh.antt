-- What is put into memory, beside readers that were given nothing.
use Rattle.std.specs.Prelude.{pos}
use Rattle.go_board.specs.Game.{GameRecord, fresh_game_under}
use Rattle.go_board.specs.declared.rules.KoRule.TheVariants.{Simple}
use Rattle.gtp_match.specs.Setup.{setup_of}
use Rattle.gtp_match.specs.referee.Refereed as referee
use Rattle.gtp_match.specs.referee.Refereed.{Refereed}
use Rattle.gtp_session.specs.Steps.{StepsState, fresh_steps}

-- size 19, no komi, simple ko
abbrev pub fresh_game : GameRecord
fresh_game = fresh_game_under Simple

-- simple ko, and given nothing
abbrev pub fresh_engine : StepsState
fresh_engine = fresh_steps Simple

-- size 19, no komi, no handicap, 2,000 moves at most, no restart, no ruling
abbrev pub fresh_match : Refereed
fresh_match = referee.new (setup_of 19 (pos 0) 0 2000 0)
