-- What came of last games that were tried.
use Rattle.std.specs.Prelude.{option_map}
use Rattle.gtp_check_app.specs.declared.complaining.LastGames.{LastGames as Games}
use Rattle.gtp_check_app.specs.Trials.{LastGames}
use Rattle.gtp_check_talk.specs.Dialogues.{wrong_of}

abbrev pub games_of : Games → LastGames
games_of games =
    record { ended = option_map wrong_of games.ended; tried = games.tried; left = games.left.items }
