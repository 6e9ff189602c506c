-- What holds of every match holds after every list of calls.
use Rattle.std.proofs.Common.{List, [], ◌∷◌, arith}
use Rattle.go_board.specs.Game.{IsGame}
use Rattle.gtp_match.specs.declared.controller.Controller.{Controller}
use Rattle.gtp_match.specs.Setup.{SetupRecord, IsSetup, game_of}
use Rattle.gtp_match.specs.Controller.{new, started, sent, lost}
use Rattle.gtp_match.specs.Sound.{IsSound}
use Rattle.gtp_match.specs.Calls.{Call, starts, sends, hears, hears_all, loses, CallsBy, Calls}
use Rattle.gtp_match.proofs.soundness.Calls.{new_sound, started_sound, sent_sound}
use Rattle.gtp_match.proofs.soundness.Down.{lost_sound}
use Rattle.gtp_match.proofs.soundness.Heard.{hears_sound, hears_all_sound}

pub calls_sound : (calls : List Call) (c last : Controller) → IsSound c → Calls c calls last → IsSound last
calls_sound [] c last h CallsBy.none = h
calls_sound (starts s ∷ calls) c last h (CallsBy.start e more) =
    calls_sound calls (started c s) last (started_sound c s h e) more
calls_sound (sends s ∷ calls) c last h (CallsBy.send e more) =
    calls_sound calls (sent c s) last (sent_sound c s h e) more
calls_sound (hears s bytes ∷ calls) c last h (CallsBy.hear {mid = mid} used fault heard more) =
    calls_sound calls mid last (hears_sound c s bytes used fault mid h heard) more
calls_sound (hears_all s bytes ∷ calls) c last h (CallsBy.hear_all {mid = mid} fault heard more) =
    calls_sound calls mid last (hears_all_sound s c mid bytes fault h heard) more
calls_sound (loses s ∷ calls) c last h (CallsBy.lose more) = calls_sound calls (lost c s) last (lost_sound c s h) more

-- a game without moves
pub opening_is_game : (setup : SetupRecord) → IsSetup setup → IsGame (game_of setup [])
opening_is_game setup is = record {
  size = is.size;
  komi = is.komi;
  handicap = is.handicap;
  few = omega arith;
  legal = λ k m e. absurd (cc);
}

pub match_sound : (setup : SetupRecord) (calls : List Call) (last : Controller) → IsSetup setup
    → Calls (new setup) calls last → IsSound last
match_sound setup calls last is all =
    calls_sound calls (new setup) last (new_sound setup is (opening_is_game setup is)) all
