-- What the text of a right answer has to say.
use Rattle.std.proofs.Common.{◌≡◌, ℕ, length, arith, ◌∙◌, Bool, true, false, List, Option, Some, None, refl, sym, ap}
use Rattle.std.proofs.Common.{subst, inl, inr}
use Rattle.std.specs.Prelude.{IfSome, ℤ}
use Rattle.go_base.specs.Handicap.{handicap_points}
use Rattle.go_base.specs.declared.colours.Colour.{Colour}
use Rattle.go_base.specs.declared.choices.Choice.{Choice}
use Rattle.go_board.specs.Game.{GameRecord, HasRoom}
use Rattle.gtp_wire.specs.declared.commands.Command.{Command}
use Rattle.gtp_check_judge.specs.declared.asking.CheckCommand.{CheckCommand}
use Rattle.gtp_check_judge.specs.declared.asking.CheckCommand.TheVariants.{Match, FinalScore, Name, Version}
use Rattle.gtp_check_judge.specs.declared.asking.CheckCommand.TheVariants.{KnownCommand, PlayInFull, GenmoveInFull, ListCommands}
use Rattle.gtp_check_judge.specs.declared.asking.CheckCommand.TheVariants.{Faulty, Required}
use Rattle.gtp_wire.specs.declared.commands.Command.TheVariants.{Boardsize, Komi, ClearBoard, FixedHandicap, Play}
use Rattle.gtp_wire.specs.declared.commands.Command.TheVariants.{Genmove, Undo, Quit}
use Rattle.gtp_wire.specs.Words.{reply_words}
use Rattle.gtp_session.specs.Policy.{IsLawful}
use Rattle.gtp_check_judge.specs.declared.dues.Cause.TheVariants.{BadMove, BadHandicap, NoMoves, BadCommand}
use Rattle.gtp_check_judge.specs.declared.dues.Due.{Due}
use Rattle.gtp_check_judge.specs.declared.dues.Due.TheVariants.{Succeeds, Fails, Places, Resizes, Scores, AnyReply}
use Rattle.gtp_check_judge.specs.declared.dues.Due.TheVariants.{Chooses, MayUndo, Lists}
use Rattle.gtp_wire.specs.ReplyWords.{names_points}
use Rattle.gtp_check_judge.specs.Asking.{IsGenmoveOf}
use Rattle.gtp_check_judge.specs.RightEngine.{RightEngine}
use Rattle.gtp_check_judge.specs.Dues.{IsDue, IsDueTo, IsFresh, UndoDue, engine_after}
use Rattle.gtp_check_judge.specs.Laws.{Says, SaysTo, MayFailToUndo, MayRefuse, after_refusal}
use Rattle.go_base.specs.declared.choices.Choice.TheVariants as choice
use Rattle.gtp_check_judge.proofs.commands.Komis.{any_inexact, inexact_any, of_komi}

-- a success that is due says nothing
says_success_to : (engine : RightEngine) (command : Command) (ch : Choice) (ok : Bool) (text : List ℕ)
    → IsDueTo engine command Succeeds → SaysTo engine.game command ch ok text
says_success_to engine (Boardsize size) ch ok text h = absurd (cc (h.0))
says_success_to engine (Komi komi) ch ok text h = tt
says_success_to engine ClearBoard ch ok text h = tt
says_success_to engine (FixedHandicap stones) ch ok text h = absurd h
says_success_to engine (Play move) ch ok text h = tt
says_success_to engine (Genmove colour) ch ok text h = absurd (cc (h.0))
says_success_to engine Undo ch ok text h = tt
says_success_to engine Quit ch ok text h = tt

pub says_success : (engine : RightEngine) (command : CheckCommand) (ch : Choice) (ok : Bool) (text : List ℕ)
    → IsDue engine command Succeeds → Says engine command ch ok text
says_success engine (Match command) ch ok text h = says_success_to engine command ch ok text h
says_success engine FinalScore ch ok text h = absurd (cc (h.0))
says_success engine Name ch ok text h = tt
says_success engine Version ch ok text h = tt
says_success engine (KnownCommand k) ch ok text h = tt
says_success engine ListCommands ch ok text h = absurd (cc h)
says_success engine (Faulty command) ch ok text h = absurd (cc h)
says_success engine (Required command) ch ok text h = tt
says_success engine (PlayInFull move) ch ok text h = says_success_to engine (Play move) ch ok text h
says_success engine (GenmoveInFull colour) ch ok text h = says_success_to engine (Genmove colour) ch ok text h

-- nor does a failure
says_failure_to : (game : GameRecord) (command : Command) (ch : Choice) (text : List ℕ)
    → SaysTo game command ch false text
says_failure_to game (Boardsize size) ch text = tt
says_failure_to game (Komi komi) ch text = tt
says_failure_to game ClearBoard ch text = tt
says_failure_to game (FixedHandicap stones) ch text = tt
says_failure_to game (Play move) ch text = tt
says_failure_to game (Genmove colour) ch text = tt
says_failure_to game Undo ch text = tt
says_failure_to game Quit ch text = tt

pub says_failure : (engine : RightEngine) (command : CheckCommand) (ch : Choice) (text : List ℕ)
    → Says engine command ch false text
says_failure engine (Match command) ch text = says_failure_to engine.game command ch text
says_failure engine FinalScore ch text = tt
says_failure engine Name ch text = tt
says_failure engine Version ch text = tt
says_failure engine (KnownCommand k) ch text = tt
says_failure engine ListCommands ch text = tt
says_failure engine (Faulty command) ch text = tt
says_failure engine (Required command) ch text = tt
says_failure engine (PlayInFull move) ch text = says_failure_to engine.game (Play move) ch text
says_failure engine (GenmoveInFull colour) ch text = says_failure_to engine.game (Genmove colour) ch text

-- the points of a handicap that are due are those that the text has to name
says_points_to : (engine : RightEngine) (command : Command) (size stones : ℕ) (ch : Choice) (text : List ℕ)
    → IsDueTo engine command (Places size stones)
    → names_points (handicap_points size stones) (reply_words text) ≡ true → SaysTo engine.game command ch true text
says_points_to engine (FixedHandicap count) size stones ch text h named =
    subst (λ (n : ℕ). names_points (handicap_points engine.game.size n) (reply_words text) ≡ true) h.1
    (subst (λ (s : ℕ). names_points (handicap_points s stones) (reply_words text) ≡ true) h.0 named)
says_points_to engine (Boardsize s) size stones ch text h named = absurd (cc (h.0))
says_points_to engine (Komi komi) size stones ch text h named = absurd (of_komi komi (Places size stones) h.0)
says_points_to engine ClearBoard size stones ch text h named = absurd (cc h)
says_points_to engine (Play move) size stones ch text h named = absurd h
says_points_to engine (Genmove colour) size stones ch text h named = absurd (cc (h.0))
says_points_to engine Undo size stones ch text h named = absurd h
says_points_to engine Quit size stones ch text h named = absurd h

pub says_points : (engine : RightEngine) (command : CheckCommand) (size stones : ℕ) (ch : Choice) (text : List ℕ)
    → IsDue engine command (Places size stones)
    → names_points (handicap_points size stones) (reply_words text) ≡ true → Says engine command ch true text
says_points engine (Match command) size stones ch text h named =
    says_points_to engine command size stones ch text h named
says_points engine FinalScore size stones ch text h named = absurd (cc (h.0))
says_points engine Name size stones ch text h named = absurd (cc h)
says_points engine Version size stones ch text h named = absurd (cc h)
says_points engine (KnownCommand k) size stones ch text h named = absurd (cc h)
says_points engine ListCommands size stones ch text h named = absurd (cc h)
says_points engine (Faulty command) size stones ch text h named = absurd (cc h)
says_points engine (Required command) size stones ch text h named = absurd (cc h)
says_points engine (PlayInFull move) size stones ch text h named =
    says_points_to engine (Play move) size stones ch text h named
says_points engine (GenmoveInFull colour) size stones ch text h named =
    says_points_to engine (Genmove colour) size stones ch text h named

points_said_to : (engine : RightEngine) (command : Command) (size stones : ℕ) (ch : Choice) (text : List ℕ)
    → IsDueTo engine command (Places size stones)
    → SaysTo engine.game command ch true text → names_points (handicap_points size stones) (reply_words text) ≡ true
points_said_to engine (FixedHandicap count) size stones ch text h said =
    subst (λ (s : ℕ). names_points (handicap_points s stones) (reply_words text) ≡ true) (sym h.0)
    (subst (λ (n : ℕ). names_points (handicap_points engine.game.size n) (reply_words text) ≡ true) (sym h.1) said)
points_said_to engine (Boardsize s) size stones ch text h said = absurd (cc (h.0))
points_said_to engine (Komi komi) size stones ch text h said = absurd (of_komi komi (Places size stones) h.0)
points_said_to engine ClearBoard size stones ch text h said = absurd (cc h)
points_said_to engine (Play move) size stones ch text h said = absurd h
points_said_to engine (Genmove colour) size stones ch text h said = absurd (cc (h.0))
points_said_to engine Undo size stones ch text h said = absurd h
points_said_to engine Quit size stones ch text h said = absurd h

pub points_said : (engine : RightEngine) (command : CheckCommand) (size stones : ℕ) (ch : Choice) (text : List ℕ)
    → IsDue engine command (Places size stones)
    → Says engine command ch true text → names_points (handicap_points size stones) (reply_words text) ≡ true
points_said engine (Match command) size stones ch text h said = points_said_to engine command size stones ch text h said
points_said engine FinalScore size stones ch text h said = absurd (cc (h.0))
points_said engine Name size stones ch text h said = absurd (cc h)
points_said engine Version size stones ch text h said = absurd (cc h)
points_said engine (KnownCommand k) size stones ch text h said = absurd (cc h)
points_said engine ListCommands size stones ch text h said = absurd (cc h)
points_said engine (Faulty command) size stones ch text h said = absurd (cc h)
points_said engine (Required command) size stones ch text h said = absurd (cc h)
points_said engine (PlayInFull move) size stones ch text h said = points_said_to engine (Play move) size stones ch text h said
points_said engine (GenmoveInFull colour) size stones ch text h said = points_said_to engine (Genmove colour) size stones ch text h said

-- a choice is due to a `genmove` of that colour alone, where the record has room
chooses_genmove_to : (engine : RightEngine) (command : Command) (colour : Colour)
    → IsDueTo engine command (Chooses colour)
    → (command ≡ Genmove colour) × HasRoom engine.game
chooses_genmove_to engine (Genmove c) colour h = (let e : c ≡ colour = cc (h.0) in ap Genmove e, h.1)
chooses_genmove_to engine (Boardsize s) colour h = absurd (cc (h.0))
chooses_genmove_to engine (Komi komi) colour h = absurd (of_komi komi (Chooses colour) h.0)
chooses_genmove_to engine ClearBoard colour h = absurd (cc h)
chooses_genmove_to engine (FixedHandicap stones) colour h = absurd h
chooses_genmove_to engine (Play move) colour h = absurd h
chooses_genmove_to engine Undo colour h = absurd h
chooses_genmove_to engine Quit colour h = absurd h

pub chooses_genmove : (engine : RightEngine) (command : CheckCommand) (colour : Colour)
    → IsDue engine command (Chooses colour) → IsGenmoveOf colour command × HasRoom engine.game
chooses_genmove engine (Match command) colour h =
    let is = chooses_genmove_to engine command colour h in (inl (ap Match is.0), is.1)
chooses_genmove engine FinalScore colour h = absurd (cc (h.0))
chooses_genmove engine Name colour h = absurd (cc h)
chooses_genmove engine Version colour h = absurd (cc h)
chooses_genmove engine (KnownCommand k) colour h = absurd (cc h)
chooses_genmove engine ListCommands colour h = absurd (cc h)
chooses_genmove engine (Faulty command) colour h = absurd (cc h)
chooses_genmove engine (Required command) colour h = absurd (cc h)
chooses_genmove engine (PlayInFull move) colour h = absurd h
chooses_genmove engine (GenmoveInFull c) colour h =
    (let e : c ≡ colour = cc (h.0) in inr (ap GenmoveInFull e), h.1)

pub resign_lawful : (game : GameRecord) (o : Option Colour) → IfSome o (λ c. IsLawful game c choice.Resign)
resign_lawful game None = tt
resign_lawful game (Some c) = tt

-- a size is due to a `boardsize` alone
resizes_boardsize_to : (engine : RightEngine) (command : Command) (size : ℕ) → IsDueTo engine command (Resizes size)
    → command ≡ Boardsize size
resizes_boardsize_to engine (Boardsize s) size h = let e : s ≡ size = cc (h.0) in ap Boardsize e
resizes_boardsize_to engine (Komi komi) size h = absurd (of_komi komi (Resizes size) h.0)
resizes_boardsize_to engine ClearBoard size h = absurd (cc h)
resizes_boardsize_to engine (FixedHandicap stones) size h = absurd h
resizes_boardsize_to engine (Play move) size h = absurd h
resizes_boardsize_to engine (Genmove colour) size h = absurd (cc (h.0))
resizes_boardsize_to engine Undo size h = absurd h
resizes_boardsize_to engine Quit size h = absurd h

pub resizes_boardsize : (engine : RightEngine) (command : CheckCommand) (size : ℕ) → IsDue engine command (Resizes size)
    → command ≡ Match (Boardsize size)
resizes_boardsize engine (Match command) size h = ap Match (resizes_boardsize_to engine command size h)
resizes_boardsize engine FinalScore size h = absurd (cc (h.0))
resizes_boardsize engine Name size h = absurd (cc h)
resizes_boardsize engine Version size h = absurd (cc h)
resizes_boardsize engine (KnownCommand k) size h = absurd (cc h)
resizes_boardsize engine ListCommands size h = absurd (cc h)
resizes_boardsize engine (Faulty command) size h = absurd (cc h)
resizes_boardsize engine (Required command) size h = absurd (cc h)
resizes_boardsize engine (PlayInFull move) size h = absurd h
resizes_boardsize engine (GenmoveInFull colour) size h = absurd (cc (h.0))

-- and where an `undo` may fail, to an `undo` alone
pub undos_undo : (engine : RightEngine) (command : CheckCommand) → IsDue engine command MayUndo
    → (command ≡ Match Undo) × MayFailToUndo engine
undos_undo engine (Match Undo) h = (refl, record { undone = h.0; moves = h.1 })
undos_undo engine (Match (Boardsize s)) h = absurd (cc (h.0))
undos_undo engine (Match (Komi komi)) h = absurd (of_komi komi MayUndo h.0)
undos_undo engine (Match ClearBoard) h = absurd (cc h)
undos_undo engine (Match (FixedHandicap stones)) h = absurd h
undos_undo engine (Match (Play move)) h = absurd h
undos_undo engine (Match (Genmove colour)) h = absurd (cc (h.0))
undos_undo engine (Match Quit) h = absurd h
undos_undo engine FinalScore h = absurd (cc (h.0))
undos_undo engine Name h = absurd (cc h)
undos_undo engine Version h = absurd (cc h)
undos_undo engine (KnownCommand k) h = absurd (cc h)
undos_undo engine ListCommands h = absurd (cc h)
undos_undo engine (Faulty command) h = absurd (cc h)
undos_undo engine (Required command) h = absurd (cc h)
undos_undo engine (PlayInFull move) h = absurd h
undos_undo engine (GenmoveInFull colour) h = absurd (cc (h.0))

-- a score is due to a `final_score` alone, and it is one of the empty board
pub record IsScored (engine : RightEngine) (command : CheckCommand) (size : ℕ) (komi : ℤ) : Type 0 where
  pub command_is : command ≡ FinalScore
  pub size_is : size ≡ engine.game.size
  pub komi_is : komi ≡ engine.game.komi
  pub fresh : IsFresh engine.game

pub scores_final : (engine : RightEngine) (command : CheckCommand) (s : ℕ) (k : ℤ) → IsDue engine command (Scores s k)
    → IsScored engine command s k
scores_final engine (Match (Boardsize size)) s k h = absurd (cc (h.0))
scores_final engine (Match (Komi komi)) s k h = absurd (of_komi komi (Scores s k) h.0)
scores_final engine (Match ClearBoard) s k h = absurd (cc h)
scores_final engine (Match (FixedHandicap stones)) s k h = absurd h
scores_final engine (Match (Play move)) s k h = absurd h
scores_final engine (Match (Genmove colour)) s k h = absurd (cc (h.0))
scores_final engine (Match Undo) s k h = absurd h
scores_final engine (Match Quit) s k h = absurd h
scores_final engine FinalScore s k h =
    record { command_is = refl; size_is = cc (h.0); komi_is = cc (h.0); fresh = h.1 }
scores_final engine Name s k h = absurd (cc h)
scores_final engine Version s k h = absurd (cc h)
scores_final engine (KnownCommand known) s k h = absurd (cc h)
scores_final engine ListCommands s k h = absurd (cc h)
scores_final engine (Faulty command) s k h = absurd (cc h)
scores_final engine (Required command) s k h = absurd (cc h)
scores_final engine (PlayInFull move) s k h = absurd h
scores_final engine (GenmoveInFull colour) s k h = absurd (cc (h.0))

-- a list is due to a `list_commands` alone
lists_list_to : (engine : RightEngine) (command : Command) → IsDueTo engine command Lists → ⊥
lists_list_to engine (Boardsize size) h = cc (h.0)
lists_list_to engine (Komi komi) h = of_komi komi Lists h.0
lists_list_to engine ClearBoard h = cc h
lists_list_to engine (FixedHandicap stones) h = h
lists_list_to engine (Play move) h = h
lists_list_to engine (Genmove colour) h = cc (h.0)
lists_list_to engine Undo h = h
lists_list_to engine Quit h = h

pub lists_list : (engine : RightEngine) (command : CheckCommand) → IsDue engine command Lists → command ≡ ListCommands
lists_list engine (Match command) h = absurd (lists_list_to engine command h)
lists_list engine FinalScore h = absurd (cc (h.0))
lists_list engine Name h = absurd (cc h)
lists_list engine Version h = absurd (cc h)
lists_list engine (KnownCommand known) h = absurd (cc h)
lists_list engine ListCommands h = refl
lists_list engine (Faulty command) h = absurd (cc h)
lists_list engine (Required command) h = absurd (cc h)
lists_list engine (PlayInFull move) h = absurd h
lists_list engine (GenmoveInFull colour) h = absurd (cc (h.0))

-- what may be refused, and what may say anything
pub any_free : (engine : RightEngine) (command : CheckCommand) → IsDue engine command AnyReply
    → MayRefuse engine command
any_free engine (Match (Boardsize size)) h = absurd (cc (h.0))
any_free engine (Match (Komi komi)) h = any_inexact komi h.0
any_free engine (Match ClearBoard) h = absurd (cc h)
any_free engine (Match (FixedHandicap stones)) h = absurd h
any_free engine (Match (Play move)) h = absurd h
any_free engine (Match (Genmove colour)) h = absurd (cc (h.0))
any_free engine (Match Undo) h = absurd h
any_free engine (Match Quit) h = absurd h
any_free engine FinalScore h = absurd (cc (h.0))
any_free engine Name h = tt
any_free engine Version h = tt
any_free engine (KnownCommand k) h = tt
any_free engine ListCommands h = absurd (cc h)
any_free engine (Faulty command) h = absurd (cc h)
any_free engine (Required command) h = absurd (cc h)
any_free engine (PlayInFull move) h = absurd h
any_free engine (GenmoveInFull colour) h = absurd (cc (h.0))

pub any_refused : (engine : RightEngine) (command : CheckCommand) → IsDue engine command AnyReply
    → engine_after engine command AnyReply ≡ after_refusal engine command
any_refused engine (Match (Boardsize size)) h = absurd (cc (h.0))
any_refused engine (Match (Komi komi)) h = refl
any_refused engine (Match ClearBoard) h = absurd (cc h)
any_refused engine (Match (FixedHandicap stones)) h = absurd h
any_refused engine (Match (Play move)) h = absurd h
any_refused engine (Match (Genmove colour)) h = absurd (cc (h.0))
any_refused engine (Match Undo) h = absurd h
any_refused engine (Match Quit) h = absurd h
any_refused engine FinalScore h = absurd (cc (h.0))
any_refused engine Name h = refl
any_refused engine Version h = refl
any_refused engine (KnownCommand k) h = refl
any_refused engine ListCommands h = absurd (cc h)
any_refused engine (Faulty command) h = absurd (cc h)
any_refused engine (Required command) h = absurd (cc h)
any_refused engine (PlayInFull move) h = absurd h
any_refused engine (GenmoveInFull colour) h = absurd (cc (h.0))

pub says_anything : (engine : RightEngine) (command : CheckCommand) (ch : Choice) (ok : Bool) (text : List ℕ)
    → IsDue engine command AnyReply → Says engine command ch ok text
says_anything engine (Match (Boardsize size)) ch ok text h = absurd (cc (h.0))
says_anything engine (Match (Komi komi)) ch ok text h = tt
says_anything engine (Match ClearBoard) ch ok text h = absurd (cc h)
says_anything engine (Match (FixedHandicap stones)) ch ok text h = absurd h
says_anything engine (Match (Play move)) ch ok text h = absurd h
says_anything engine (Match (Genmove colour)) ch ok text h = absurd (cc (h.0))
says_anything engine (Match Undo) ch ok text h = absurd h
says_anything engine (Match Quit) ch ok text h = absurd h
says_anything engine FinalScore ch ok text h = absurd (cc (h.0))
says_anything engine Name ch ok text h = tt
says_anything engine Version ch ok text h = tt
says_anything engine (KnownCommand k) ch ok text h = tt
says_anything engine ListCommands ch ok text h = absurd (cc h)
says_anything engine (Faulty command) ch ok text h = absurd (cc h)
says_anything engine (Required command) ch ok text h = absurd (cc h)
says_anything engine (PlayInFull move) ch ok text h = absurd h
says_anything engine (GenmoveInFull colour) ch ok text h = absurd (cc (h.0))

-- A right engine may refuse it: then a size is due, a score, an `undo` that may fail, or any text.
abbrev pub MayFail : Due → Type 0
MayFail (Resizes size) = Unit {0}
MayFail (Scores s k) = Unit {0}
MayFail AnyReply = Unit {0}
MayFail MayUndo = Unit {0}
MayFail Succeeds = ⊥
MayFail (Fails cause) = ⊥
MayFail (Places size stones) = ⊥
MayFail Lists = ⊥
MayFail (Chooses colour) = ⊥

undo_fails : (engine : RightEngine) (due : Due) → MayFailToUndo engine → UndoDue engine due → MayFail due
undo_fails engine MayUndo may h = tt
undo_fails engine Lists may h = absurd h
undo_fails engine Succeeds may h = absurd (let e : true ≡ false = sym may.undone ∙ h.0 in cc e)
undo_fails engine (Fails NoMoves) may h =
    absurd (let none : length engine.game.moves ≡ 0 = ap length h in omega (arith, may.moves, none))
undo_fails engine (Fails (BadMove fault)) may h = absurd h
undo_fails engine (Fails (BadHandicap fault)) may h = absurd h
undo_fails engine (Fails (BadCommand command)) may h = absurd h
undo_fails engine (Places size stones) may h = absurd h
undo_fails engine (Resizes size) may h = absurd h
undo_fails engine (Scores s k) may h = absurd h
undo_fails engine AnyReply may h = absurd h
undo_fails engine (Chooses colour) may h = absurd h

pub free_fails : (engine : RightEngine) (command : CheckCommand) (due : Due) → MayRefuse engine command
    → IsDue engine command due
    → MayFail due
free_fails engine (Match (Boardsize size)) due may h = subst MayFail (sym h.0) tt
free_fails engine (Match (Komi komi)) due may h = subst MayFail (sym (inexact_any komi due may h.0)) tt
free_fails engine (Match ClearBoard) due may h = absurd may
free_fails engine (Match (FixedHandicap stones)) due may h = absurd may
free_fails engine (Match (Play move)) due may h = absurd may
free_fails engine (Match (Genmove colour)) due may h = absurd may
free_fails engine (Match Undo) due may h = undo_fails engine due may h
free_fails engine (Match Quit) due may h = absurd may
free_fails engine FinalScore due may h = subst MayFail (sym h.0) tt
free_fails engine Name due may h = subst MayFail (sym h) tt
free_fails engine Version due may h = subst MayFail (sym h) tt
free_fails engine (KnownCommand k) due may h = subst MayFail (sym h) tt
free_fails engine ListCommands due may h = absurd may
free_fails engine (Faulty command) due may h = absurd may
free_fails engine (Required command) due may h = absurd may
free_fails engine (PlayInFull move) due may h = absurd may
free_fails engine (GenmoveInFull colour) due may h = absurd may
