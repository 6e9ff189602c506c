-- What bytes of a side, and `lost`, may change of a match, and why: said of the replies themselves, without the table.
use Rattle.std.specs.Prelude.{◌≡◌, ℕ, ◌+◌, ◌⊎◌, true, false, List, [], ◌∷◌, ◌++◌, length, drop, codes, Option, None}
use Rattle.std.specs.Prelude.{Some, IsSome, MatchOption, Ok}
use Rattle.go_base.specs.Handicap.{handicap_points}
use Rattle.go_base.specs.Vertex.{SpellsVertex}
use Rattle.go_base.specs.Word.{IsWord}
use Rattle.go_base.specs.declared.colours.Colour.{Colour}
use Rattle.go_base.specs.declared.vertices.Vertex.{Vertex}
use Rattle.go_base.specs.Colour.{other}
use Rattle.go_board.specs.Game.{GameRecord, IsLegal, with_move, without_last}
use Rattle.gtp_wire.specs.Replies.{IsFirst}
use Rattle.gtp_wire.specs.declared.commands.Command.{Command}
use Rattle.gtp_wire.specs.declared.commands.Command.TheVariants.{FixedHandicap, Genmove}
use Rattle.gtp_wire.specs.declared.replies.Reply.{Reply}
use Rattle.gtp_match.specs.Hearing.{Hears}
use Rattle.gtp_wire.specs.ReplyWords.{NamesEachOnce}
use Rattle.gtp_match.specs.Script.{script}
use Rattle.gtp_wire.specs.Words.{reply_words}
use Rattle.gtp_match.specs.Sides.{side_of}
use Rattle.gtp_match.specs.Sound.{IsPlay, IsUndo}
use Rattle.gtp_match.specs.Taking.{may_retake, taking_back}
use Rattle.gtp_match.specs.Unanswered.{oldest}
use Rattle.gtp_match.specs.declared.controller.Controller.{Controller}
use Rattle.gtp_match.specs.declared.sides.EngineRun.{EngineRun}
use Rattle.gtp_match.specs.declared.unanswered.SentCommand.{SentCommand}
use Rattle.gtp_match.specs.declared.verdicts.ForfeitCause.{ForfeitCause}
use Rattle.gtp_match.specs.declared.verdicts.ForfeitCause.TheVariants.{RefusedPlay, NoMove, NoVertex, IllegalMove}
use Rattle.gtp_match.specs.declared.verdicts.SideFault.{SideFault}
use Rattle.gtp_match.specs.declared.verdicts.Verdict.{Verdict}
use Rattle.gtp_match.specs.declared.verdicts.Verdict.TheVariants.{Score, Resign, Limit, Forfeit, Unfit, Abandoned}

-- ---- the reply that was heard

-- the bytes that were used end this reply of the engine
abbrev pub EndsReply : EngineRun → List ℕ → ℕ → Reply → Type 0
EndsReply engine bytes used reply = IsFirst (engine.reader ++ bytes) (length engine.reader + used) (Ok reply)

-- The bytes that were used end a reply that has the id of the engine's oldest unanswered command, and the command and
-- the reply are so.
pub record HearsReply (engine : EngineRun) (bytes : List ℕ) (used : ℕ) (Is : Command → Reply → Type 0) : Type 0 where
  pub reply : Reply
  pub entry : SentCommand
  pub ends : EndsReply engine bytes used reply
  pub answers_oldest : oldest engine.unanswered ≡ Some entry
  pub id : reply.id ≡ Some entry.id
  pub is : Is entry.command reply

abbrev pub IsGenmove : Command → Type 0
IsGenmove command = (colour : Colour) × (command ≡ Genmove colour)

-- an `undo` succeeded
abbrev pub UndoSucceeds : Command → Reply → Type 0
UndoSucceeds command reply = IsUndo command × (reply.ok ≡ true)

-- ---- moves

-- A `genmove` succeeded, and the reply's text is one word: it spells a vertex.
pub record ChoosesVertex (vertex : Vertex) (command : Command) (reply : Reply) : Type 0 where
  pub asked : IsGenmove command
  pub succeeds : reply.ok ≡ true
  pub word : List ℕ
  pub one_word : reply_words reply.text.items ≡ word ∷ []
  pub spelled : SpellsVertex vertex word

-- it is the vertex of a move that was legal for the side
abbrev pub ChoosesMove : GameRecord → Colour → Vertex → Command → Reply → Type 0
ChoosesMove game s vertex command reply = ChoosesVertex vertex command reply × IsLegal game s vertex

-- the bytes end a reply that is a legal move of the side, and the new game is the old one with this move
pub record MakesMove (c new : Controller) (s : Colour) (bytes : List ℕ) (used : ℕ) : Type 0 where
  pub engine : EngineRun
  pub up : (side_of c.sides s).up ≡ Some engine
  pub vertex : Vertex
  pub heard : HearsReply engine bytes used (ChoosesMove c.game s vertex)
  pub game : new.game ≡ with_move c.game s vertex

-- a `play` failed
abbrev pub PlayFails : Command → Reply → Type 0
PlayFails command reply = IsPlay command × (reply.ok ≡ false)

-- it is up, and has confirmed as many commands as the script has
abbrev pub HasConfirmedAll : GameRecord → Option EngineRun → Type 0
HasConfirmedAll game up = MatchOption up ⊥ (λ engine. engine.confirmed ≡ length (script game))

-- Why a move leaves the game: its maker took it back; it was refused, and its maker isn't up with all commands of the
-- script confirmed; or its maker, at which it was to be taken back, is put down by a fault.
pub data WhyTakenBack (c : Controller) (s : Colour) (engine : EngineRun) (bytes : List ℕ) (used : ℕ)
    (fault : Option SideFault) : Type 0 where
  undone : HearsReply engine bytes used UndoSucceeds → WhyTakenBack c s engine bytes used fault
  refused : HearsReply engine bytes used PlayFails → may_retake c s engine ≡ true
      → (¬ HasConfirmedAll c.game (side_of c.sides (other s)).up) → WhyTakenBack c s engine bytes used fault
  put_down : IsSome fault → taking_back c ≡ Some s → WhyTakenBack c s engine bytes used fault

pub record TakesMoveBack (c new : Controller) (s : Colour) (bytes : List ℕ) (used : ℕ) (fault : Option SideFault)
    : Type 0 where
  pub engine : EngineRun
  pub up : (side_of c.sides s).up ≡ Some engine
  pub why : WhyTakenBack c s engine bytes used fault
  pub game : new.game ≡ without_last c.game

-- What is heard of a side leaves the game, or is the move that is added to it, or takes its last move back.
abbrev pub MovesHaveReplies : Type 0
MovesHaveReplies =
    (c new : Controller) (s : Colour) (bytes : List ℕ) (used : ℕ) (fault : Option SideFault)
    → Hears c s bytes used fault new
    → (new.game ≡ c.game) ⊎ (MakesMove c new s bytes used ⊎ TakesMoveBack c new s bytes used fault)

-- ---- causes of verdicts

-- a `genmove` succeeded, and the reply's text is one word: `resign`, whatever the case
pub record ChoosesResign (command : Command) (reply : Reply) : Type 0 where
  pub asked : IsGenmove command
  pub succeeds : reply.ok ≡ true
  pub word : List ℕ
  pub one_word : reply_words reply.text.items ≡ word ∷ []
  pub spelled : IsWord (codes "resign") word

-- a `genmove` succeeded, and the reply's text isn't one word that spells a vertex or is `resign`
pub record ChoosesNothing (command : Command) (reply : Reply) : Type 0 where
  pub asked : IsGenmove command
  pub succeeds : reply.ok ≡ true
  pub no_resign : (word : List ℕ) → reply_words reply.text.items ≡ word ∷ [] → ¬ IsWord (codes "resign") word
  pub no_vertex : (word : List ℕ) (vertex : Vertex) → reply_words reply.text.items ≡ word ∷ []
      → ¬ SpellsVertex vertex word

-- an answer to `fixed_handicap` whose words aren't vertices on the handicap's points, each of them once
pub record NamesOtherPoints (game : GameRecord) (command : Command) (reply : Reply) : Type 0 where
  pub stones : ℕ
  pub handicap : command ≡ FixedHandicap stones
  pub other_points : ¬ NamesEachOnce (handicap_points game.size stones) (reply_words reply.text.items)

-- none of `play`, `genmove` and `undo`; it failed, or named other points than the handicap's
pub record IsUnfit (game : GameRecord) (command : Command) (reply : Reply) : Type 0 where
  pub no_play : ¬ IsPlay command
  pub no_genmove : ¬ IsGenmove command
  pub no_undo : ¬ IsUndo command
  pub why : (reply.ok ≡ false) ⊎ NamesOtherPoints game command reply

-- a reply for which its side forfeits; a `play` that it refused may not be retaken
abbrev pub IsForfeit : Controller → Colour → EngineRun → ForfeitCause → Command → Reply → Type 0
IsForfeit c s engine RefusedPlay command reply = PlayFails command reply × (may_retake c s engine ≡ false)
IsForfeit c s engine NoMove command reply = IsGenmove command × (reply.ok ≡ false)
IsForfeit c s engine NoVertex command reply = ChoosesNothing command reply
IsForfeit c s engine IllegalMove command reply =
    (vertex : Vertex) × ChoosesVertex vertex command reply × ¬ IsLegal c.game s vertex

-- an `undo` failed
abbrev pub UndoFails : Command → Reply → Type 0
UndoFails command reply = IsUndo command × (reply.ok ≡ false)

-- A side forfeits by its own reply; or it had refused a move, and the other side's reply fails to take it back.
pub data IsForfeited (c : Controller) (s : Colour) (engine : EngineRun) (bytes : List ℕ) (used : ℕ)
    : Colour → ForfeitCause → Type 0 where
  by_itself : {cause : ForfeitCause} → HearsReply engine bytes used (IsForfeit c s engine cause)
      → IsForfeited c s engine bytes used s cause
  by_the_other : HearsReply engine bytes used UndoFails → IsForfeited c s engine bytes used (other s) RefusedPlay

-- the command that a resignation answers is answered, and isn't confirmed
pub record IsAnsweredOnly (engine : EngineRun) (new : Controller) (s : Colour) : Type 0 where
  pub after : EngineRun
  pub up : (side_of new.sides s).up ≡ Some after
  pub answered : after.unanswered ≡ drop 1 engine.unanswered
  pub confirmed : after.confirmed ≡ engine.confirmed

-- Why a verdict is given when bytes of the side are heard: it names the side, or the other where this one keeps a move
-- that the other refused, or is the end after its move.
abbrev pub HasCause : Controller → Controller → Colour → EngineRun → List ℕ → ℕ → Option SideFault → Verdict → Type 0
HasCause c new s engine bytes used fault (Resign side) =
    (side ≡ s) × HearsReply engine bytes used ChoosesResign × IsAnsweredOnly engine new s
HasCause c new s engine bytes used fault (Forfeit side cause) = IsForfeited c s engine bytes used side cause
HasCause c new s engine bytes used fault (Unfit side) = (side ≡ s) × HearsReply engine bytes used (IsUnfit c.game)
HasCause c new s engine bytes used fault (Abandoned side) = (side ≡ s) × IsSome fault
HasCause c new s engine bytes used fault (Score half_points) = MakesMove c new s bytes used
HasCause c new s engine bytes used fault Limit = MakesMove c new s bytes used

-- a verdict that is new after bytes of a side were heard has its cause in them
abbrev pub CausesAreTrue : Type 0
CausesAreTrue =
    (c new : Controller) (s : Colour) (bytes : List ℕ) (used : ℕ) (fault : Option SideFault) (v : Verdict)
    → Hears c s bytes used fault new → c.verdict ≡ None → new.verdict ≡ Some v
    → (engine : EngineRun) × ((side_of c.sides s).up ≡ Some engine) × HasCause c new s engine bytes used fault v
