-- An engine: what it holds, and how it answers a text.
use Rattle.std.specs.Prelude.{◌≡◌, ℕ, Bool, true, false, ◌&&◌, List, [], ◌∷◌, ◌++◌, map, Option, None, Some}
use Rattle.std.specs.Prelude.{MatchOption}
use Rattle.std.specs.List.{concat}
use Rattle.arrayvec.specs.ArrayVec.{ArrayVec}
use Rattle.go_base.specs.Bytes.{newline}
use Rattle.gtp_wire.specs.declared.lines.Line.{Line}
use Rattle.gtp_wire.specs.Lines.{lines}
use Rattle.gtp_wire.specs.Replies.{written_reply}
use Rattle.go_board.specs.Game.{GameRecord, fresh_game_under}
use Rattle.go_board.specs.declared.rules.KoRule.{KoRule}
use Rattle.go_board.specs.declared.rules.KoRule.TheVariants.{Simple}
use Rattle.gtp_session.specs.Policy.{May}
use Rattle.go_base.specs.declared.choices.Choice.{Choice}
use Rattle.gtp_session.specs.Commands.{answer, asked, id_of, ends, is_genmove_line}

-- An engine: the text that it was given and has not read as lines, its game, its policy, and whether its session has
-- ended.
pub record Engine (P : Type 0) : Type 0 where
  pub rest : List ℕ
  pub game : GameRecord
  pub policy : P
  pub ended : Bool

-- What an engine has beside that text.
pub record State (P : Type 0) : Type 0 where
  pub game : GameRecord
  pub policy : P
  pub ended : Bool

abbrev pub state_of : {P : Type 0} → Engine P → State P
state_of engine = record { game = engine.game; policy = engine.policy; ended = engine.ended }

-- A reply as it is written, and whether the line that it answers was a `genmove` that succeeded.
pub record WrittenReply : Type 0 where
  pub text : List ℕ
  pub genmove : Bool

-- the replies joined
abbrev pub output_of : List WrittenReply → List ℕ
output_of replies = concat (map (λ reply. reply.text) replies)

-- One line is answered with this reply. The policy is asked where the line asks it, and otherwise it stays.
pub record Step {P : Type 0} (may : May P) (old : State P) (line : Line) (reply : WrittenReply)
    (new : State P) : Type 0 where
  pub choice : Choice
  pub policy : MatchOption (asked old.game line) (new.policy ≡ old.policy)
      (λ colour. may old.policy old.game colour choice new.policy)
  pub game : new.game ≡ (answer old.game line choice).game
  pub ended : new.ended ≡ ends line
  pub text : reply.text ≡ written_reply (answer old.game line choice).ok (id_of line) (answer old.game line choice).text
  pub genmove : reply.genmove ≡ (is_genmove_line line && (answer old.game line choice).ok)

module _ {P : Type 0} (may : May P) where
  -- The lines are answered one after the other, up to and with the first that ends the session.
  pub data Answers : State P → List Line → List WrittenReply → State P → Type 0 where
    none : {old : State P} → Answers old [] [] old
    over : {old : State P} {unread : List Line} → old.ended ≡ true → Answers old unread [] old
    more : {old mid new : State P} {line : Line} {unread : List Line}
        {reply : WrittenReply} {replies : List WrittenReply}
        → old.ended ≡ false → Step may old line reply mid → Answers mid unread replies new
        → Answers old (line ∷ unread) (reply ∷ replies) new

-- The engine reads the text and gives these replies, one for each line.
pub record Replies {P : Type 0} (may : May P) (old : Engine P) (text : List ℕ) (new : Engine P)
    (replies : List WrittenReply) : Type 0 where
  pub answered : Answers may (state_of old) (lines (old.rest ++ text)) replies (state_of new)
  -- until it ends, what it holds back and whatever follows have the lines that are still to be answered
  pub unread : new.ended ≡ false → (later : List ℕ)
      → lines (old.rest ++ (text ++ later)) ≡ lines (old.rest ++ text) ++ lines (new.rest ++ later)
  -- once it has ended it stays as it is
  pub idle : old.ended ≡ true → new ≡ old

-- The engine reads the text and writes out.
abbrev pub Engages : {P : Type 0} → May P → Engine P → List ℕ → Engine P → List ℕ → Type 0
Engages may old text new out =
    (replies : List WrittenReply) × Replies may old text new replies × (out ≡ output_of replies)

-- One text and then another are both, with the replies joined.
abbrev pub RepliesJoin : {P : Type 0} → May P → Type 0
RepliesJoin {P} may =
    (a b c : Engine P) (text next : List ℕ) (replies more : List WrittenReply)
    → Replies may a text b replies → Replies may b next c more → Replies may a (text ++ next) c (replies ++ more)

-- One text and then another are both, with the outputs joined.
abbrev pub EngagesJoin : {P : Type 0} → May P → Type 0
EngagesJoin {P} may =
    (a b c : Engine P) (text next out more : List ℕ)
    → Engages may a text b out → Engages may b next c more → Engages may a (text ++ next) c (out ++ more)

-- the engine with this ko rule that was given nothing
abbrev pub fresh_under : {P : Type 0} → KoRule → P → Engine P
fresh_under rule policy = record { rest = []; game = fresh_game_under rule; policy = policy; ended = false }

-- the engine with simple ko
abbrev pub fresh : {P : Type 0} → P → Engine P
fresh policy = fresh_under Simple policy

-- the text ends with an LF, and nothing is answered before that
pub record StopsAtLine {P : Type 0} (may : May P) (old : Engine P) (text : List ℕ) : Type 0 where
  pub front : List ℕ
  pub between : Engine P
  pub ends : text ≡ front ++ newline ∷ []
  pub before : Replies may old front between []

-- the reply of this text, if there is one
abbrev pub reply_if : Bool → ArrayVec ℕ → Option (ArrayVec ℕ)
reply_if false text = None
reply_if true text = Some text

-- the reply of an optional text, if there is one, as a list
abbrev pub replies_of : Option (ArrayVec ℕ) → Bool → List WrittenReply
replies_of None genmove = []
replies_of (Some text) genmove = record { text = text.items; genmove = genmove } ∷ []
