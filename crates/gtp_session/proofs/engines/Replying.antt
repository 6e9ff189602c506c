-- Laws of an engine's replies.
use Rattle.std.proofs.Common.{◌≡◌, ℕ, Bool, true, false, Option, Some, None, List, [], ◌∷◌, ◌++◌, refl, sym, ap}
use Rattle.std.proofs.Common.{◌∙◌, append_assoc}
use Rattle.std.proofs.lemmas.List.{append-nil}
use Rattle.gtp_wire.specs.declared.lines.Line.{Line}
use Rattle.gtp_wire.specs.Lines.{lines, EndsLine, Finds}
use Rattle.gtp_wire.proofs.line_reading.OneAfterOther.{tail_of, lines_more, Finds-lines}
use Rattle.std.specs.Prelude.{◌&&◌, is_some, codes}
use Rattle.gtp_wire.specs.declared.lines.Line.TheVariants as line
use Rattle.go_base.specs.declared.choices.Choice.{Choice}
use Rattle.gtp_session.specs.declared.commands.CommandName.{CommandName}
use Rattle.go_board.specs.Game.{GameRecord}
use Rattle.gtp_session.specs.Policy.{May}
use Rattle.gtp_session.specs.Commands.{answer, answer_to, answer_to_named, asked, asked_by_named, has_name}
use Rattle.gtp_session.specs.Commands.{is_genmove_line, named_command, row_of}
use Rattle.gtp_session.proofs.table.Names.{row_asks}
use Rattle.gtp_session.proofs.table.Rows.{row_counts}
use Rattle.gtp_session.specs.Engine.{Engine, State, WrittenReply, state_of, Step, Answers, Replies, StopsAtLine}
use Rattle.gtp_session.specs.Engine.Answers.{none, over, more}

-- a text without a byte has no line
pub lines-nothing : lines [] ≡ []
unfolding lines
lines-nothing = refl

-- a text without a line is its own rest
pub Finds-none : (old text : List ℕ) → lines (old ++ text) ≡ [] → Finds old text [] (old ++ text)
Finds-none old text e = record { rest = λ later. ap lines (sym (append_assoc old text later)); no_line = e }

ended_both : {P : Type 0} (a b : Engine P) → a.ended ≡ true → b.ended ≡ false → b ≡ a → ⊥
ended_both a b e f g = let h : b.ended ≡ a.ended = ap (λ x. x.ended) g in cc

-- A `genmove` succeeds exactly where it asks the policy, whatever that chooses.
named_asks : (game : GameRecord) (named : Option CommandName) (words : List (List ℕ)) (choice : Choice)
    → (has_name (codes "genmove") named && (answer_to_named game named words choice).ok)
    ≡ is_some (asked_by_named game named words)
named_asks game None words choice = refl
named_asks game (Some c) words choice =
    ap (λ (asks : Bool). asks && (answer_to game c words choice).ok) (sym (row_asks c))
    ∙ row_counts (row_of c) game ((row_of c).read words) choice

pub succeeds_where_asked : (game : GameRecord) (line : Line) (choice : Choice)
    → (is_genmove_line line && (answer game line choice).ok) ≡ is_some (asked game line)
succeeds_where_asked game line.TooLong choice = refl
succeeds_where_asked game (line.Command command_line) choice = named_asks game (named_command command_line.words)
    command_line.words choice

module _ {P : Type 0} (may : May P) where
  -- a state that has ended stays, whatever lines come
  pub Answers-over : {old new : State P} {ls : List Line} {rs : List WrittenReply} → old.ended ≡ true
      → Answers may old ls rs new → (rs ≡ []) × (new ≡ old)
  Answers-over e none = (refl, refl)
  Answers-over e (over f) = (refl, refl)
  Answers-over e (more f step rest) = cc

  -- what is answered to two texts of lines, one after the other
  pub Answers-then : {a b c : State P} {xs ys : List Line} {rs ss : List WrittenReply} → Answers may a xs rs b
      → Answers may b ys ss c → Answers may a (xs ++ ys) (rs ++ ss) c
  Answers-then none q = q
  Answers-then {a} {b} {c} {xs} {ys} {rs} {ss} (over e) q =
      let o = Answers-over e q in
      rw (o.0, o.1) (over e)
  Answers-then (more e step p) q = more e step (Answers-then p q)

  -- an engine that has ended gives no reply, whatever it is given
  pub Replies-over : (a : Engine P) (text : List ℕ) → a.ended ≡ true → Replies may a text a []
  Replies-over a text e = record { answered = over e; unread = λ f later. cc; idle = λ _. refl }

  -- lines are found in the text, and those after it are in the new rest
  pub Replies-found : {a b : Engine P} {text : List ℕ} {found : List Line} {rs : List WrittenReply} → a.ended ≡ false
      → Finds a.rest text found b.rest
      → Answers may (state_of a) found rs (state_of b) → Replies may a text b rs
  Replies-found {a} {b} {text} {found} {rs} e f p =
      record {
        answered = rw (← Finds-lines f) p;
        unread = λ _ later. f.rest later ∙ ap (λ (t : List Line). t ++ lines (b.rest ++ later)) (Finds-lines f);
        idle = λ t. cc;
      }

  both : {a b c : Engine P} {text next : List ℕ} {rs ss : List WrittenReply} (t : Bool) → b.ended ≡ t
      → Replies may a text b rs → Replies may b next c ss → Replies may a (text ++ next) c (rs ++ ss)
  both {a} {b} {c} {text} {next} {rs} {ss} true e p q =
      let same : c ≡ b = q.idle e in
      let none_more : ss ≡ [] = (Answers-over e q.answered).0 in
      let longer : List Line = lines (tail_of (a.rest ++ text) ++ next) in
      let split : lines (a.rest ++ (text ++ next)) ≡ lines (a.rest ++ text) ++ longer =
      ap lines (sym (append_assoc a.rest text next)) ∙ lines_more (a.rest ++ text) next in
      rw (same, none_more) (record {
        answered = rw split (Answers-then p.answered (over e));
        unread = λ f later. cc;
        idle = λ f. p.idle f;
      })
  both {a} {b} {c} {text} {next} {rs} {ss} false e p q =
      let split : lines (a.rest ++ (text ++ next)) ≡ lines (a.rest ++ text) ++ lines (b.rest ++ next) =
      p.unread e next in
      record {
        answered = rw split (Answers-then p.answered q.answered);
        unread = λ f later.
            ap (λ (t : List ℕ). lines (a.rest ++ t)) (append_assoc text next later) ∙ p.unread e (next ++ later)
            ∙ ap (λ (t : List Line). lines (a.rest ++ text) ++ t) (q.unread f later)
            ∙ sym (append_assoc (lines (a.rest ++ text)) (lines (b.rest ++ next)) (lines (c.rest ++ later)))
            ∙ ap (λ (t : List Line). t ++ lines (c.rest ++ later)) (sym split);
        idle = λ f. let g : b ≡ a = p.idle f in absurd (ended_both a b f e g);
      }

  -- the replies to one text and then to the next are those to both
  pub Replies-then : {a b c : Engine P} {text next : List ℕ} {rs ss : List WrittenReply} → Replies may a text b rs
      → Replies may b next c ss → Replies may a (text ++ next) c (rs ++ ss)
  Replies-then {b = b} p q = both b.ended refl p q

  -- one line is found, and answered
  pub Replies-line : {a b : Engine P} {text rest : List ℕ} {line : Line} {reply : WrittenReply} → a.ended ≡ false
      → Finds a.rest text (line ∷ []) rest
      → Step may (state_of a) line reply (state_of b) → b.rest ≡ rest → Replies may a text b (reply ∷ [])
  Replies-line e f step r = Replies-found e (rw r f) (more e step none)

  -- the text ends with the line that it finds
  pub StopsAtLine-found : {a : Engine P} {text : List ℕ} → a.ended ≡ false → EndsLine a.rest text
      → StopsAtLine may a text
  StopsAtLine-found {a} {text} e ends =
      record {
        front = ends.front;
        between = record a { rest = a.rest ++ ends.front };
        ends = ends.newline;
        before = Replies-found e (Finds-none a.rest ends.front ends.before) none;
      }

  -- nothing is read, and nothing is answered
  pub Replies-nothing : (a : Engine P) → lines a.rest ≡ [] → Replies may a [] a []
  Replies-nothing a e =
      record {
        answered = rw (append-nil, e) none;
        unread = λ _ later. rw (append-nil a.rest, e) refl;
        idle = λ _. refl;
      }
