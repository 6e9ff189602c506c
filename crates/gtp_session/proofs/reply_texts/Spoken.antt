-- What is answered may be the text of a reply, and so it is one reply.
use Rattle.std.proofs.Common.{◌≡◌, ℕ, ◌≤◌, List, [], ◌∷◌, ◌++◌, length, map, Bool, true, false, cond, Option, Some}
use Rattle.std.proofs.Common.{None, refl, sym, subst, lit≤}
use Rattle.std.specs.Prelude.{codes, IfSome, is_some, ◌&&◌, nat_le, nat_lt, filter, MatchOption}
use Rattle.std.specs.List.{filter_map, join_with_byte, AllByRecursion, slice_split, cons_option}
use Rattle.go_base.specs.Int.{most_int, int_of}
use Rattle.go_base.specs.Size.{IsSize, most_size}
use Rattle.go_base.specs.declared.choices.Choice.{Choice}
use Rattle.go_base.specs.declared.choices.Choice.TheVariants as choice
use Rattle.go_base.specs.declared.colours.Colour.{Colour}
use Rattle.go_base.proofs.numbers.Ints.{spells_int_of}
use Rattle.go_base.specs.Decide.{allows?}
use Rattle.go_board.specs.decisions.Game.{legal?, touched?}
use Rattle.go_board.specs.Game.{GameRecord, most_moves}
use Rattle.go_board.specs.Area.{score}
use Rattle.gtp_wire.specs.declared.lines.Line.{Line}
use Rattle.gtp_wire.specs.declared.lines.Line.TheVariants as line
use Rattle.gtp_wire.specs.Bytes.{is_kept, is_newline, space_for_tab, before_hash}
use Rattle.gtp_wire.specs.Words.{most_line_bytes, words}
use Rattle.gtp_wire.specs.Lines.{lines, line_of, line_of_words, but_last}
use Rattle.gtp_wire.specs.Replies.{IsReply, IsReplyText, written_reply}
use Rattle.gtp_wire.proofs.written.OneReply.{written_is_read}
use Rattle.gtp_session.specs.Policy.{May, IsLawful}
use Rattle.gtp_session.specs.declared.commands.CommandName.{CommandName}
use Rattle.gtp_session.specs.declared.commands.CommandName.TheVariants as command
use Rattle.gtp_session.specs.Commands.{Answer, Arguments, answer, answer_by, answer_choice, answer_of_effect}
use Rattle.gtp_session.specs.Commands.{answer_to_named, answer_unless, asked, asked_by, asked_by_effect}
use Rattle.gtp_session.specs.Commands.{asked_by_named, command_named, id_of, named_command, row_of, syntax_error}
use Rattle.gtp_session.specs.Engine.{Engine, State, WrittenReply, Step, Answers, Replies}
use Rattle.gtp_session.specs.Engine.Answers.{none, over, more}
use Rattle.gtp_session.specs.Spoken.{HasIntId, IsLawfulAt, IsSpoken, reply_of_answer}
use Rattle.gtp_session.proofs.table.Causes.{fact, stones_fact, size_settles, stones_settle}
use Rattle.gtp_session.proofs.choosing.Policies.{AllowsLawful}
use Rattle.gtp_session.proofs.table.Rows.{asked_where}
use Rattle.gtp_session.proofs.reply_texts.NeatTexts.{vertex_fits, handicap_fits, shown_fits, number_fits, score_fits}

-- ---- the texts of the answers

-- a good answer: a text that a reply may have, and a board of one of the sizes
pub record IsGood (given : Answer) : Type 0 where
  pub text : IsReplyText given.text
  pub size : IsSize given.game.size

-- a text without a byte
pub empty_fits : IsReplyText []
empty_fits = record { fits = lit≤ tt; shown = refl; single = refl; front = refl; end = refl }

-- ---- what is against a command

Fits : Option (List ℕ) → Type 0
Fits cause = IfSome cause IsReplyText

if_fits : (t : Bool) (x y : Option (List ℕ)) → Fits x → Fits y → Fits (cond t x y)
if_fits true x y fx fy = fx
if_fits false x y fx fy = fy

dec_fits : {Fact : Type 0} (d : Dec Fact) (x y : Option (List ℕ)) → Fits x → Fits y
    → Fits (elim d [ yes _ ↦ x | no _ ↦ y ])
dec_fits (yes _) x y fx fy = fx
dec_fits (no _) x y fx fy = fy

full_fits : IsReplyText (codes "record full")
full_fits = record { fits = lit≤ tt; shown = refl; single = refl; front = refl; end = refl }

cause_fits : (c : CommandName) (game : GameRecord) (a : Arguments c) → Fits ((row_of c).refusal game a)
unfolding Fits
cause_fits command.Boardsize game size =
    if_fits (nat_le 1 size && nat_le size most_size) None (Some (codes "unacceptable size")) tt
    (record { fits = lit≤ tt; shown = refl; single = refl; front = refl; end = refl })
cause_fits command.Play game move =
    if_fits (nat_le most_moves (length game.moves)) (Some (codes "record full")) _ full_fits
    (dec_fits (legal? game move.colour move.vertex) None (Some (codes "illegal move")) tt
    (record { fits = lit≤ tt; shown = refl; single = refl; front = refl; end = refl }))
cause_fits command.Genmove game colour =
    if_fits (nat_le most_moves (length game.moves)) (Some (codes "record full")) None full_fits tt
cause_fits command.FixedHandicap game stones =
    dec_fits (touched? game) (Some (codes "board not empty")) _
    (record { fits = lit≤ tt; shown = refl; single = refl; front = refl; end = refl })
    (dec_fits (allows? game.size stones) None (Some (codes "invalid number of stones")) tt
    (record { fits = lit≤ tt; shown = refl; single = refl; front = refl; end = refl }))
cause_fits command.Undo game a =
    if_fits (nat_le 1 (length game.moves)) None (Some (codes "cannot undo")) tt
    (record { fits = lit≤ tt; shown = refl; single = refl; front = refl; end = refl })
cause_fits c game a = tt

-- ---- what a command does that is not refused

truth_fits : (b : Bool) → IsReplyText (cond b (codes "true") (codes "false"))
truth_fits true = record { fits = lit≤ tt; shown = refl; single = refl; front = refl; end = refl }
truth_fits false = record { fits = lit≤ tt; shown = refl; single = refl; front = refl; end = refl }

-- what a lawful choice is answered by
pub choice_fits : (game : GameRecord) (c : Colour) (ch : Choice) → game.size ≤ most_size → IsLawful game c ch
    → IsReplyText (answer_choice game c ch).text
choice_fits game c choice.Resign most lawful =
    record { fits = lit≤ tt; shown = refl; single = refl; front = refl; end = refl }
choice_fits game c (choice.Play v) most lawful = vertex_fits game c v most lawful

choice_good : (game : GameRecord) (c : Colour) (ch : Choice) → IsSize game.size → IsLawful game c ch
    → IsGood (answer_choice game c ch)
choice_good game c choice.Resign is lawful =
    record { text = choice_fits game c choice.Resign is.most lawful; size = is }
choice_good game c (choice.Play v) is lawful =
    record { text = choice_fits game c (choice.Play v) is.most lawful; size = is }

-- A command whose text is empty, or the same in each game, needs no clause where it keeps the size.
effect_good : (c : CommandName) (game : GameRecord) (a : Arguments c) (ch : Choice) → IsSize game.size
    → (row_of c).refusal game a ≡ None
    → IfSome (asked_by_effect (row_of c).effect (λ b. None) (Some a)) (λ d. IsLawful game d ch)
    → IsGood (answer_of_effect (row_of c).effect game a ch)
effect_good command.ProtocolVersion game a ch is unrefused lawful = record { text = number_fits 2; size = is }
effect_good command.KnownCommand game word ch is unrefused lawful =
    record { text = truth_fits (is_some (command_named word)); size = is }
effect_good command.Boardsize game size ch is unrefused lawful =
    let both = fact (size_settles size) unrefused in
    record { text = empty_fits; size = record { least = both.0; most = both.1 } }
effect_good command.Genmove game colour ch is unrefused lawful = choice_good game colour ch is lawful
effect_good command.FixedHandicap game stones ch is unrefused lawful =
    let both = stones_fact (stones_settle game stones) unrefused in
    record { text = handicap_fits game.size stones is both.1; size = is }
effect_good command.FinalScore game a ch is unrefused lawful = record { text = score_fits (score game); size = is }
effect_good command.Showboard game a ch is unrefused lawful = record { text = shown_fits game is; size = is }
effect_good c game a ch is unrefused lawful =
    record { text = record { fits = lit≤ tt; shown = refl; single = refl; front = refl; end = refl }; size = is }

-- ---- each command's answer

syntax_good : (game : GameRecord) → IsSize game.size → IsGood (syntax_error game)
syntax_good game is = record {
  text = record { fits = lit≤ tt; shown = refl; single = refl; front = refl; end = refl };
  size = is;
}

unless_good : (c : CommandName) (game : GameRecord) (a : Arguments c) (ch : Choice) (cause : Option (List ℕ))
    → (row_of c).refusal game a ≡ cause → Fits cause → IsSize game.size
    → IfSome (asked_by_effect (row_of c).effect (λ b. cause) (Some a)) (λ d. IsLawful game d ch)
    → IsGood (answer_unless cause (row_of c).effect game a ch)
unfolding Fits
unless_good c game a ch None unrefused fits is lawful = effect_good c game a ch is unrefused lawful
unless_good c game a ch (Some cause) why fits is lawful = record { text = fits; size = is }

row_good : (c : CommandName) (game : GameRecord) (o : Option (Arguments c)) (ch : Choice) → IsSize game.size
    → IfSome (asked_by (row_of c) game o) (λ d. IsLawful game d ch) → IsGood (answer_by (row_of c) game o ch)
row_good c game None ch is lawful = syntax_good game is
row_good c game (Some a) ch is lawful =
    unless_good c game a ch ((row_of c).refusal game a) refl (cause_fits c game a) is
    (subst (λ (o : Option Colour). IfSome o (λ d. IsLawful game d ch))
    (asked_where (row_of c).effect ((row_of c).refusal game) a) lawful)

pub named_good : (game : GameRecord) (named : Option CommandName) (words : List (List ℕ)) (ch : Choice)
    → IsSize game.size → IfSome (asked_by_named game named words) (λ c. IsLawful game c ch)
    → IsGood (answer_to_named game named words ch)
named_good game None words ch is lawful =
    record { text = record { fits = lit≤ tt; shown = refl; single = refl; front = refl; end = refl }; size = is }
named_good game (Some c) words ch is lawful = row_good c game ((row_of c).read words) ch is lawful

-- each line's answer
pub answer_good : (game : GameRecord) (l : Line) (ch : Choice) → IsSize game.size → IsLawfulAt game l ch
    → IsGood (answer game l ch)
answer_good game line.TooLong ch is lawful = syntax_good game is
answer_good game (line.Command cl) ch is lawful = named_good game (named_command cl.words) cl.words ch is lawful

-- ---- the ids of lines

int_of-few : (word : List ℕ) (id : Option ℕ) → int_of word ≡ id → IfSome id (λ n. n ≤ most_int)
int_of-few word None e = tt
int_of-few word (Some n) e = (spells_int_of n word e).limit

by_first : (o : Option ℕ) (w : List ℕ) (ws : List (List ℕ)) → IfSome o (λ n. n ≤ most_int)
    → HasIntId (line.Command (cond (is_some o) (record { id = o; words = ws }) (record { id = None; words = w ∷ ws })))
by_first None w ws fits = tt
by_first (Some n) w ws fits = fits

by_length : (long : Bool) (l : Line) → HasIntId l → HasIntId (cond long line.TooLong l)
by_length true l fits = tt
by_length false l fits = fits

line_id : (ws : List (List ℕ)) → IfSome (line_of_words ws) HasIntId
unfolding line_of_words
line_id [] = tt
line_id (w ∷ ws) =
    by_length (nat_lt most_line_bytes (length (join_with_byte 32 (w ∷ ws)))) _
    (by_first (int_of w) w ws (int_of-few w (int_of w) refl))

consed : {Y : Type 0} (P : Y → Type 0) (o : Option Y) (ys : List Y) → IfSome o P → AllByRecursion P ys
    → AllByRecursion P (cons_option o ys)
consed P None ys fits all = all
consed P (Some y) ys fits all = (fits, all)

filtered : {X Y : Type 0} (P : Y → Type 0) (h : X → Option Y) (xs : List X) → ((x : X) → IfSome (h x) P)
    → AllByRecursion P (filter_map h xs)
filtered P h [] all = tt
filtered P h (x ∷ xs) all = consed P (h x) (filter_map h xs) (all x) (filtered P h xs all)

part_id : (part : List ℕ) → IfSome (line_of part) HasIntId
unfolding line_of
part_id part = line_id (words (map space_for_tab (before_hash part)))

pub ids_fit : (text : List ℕ) → AllByRecursion HasIntId (lines text)
unfolding lines
ids_fit text = filtered HasIntId line_of (but_last (slice_split is_newline (filter is_kept text))) part_id

-- ---- replies

pub answer_is_reply : (game : GameRecord) (l : Line) (ch : Choice) → IsSize game.size → HasIntId l
    → IsLawfulAt game l ch
    → IsReply (written_reply (answer game l ch).ok (id_of l) (answer game l ch).text)
    (reply_of_answer (id_of l) (answer game l ch))
answer_is_reply game l ch is fits lawful =
    let given = answer game l ch in
    written_is_read given.ok (id_of l) given.text (reply_of_answer (id_of l) given) fits
    (answer_good game l ch is lawful).text refl refl refl

by_asked : {P : Type 0} (may : May P) → AllowsLawful may
    → (o : Option Colour) (old new : P) (game : GameRecord) (ch : Choice)
    → MatchOption o (new ≡ old) (λ c. may old game c ch new) → IfSome o (λ c. IsLawful game c ch)
by_asked may lawful None old new game ch allowed = tt
by_asked may lawful (Some c) old new game ch allowed = lawful old game c ch new allowed

module _ {P : Type 0} (may : May P) (lawful : AllowsLawful may) where
  -- what the policy of a step chose is lawful where it was asked
  pub step_lawful : {old new : State P} {l : Line} {reply : WrittenReply} → (step : Step may old l reply new)
      → IsLawfulAt old.game l step.choice
  step_lawful {old} {new} {l} {reply} step =
      by_asked may lawful (asked old.game l) old.policy new.policy old.game step.choice step.policy

  step_spoken : {old new : State P} {l : Line} {reply : WrittenReply} → IsSize old.game.size → HasIntId l
      → Step may old l reply new → IsSpoken reply.text
  step_spoken {old} {new} {l} {reply} is fits step =
      let given = answer old.game l step.choice in
      record {
        reply = reply_of_answer (id_of l) given;
        text = (answer_good old.game l step.choice is (step_lawful step)).text;
        written = step.text;
        read = subst (λ (t : List ℕ). IsReply t (reply_of_answer (id_of l) given)) (sym step.text)
            (answer_is_reply old.game l step.choice is fits (step_lawful step));
      }

  step_size : {old new : State P} {l : Line} {reply : WrittenReply} → IsSize old.game.size → Step may old l reply new
      → IsSize new.game.size
  step_size {old} {new} {l} {reply} is step =
      subst (λ (g : GameRecord). IsSize g.size) (sym step.game)
      (answer_good old.game l step.choice is (step_lawful step)).size

  answers_spoken : {old new : State P} {ls : List Line} {rs : List WrittenReply} → IsSize old.game.size
      → AllByRecursion HasIntId ls
      → Answers may old ls rs new → AllByRecursion (λ reply. IsSpoken reply.text) rs
  answers_spoken is fits none = tt
  answers_spoken is fits (over e) = tt
  answers_spoken is fits (more e step rest) =
      (step_spoken is fits.0 step, answers_spoken (step_size is step) fits.1 rest)

  -- each of the replies to a text is one reply
  pub replies_spoken : (old new : Engine P) (text : List ℕ) (rs : List WrittenReply) → IsSize old.game.size
      → Replies may old text new rs
      → AllByRecursion (λ reply. IsSpoken reply.text) rs
  replies_spoken old new text rs is replies = answers_spoken is (ids_fit (old.rest ++ text)) replies.answered
