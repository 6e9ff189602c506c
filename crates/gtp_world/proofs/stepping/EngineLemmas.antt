-- A sans-IO engine is like a session, for which the line that waits is still on its way.
use Rattle.std.proofs.Common.{◌≡◌, ◌≢◌, ℕ, ◌≤◌, true, false, List, [], ◌∷◌, ◌++◌, length, take, drop}
use Rattle.std.proofs.Common.{Option, Some, None, refl, ap, sym, ◌∙◌, subst, arith, inl, inr}
use Rattle.std.specs.List.{AllByRecursion}
use Rattle.std.specs.Prelude.{Bool}
use Rattle.std.proofs.lemmas.List.{append-nil, take-append-drop, take-take, take_all, take_at, drop_at, length-take}
use Rattle.go_base.specs.declared.colours.Colour.{Colour}
use Rattle.go_base.specs.declared.choices.Choice.{Choice}
use Rattle.go_base.specs.declared.choices.Choice.TheVariants.{Resign}
use Rattle.go_board.specs.declared.rules.KoRule.{KoRule}
use Rattle.gtp_wire.specs.declared.lines.Line.{Line}
use Rattle.gtp_wire.specs.Lines.{lines, Finds, ReadsLine, head_of}
use Rattle.gtp_session.specs.declared.events.Wait.{Wait}
use Rattle.gtp_session.specs.declared.events.Wait.TheVariants as wait
use Rattle.gtp_session.specs.declared.events.Event.{Event}
use Rattle.gtp_session.specs.declared.events.Event.TheVariants as event
use Rattle.gtp_session.specs.declared.events.StepsFed.{StepsFed}
use Rattle.gtp_session.proofs.choosing.Policies.{AllowsLawful}
use Rattle.gtp_session.proofs.engines.Replying.{Replies-found, Replies-line, succeeds_where_asked}
use Rattle.gtp_session.proofs.stepping.Waits.{by-choice, by-nothing, by-answer}
use Rattle.gtp_session.proofs.stepping.Runs.{tables_line, tables_not_other}
use Rattle.gtp_session.specs.Policy.{IsLawful}
use Rattle.gtp_session.specs.Commands.{answer, asked}
use Rattle.gtp_session.specs.Engine.{Engine, WrittenReply, state_of, Step, Replies, Engages, fresh_under}
use Rattle.gtp_session.specs.Engine.Answers.{none}
use Rattle.gtp_session.specs.Steps.{StepsState, fresh_steps, IsOpen, ReadsOn, FindsNone, FindsLine, wait_of, event_of}
use Rattle.gtp_session.specs.Steps.{wait_by, is_other_line}
use Rattle.gtp_session.specs.Steps.{answered, replied_by, author_text_to, after_wait, with_line, Chooses}
use Rattle.gtp_session.specs.StepsRuns.{IsTablesLine}
use Rattle.gtp_world.specs.Kinds.{Call, FeedsFront, written_at, OrRefused, Calls}
use Rattle.gtp_world.specs.Kinds.{in_steps}
use Rattle.gtp_world.specs.StepsLaws.{any_lawful, any_policies}
use Rattle.gtp_world.proofs.settling.RoundLemmas.{IsOneLine}
use Rattle.gtp_world.proofs.stepping.LikenessLemmas.{IsFollowing, Moves, still, Likeness}

-- ---- a sans-IO engine is like a session whose policy may choose whatever is lawful

-- the line that waits for a choice: the text that it was read from, and what was held before that
pub record IsHeld (s : StepsState) (colour : Colour) : Type 0 where
  pub before : List ℕ
  pub text : List ℕ
  pub found : (later : List ℕ) → lines (before ++ (text ++ later)) ≡ s.line ∷ lines (s.rest ++ later)
  pub unread : lines s.rest ≡ []
  pub asks : asked s.game s.line ≡ Some colour

abbrev pub LikeBy : StepsState → Wait → Type 0
LikeBy s wait.Nothing = Unit {0}
LikeBy s (wait.Choice colour) = IsHeld s colour
LikeBy s wait.Answer = ⊥

abbrev pub before_by : (s : StepsState) (w : Wait) → LikeBy s w → List ℕ
before_by s wait.Nothing sh = s.rest
before_by s (wait.Choice colour) sh = sh.before
before_by s wait.Answer sh = s.rest

abbrev pub text_by : (s : StepsState) (w : Wait) → LikeBy s w → List ℕ
text_by s wait.Nothing sh = []
text_by s (wait.Choice colour) sh = sh.text
text_by s wait.Answer sh = []

abbrev pub as_engine : StepsState → List ℕ → Engine (Unit {0})
as_engine s rest = record { rest = rest; game = s.game; policy = tt; ended = s.ended }

abbrev pub engine_by : (s : StepsState) (w : Wait) → LikeBy s w → Engine (Unit {0})
engine_by s w sh = as_engine s (before_by s w sh)

-- where that engine comes to
abbrev pub MovesTo : Engine (Unit {0}) → List ℕ → StepsState → Wait → List ℕ → List ℕ → Type 0
MovesTo x coming s2 w2 left written = Moves any_lawful x coming (engine_by s2 w2) (text_by s2 w2) left written

same_engine : (s : StepsState) (w : Wait) → s.wait ≡ w → (sh : LikeBy s w) (coming : List ℕ) (s2 : StepsState)
    (left written : List ℕ) → lines (before_by s w sh) ≡ [] → s2 ≡ s → left ≡ coming → written ≡ []
    → MovesTo (engine_by s w sh) (text_by s w sh ++ coming) s2 s2.wait left written
same_engine s w e sh coming s2 left written unread same l wr =
    let x : Engine (Unit {0}) = engine_by s w sh in
    let te : List ℕ = text_by s w sh ++ coming in
    subst (λ (t : StepsState). MovesTo x te t t.wait left written) (sym same)
    (subst (λ (v : Wait). MovesTo x te s v left written) (sym e)
    (still any_lawful x te (engine_by s w) (text_by s w) sh left written unread refl
    (ap (λ (t : List ℕ). text_by s w sh ++ t) l) wr))

-- its last reply, and whether it is that of a `genmove` that succeeded
abbrev last_reply : StepsState → Bool → WrittenReply
last_reply s genmove = record { text = s.reply; genmove = genmove }

-- a line is answered: by the table, or by a choice
one_reply : (x y : Engine (Unit {0})) (line : Line) (choice : Choice) (coming : List ℕ) (n : ℕ) (text : List ℕ)
    (s2 : StepsState) (genmove : _) → x.ended ≡ false → take n coming ≡ text → Finds x.rest text (line ∷ []) y.rest
    → Step any_lawful (state_of x) line (last_reply s2 genmove) (state_of y)
    → Engages any_lawful x (take n coming) y s2.reply
one_reply x y line choice coming n text s2 genmove going t finds step = (
  last_reply s2 genmove ∷ [],
  subst (λ (z : List ℕ). Replies any_lawful x z y (last_reply s2 genmove ∷ [])) (sym t)
      (Replies-line any_lawful going finds step refl),
  sym (append-nil s2.reply),
)

-- ---- it is fed

module _ (s : StepsState) (is : IsOpen s) (coming : List ℕ) (follows : IsFollowing (as_engine s s.rest) coming)
    (count used : ℕ) (within : used ≤ length (take count coming)) where
  front_is : take used coming ≡ take used (take count coming)
  front_is = sym (take-take used count coming (omega (arith, within, length-take count coming)))

  cut_is : take used (take count coming) ++ drop used coming ≡ coming
  cut_is = ap (λ (t : List ℕ). t ++ drop used coming) (sym front_is) ∙ take-append-drop used coming

  module _ (line : Line) (rest : List ℕ) (reads : ReadsLine s.rest (take count coming) used (Some line) rest) where
    is_tables : IsTablesLine line
    is_tables =
        let split : lines (s.rest ++ coming) ≡ line ∷ lines (rest ++ drop used coming) =
        ap (λ (t : List ℕ). lines (s.rest ++ t)) (sym cut_is) ∙ reads.finds.rest (drop used coming) in
        (subst (AllByRecursion IsTablesLine) split follows.tables).0

    replied_moves : (own : Option (List ℕ)) → own ≡ None → asked s.game line ≡ None
        → MovesTo (as_engine s s.rest) coming (replied_by (with_line s line rest) own)
        (replied_by (with_line s line rest) own).wait (drop used coming) (replied_by (with_line s line rest) own).reply
    replied_moves None e asks =
        let s2 : StepsState = answered (with_line s line rest) (answer s.game line Resign) in
        let step : Step any_lawful (state_of (as_engine s s.rest)) line (last_reply s2 false)
        (state_of (as_engine s2 rest)) =
        record {
          choice = Resign;
          policy = rw asks refl;
          game = refl;
          ended = refl;
          text = refl;
          genmove = sym (succeeds_where_asked s.game line Resign ∙ rw asks refl);
        }
        in (
          used,
          tt,
          one_reply (as_engine s s.rest) (as_engine s2 rest) line Resign coming used (take used (take count coming)) s2
              false is.goes_on front_is reads.finds step,
          refl,
        )
    replied_moves (Some text) e asks = absurd (cc e)

    line_moves : (w : Wait) → wait_of s.game line ≡ w
        → MovesTo (as_engine s s.rest) coming (after_wait (with_line s line rest) w)
        (after_wait (with_line s line rest) w).wait (drop used coming)
        (written_at (event_of w) (after_wait (with_line s line rest) w))
    line_moves wait.Nothing asks =
        replied_moves (author_text_to (with_line s line rest) line) (tables_line (with_line s line rest) line is_tables)
        (by-nothing _ _ asks)
    line_moves (wait.Choice colour) asks =
        let s2 : StepsState = after_wait (with_line s line rest) (wait.Choice colour) in
        let sh : IsHeld s2 colour = record {
          before = s.rest;
          text = take used (take count coming);
          found = λ later. reads.finds.rest later;
          unread = reads.finds.no_line;
          asks = by-choice _ _ colour asks;
        }
        in
        still any_lawful (as_engine s s.rest) coming (engine_by s2 (wait.Choice colour))
        (text_by s2 (wait.Choice colour)) sh (drop used coming) [] follows.unread refl cut_is refl
    line_moves wait.Answer asks = absurd (tables_not_other line is_tables (by-answer _ _ asks))

  found_line : (reported : Event) (s2 : StepsState) (left written : List ℕ) → left ≡ drop used coming
      → written ≡ written_at reported s2 → FindsLine s (take count coming) used reported s2
      → MovesTo (as_engine s s.rest) coming s2 s2.wait left written
  found_line reported s2 left written l wr f =
      let to : StepsState = after_wait (with_line s f.line f.rest) (wait_of s.game f.line) in
      let w2 : written ≡ written_at (event_of (wait_of s.game f.line)) to =
      wr ∙ ap (λ (v : Event). written_at v s2) f.event_is
      ∙ ap (λ (t : StepsState). written_at (event_of (wait_of s.game f.line)) t) f.new_is in
      subst (λ (t : StepsState). MovesTo (as_engine s s.rest) coming t t.wait left written) (sym f.new_is)
      (subst (λ (z : List ℕ). MovesTo (as_engine s s.rest) coming to to.wait left z) (sym w2)
      (subst (λ (z : List ℕ). MovesTo (as_engine s s.rest) coming to to.wait z
      (written_at (event_of (wait_of s.game f.line)) to)) (sym l)
      (line_moves f.line f.rest f.reads (wait_of s.game f.line) refl)))

  found_none : (s2 : StepsState) (left written : List ℕ) → left ≡ drop used coming → written ≡ []
      → FindsNone s (take count coming) used s2
      → MovesTo (as_engine s s.rest) coming s2 s2.wait left written
  found_none s2 left written l wr f =
      let replies : Replies any_lawful (as_engine s s.rest) (take used coming) (as_engine s s2.rest) [] =
      Replies-found any_lawful is.goes_on
      (subst (λ (t : List ℕ). Finds s.rest t [] s2.rest) (sym front_is) f.reads.finds) none in
      subst (λ (t : StepsState). MovesTo (as_engine s s.rest) coming t t.wait left written) (sym f.new_is)
      (subst (λ (w : Wait). MovesTo (as_engine s s.rest) coming (record s { rest = s2.rest }) w left written)
      (sym is.waits_not) (used, tt, ([], replies, wr), l))

  reads_open : (reported : Event) (s2 : StepsState) (left written : List ℕ) → left ≡ drop used coming
      → written ≡ written_at reported s2 → ReadsOn s (take count coming) used reported s2
      → MovesTo (as_engine s s.rest) coming s2 s2.wait left written
  reads_open event.More s2 left written l wr f = found_none s2 left written l wr f
  reads_open event.Reply s2 left written l wr f = found_line event.Reply s2 left written l wr f
  reads_open (event.Asked colour) s2 left written l wr f = found_line (event.Asked colour) s2 left written l wr f
  reads_open event.Other s2 left written l wr f = found_line event.Other s2 left written l wr f
  reads_open event.Ended s2 left written l wr f = absurd f

event_waits : (w : Wait) (s : StepsState) → w ≢ wait.Nothing → written_at (event_of w) s ≡ []
event_waits wait.Nothing s n = absurd (n refl)
event_waits (wait.Choice colour) s n = refl
event_waits wait.Answer s n = refl

reads_by : (s : StepsState) (w : Wait) → s.wait ≡ w → (sh : LikeBy s w) (count : ℕ) (coming : List ℕ)
    (s2 : StepsState) (left written : List ℕ) → IsFollowing (engine_by s w sh) (text_by s w sh ++ coming)
    → FeedsFront count s coming s2 left written
    → MovesTo (engine_by s w sh) (text_by s w sh ++ coming) s2 s2.wait left written
reads_by s wait.Nothing e sh count coming s2 left written r f =
    let is : IsOpen s = record { goes_on = r.going; waits_not = e } in
    reads_open s is coming r count f.fed.used f.feeds.within f.fed.event s2 left written f.left_is f.written_is
    (f.feeds.reads is)
reads_by s (wait.Choice colour) e sh count coming s2 left written r f =
    let waits : s.wait ≢ wait.Nothing = λ n. let wrong : wait.Choice colour ≡ wait.Nothing = sym e ∙ n in cc in
    let h = f.feeds.waits waits in
    same_engine s (wait.Choice colour) e sh coming s2 left written r.unread h.1
    (f.left_is ∙ ap (λ (fed : StepsFed). drop fed.used coming) h.0)
    (f.written_is ∙ ap (λ (fed : StepsFed). written_at fed.event s2) h.0 ∙ event_waits s.wait s2 waits)
reads_by s wait.Answer e sh count coming s2 left written r f = absurd sh

-- ---- its author calls

-- a choice is made
chosen : (s : StepsState) (colour : Colour) (sh : IsHeld s colour) (choice : Choice) (coming : List ℕ)
    → s.ended ≡ false → asked s.game s.line ≡ Some colour → IsLawful s.game colour choice
    → MovesTo (as_engine s sh.before) (sh.text ++ coming) (answered s (answer s.game s.line choice)) wait.Nothing coming
    (answered s (answer s.game s.line choice)).reply
chosen s colour sh choice coming going asks lawful =
    let s2 : StepsState = answered s (answer s.game s.line choice) in
    let step : Step any_lawful (state_of (as_engine s sh.before)) s.line (last_reply s2 true)
    (state_of (as_engine s2 s.rest)) =
    record {
      choice = choice;
      policy = rw asks lawful;
      game = refl;
      ended = refl;
      text = refl;
      genmove = sym (succeeds_where_asked s.game s.line choice ∙ rw asks refl);
    }
    in
    let finds : Finds sh.before sh.text (s.line ∷ []) s.rest =
    record { rest = λ later. sh.found later; no_line = sh.unread } in (
      length sh.text,
      tt,
      one_reply (as_engine s sh.before) (as_engine s2 s.rest) s.line choice (sh.text ++ coming) (length sh.text) sh.text
          s2 true going (take_at sh.text coming (length sh.text) refl) finds step,
      sym (drop_at sh.text coming (length sh.text) refl),
    )

same_colour : (c d : Colour) → wait.Choice c ≡ wait.Choice d → Some c ≡ Some d
same_colour c d e = cc e

module _ (s : StepsState) where
  -- where its engine of the definition comes to
  abbrev Comes : (w : Wait) → LikeBy s w → List ℕ → StepsState → List ℕ → Type 0
  Comes w sh coming s2 written = MovesTo (engine_by s w sh) (text_by s w sh ++ coming) s2 s2.wait coming written

  choice_comes : (w : Wait) → s.wait ≡ w → (sh : LikeBy s w) (choice : Choice) (coming : List ℕ) (s2 : StepsState)
      (written : List ℕ) → s.ended ≡ false → Chooses s choice s2 → written ≡ s2.reply → Comes w sh coming s2 written
  choice_comes wait.Nothing e sh choice coming s2 written going h wr =
      let wrong : wait.Nothing ≡ wait.Choice h.colour = sym e ∙ h.asked in absurd (cc wrong)
  choice_comes (wait.Choice colour) e sh choice coming s2 written going h wr =
      let asks : asked s.game s.line ≡ Some h.colour =
      sh.asks ∙ same_colour colour h.colour (sym e ∙ h.asked) in
      let sh2 : IsHeld s h.colour =
      record { before = sh.before; text = sh.text; found = sh.found; unread = sh.unread; asks = asks } in
      subst (λ (z : List ℕ). MovesTo (as_engine s sh.before) (sh.text ++ coming) s2 s2.wait coming z) (sym wr)
      (subst (λ (t : StepsState). MovesTo (as_engine s sh.before) (sh.text ++ coming) t t.wait coming t.reply)
      (sym h.new_is) (chosen s h.colour sh2 choice coming going asks h.lawful))
  choice_comes wait.Answer e sh choice coming s2 written going h wr = absurd sh

  -- no line of its author's own waits
  none_answered : (w : Wait) → s.wait ≡ w → LikeBy s w → s.wait ≡ wait.Answer → ⊥
  none_answered wait.Nothing e sh n = let wrong : wait.Nothing ≡ wait.Answer = sym e ∙ n in cc
  none_answered (wait.Choice colour) e sh n = let wrong : wait.Choice colour ≡ wait.Answer = sym e ∙ n in cc
  none_answered wait.Answer e sh n = sh

  -- this engine, with what else its author has set
  abbrev with_set : List ℕ → List ℕ → List (List ℕ) → StepsState
  with_set name version commands = record s { name = name; version = version; commands = commands }

  -- what its author has set has to do neither with its line nor with what was held
  same_comes : (w : Wait) → s.wait ≡ w → (sh : LikeBy s w) (name version : List ℕ) (commands : List (List ℕ))
      (coming : List ℕ) → lines (before_by s w sh) ≡ [] → Comes w sh coming (with_set name version commands) []
  same_comes wait.Nothing e sh name version commands coming unread =
      let s2 : StepsState = with_set name version commands in
      subst (λ (v : Wait). MovesTo (as_engine s s.rest) coming s2 v coming []) (sym e)
      (still any_lawful (as_engine s s.rest) coming (engine_by s2 wait.Nothing) (text_by s2 wait.Nothing) tt coming []
      unread refl refl refl)
  same_comes (wait.Choice colour) e sh name version commands coming unread =
      let s2 : StepsState = with_set name version commands in
      let sh2 : IsHeld s2 colour =
      record { before = sh.before; text = sh.text; found = sh.found; unread = sh.unread; asks = sh.asks } in
      subst (λ (v : Wait). MovesTo (as_engine s sh.before) (sh.text ++ coming) s2 v coming []) (sym e)
      (still any_lawful (as_engine s sh.before) (sh.text ++ coming) (engine_by s2 (wait.Choice colour))
      (text_by s2 (wait.Choice colour)) sh2 coming [] unread refl refl refl)
  same_comes wait.Answer e sh name version commands coming unread = absurd sh

  set_comes : (w : Wait) → s.wait ≡ w → (sh : LikeBy s w) (name version : List ℕ) (commands : List (List ℕ))
      (coming : List ℕ) (s2 : StepsState) (written : List ℕ) → lines (before_by s w sh) ≡ []
      → s2 ≡ with_set name version commands → written ≡ [] → Comes w sh coming s2 written
  set_comes w e sh name version commands coming s2 written unread new_is wr =
      subst (λ (z : List ℕ). Comes w sh coming s2 z) (sym wr)
      (subst (λ (t : StepsState). Comes w sh coming t []) (sym new_is)
      (same_comes w e sh name version commands coming unread))

  -- a call that does what it is for, or that is refused
  refused_or : {F : Type 0} (Done : Type 0) (Refuses : F → Type 0) (w : Wait) → s.wait ≡ w → (sh : LikeBy s w)
      (coming : List ℕ) (s2 : StepsState) (written : List ℕ) → lines (before_by s w sh) ≡ []
      → (Done → Comes w sh coming s2 written) → OrRefused Done Refuses s s2 written → Comes w sh coming s2 written
  refused_or Done Refuses w e sh coming s2 written unread does (inl h) = does h
  refused_or Done Refuses w e sh coming s2 written unread does (inr h) =
      same_engine s w e sh coming s2 coming written unread h.2.0 refl h.2.1

  calls_by : (w : Wait) → s.wait ≡ w → (sh : LikeBy s w) (call : Call) (coming : List ℕ) (s2 : StepsState)
      (written : List ℕ) → IsFollowing (engine_by s w sh) (text_by s w sh ++ coming) → Calls s call s2 written
      → Comes w sh coming s2 written
  calls_by w e sh (Call.choose choice) coming s2 written r h =
      refused_or _ _ w e sh coming s2 written r.unread
      (λ h. choice_comes w e sh choice coming s2 written r.going h.0 h.1) h
  calls_by w e sh (Call.answer ok text) coming s2 written r h =
      refused_or _ _ w e sh coming s2 written r.unread (λ h. absurd (none_answered w e sh h.0.asked)) h
  calls_by w e sh Call.decline coming s2 written r h =
      refused_or _ _ w e sh coming s2 written r.unread (λ h. absurd (none_answered w e sh h.0.asked)) h
  calls_by w e sh (Call.set_name text) coming s2 written r h =
      refused_or _ _ w e sh coming s2 written r.unread
      (λ h. set_comes w e sh text s.version s.commands coming s2 written r.unread h.0.new_is h.1) h
  calls_by w e sh (Call.set_version text) coming s2 written r h =
      refused_or _ _ w e sh coming s2 written r.unread
      (λ h. set_comes w e sh s.name text s.commands coming s2 written r.unread h.0.new_is h.1) h
  calls_by w e sh (Call.add_command name) coming s2 written r h =
      refused_or _ _ w e sh coming s2 written r.unread
      (λ h. set_comes w e sh s.name s.version (s.commands ++ name ∷ []) coming s2 written r.unread h.0.new_is h.1) h

-- ---- one line is on its way, which asks for no choice

head_is : (line l : Line) (ls : List Line) → Some line ≡ head_of ls → ls ≡ l ∷ [] → line ≡ l
head_is line l ls first whole = let same : Some line ≡ Some l = first ∙ ap head_of whole in cc same

no_head : (l : Line) (ls : List Line) → None ≡ head_of ls → ls ≡ l ∷ [] → ⊥
no_head l ls first whole = let same : None ≡ Some l = first ∙ ap head_of whole in cc same

asks_nothing : (o : Option Colour) (b : Bool) → o ≡ None → (b ≡ true → ⊥) → wait_by o b ≡ wait.Nothing
asks_nothing None true e n = absurd (n refl)
asks_nothing None false e n = refl
asks_nothing (Some c) b e n = absurd (cc e)

replied_waits_not : (s : StepsState) (own : Option (List ℕ)) → (replied_by s own).wait ≡ wait.Nothing
replied_waits_not s None = refl
replied_waits_not s (Some text) = refl

module _ (s : StepsState) (coming : List ℕ) (follows : IsFollowing (as_engine s s.rest) coming)
    (one : IsOneLine (as_engine s s.rest) coming) (count used : ℕ) (all : take count coming ≡ coming) where
  line_takes : (s2 : StepsState) (reported : Event) → FindsLine s (take count coming) used reported s2
      → (drop used coming ≡ []) × (s2.wait ≡ wait.Nothing)
  line_takes s2 reported f = (by_left (drop used coming) refl, waits_not)
    where
      by_left : (left : List ℕ) → drop used coming ≡ left → drop used coming ≡ []
      by_left [] e = e
      by_left (b ∷ q) e =
          let cut : coming ≡ take used coming ++ b ∷ q =
          sym (take-append-drop used coming) ∙ ap (λ (t : List ℕ). take used coming ++ t) e in
          let wrong : f.line ∷ [] ≡ [] =
          sym f.reads.whole ∙ ap (λ (t : List ℕ). lines (s.rest ++ take used t)) all
          ∙ one.before (take used coming) b q cut in
          absurd (cc wrong)

      whole : lines (s.rest ++ take count coming) ≡ one.line ∷ []
      whole = ap (λ (t : List ℕ). lines (s.rest ++ t)) all ∙ one.whole

      line_is : f.line ≡ one.line
      line_is = head_is f.line one.line (lines (s.rest ++ take count coming)) f.reads.first whole

      is_tables_line : IsTablesLine f.line
      is_tables_line = subst IsTablesLine (sym line_is) (subst (AllByRecursion IsTablesLine) one.whole follows.tables).0

      nothing : wait_of s.game f.line ≡ wait.Nothing
      nothing =
          asks_nothing (asked s.game f.line) (is_other_line f.line) (ap (asked s.game) line_is ∙ one.asks)
          (tables_not_other f.line is_tables_line)

      waits_not : s2.wait ≡ wait.Nothing
      waits_not =
          ap (λ (t : StepsState). t.wait) f.new_is
          ∙ ap (λ (w : Wait). (after_wait (with_line s f.line f.rest) w).wait) nothing
          ∙ replied_waits_not (with_line s f.line f.rest) (author_text_to (with_line s f.line f.rest) f.line)

  open_takes : (s2 : StepsState) (reported : Event) → ReadsOn s (take count coming) used reported s2
      → (drop used coming ≡ []) × (s2.wait ≡ wait.Nothing)
  open_takes s2 event.More f =
      absurd (no_head one.line (lines (s.rest ++ take count coming)) f.reads.first
      (ap (λ (t : List ℕ). lines (s.rest ++ t)) all ∙ one.whole))
  open_takes s2 event.Reply f = line_takes s2 event.Reply f
  open_takes s2 (event.Asked colour) f = line_takes s2 (event.Asked colour) f
  open_takes s2 event.Other f = line_takes s2 event.Other f
  open_takes s2 event.Ended f = absurd f

takes_by : (s : StepsState) (w : Wait) → s.wait ≡ w → (sh : LikeBy s w) (count : ℕ) (coming : List ℕ)
    (s2 : StepsState) (left written : List ℕ) → IsFollowing (engine_by s w sh) (text_by s w sh ++ coming)
    → IsOneLine (engine_by s w sh) (text_by s w sh ++ coming) → length (text_by s w sh ++ coming) ≤ count
    → FeedsFront count s coming s2 left written → (left ≡ []) × (s2.wait ≡ wait.Nothing)
takes_by s wait.Nothing e sh count coming s2 left written r one short f =
    let is : IsOpen s = record { goes_on = r.going; waits_not = e } in
    let t =
    open_takes s coming r one count f.fed.used (take_all count coming short) s2 f.fed.event (f.feeds.reads is) in
    (f.left_is ∙ t.0, t.1)
takes_by s (wait.Choice colour) e sh count coming s2 left written r one short f =
    let both : s.line ∷ lines (s.rest ++ coming) ≡ one.line ∷ [] = sym (sh.found coming) ∙ one.whole in
    let line_is : s.line ≡ one.line = cc both in
    let wrong : Some colour ≡ None = sym sh.asks ∙ ap (asked s.game) line_is ∙ one.asks in
    absurd (cc wrong)
takes_by s wait.Answer e sh count coming s2 left written r one short f = absurd sh

-- ---- what it waits for

-- what was held back is not empty where a choice is waited for
idle_by : (s : StepsState) (w : Wait) → s.wait ≡ w → (sh : LikeBy s w) → lines (before_by s w sh) ≡ []
    → text_by s w sh ≡ [] → s.wait ≡ wait.Nothing
idle_by s wait.Nothing e sh unread empty = e
idle_by s (wait.Choice colour) e sh unread empty =
    let wrong : [] ≡ s.line ∷ lines (s.rest ++ []) =
    sym unread ∙ ap lines (sym (append-nil sh.before)) ∙ ap (λ (t : List ℕ). lines (sh.before ++ (t ++ []))) (sym empty)
    ∙ sh.found [] in
    absurd (cc wrong)
idle_by s wait.Answer e sh unread empty = absurd sh

none_held_by : (s : StepsState) (w : Wait) (sh : LikeBy s w) → w ≡ wait.Nothing → text_by s w sh ≡ []
none_held_by s wait.Nothing sh e = refl
none_held_by s (wait.Choice colour) sh e = absurd (cc e)
none_held_by s wait.Answer sh e = refl

own_unread_by : (s : StepsState) (w : Wait) (sh : LikeBy s w) → lines (before_by s w sh) ≡ [] → lines s.rest ≡ []
own_unread_by s wait.Nothing sh unread = unread
own_unread_by s (wait.Choice colour) sh unread = sh.unread
own_unread_by s wait.Answer sh unread = absurd sh

found_by : (s : StepsState) (w : Wait) (sh : LikeBy s w) → w ≢ wait.Nothing → (later : List ℕ)
    → lines (before_by s w sh ++ (text_by s w sh ++ later)) ≡ s.line ∷ lines (s.rest ++ later)
found_by s wait.Nothing sh waits later = absurd (waits refl)
found_by s (wait.Choice colour) sh waits later = sh.found later
found_by s wait.Answer sh waits later = absurd sh

same_rest_by : (s : StepsState) (w : Wait) (sh : LikeBy s w) → w ≡ wait.Nothing → before_by s w sh ≡ s.rest
same_rest_by s wait.Nothing sh e = refl
same_rest_by s (wait.Choice colour) sh e = absurd (cc e)
same_rest_by s wait.Answer sh e = refl

asks_by : (s : StepsState) (w : Wait) (sh : LikeBy s w) (colour : Colour) → w ≡ wait.Choice colour → (coming : List ℕ)
    → (line : Line) × (ls : List Line) × (lines (before_by s w sh ++ (text_by s w sh ++ coming)) ≡ line ∷ ls)
    × (asked s.game line ≡ Some colour)
asks_by s wait.Nothing sh colour e coming = absurd (cc e)
asks_by s (wait.Choice c) sh colour e coming =
    (s.line, lines (s.rest ++ coming), sh.found coming, sh.asks ∙ same_colour c colour e)
asks_by s wait.Answer sh colour e coming = absurd sh

begins_as : (rule : KoRule) (s : StepsState) → s ≡ fresh_steps rule
    → (sh : LikeBy s s.wait) × (p : Unit {0}) × Unit {0}
    × (engine_by s s.wait sh ≡ fresh_under rule p) × (text_by s s.wait sh ≡ [])
begins_as rule s e =
    subst (λ (t : StepsState). (sh : LikeBy t t.wait) × (p : Unit {0}) × Unit {0}
    × (engine_by t t.wait sh ≡ fresh_under rule p) × (text_by t t.wait sh ≡ [])) (sym e) (tt, tt, tt, refl, refl)

pub steps_like : (rule : KoRule) → Likeness (in_steps rule) (any_policies rule)
steps_like rule = record {
  Like = λ s. LikeBy s s.wait;
  engine = λ s sh. engine_by s s.wait sh;
  held = λ s sh. text_by s s.wait sh;
  rule = refl;
  game = λ s sh. refl;
  begins = begins_as rule;
  reads = λ count s sh coming s2 left written r h. reads_by s s.wait refl sh count coming s2 left written r h;
  calls = λ call s sh coming s2 left written r h.
      subst (λ (rest : List ℕ). MovesTo (engine_by s s.wait sh) (text_by s s.wait sh ++ coming) s2 s2.wait rest written)
      (sym h.1) (calls_by s s.wait refl sh call coming s2 written r h.0);
  takes = λ s sh count coming s2 left written r one short h.
      takes_by s s.wait refl sh count coming s2 left written r one short h;
  idle = λ s sh unread empty. idle_by s s.wait refl sh unread empty;
  none_held = λ s sh waits. none_held_by s s.wait sh waits;
  own_unread = λ s sh unread. own_unread_by s s.wait sh unread;
  found = λ s sh waits later. found_by s s.wait sh waits later;
  same_rest = λ s sh waits. same_rest_by s s.wait sh waits;
  asks = λ s sh colour waits coming. asks_by s s.wait sh colour waits coming;
  not_other = λ s sh waits. none_answered s s.wait refl sh waits;
}

pub lawful_any : AllowsLawful any_lawful
lawful_any old game colour choice new l = l
