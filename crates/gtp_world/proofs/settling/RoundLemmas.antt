-- A round of a side: a script command is sent, read and answered, and its answer is heard. It is confirmed.
use Rattle.std.proofs.Common.{◌≡◌, ℕ, ◌+◌, ◌≤◌, true, List, [], ◌∷◌, ◌++◌, length, drop, Option, Some, None, Ok, Err}
use Rattle.std.proofs.Common.{slice_get, refl, sym, ◌∙◌, ap, subst, arith, length-append, lit≤}
use Rattle.std.specs.List.{AllByRecursion}
use Rattle.std.proofs.lemmas.List.{append-nil}
use Rattle.std.proofs.lemmas.List.Elements.{recursion_from_All}
use Rattle.go_base.specs.Colour.{other}
use Rattle.go_base.specs.Handicap.{handicap_points}
use Rattle.go_base.specs.Int.{most_int}
use Rattle.go_base.specs.Point.{IsOn}
use Rattle.go_base.specs.declared.colours.Colour.{Colour}
use Rattle.go_base.specs.declared.colours.Colour.TheVariants.{Black, White}
use Rattle.go_base.proofs.board_points.HandicapPoints.{handicap_sound}
use Rattle.go_board.specs.Game.{GameRecord, IsGame, fresh_game_under}
use Rattle.gtp_wire.specs.declared.commands.Command.{Command}
use Rattle.gtp_wire.specs.declared.commands.Command.TheVariants.{Boardsize, Komi, ClearBoard, FixedHandicap, Play}
use Rattle.gtp_wire.specs.declared.commands.Command.TheVariants.{Genmove, Undo, Quit}
use Rattle.gtp_wire.specs.declared.lines.Line.{Line}
use Rattle.gtp_wire.specs.declared.replies.Reply.{Reply}
use Rattle.gtp_wire.specs.Lines.{lines, SameFuture}
use Rattle.gtp_wire.specs.Replies.{IsReply, IsFirst}
use Rattle.gtp_wire.proofs.first_answers.OneAnswer.{one_first, reply_is_first}
use Rattle.gtp_session.proofs.reply_texts.NeatTexts.{short-vertices, few_handicap_points}
use Rattle.gtp_session.proofs.choosing.Policies.{AllowsLawful}
use Rattle.gtp_session.specs.Policy.{May}
use Rattle.gtp_session.specs.Engine.{Engine}
use Rattle.gtp_session.specs.Commands.{asked as asked_by_line}
use Rattle.gtp_match.specs.declared.unanswered.SentCommand.{SentCommand}
use Rattle.gtp_match.specs.declared.sides.EngineRun.{EngineRun}
use Rattle.gtp_match.specs.declared.sides.SideState.{SideState}
use Rattle.gtp_match.specs.declared.sides.Sides.{Sides}
use Rattle.gtp_match.specs.declared.reply_table.Outcome.TheVariants.{Confirms}
use Rattle.gtp_match.specs.declared.verdicts.Action.TheVariants.{Send}
use Rattle.gtp_match.specs.declared.verdicts.SideFault.{SideFault}
use Rattle.gtp_match.specs.declared.verdicts.Verdict.{Verdict}
use Rattle.gtp_match.specs.declared.controller.Controller.{Controller}
use Rattle.gtp_match.specs.Controller.{next_command, undo_or_else, script_or_genmove, sent_to, with_side_up}
use Rattle.gtp_match.specs.Hearing.{MayKeep, HearsUp, HearsWhere, Hears, HearsAllBy, HearsAll}
use Rattle.gtp_match.specs.Next.{next}
use Rattle.gtp_match.specs.Unanswered.{oldest}
use Rattle.gtp_match.specs.ReplyTable.{outcome, after_outcome, fault_of, confirmed_by}
use Rattle.gtp_match.specs.Script.{script}
use Rattle.gtp_match.proofs.scripts.Lines.{next_written, sent_line}
use Rattle.gtp_match.proofs.soundness.Calls.{my_engine}
use Rattle.gtp_match.specs.Sides.{side_of, with_side, with_engine, heard_reply, confirmed}
use Rattle.gtp_match.specs.Sides.{with_sent as with_sent_command}
use Rattle.gtp_world.specs.Kinds.{Reads}
use Rattle.gtp_world.specs.Lane.{Lane, written_lane, EngineDoes, LaneDoes}
use Rattle.gtp_world.specs.World.{lane_with_next, Sends, lane_where_up, HearsFront, HearsWhereUp, SideHears}
use Rattle.gtp_match.specs.Controller.{next_text}
use Rattle.gtp_session.proofs.engines.Replying.{lines-nothing}
use Rattle.gtp_session.proofs.engines.Sent.{well_answer}
use Rattle.gtp_world.proofs.exchange.AnswerLemmas.{answered_is_reply, succeeds_with}
use Rattle.gtp_world.proofs.exchange.ScriptLemmas.{GoesWellOn, script_well, well_at}
use Rattle.gtp_world.proofs.joined.AgreementLemmas.{reply_length}
use Rattle.gtp_world.proofs.one_side.SideLemmas.{quiet_or_first}
use Rattle.gtp_world.proofs.one_side.OutcomeLemmas.{scripted_outcome}
use Rattle.gtp_world.proofs.joined.EventLemmas.{send_keeps, read_lane, fed_keeps}
use Rattle.gtp_world.proofs.exchange.ExchangeLemmas.{order_lines, order_part}
use Rattle.gtp_world.proofs.settling.IdleLemmas.{idle_lists_empty, idle_reads, no_orders_left, no_replies_left}
use Rattle.gtp_world.specs.Exchange.{CanBeWritten, Answered, reply_with_id, reply_bytes, replayed, Owes}
use Rattle.gtp_world.specs.Exchange.{all_reply_bytes}
use Rattle.gtp_session.specs.CommandAnswers.{GoesWell, line_of_command, success_text}
use Rattle.gtp_world.specs.Joined.{Rules, rule_of, ruled, EngineBody, body, body_of, BareLane, bare, IsJoinedInPlay}
use Rattle.gtp_world.specs.Joined.{AreJoined}
use Rattle.std.proofs.lemmas.List.{drop_all, take_all}

-- ---- texts of script commands are short

success_short : (g : GameRecord) (k : Command) → GoesWell g k → length (success_text g k) ≤ 36
success_short g (Boardsize size) h = lit≤ tt
success_short g (Komi komi) h = lit≤ tt
success_short g ClearBoard h = lit≤ tt
success_short g (FixedHandicap stones) h =
    let points = handicap_points g.size stones in
    let on : AllByRecursion (IsOn g.size) points =
    recursion_from_All (IsOn g.size) points (handicap_sound g.size stones h.1.1 h.1.0).on_board in
    omega (arith, few_handicap_points g.size stones, short-vertices g.size points h.1.1.most on)
success_short g (Play move) h = lit≤ tt
success_short g (Genmove c) h = absurd h
success_short g Undo h = absurd h
success_short g Quit h = absurd h

-- the reply to a script command has at most 50 bytes
script_reply_short : (g : GameRecord) (o : SentCommand) (r : Reply) (g2 : GameRecord) → GoesWell g o.command
    → Answered g o r g2 → length (reply_bytes r) ≤ 50
script_reply_short g o r g2 well a =
    let reply : r ≡ reply_with_id o.id (succeeds_with g o.command) =
    a.reply ∙ ap (reply_with_id o.id) (well_answer g (Some o.id) o.command a.choice well) in
    subst (λ (x : Reply). length (reply_bytes x) ≤ 50) (sym reply)
    (omega (arith, reply_length true o.id (success_text g o.command) a.fits, success_short g o.command well))

-- ---- one command is unanswered, all its bytes were read, and the side is heard

-- the reply that the side owes
record OneReply (game : GameRecord) (u : EngineRun) (o : SentCommand) (begun tc : List ℕ) : Type 0 where
  reply : Reply
  game_after : GameRecord
  answered : Answered (replayed game u.confirmed) o reply game_after
  text : begun ++ tc ≡ reply_bytes reply

one_reply : (game : GameRecord) (u : EngineRun) (o : SentCommand) (b : EngineBody) (tc : List ℕ)
    (h : IsJoinedInPlay game u (record { engine = Some b; to_engine = []; to_controller = tc })) → u.unanswered ≡ o ∷ []
    → OneReply game u o h.begun tc
one_reply game u o b tc h one =
    let waiting : h.waiting ≡ [] =
    no_orders_left h.waiting h.runs.begun h.fit h.runs.begun_open (sym (append-nil h.runs.begun) ∙ h.runs.arriving) in
    let F : List SentCommand → Type 0 = λ os. Owes (replayed game u.confirmed) os h.replies h.waiting h.ahead in
    let G : List SentCommand → Type 0 = λ ws. Owes (replayed game u.confirmed) (o ∷ []) h.replies ws h.ahead in
    by_replies h.replies (subst G waiting (subst F one h.owes))
    (sym (append-nil (h.begun ++ tc)) ∙ ap (λ (cut : List ℕ). (h.begun ++ tc) ++ cut) (sym h.uncut) ∙ h.arriving)
  where
    by_replies : (rs : List Reply) → Owes (replayed game u.confirmed) (o ∷ []) rs [] h.ahead
        → h.begun ++ tc ≡ all_reply_bytes rs → OneReply game u o h.begun tc
    by_replies [] owes text = absurd (let bad : [] ≡ o ∷ [] = owes.0 in cc bad)
    by_replies (r ∷ []) owes text =
        record { reply = r; game_after = owes.0; answered = owes.1; text = text ∙ append-nil (reply_bytes r) }
    by_replies (r ∷ q ∷ rs) owes text = absurd owes.2

pub no_bytes_heard : (s : Colour) (c c2 : Controller) (bytes : List ℕ) (fault : Option SideFault) → bytes ≡ []
    → HearsAll s c bytes fault c2 → c2 ≡ c
no_bytes_heard s c c2 bytes fault e HearsAllBy.used_up = refl
no_bytes_heard s c c2 bytes fault e (HearsAllBy.faulty used some h) = absurd (omega (arith, some, ap length e))
no_bytes_heard s c c2 bytes fault e (HearsAllBy.goes_on used some h more) = absurd (omega (arith, some, ap length e))

module _ (rules : Rules) (c : Controller) (s : Colour) (u : EngineRun) (o : SentCommand) (b : EngineBody)
    (tc : List ℕ)
    (lo : BareLane) (j : AreJoined rules c s (record { engine = Some b; to_engine = []; to_controller = tc }) lo)
    (legal : IsGame (ruled (rule_of rules s) c.game))
    (none : c.verdict ≡ None) (up : (side_of c.sides s).up ≡ Some u) (one : u.unanswered ≡ o ∷ [])
    (scripted : slice_get (script c.game) u.confirmed ≡ Some o.command) where
  -- the game as the side's engine has it
  abbrev g : GameRecord
  g = ruled (rule_of rules s) c.game

  abbrev mine : IsJoinedInPlay g u (record { engine = Some b; to_engine = []; to_controller = tc })
  mine = rw (none, up) at j.mine.joined

  abbrev well : GoesWellOn g.size (replayed g u.confirmed) o.command
  well = well_at g.size (fresh_game_under g.rule) (script c.game) u.confirmed o.command (script_well g legal) scripted

  abbrev owed : OneReply g u o mine.begun tc
  owed = one_reply g u o b tc mine one

  is_reply : IsReply (reply_bytes owed.reply) owed.reply
  is_reply = answered_is_reply (replayed g u.confirmed) o owed.reply owed.game_after owed.answered

  -- the reply fits into a round's bytes
  pub reply_fits : length tc ≤ 100
  reply_fits =
      omega (
        arith,
        script_reply_short
            (replayed g u.confirmed) o owed.reply owed.game_after well.well owed.answered,
        ap length owed.text,
        length-append mine.begun tc,
      )

  confirms : outcome c.game s (oldest u.unanswered) owed.reply ≡ Confirms
  confirms =
      ap (λ (os : List SentCommand). outcome c.game s (oldest os) owed.reply) one
      ∙ scripted_outcome c.game s o owed.reply (replayed g u.confirmed) owed.game_after owed.answered well

  first : IsFirst (u.reader ++ tc) (length (reply_bytes owed.reply)) (Ok owed.reply)
  first =
      (mine.kept.1 tc (length (reply_bytes owed.reply)) (Ok owed.reply)).1
      (subst (λ (t : List ℕ). IsFirst t (length (reply_bytes owed.reply)) (Ok owed.reply))
      (append-nil (reply_bytes owed.reply) ∙ sym owed.text)
      (reply_is_first (reply_bytes owed.reply) [] owed.reply is_reply))

  -- a call uses all bytes, and confirms the command
  abbrev Confirmed : ℕ → Option SideFault → Controller → Type 0
  Confirmed used fault c2 = (used ≡ length tc) × (fault ≡ None) × (c2 ≡ confirmed_by c s (heard_reply u))

  up_confirms : (used : ℕ) (fault : Option SideFault) (c2 : Controller) → HearsUp MayKeep c s u tc used fault c2
      → Confirmed used fault c2
  up_confirms used fault c2 (HearsUp.replied {value = value} is_given) =
      let same =
      one_first (u.reader ++ tc) (length u.reader + used) (length (reply_bytes owed.reply)) (Ok value)
      (Ok owed.reply) is_given first in
      let value_is : value ≡ owed.reply = let both : Ok value ≡ Ok owed.reply = same.1 in cc both in
      let outcome_is : outcome c.game s (oldest u.unanswered) value ≡ Confirms =
      ap (outcome c.game s (oldest u.unanswered)) value_is ∙ confirms in (
        omega (arith, same.0, mine.kept.0, ap length owed.text, length-append mine.begun tc),
        ap fault_of outcome_is,
        ap (after_outcome c s (heard_reply u)) outcome_is,
      )
  up_confirms used fault c2 (HearsUp.faulted {shown = shown} is_given) =
      absurd (let same = one_first (u.reader ++ tc) (length u.reader + used) (length (reply_bytes owed.reply))
      (Err shown)
      (Ok owed.reply) is_given first in let bad : Err shown ≡ Ok owed.reply = same.1 in cc bad)
  up_confirms used fault c2 (HearsUp.nothing_yet quiet keeps) =
      absurd (quiet_or_first (u.reader ++ tc) (length (reply_bytes owed.reply)) (Ok owed.reply) quiet first)

  one_confirms : (used : ℕ) (fault : Option SideFault) (c2 : Controller) → Hears c s tc used fault c2
      → Confirmed used fault c2
  one_confirms used fault c2 h =
      let F : Option Verdict → Option EngineRun → Type 0 = λ v x. HearsWhere MayKeep c s tc v x used fault c2 in
      up_confirms used fault c2 (subst (F None) up (subst (λ (v : Option Verdict). F v (side_of c.sides s).up) none h))

  -- all that is heard confirms the command
  pub all_confirm : (fault : Option SideFault) (c2 : Controller) → HearsAll s c tc fault c2
      → c2 ≡ confirmed_by c s (heard_reply u)
  all_confirm fault c2 h = by_bytes tc refl fault c2 h
    where
      by_bytes : (bytes : List ℕ) → tc ≡ bytes → (fault : Option SideFault) (c2 : Controller)
          → HearsAll s c bytes fault c2 → c2 ≡ confirmed_by c s (heard_reply u)
      by_bytes bytes is fault c2 HearsAllBy.used_up =
          absurd (let bad : owed.reply ∷ [] ≡ [] =
          no_replies_left (owed.reply ∷ []) mine.begun (is_reply, tt) mine.begun_quiet
          (sym (append-nil mine.begun) ∙ ap (λ (t : List ℕ). mine.begun ++ t) (sym is) ∙ owed.text
          ∙ sym (append-nil (reply_bytes owed.reply))) in cc bad)
      by_bytes bytes is fault c2 (HearsAllBy.faulty {shown = shown} used some h) =
          absurd (let bad : Some shown ≡ None =
          (one_confirms used (Some shown) c2 (subst
          (λ (t : List ℕ). Hears c s t used (Some shown) c2) (sym is) h)).1 in cc bad)
      by_bytes bytes is fault c2 (HearsAllBy.goes_on {mid = mid} used some h more) =
          let done : Confirmed used None mid =
          one_confirms used None mid (subst (λ (t : List ℕ). Hears c s t used None mid) (sym is) h) in
          no_bytes_heard s mid c2 (drop used bytes) fault
          (drop_all used bytes (omega (arith, done.0, ap length is))) more ∙ done.2

-- ---- one line comes

-- The bytes on their way to an engine are one line, which the last of them ends. It asks for no choice.
pub record IsOneLine {P : Type 0} (x : Engine P) (coming : List ℕ) : Type 0 where
  pub line : Line
  pub whole : lines (x.rest ++ coming) ≡ line ∷ []
  pub before : (p : List ℕ) (b : ℕ) (q : List ℕ) → coming ≡ p ++ b ∷ q → lines (x.rest ++ p) ≡ []
  pub asks : asked_by_line x.game line ≡ None
  pub short : length coming ≤ 100

-- a command that goes well at one game asks for no choice at any
well_never_asks : (g game : GameRecord) (id : Option ℕ) (k : Command) → GoesWell g k
    → asked_by_line game (line_of_command id k) ≡ None
well_never_asks g game id (Boardsize size) h = refl
well_never_asks g game id (Komi komi) h = refl
well_never_asks g game id ClearBoard h = refl
well_never_asks g game id (FixedHandicap stones) h = refl
well_never_asks g game id (Play move) h = refl
well_never_asks g game id (Genmove colour) h = absurd h
well_never_asks g game id Undo h = absurd h
well_never_asks g game id Quit h = absurd h

-- ---- the round

pub at_put : (s : Colour) (x : SideState) (all : Sides) → side_of (with_side s x all) s ≡ x
at_put Black x all = refl
at_put White x all = refl

pub other_put : (s : Colour) (x : SideState) (all : Sides) → side_of (with_side s x all) (other s) ≡ side_of all (other s)
other_put Black x all = refl
other_put White x all = refl

-- a side that is up, has nothing unanswered and has confirmed `count` commands, and whose engine runs
pub record IsReady {P : Type 0} (up : Option EngineRun) (l : Lane P) (count : ℕ) : Type 0 where
  pub incarnation : EngineRun
  pub is_up : up ≡ Some incarnation
  pub idle : incarnation.unanswered ≡ []
  pub confirmed : incarnation.confirmed ≡ count
  pub running : Engine P
  pub runs : l.engine ≡ Some running

-- what a round leaves
pub record RoundDone {P : Type 0} (s : Colour) (c c2 : Controller) (l2 : Lane P) (count : ℕ) : Type 0 where
  pub game : c2.game ≡ c.game
  pub verdict : c2.verdict ≡ None
  pub pending : c2.pending ≡ None
  pub ready : IsReady (side_of c2.sides s).up l2 (count + 1)
  pub others : (side_of c2.sides (other s)).up ≡ (side_of c.sides (other s)).up

-- the lane of a side with nothing unanswered
lane_is_idle : {P : Type 0} (rules : Rules) (c : Controller) (s : Colour) (l : Lane P) (lo : BareLane)
    (u : EngineRun) (e : Engine P)
    → AreJoined rules c s (bare l) lo → c.verdict ≡ None → (side_of c.sides s).up ≡ Some u
    → u.unanswered ≡ [] → l.engine ≡ Some e → l ≡ record { engine = Some e; to_engine = []; to_controller = [] }
lane_is_idle rules c s l lo u e j none up idle runs =
    let g : GameRecord = ruled (rule_of rules s) c.game in
    let live : IsJoinedInPlay g u (bare l) = rw (none, up) at j.mine.joined in
    let empty = idle_lists_empty g u (bare l) live idle in
    λ i. record { engine = runs i; to_engine = empty.0 i; to_controller = empty.1 i }

module _ {P : Type 0} (may : May P) (lawful : AllowsLawful may) (rules : Rules) (s : Colour) (c : Controller)
    (l : Lane P) (lo : BareLane) (count : ℕ) (is : next c ≡ Send s) (j : AreJoined rules c s (bare l) lo)
    (legal : IsGame (ruled (rule_of rules s) c.game)) (free : c.pending ≡ None) (none : c.verdict ≡ None)
    (ready : IsReady (side_of c.sides s).up l count) (k : Command)
    (scripted : slice_get (script c.game) count ≡ Some k) where
  abbrev engine : EngineRun
  engine = ready.incarnation

  abbrev order : SentCommand
  order = record { id = engine.sent + 1; command = next_command c s engine }

  -- the incarnation that was sent the command
  abbrev asked : EngineRun
  asked = with_sent_command (next_command c s engine) engine

  number : engine.confirmed + length engine.unanswered ≡ count
  number = omega (arith, ap length ready.idle, ready.confirmed)

  command_is : next_command c s engine ≡ k
  command_is =
      ap (λ (p : Option Colour). undo_or_else p (script_or_genmove s (slice_get (script c.game)
      (engine.confirmed + length engine.unanswered)))) free
      ∙ ap (λ (n : ℕ). script_or_genmove s (slice_get (script c.game) n)) number ∙ ap (script_or_genmove s) scripted

  -- the command has gone out
  abbrev sent_lane : Lane P
  sent_lane = record { engine = Some ready.running; to_engine = next_text c s engine; to_controller = [] }

  -- the command is read
  abbrev fed_lane : Engine P → List ℕ → Lane P
  fed_lane after written = record { engine = Some after; to_engine = []; to_controller = written }

  bytes_short : length (next_text c s engine) ≤ 100
  bytes_short = omega (arith, (sent_line c s engine j.sound is ready.is_up).short)

  -- the controller has sent it
  abbrev sender : Controller
  sender = with_side_up c s asked

  asked_up : (side_of sender.sides s).up ≡ Some asked
  asked_up = ap (λ (x : SideState). x.up) (at_put s (with_engine asked (side_of c.sides s)) c.sides)

  -- the reply is heard
  heard_done : (after : Engine P) (written : List ℕ) → AreJoined rules sender s (bare (fed_lane after written)) lo
      → (c3 : Controller) (l3 : Lane P) → SideHears s sender (fed_lane after written) 100 c3 l3
      → RoundDone s c c3 l3 count
  heard_done after written j2 c3 l3 heard =
      let one : asked.unanswered ≡ order ∷ [] = ap (λ (os : List SentCommand). os ++ order ∷ []) ready.idle in
      let scripted_now : slice_get (script c.game) engine.confirmed ≡ Some order.command =
      ap (slice_get (script c.game)) ready.confirmed ∙ scripted ∙ ap (λ (x : Command). Some x) (sym command_is) in
      let h : HearsFront s sender (fed_lane after written) 100 c3 l3 =
      subst (λ (x : Option EngineRun). HearsWhereUp s sender x (fed_lane after written) 100 c3 l3) asked_up heard in
      let fits : length written ≤ 100 =
      reply_fits rules sender s asked order (body after) written lo j2 legal none asked_up one scripted_now in
      let hears : HearsAll s sender written h.fault c3 =
      subst (λ (t : List ℕ). HearsAll s sender t h.fault c3) (take_all 100 written fits) h.hears in
      let c3_is : c3 ≡ confirmed_by sender s (heard_reply asked) =
      all_confirm rules sender s asked order (body after) written lo j2 legal none asked_up one scripted_now h.fault
      c3 hears in
      let last : EngineRun = confirmed (heard_reply asked) in
      let last_up : (side_of c3.sides s).up ≡ Some last =
      ap (λ (d : Controller). (side_of d.sides s).up) c3_is
      ∙ ap (λ (x : SideState). x.up) (at_put s (with_engine last (side_of sender.sides s)) sender.sides) in
      record {
        game = ap (λ (d : Controller). d.game) c3_is;
        verdict = ap (λ (d : Controller). d.verdict) c3_is ∙ none;
        pending = ap (λ (d : Controller). d.pending) c3_is ∙ free;
        ready = record {
          incarnation = last;
          is_up = last_up;
          idle = ap (drop 1) one;
          confirmed = ap (λ (n : ℕ). n + 1) ready.confirmed;
          running = after;
          runs =
              ap (λ (x : Lane P). x.engine) h.lane ∙ ap
              (λ (x : Option EngineRun). (lane_where_up x
              (record (fed_lane after written) { to_controller = drop 100 written })).engine) last_up;
        };
        others =
            ap (λ (d : Controller). (side_of d.sides (other s)).up) c3_is
            ∙ ap (λ (x : SideState). x.up) (other_put s (with_engine last (side_of sender.sides s)) sender.sides
            ∙ other_put s (with_engine asked (side_of c.sides s)) c.sides);
      }

  sent_lane_is : (c1 : Controller) (l1 : Lane P) → Sends s c l c1 l1 → l1 ≡ sent_lane
  sent_lane_is c1 l1 sends =
      let before : l ≡ record { engine = Some ready.running; to_engine = []; to_controller = [] } =
      lane_is_idle rules c s l lo engine ready.running j none ready.is_up ready.idle ready.runs in
      sends.lane ∙ ap (λ (x : Option EngineRun). lane_with_next c s x l) ready.is_up
      ∙ ap (λ (x : Lane P). written_lane x (next_text c s engine)) before

  -- what is sent to the engine, all of which is on its way then, is one line, which asks for no choice
  pub one_line_sent : (c1 : Controller) (l1 : Lane P) → Sends s c l c1 l1
      → (l1.engine ≡ Some ready.running) × IsOneLine ready.running l1.to_engine
  one_line_sent c1 l1 sends =
      let sent_is : l1 ≡ sent_lane = sent_lane_is c1 l1 sends in
      let t : List ℕ = next_text c s engine in
      let g : GameRecord = ruled (rule_of rules s) c.game in
      let live : IsJoinedInPlay g engine (bare l) = rw (none, ready.is_up) at j.mine.joined in
      let reads : SameFuture ready.running.rest [] =
      idle_reads g engine (body ready.running) (bare l) live ready.idle (ap body_of ready.runs) in
      let written = next_written c s engine j.sound in
      let id : engine.sent + 1 ≤ most_int =
      omega (arith, (my_engine c s engine j.sound ready.is_up).sent, j.sound.setup.moves.1) in
      let fit : CanBeWritten order = record { id = id; writable = written.writable; limits = written.limits } in
      let well : GoesWellOn g.size (replayed g count) k =
      well_at g.size (fresh_game_under g.rule) (script c.game) count k (script_well g legal) scripted in
      let no_choice : asked_by_line ready.running.game (line_of_command (Some order.id) order.command) ≡ None =
      ap (λ (x : Command). asked_by_line ready.running.game (line_of_command (Some order.id) x)) command_is
      ∙ well_never_asks (replayed g count) ready.running.game (Some order.id) k well.well in (
        ap (λ (x : Lane P). x.engine) sent_is,
        subst (λ (x : Lane P). IsOneLine ready.running x.to_engine) (sym sent_is) (record {
          line = line_of_command (Some order.id) order.command;
          whole =
              reads t ∙ ap lines (sym (append-nil t)) ∙ order_lines order [] fit
              ∙ ap (λ (ls : List Line). line_of_command (Some order.id) order.command ∷ ls) lines-nothing;
          before = λ p b q e. reads p ∙ order_part order p b q fit e;
          asks = no_choice;
          short = bytes_short;
        }),
      )

  pub round_done : (c1 : Controller) (l1 : Lane P) → Sends s c l c1 l1 → (l2 : Lane P)
      → LaneDoes (Reads may 100) l1 l2 → (c3 : Controller) (l3 : Lane P) → SideHears s c1 l2 100 c3 l3 → RoundDone s c c3 l3 count
  round_done c1 l1 sends l2 fed c3 l3 heard =
      let sender_is : c1 ≡ sender = sends.controller_is ∙ ap (λ (x : Option EngineRun). sent_to c s x) ready.is_up in
      let sent_is : l1 ≡ sent_lane = sent_lane_is c1 l1 sends in
      let r : EngineDoes (Reads may 100) sent_lane ready.running l2 =
      subst (λ (x : Lane P). LaneDoes (Reads may 100) x l2) sent_is fed in
      let fed_is : l2 ≡ fed_lane r.after r.written =
      read_lane may sent_lane 100 ready.running l2 r ∙ ap (λ (t : List ℕ). record { engine = Some r.after; to_engine = t; to_controller = r.written })
      (drop_all 100 (next_text c s engine) bytes_short) in
      let j2 : AreJoined rules c1 s (bare l2) lo =
      fed_keeps may lawful rules c1 s l1 l2 lo 100 fed (send_keeps rules c c1 s l l1 lo is sends j) in
      let now : AreJoined rules sender s (bare (fed_lane r.after r.written)) lo =
      subst (λ (d : Controller). AreJoined rules d s (bare (fed_lane r.after r.written)) lo) sender_is
      (subst (λ (x : Lane P). AreJoined rules c1 s (bare x) lo) fed_is j2) in
      let hears : SideHears s sender (fed_lane r.after r.written) 100 c3 l3 =
      subst (λ (d : Controller). SideHears s d (fed_lane r.after r.written) 100 c3 l3) sender_is
      (subst (λ (x : Lane P). SideHears s c1 x 100 c3 l3) fed_is heard) in
      heard_done r.after r.written now c3 l3 hears
