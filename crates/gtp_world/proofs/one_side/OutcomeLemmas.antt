-- What a reply that the controller hears comes to, for the side that wrote it and for the other side.
use Rattle.std.proofs.Common.{◌≡◌, ℕ, ◌-◌, ◌<◌, ◌≤◌, Bool, true, false, List, [], ◌∷◌, ◌++◌, length, take, slice_get}
use Rattle.std.proofs.Common.{Option, Some}
use Rattle.std.proofs.Common.{None, refl, ap, sym, ◌∙◌, subst, arith, append_assoc, length-append, inl}
use Rattle.std.proofs.Common.{inr, cond}
use Rattle.std.specs.Prelude.{◌⊎◌, ◌==◌, IfSome}
use Rattle.std.specs.List.{AllByRecursion}
use Rattle.std.proofs.lemmas.Bool.Decides.{nat_tests}
use Rattle.go_base.specs.Colour.{other}
use Rattle.go_base.specs.Size.{most_size}
use Rattle.go_base.specs.declared.colours.Colour.{Colour}
use Rattle.go_base.specs.declared.colours.Colour.TheVariants.{Black, White}
use Rattle.go_base.specs.declared.moves.Move.{Move}
use Rattle.go_base.specs.Vertex.{IsVertex}
use Rattle.go_base.specs.declared.vertices.Vertex.{Vertex}
use Rattle.go_base.specs.declared.vertices.Vertex.TheVariants.{Pass, At}
use Rattle.go_board.specs.Game.{GameRecord, HasRoom, IsGame, IsLegal, with_move, without_last, board_of}
use Rattle.go_board.specs.Game.{RepeatsLast, RepeatsBy}
use Rattle.go_board.specs.Play.{play}
use Rattle.go_board.specs.Taken.{same_colour}
use Rattle.go_board.specs.declared.board.Cell.{Cell}
use Rattle.go_board.specs.declared.rules.KoRule.{KoRule}
use Rattle.go_board.specs.declared.rules.KoRule.TheVariants.{Simple, Positional}
use Rattle.go_board.specs.Area.{score}
use Rattle.gtp_wire.specs.declared.commands.Command.TheVariants.{Genmove, Play, Undo}
use Rattle.gtp_wire.specs.declared.replies.Reply.{Reply}
use Rattle.gtp_wire.specs.Replies.{IsFirst}
use Rattle.gtp_session.specs.Policy.{IsLawful}
use Rattle.go_base.specs.declared.choices.Choice.{Choice}
use Rattle.go_base.specs.declared.choices.Choice.TheVariants as choice
use Rattle.gtp_session.specs.Commands.{Answer, answer, answer_choice}
use Rattle.gtp_match.specs.declared.unanswered.SentCommand.{SentCommand}
use Rattle.gtp_match.specs.declared.sides.EngineRun.{EngineRun}
use Rattle.gtp_match.specs.declared.reply_table.Outcome.{Outcome}
use Rattle.gtp_match.specs.declared.reply_table.Outcome.TheVariants.{Down, Confirms, Refuses, TakesBack}
use Rattle.gtp_match.specs.declared.verdicts.SideFault.TheVariants.{WrongId}
use Rattle.gtp_match.specs.declared.verdicts.Verdict.{Verdict}
use Rattle.gtp_match.specs.declared.verdicts.Verdict.TheVariants.{Score, Limit}
use Rattle.gtp_match.specs.declared.controller.Controller.{Controller}
use Rattle.gtp_match.specs.Script.{script}
use Rattle.gtp_match.specs.Sides.{heard_reply}
use Rattle.gtp_match.specs.Controller.{to_move}
use Rattle.gtp_match.specs.Taking.{is_by, moved_last, has_all}
use Rattle.gtp_match.specs.ReplyTable.{outcome, outcome_of, has_id, after_outcome, fault_of, verdict_after}
use Rattle.gtp_match.specs.Hearing.{ReadsAlike, MayKeep}
use Rattle.go_base.specs.Decide.{holds}
use Rattle.go_board.specs.decisions.Game.{finished?}
use Rattle.gtp_match.specs.Setup.{SetupRecord}
use Rattle.gtp_match.specs.Sound.{IsSoundEngine, IsIdle, IsSound}
use Rattle.gtp_match.specs.Sound.{all_retakes}
use Rattle.gtp_match.specs.Unanswered.{most_unanswered}
use Rattle.gtp_match.proofs.scripts.Scripts.{script_longer}
use Rattle.gtp_match.proofs.soundness.Calls.{idle_plan, nothing_given}
use Rattle.gtp_match.proofs.scripts.WithoutLast.{turn_after}
use Rattle.gtp_match.proofs.scripts.Turns.{has_stones}
use Rattle.gtp_session.proofs.engines.Sent.{well_answer, genmove_answer, genmove_asks, play_refused, undo_answer}
use Rattle.gtp_world.proofs.exchange.AnswerLemmas.{succeeds_with}
use Rattle.gtp_world.proofs.exchange.ReplyLemmas.{well_heard, choice_heard, outcome_of_choice}
use Rattle.gtp_world.proofs.exchange.ScriptLemmas.{GoesWellOn, replayed_longer, replayed_shorter, with_moves}
use Rattle.gtp_world.proofs.exchange.ScriptLemmas.{get_after, EndsWith, ends_with, some_or_none, place}
use Rattle.gtp_world.proofs.one_side.SideLemmas.{live_any, live_at, alike}
use Rattle.gtp_world.specs.Exchange.{CanBeWritten, Answered, reply_with_id, replayed, Owes, AllMayBeSent}
use Rattle.gtp_world.specs.Exchange.{all_reply_bytes}
use Rattle.gtp_session.specs.CommandAnswers.{after_command, GoesWell}
use Rattle.gtp_world.specs.Joined.{Rules, ruled, IsPlayable, EngineBody, BareLane}
use Rattle.gtp_world.specs.Joined.{WillReadWhereRunning, CutByCrash, IsJoinedInPlay}
use Rattle.gtp_world.specs.Joined.{IsJoinedSide, IsFair, AreJoined}
use Rattle.std.proofs.Math.Seq.{take-append_seam}

-- ---- what is kept reads alike

alike_then : (a b c : List ℕ) → ReadsAlike a b → ReadsAlike b c → ReadsAlike a c
alike_then a b c p q later place answer = (
  (λ x. (q later place answer).0 ((p later place answer).0 x)),
  (λ x. (p later place answer).1 ((q later place answer).1 x)),
)

alike_longer : (a b x : List ℕ) → ReadsAlike a b → ReadsAlike (a ++ x) (b ++ x)
alike_longer a b x p later place answer =
    let F : List ℕ → Type 0 = λ t. IsFirst t place answer in (
      (λ h. subst F (sym (append_assoc b x later)) ((p (x ++ later) place answer).0
          (subst F (append_assoc a x later) h))),
      (λ h. subst F (sym (append_assoc a x later)) ((p (x ++ later) place answer).1
          (subst F (append_assoc b x later) h))),
    )

pub kept_longer : (kept reader begun x : List ℕ) → MayKeep kept (reader ++ x) → MayKeep reader begun
    → MayKeep kept (begun ++ x)
kept_longer kept reader begun x k r = (
  omega (arith, k.0, r.0, length-append reader x, length-append begun x),
  alike_then kept (reader ++ x)
      (begun ++ x) k.1 (alike_longer reader begun x r.1),
)

-- ---- a side whose first reply has come whole

next_live : (game : GameRecord) (n sent : ℕ) (us : List SentCommand) (more : List Reply) (waiting : List SentCommand)
    (ahead : GameRecord) (e : Option EngineBody) (te tc cut : List ℕ)
    → length us ≤ most_unanswered → Owes (replayed game n) us more waiting ahead → AllByRecursion CanBeWritten waiting
    → AllMayBeSent ahead waiting
    → tc ++ cut ≡ all_reply_bytes more → WillReadWhereRunning e te ahead waiting → CutByCrash e cut
    → IsJoinedInPlay game (record { confirmed = n; sent = sent; unanswered = us; reader = [] })
    (record { engine = e; to_engine = te; to_controller = tc })
next_live game n sent us more waiting ahead e te tc cut few owes fit may arriving runs uncut = record {
  few = few;
  replies = more;
  waiting = waiting;
  ahead = ahead;
  owes = owes;
  fit = fit;
  may = may;
  begun = [];
  cut = cut;
  begun_quiet = nothing_given;
  kept = (refl, alike []);
  arriving = arriving;
  runs = runs;
  uncut = uncut;
}

-- ---- the table at what is owed

own_id : (n : ℕ) (x y : Outcome) → cond (has_id (Some n) n) x y ≡ x
own_id n x y = rw (same_id n) refl
  where
    same_id : (k : ℕ) → (k == k) ≡ true
    same_id k = grind (arith, nat_tests)

pub scripted_outcome : (game : GameRecord) (s : Colour) (o : SentCommand) (r : Reply) (g g1 : GameRecord)
    → Answered g o r g1 → GoesWellOn game.size g o.command
    → outcome game s (Some o) r ≡ Confirms
scripted_outcome game s o r g g1 a well =
    let reply : r ≡ reply_with_id o.id (succeeds_with g o.command) =
    a.reply ∙ ap (reply_with_id o.id) (well_answer g (Some o.id) o.command a.choice well.well) in
    ap (outcome game s (Some o)) reply
    ∙ own_id o.id (outcome_of game s o.command (reply_with_id o.id (succeeds_with g o.command))) (Down WrongId)
    ∙ well_heard game g s o.id o.command well.well well.sized

pub scripted_game : (o : SentCommand) (r : Reply) (g g1 : GameRecord) → Answered g o r g1 → GoesWell g o.command
    → g1 ≡ after_command g o.command
scripted_game o r g g1 a well = a.game ∙ ap (λ (x : Answer). x.game) (well_answer g (Some o.id) o.command a.choice well)

-- what is legal under any ko rule is legal under simple ko
simple_repeats : (rule : KoRule) (game : GameRecord) (board : List Cell) → RepeatsLast game board
    → RepeatsBy rule (ruled rule game) board
simple_repeats Simple game board h = record { moved = h.moved; same = h.same }
simple_repeats Positional game board h =
    record { number = length game.moves - 1; within = omega arith; same = h.same }

legal_simply : (rule : KoRule) (game : GameRecord) (s : Colour) (v : Vertex) → game.rule ≡ Simple
    → IsLegal (ruled rule game) s v → IsLegal game s v
legal_simply rule game s Pass is legal = tt
legal_simply rule game s (At p) is legal = record {
  on_board = legal.on_board;
  empty = legal.empty;
  free = legal.free;
  no_ko = λ repeats.
      let last : RepeatsBy Simple game (play (board_of game) s p) =
      subst (λ (k : KoRule). RepeatsBy k game (play (board_of game) s p)) is repeats in
      legal.no_ko (simple_repeats rule game (play (board_of game) s p) last);
}

lawful_simply : (rule : KoRule) (game : GameRecord) (s : Colour) (ch : Choice) → game.rule ≡ Simple
    → IsLawful (ruled rule game) s ch → IsLawful game s ch
lawful_simply rule game s choice.Resign is lawful = lawful
lawful_simply rule game s (choice.Play v) is lawful = legal_simply rule game s v is lawful

pub simple_rule : (c : Controller) → IsSound c → c.game.rule ≡ Simple
simple_rule c h = ap (λ (x : GameRecord). x.rule) h.game_is

-- the reply to a choice is that of any game
same_answer : (game other_game : GameRecord) (s : Colour) (id : ℕ) (ch : Choice)
    → outcome_of game s (Genmove s) (reply_with_id id (answer_choice other_game s ch))
    ≡ outcome_of game s (Genmove s) (reply_with_id id (answer_choice game s ch))
same_answer game other_game s id choice.Resign = refl
same_answer game other_game s id (choice.Play v) = refl

-- a game's last move, under any rule
pub simple_ends : {rule : KoRule} (game : GameRecord) → (e : EndsWith (ruled rule game))
    → game ≡ with_move (without_last game) e.move.colour e.move.vertex
simple_ends game e =
    let moves_are = ap (λ (x : GameRecord). x.moves) e.game_is in ap (with_moves game) moves_are

-- what was chosen under the side's ko rule, and how it is heard
pub record Chose (rule : KoRule) (game : GameRecord) (s : Colour) (o : SentCommand) (r : Reply) (g1 : GameRecord)
    : Type 0 where
  pub choice : Choice
  pub lawful : IsLawful (ruled rule game) s choice
  pub heard : outcome game s (Some o) r ≡ outcome_of_choice choice
  pub game_is : g1 ≡ (answer_choice (ruled rule game) s choice).game

pub chose : (rule : KoRule) (game : GameRecord) (s : Colour) (id : ℕ) (r : Reply) (g1 : GameRecord)
    → game.rule ≡ Simple → HasRoom (ruled rule game) → game.size ≤ most_size
    → Answered (ruled rule game) (record { id = id; command = Genmove s }) r g1
    → Chose rule game s (record { id = id; command = Genmove s }) r g1
chose rule game s id r g1 simple room most a =
    let lawful : IsLawful (ruled rule game) s a.choice =
    subst (λ (x : Option Colour). IfSome x (λ d. IsLawful (ruled rule game) d a.choice))
    (genmove_asks (ruled rule game) (Some id) s room) a.lawful in
    let given = genmove_answer (ruled rule game) (Some id) s a.choice room in
    record {
      choice = a.choice;
      lawful = lawful;
      heard =
          ap (outcome game s (Some (record { id = id; command = Genmove s }))) (a.reply ∙ ap (reply_with_id id) given)
          ∙ own_id id (outcome_of game s (Genmove s) (reply_with_id id (answer_choice (ruled rule game) s a.choice)))
          (Down WrongId)
          ∙ same_answer game (ruled rule game) s id a.choice
          ∙ choice_heard game s s id a.choice most (lawful_simply rule game s a.choice simple lawful);
      game_is = a.game ∙ ap (λ (x : Answer). x.game) given;
    }

-- ---- the games of a longer and a shorter record

-- the game with a move more, without it
pub without_with : (game : GameRecord) (c : Colour) (v : Vertex) → without_last (with_move game c v) ≡ game
without_with game c v =
    let m : Move = record { colour = c; vertex = v } in
    let n : length (game.moves ++ m ∷ []) - 1 ≡ length game.moves = omega (arith, length-append game.moves (m ∷ [])) in
    ap (with_moves game) (ap (λ k. take k (game.moves ++ m ∷ [])) n ∙ take-append_seam game.moves (m ∷ []))

same_self : (c : Colour) → same_colour c c ≡ true
same_self Black = refl
same_self White = refl

not_other : (c : Colour) → same_colour c (other c) ≡ false
not_other Black = refl
not_other White = refl

pub this_or_other : (c s : Colour) → (c ≡ s) ⊎ (c ≡ other s)
this_or_other Black Black = inl refl
this_or_other Black White = inr refl
this_or_other White Black = inr refl
this_or_other White White = inl refl

other_back : (c s : Colour) → s ≡ other c → c ≡ other s
other_back Black White e = refl
other_back White Black e = refl
other_back Black Black e = absurd (cc e)
other_back White White e = absurd (cc e)

-- who made the last move
pub made_by : (game : GameRecord) (e : EndsWith game) (c : Colour) → e.move.colour ≡ c → moved_last game c ≡ true
made_by game e c is =
    ap (λ (m : Option Move). is_by m c) e.there ∙ ap (λ (x : Colour). same_colour x c) is ∙ same_self c

-- the move that was added is the side's, and not the other's
added_by : (game : GameRecord) (s : Colour) (v : Vertex) (c : Colour)
    → moved_last (with_move game s v) c ≡ same_colour s c
added_by game s v c =
    let m : Move = record { colour = s; vertex = v } in
    let n : length (game.moves ++ m ∷ []) - 1 ≡ length game.moves = omega (arith, length-append game.moves (m ∷ [])) in
    ap (λ (o : Option Move). is_by o c)
    (ap (slice_get (game.moves ++ m ∷ [])) n ∙ get_after game.moves [] m)

-- a side has confirmed the whole script where the numbers are equal
pub has_all_is : (n m : ℕ) → (n == m) ≡ true → n ≡ m
has_all_is n m e = grind (arith, nat_tests)

pub has_all_if : (n m : ℕ) → n ≡ m → (n == m) ≡ true
has_all_if n m e = grind (arith, nat_tests)

-- ---- the other side, where the record grows or is cut

-- an idle side where the record grows: it has left the new command
pub theirs_moved : (rule : KoRule) (c : Controller) (s : Colour) (mover : Colour) (v : Vertex)
    (verdict : Option Verdict)
    (up : Option EngineRun) (l : BareLane)
    → c.verdict ≡ None → IfSome up (IsSoundEngine c s)
    → IsJoinedSide (ruled rule c.game) None up l → IsIdle up
    → IsJoinedSide (ruled rule (with_move c.game mover v)) verdict up l
theirs_moved rule c s mover v None None l none sound h idle = h
theirs_moved rule c s mover v (Some w) None l none sound h idle = h
theirs_moved rule c s mover v verdict (Some u) l none sound h idle =
    let within : u.confirmed ≤ length (script c.game) =
    idle_plan c.game c.pending (all_retakes c) s u (sound.under_way none) idle in
    live_any (ruled rule (with_move c.game mover v)) verdict u l
    (live_at (ruled rule c.game) (ruled rule (with_move c.game mover v)) u l
    (replayed_longer (ruled rule c.game) mover v u.confirmed within) h)

-- a side that lacks the last command of the script where the last move leaves the record
pub theirs_shorter : (rule : KoRule) (game : GameRecord) (verdict : Option Verdict) (up : Option EngineRun)
    (l : BareLane) → IsJoinedSide (ruled rule game) None up l
    → IfSome up (λ u. u.confirmed ≤ length (script (without_last game)))
    → IsJoinedSide (ruled rule (without_last game)) verdict up l
theirs_shorter rule game None None l h lacks = h
theirs_shorter rule game (Some w) None l h lacks = h
theirs_shorter rule game verdict (Some u) l h lacks =
    live_any (ruled rule (without_last game)) verdict u l
    (live_at (ruled rule game) (ruled rule (without_last game)) u l
    (sym (replayed_shorter (ruled rule game) u.confirmed lacks)) h)

-- what the other side can replay of the longer record: the whole of the shorter one, of which it made the last move
pub theirs_longer : (rule : KoRule) (c : Controller) (s : Colour) (v : Vertex) (up : Option EngineRun)
    → IsSound c → to_move c.game ≡ s → IfSome up (λ u. u.confirmed ≤ length (script c.game))
    → IsPlayable rule c.game (other s) up → IsPlayable rule (with_move c.game s v) (other s) up
theirs_longer rule c s v up sound turn within p = record {
  earlier = subst IsGame (sym (without_with (ruled rule c.game) s v)) (whole (some_or_none c.game));
  last = λ h. elim h [ inl made ↦ absurd (not_made made) | inr all ↦ absurd (not_all up within all) ];
}
  where
    whole : (0 < length c.game.moves) ⊎ (without_last c.game ≡ c.game) → IsGame (ruled rule c.game)
    whole (inr same) = subst (λ (g : GameRecord). IsGame (ruled rule g)) same p.earlier
    whole (inl some) =
        let e = ends_with c.game some in
        let own : moved_last c.game e.move.colour ≡ true = made_by c.game e e.move.colour refl in
        let next : to_move c.game ≡ other e.move.colour =
        (turn_after c.game e.move.colour (has_stones c.game sound.game) sound.turns own).1 in
        p.last (inl (made_by c.game e (other s) (other_back e.move.colour s (sym turn ∙ next))))

    not_made : moved_last (with_move c.game s v) (other s) ≡ true → ⊥
    not_made made =
        let bad : true ≡ false = sym made ∙ added_by c.game s v (other s) ∙ not_other s in cc bad

    not_all : (u : Option EngineRun) → IfSome u (λ x. x.confirmed ≤ length (script c.game))
        → has_all (with_move c.game s v) u ≡ true → ⊥
    not_all None w all = cc all
    not_all (Some x) w all =
        omega (
          arith,
          has_all_is x.confirmed (length (script (with_move c.game s v))) all,
          script_longer c.game s v,
          w,
        )

pub fair_ended : (rules : Rules) (c : Controller) (setup : SetupRecord) (game : GameRecord)
    → IsFair rules c (verdict_after setup game)
fair_ended rules c setup game = go (holds (finished? game)) (length game.moves == setup.max_moves)
  where
    go : (a b : Bool) → IsFair rules c (cond a (Some (Score (score game))) (cond b (Some Limit) None))
    go true b = tt
    go false true = tt
    go false false = tt

-- ---- a whole reply that the side owes

-- what hearing it leaves
abbrev pub Replied : Rules → Controller → Colour → EngineRun → BareLane → BareLane → Outcome → Type 0
Replied rules c s u l lo o = (fault_of o ≡ None) × AreJoined rules (after_outcome c s (heard_reply u) o) s l lo

-- what is left of a side once its oldest order is answered
pub record Left (game : GameRecord) (n : ℕ) (us : List SentCommand) (e : Option EngineBody) (te tc : List ℕ) : Type 0
  where
    pub few : length us ≤ most_unanswered
    pub more : List Reply
    pub waiting : List SentCommand
    pub ahead : GameRecord
    pub owes : Owes (replayed game n) us more waiting ahead
    pub fit : AllByRecursion CanBeWritten waiting
    pub may : AllMayBeSent ahead waiting
    pub cut : List ℕ
    pub arriving : tc ++ cut ≡ all_reply_bytes more
    pub runs : WillReadWhereRunning e te ahead waiting
    pub uncut : CutByCrash e cut

pub left_live : (game : GameRecord) (n sent : ℕ) (us : List SentCommand) (e : Option EngineBody) (te tc : List ℕ)
    → Left game n us e te tc
    → IsJoinedInPlay game (record { confirmed = n; sent = sent; unanswered = us; reader = [] })
    (record { engine = e; to_engine = te; to_controller = tc })
left_live game n sent us e te tc h =
    next_live game n sent us h.more h.waiting h.ahead e te tc h.cut h.few h.owes h.fit h.may h.arriving h.runs h.uncut

-- a refusal is heard as one
pub refused_heard : (game : GameRecord) (s : Colour) (id : ℕ) (move : Move) (r : Reply) (g g1 : GameRecord)
    → Answered g (record { id = id; command = Play move }) r g1 → HasRoom g → IsVertex move.vertex
    → ¬ IsLegal g move.colour move.vertex
    → (outcome game s (Some (record { id = id; command = Play move })) r ≡ Refuses) × (g1 ≡ g)
refused_heard game s id move r g g1 a room is_vertex un =
    let given = play_refused g (Some id) move a.choice room is_vertex un in (
      ap (outcome game s (Some (record { id = id; command = Play move }))) (a.reply ∙ ap (reply_with_id id) given)
          ∙ own_id id Refuses (Down WrongId),
      a.game ∙ ap (λ (x : Answer). x.game) given,
    )

-- an undo is heard as one
pub undone_heard : (game : GameRecord) (s : Colour) (id : ℕ) (r : Reply) (g g1 : GameRecord)
    → Answered g (record { id = id; command = Undo }) r g1 → 0 < length g.moves
    → (outcome game s (Some (record { id = id; command = Undo })) r ≡ TakesBack) × (g1 ≡ without_last g)
undone_heard game s id r g g1 a some =
    let given = undo_answer g (Some id) a.choice some in (
      ap (outcome game s (Some (record { id = id; command = Undo }))) (a.reply ∙ ap (reply_with_id id) given)
          ∙ own_id id TakesBack (Down WrongId),
      a.game ∙ ap (λ (x : Answer). x.game) given,
    )
