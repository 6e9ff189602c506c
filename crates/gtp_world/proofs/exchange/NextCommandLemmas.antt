-- What a side is sent next may be sent after the commands that it hasn't answered.
use Rattle.std.proofs.Common.{◌≡◌, ℕ, suc, ◌+◌, ◌-◌, ◌<◌, ◌≤◌, true, List, [], ◌∷◌, ◌++◌, length, Option, Some, None}
use Rattle.std.proofs.Common.{refl, ap, sym}
use Rattle.std.proofs.Common.{◌∙◌, subst, arith, inl, inr}
use Rattle.std.specs.Prelude.{slice_get, ◌⊎◌, ◌==◌}
use Rattle.std.proofs.lemmas.Bool.Decides.{nat_tests}
use Rattle.std.proofs.lemmas.Option.{slice_get_within}
use Rattle.go_base.specs.Vertex.{IsVertex}
use Rattle.go_base.specs.declared.colours.Colour.{Colour}
use Rattle.go_board.specs.Game.{GameRecord, IsGame, HasRoom, without_last, first_moves, fresh_game_under}
use Rattle.go_board.specs.declared.rules.KoRule.{KoRule}
use Rattle.go_board.specs.declared.rules.KoRule.TheVariants.{Simple}
use Rattle.gtp_wire.specs.declared.commands.Command.{Command}
use Rattle.gtp_wire.specs.declared.commands.Command.TheVariants.{Play, Genmove, Undo}
use Rattle.gtp_wire.specs.declared.replies.Reply.{Reply}
use Rattle.gtp_session.specs.CommandAnswers.{after_command}
use Rattle.gtp_session.specs.Sent.{MayBeSent}
use Rattle.gtp_session.proofs.engines.Sent.{well_may_be_sent, vertex_of_legal}
use Rattle.gtp_match.specs.declared.unanswered.SentCommand.{SentCommand}
use Rattle.gtp_match.specs.declared.sides.EngineRun.{EngineRun}
use Rattle.gtp_match.specs.declared.controller.Controller.{Controller}
use Rattle.gtp_match.specs.Controller.{next_command, script_or_genmove, undo_or_else}
use Rattle.gtp_match.specs.Script.{script}
use Rattle.gtp_match.specs.Sound.{VerdictFits, InScript, IsSound, all_retakes}
use Rattle.gtp_match.proofs.scripts.Scripts.{past_length}
use Rattle.gtp_match.proofs.actions.Conditions.{BothIdle, GoesOn, ToUndo, SaysSend}
use Rattle.gtp_match.proofs.scripts.WithoutLast.{shorter_length}
use Rattle.gtp_match.proofs.soundness.Calls.{my_engine, idle_plan, script_grows, in_script, on_is_free, taken_at}
use Rattle.gtp_world.specs.Exchange.{replayed, Answered, Owes, AllMayBeSent}
use Rattle.gtp_world.specs.Joined.{ruled, IsPlayable}
use Rattle.gtp_world.proofs.joined.JoinedLemmas.{simple_game}
use Rattle.gtp_world.proofs.exchange.ExchangeLemmas.{owes_idle}
use Rattle.gtp_world.proofs.one_side.OutcomeLemmas.{scripted_game}
use Rattle.gtp_world.proofs.exchange.ScriptLemmas.{after_one_more, replayed_all, EndsWith, Place, place}

-- the game after one command more of the script
replayed_next : (game : GameRecord) (n : ℕ) (k : Command) → slice_get (script game) n ≡ Some k
    → replayed game (n + 1) ≡ after_command (replayed game n) k
replayed_next game n k e =
    let next : n + 1 ≡ suc n = omega arith in
    ap (replayed game) next ∙ after_one_more (fresh_game_under game.rule) (script game) n k e

-- A game that an engine is to replay: all but its last move is legal under the game's ko rule, and the whole of it
-- under simple ko.
pub record IsShared (game : GameRecord) : Type 0 where
  pub earlier : IsGame (without_last game)
  pub simple : IsGame (ruled Simple game)

-- the last move may be sent, legal or not
last_may_be_sent : (game : GameRecord) → IsShared game → (e : EndsWith game)
    → MayBeSent (without_last game) (Play e.move)
last_may_be_sent game is e =
    let within = slice_get_within game.moves (length game.moves - 1) e.move e.there in
    let room : HasRoom (without_last game) = omega (arith, is.simple.few, shorter_length game, within) in
    let is_vertex : IsVertex e.move.vertex =
    vertex_of_legal (first_moves (length game.moves - 1) (ruled Simple game)) e.move.colour e.move.vertex
    (is.simple.legal (length game.moves - 1) e.move e.there) is.simple.size.most in (
      room,
      (is_vertex, is.simple.size),
    )

-- each command of the script may be sent at its place
script_one_may : (game : GameRecord) → IsShared game → (n : ℕ) (k : Command) → slice_get (script game) n ≡ Some k
    → MayBeSent (replayed game n) k
script_one_may game is n k there = by_place (place game is.earlier n k there)
  where
    by_place : Place game n k → MayBeSent (replayed game n) k
    by_place (Place.early well whole) = well_may_be_sent (replayed game n) k well.well
    by_place (Place.last e is_play lacks at) =
        subst (λ (g : GameRecord). MayBeSent g k) (sym at)
        (subst (λ (x : Command). MayBeSent (without_last game) x) (sym is_play) (last_may_be_sent game is e))

-- the script's commands from a number on may be sent, one after the other, to an engine that holds the game of that
-- place
script_may : (game : GameRecord) → IsShared game → (n : ℕ) (os : List SentCommand) → InScript (script game) n os
    → AllMayBeSent (replayed game n) os
script_may game is n [] plan = tt
script_may game is n (o ∷ os) plan = (
  script_one_may game is n o.command plan.0,
  λ r g1 a. by_place r g1 a (place game is.earlier n o.command plan.0) (script_may game is (n + 1) os plan.1),
)
  where
    by_place : (r : Reply) (g1 : GameRecord) → Answered (replayed game n) o r g1 → Place game n o.command
        → AllMayBeSent (replayed game (n + 1)) os → AllMayBeSent g1 os
    by_place r g1 a (Place.early well whole) later =
        subst (λ (g : GameRecord). AllMayBeSent g os)
        (replayed_next game n o.command plan.0
        ∙ sym (scripted_game o r (replayed game n) g1 a well.well))
        later
    by_place r g1 a (Place.last e is_play lacks at) later = nothing_left os plan.1
      where
        -- nothing comes after the last move
        nothing_left : (left : List SentCommand) → InScript (script game) (n + 1) left → AllMayBeSent g1 left
        nothing_left [] p = tt
        nothing_left (x ∷ xs) p =
            absurd (omega (arith, slice_get_within (script game) (n + 1) x.command p.0, lacks))

-- where the answered commands end, the engine has the game that the script has there, and what waits continues there
record WaitsFrom (game : GameRecord) (n : ℕ) (os waiting : List SentCommand) (ahead : GameRecord) : Type 0 where
  m : ℕ
  game_is : ahead ≡ replayed game m
  plan : InScript (script game) m waiting
  number : m + length waiting ≡ n + length os

-- where the script continues after the commands that were sent: so the last move isn't among them
waits_from : (game : GameRecord) → IsGame (without_last game) → (n : ℕ) (os : List SentCommand) (rs : List Reply)
    (waiting : List SentCommand) (ahead : GameRecord) → n + length os < length (script game)
    → InScript (script game) n os
    → Owes (replayed game n) os rs waiting ahead → WaitsFrom game n os waiting ahead
waits_from game is n os [] waiting ahead more plan h = record {
  m = n;
  game_is = h.1;
  plan = subst (InScript (script game) n) (sym h.0) plan;
  number = omega (arith, ap length h.0);
}
waits_from game is n [] (r ∷ rs) waiting ahead more plan h = absurd h
waits_from game is n (o ∷ os) (r ∷ rs) waiting ahead more plan h =
    by_place (place game is n o.command plan.0)
    (λ owes. waits_from game is (n + 1) os rs waiting ahead (omega (arith, more)) plan.1 owes)
  where
    by_place : Place game n o.command
        → (Owes (replayed game (n + 1)) os rs waiting ahead → WaitsFrom game (n + 1) os waiting ahead)
        → WaitsFrom game n (o ∷ os) waiting ahead
    by_place (Place.last e is_play lacks at) later = absurd (omega (arith, lacks, more))
    by_place (Place.early well whole) later =
        let next : h.0 ≡ replayed game (n + 1) =
        scripted_game o r (replayed game n) h.0 h.1 well.well ∙ sym (replayed_next game n o.command plan.0) in
        let rest = later (subst (λ (g : GameRecord). Owes g os rs waiting ahead) next h.2) in
        record { m = rest.m; game_is = rest.game_is; plan = rest.plan; number = omega (arith, rest.number) }

-- the command may be sent at some game, and after whatever waits of an engine's unanswered commands
pub record MayFollow (game : GameRecord) (u : EngineRun) (o : SentCommand) : Type 0 where
  pub there : GameRecord
  pub may : MayBeSent there o.command
  pub behind : (rs : List Reply) (waiting : List SentCommand) (ahead : GameRecord)
      → Owes (replayed game u.confirmed) u.unanswered rs waiting ahead → AllMayBeSent ahead (waiting ++ o ∷ [])

may_push : (waiting : List SentCommand) (ahead : GameRecord) (o : SentCommand) → waiting ≡ []
    → MayBeSent ahead o.command → AllMayBeSent ahead (waiting ++ o ∷ [])
may_push [] ahead o e may = (may, λ r g a. tt)
may_push (p ∷ ps) ahead o e may = absurd (cc e)

idle_follows : (game : GameRecord) (u : EngineRun) (o : SentCommand) → u.unanswered ≡ []
    → MayBeSent (replayed game u.confirmed) o.command → MayFollow game u o
idle_follows game u o idle may = record {
  there = replayed game u.confirmed;
  may = may;
  behind = λ rs waiting ahead owes.
      let now = owes_idle (replayed game u.confirmed) u.unanswered rs waiting ahead idle owes in
      may_push waiting ahead o now.0 (subst (λ (g : GameRecord). MayBeSent g o.command) (sym now.1) may);
}

script_follows : (game : GameRecord) (u : EngineRun) (o : SentCommand) → IsShared game
    → InScript (script game) u.confirmed u.unanswered
    → slice_get (script game) (u.confirmed + length u.unanswered) ≡ Some o.command → MayFollow game u o
script_follows game u o is plan e = record {
  there = replayed game (u.confirmed + length u.unanswered);
  may = script_one_may game is (u.confirmed + length u.unanswered) o.command e;
  behind = λ rs waiting ahead owes.
      let more = slice_get_within (script game) (u.confirmed + length u.unanswered) o.command e in
      let w = waits_from game is.earlier u.confirmed u.unanswered rs waiting ahead more plan owes in
      let longer = script_grows (script game) w.m waiting o w.plan (ap (slice_get (script game)) w.number ∙ e) in
      subst (λ (g : GameRecord). AllMayBeSent g (waiting ++ o ∷ [])) (sym w.game_is)
      (script_may game is w.m (waiting ++ o ∷ []) longer);
}

-- what a side is sent next, with its id
abbrev pub next_sent : Controller → Colour → EngineRun → SentCommand
next_sent c s u = record { id = u.sent + 1; command = next_command c s u }

-- what a side is sent next may be sent
pub next_may : (rule : KoRule) (c : Controller) (s : Colour) → IsSound c → (says : SaysSend c s)
    → IsPlayable rule c.game s (Some says.engine)
    → MayFollow (ruled rule c.game) says.engine (next_sent c s says.engine)
next_may rule c s sound says playable = by_kind says.kind
  where
    u : EngineRun
    u = says.engine

    g : GameRecord
    g = ruled rule c.game

    shared : IsShared g
    shared = record { earlier = playable.earlier; simple = simple_game c sound }

    -- the game, where the engine has confirmed all of it
    whole : u.confirmed ≡ length (script c.game) → replayed g u.confirmed ≡ g
    whole all = replayed_all g u.confirmed (playable.last (inr (all_test u.confirmed (length (script c.game)) all))) all
      where
        all_test : (n m : ℕ) → n ≡ m → (n == m) ≡ true
        all_test n m e = grind (arith, nat_tests)

    by_script : (k : Option Command) → slice_get (script c.game) (u.confirmed + length u.unanswered) ≡ k
        → c.pending ≡ None → BothIdle c s u ⊎ GoesOn c.game u
        → MayFollow g u (record { id = u.sent + 1; command = script_or_genmove s k })
    by_script (Some k) e free kind =
        let way = (my_engine c s u sound says.up).under_way says.verdict in
        script_follows g u (record { id = u.sent + 1; command = k }) shared
        (in_script c.game c.pending s u.confirmed u.unanswered says.no_genmove free way.plan) e
    by_script None e free (inr on) =
        absurd (omega (arith, past_length (script c.game) (u.confirmed + length u.unanswered) e, on.more))
    by_script None e free (inl both) =
        let within : u.confirmed ≤ length (script c.game) =
        idle_plan c.game c.pending (all_retakes c) s u ((my_engine c s u sound says.up).under_way says.verdict)
        both.idle in
        let past : length (script c.game) ≤ u.confirmed + length u.unanswered =
        past_length (script c.game) (u.confirmed + length u.unanswered) e in
        let at : replayed g u.confirmed ≡ g = whole (omega (arith, within, past, ap length both.idle)) in
        let ends : VerdictFits c None = subst (VerdictFits c) says.verdict sound.ends in
        let room : HasRoom g = omega (arith, ends.0, sound.setup.moves.1) in
        idle_follows g u (record { id = u.sent + 1; command = Genmove s }) both.idle
        (subst (λ (x : GameRecord). MayBeSent x (Genmove s)) (sym at) (room, sound.game.size.most))

    -- where nothing is to be taken back it is a command of the script, or `genmove`
    scripted : c.pending ≡ None → BothIdle c s u ⊎ GoesOn c.game u → MayFollow g u (next_sent c s u)
    scripted free kind =
        let k = slice_get (script c.game) (u.confirmed + length u.unanswered) in
        let command_is : undo_or_else c.pending (script_or_genmove s k) ≡ script_or_genmove s k =
        ap (λ p. undo_or_else p (script_or_genmove s k)) free in
        let M : Command → Type 0 = λ x. MayFollow g u (record { id = u.sent + 1; command = x }) in
        subst M (sym command_is) (by_script k refl free kind)

    by_kind : BothIdle c s u ⊎ (GoesOn c.game u ⊎ ToUndo c s u) → MayFollow g u (next_sent c s u)
    by_kind (inl both) = scripted both.pending (inl both)
    by_kind (inr (inl on)) = scripted (on_is_free c s u sound says.verdict says.up on) (inr on)
    by_kind (inr (inr undo)) =
        let k = slice_get (script c.game) (u.confirmed + length u.unanswered) in
        let command_is : undo_or_else c.pending (script_or_genmove s k) ≡ Undo =
        ap (λ p. undo_or_else p (script_or_genmove s k)) undo.pending in
        let M : Command → Type 0 = λ x. MayFollow g u (record { id = u.sent + 1; command = x }) in
        let t = taken_at c s sound says.verdict undo.pending in
        let same : Some t.engine ≡ Some u = sym t.up ∙ says.up in
        let same_engine : t.engine ≡ u = cc same in
        let all : u.confirmed ≡ length (script c.game) =
        sym (ap (λ (x : EngineRun). x.confirmed) same_engine) ∙ t.all in
        subst M (sym command_is)
        (idle_follows g u (record { id = u.sent + 1; command = Undo }) undo.idle
        (subst (λ (x : GameRecord). MayBeSent x Undo) (sym (whole all)) t.some))
