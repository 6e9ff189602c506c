-- A reply keeps what joins the controller to the engines, whichever command it answers.
use Rattle.std.proofs.Common.{◌≡◌, ℕ, ◌+◌, ◌-◌, ◌<◌, ◌≤◌, List, [], ◌∷◌, ◌++◌, length, drop}
use Rattle.std.proofs.Common.{slice_get, Option, Some, inr, add-one}
use Rattle.std.proofs.Common.{None, refl, ap, sym, ◌∙◌, subst, arith, length-append, inl}
use Rattle.std.proofs.lemmas.Option.{slice_get_within}
use Rattle.std.specs.List.{AllByRecursion}
use Rattle.go_base.specs.Colour.{other}
use Rattle.go_base.specs.declared.colours.Colour.{Colour}
use Rattle.go_base.specs.Vertex.{IsVertex}
use Rattle.go_board.specs.Game.{GameRecord, HasRoom, IsGame, IsLegal, with_move, without_last, first_moves}
use Rattle.go_board.specs.declared.rules.KoRule.{KoRule}
use Rattle.go_board.proofs.records.Moves.{IsGame-with_move}
use Rattle.gtp_wire.specs.declared.commands.Command.{Command}
use Rattle.gtp_wire.specs.declared.commands.Command.TheVariants.{Genmove, Play, Undo}
use Rattle.gtp_wire.specs.declared.replies.Reply.{Reply}
use Rattle.gtp_session.specs.Policy.{IsLawful}
use Rattle.go_base.specs.declared.choices.Choice.{Choice}
use Rattle.go_base.specs.declared.choices.Choice.TheVariants as choice
use Rattle.gtp_session.specs.Commands.{answer_choice}
use Rattle.go_board.specs.Game.{fresh_game_under}
use Rattle.gtp_match.specs.declared.unanswered.SentCommand.{SentCommand}
use Rattle.gtp_match.specs.declared.sides.EngineRun.{EngineRun}
use Rattle.gtp_match.specs.declared.controller.Controller.{Controller}
use Rattle.gtp_match.specs.Unanswered.{oldest}
use Rattle.gtp_match.specs.Script.{script}
use Rattle.gtp_match.specs.Sides.{side_of, heard_reply}
use Rattle.gtp_match.specs.Controller.{to_move}
use Rattle.gtp_match.specs.ReplyTable.{outcome}
use Rattle.go_board.specs.decisions.Game.{legal?}
use Rattle.gtp_match.specs.Sound.{VerdictFits, InScript, IsAsked, AreUndo, HasPlan, IsUndo}
use Rattle.gtp_match.specs.Sound.{IsIdle, IsSound}
use Rattle.gtp_match.specs.Unanswered.{most_unanswered}
use Rattle.gtp_match.proofs.scripts.Scripts.{script_longer}
use Rattle.gtp_match.proofs.soundness.Calls.{my_engine, taken_at}
use Rattle.gtp_match.proofs.soundness.Calls.{nothing_pending}
use Rattle.gtp_match.proofs.scripts.WithoutLast.{shorter_length, script_shorter}
use Rattle.gtp_session.proofs.engines.Sent.{vertex_of_legal}
use Rattle.gtp_world.proofs.exchange.ReplyLemmas.{outcome_of_choice}
use Rattle.gtp_world.proofs.exchange.ScriptLemmas.{GoesWellOn, after_one_more, replayed_all}
use Rattle.gtp_world.proofs.exchange.ScriptLemmas.{EndsWith, Place, place}
use Rattle.gtp_world.specs.Exchange.{CanBeWritten, Answered, reply_bytes, replayed, Owes, AllMayBeSent, all_reply_bytes}
use Rattle.gtp_world.specs.Joined.{Rules, rule_of, ruled, IsPlayable, EngineBody, BareLane}
use Rattle.gtp_world.specs.Joined.{WillReadWhereRunning, CutByCrash}
use Rattle.gtp_world.specs.Joined.{IsJoinedAtEnd, IsJoinedSide}
use Rattle.gtp_world.proofs.one_side.OutcomeLemmas.{scripted_outcome, scripted_game, simple_rule}
use Rattle.gtp_world.proofs.one_side.OutcomeLemmas.{simple_ends}
use Rattle.gtp_world.proofs.one_side.OutcomeLemmas.{Chose, chose}
use Rattle.gtp_world.proofs.one_side.OutcomeLemmas.{has_all_if}
use Rattle.gtp_world.proofs.one_side.OutcomeLemmas.{Replied, Left, refused_heard, undone_heard}
use Rattle.gtp_world.proofs.one_side.KeptByOutcome.{confirms, resigns, moves, refuses, takes_back}

module _ (rules : Rules) (c : Controller) (s : Colour) (u : EngineRun) (e : Option EngineBody) (te tc : List ℕ)
    (lo : BareLane) (sound : IsSound c) (none : c.verdict ≡ None)
    (up : (side_of c.sides s).up ≡ Some u) (idle : IsIdle (side_of c.sides (other s)).up)
    (playable : IsPlayable (rule_of rules s) c.game s (Some u))
    (theirs : IsJoinedSide (ruled (rule_of rules (other s)) c.game) None (side_of c.sides (other s)).up lo)
    (their_playable : IsPlayable (rule_of rules (other s)) c.game (other s) (side_of c.sides (other s)).up) where
  abbrev here : BareLane
  here = record { engine = e; to_engine = te; to_controller = tc }

  abbrev rule : KoRule
  rule = rule_of rules s

  -- the game as the side's engine has it
  abbrev g : GameRecord
  g = ruled rule c.game

  -- by the order that the reply answers
  pub replied_keeps : (r : Reply) (more : List Reply) (waiting : List SentCommand) (ahead : GameRecord) (cut : List ℕ)
      → length u.unanswered ≤ most_unanswered → Owes (replayed g u.confirmed) u.unanswered (r ∷ more) waiting ahead
      → AllByRecursion CanBeWritten waiting → AllMayBeSent ahead waiting → tc ++ cut ≡ all_reply_bytes more
      → WillReadWhereRunning e te ahead waiting → CutByCrash e cut
      → Replied rules c s u here lo (outcome c.game s (oldest u.unanswered) r)
  replied_keeps r more waiting ahead cut few owes fit may arriving runs uncut =
      by_orders u.unanswered refl few owes ((my_engine c s u sound up).under_way none).plan
    where
      -- what is left of the side where the verdict blames it for the reply
      at_end : IsJoinedAtEnd g (heard_reply u) here
      at_end = record {
        few = few;
        replies = r ∷ more;
        waiting = waiting;
        ahead = ahead;
        owes = owes;
        fit = fit;
        may = may;
        runs = runs;
        room = omega (
          arith,
          ap length arriving,
          length-append tc cut,
          length-append (reply_bytes r) (all_reply_bytes more),
        );
      }

      by_orders : (os : List SentCommand) → u.unanswered ≡ os → length os ≤ most_unanswered
          → Owes (replayed g u.confirmed) os (r ∷ more) waiting ahead
          → HasPlan c.game c.pending s u.confirmed u.unanswered
          → Replied rules c s u here lo (outcome c.game s (oldest u.unanswered) r)
      by_orders [] is few owes plan = absurd owes
      by_orders (o ∷ us) is few owes plan = by_plan plan
        where
          left_of : (game : GameRecord) (n : ℕ) → owes.0 ≡ replayed game n → Left game n (drop 1 u.unanswered) e te tc
          left_of game n same = record {
            few = omega (arith, few, ap length (ap (drop 1) is));
            more = more;
            waiting = waiting;
            ahead = ahead;
            owes =
                subst (λ (os : List SentCommand). Owes (replayed game n) os more waiting ahead) (sym (ap (drop 1) is))
                (subst (λ (x : GameRecord). Owes x us more waiting ahead) same owes.2);
            fit = fit;
            may = may;
            cut = cut;
            arriving = arriving;
            runs = runs;
            uncut = uncut;
          }

          oldest_is : outcome c.game s (oldest u.unanswered) r ≡ outcome c.game s (Some o) r
          oldest_is = ap (λ (os : List SentCommand). outcome c.game s (oldest os) r) is

          -- a command of the script that goes well is confirmed
          well_confirms : slice_get (script c.game) u.confirmed ≡ Some o.command
              → GoesWellOn g.size (replayed g u.confirmed) o.command
              → (u.confirmed + 1 ≡ length (script c.game) → IsGame g)
              → Replied rules c s u here lo (outcome c.game s (oldest u.unanswered) r)
          well_confirms there well whole =
              let next_game : owes.0 ≡ replayed g (u.confirmed + 1) =
              scripted_game o r (replayed g u.confirmed) owes.0 owes.1 well.well
              ∙ sym (rw add-one
              (after_one_more (fresh_game_under g.rule) (script c.game) u.confirmed o.command there)) in
              confirms rules c s u e te tc lo sound none up idle playable theirs their_playable
              r
              (oldest_is ∙ scripted_outcome c.game s o r (replayed g u.confirmed) owes.0 owes.1 well)
              (left_of g (u.confirmed + 1) next_game) whole

          -- the last move of the record: legal for the side's engine, or refused
          by_last : slice_get (script c.game) u.confirmed ≡ Some o.command
              → (end : EndsWith g) → o.command ≡ Play end.move → u.confirmed + 1 ≡ length (script c.game)
              → replayed g u.confirmed ≡ without_last g
              → Dec (IsLegal (without_last g) end.move.colour end.move.vertex)
              → Replied rules c s u here lo (outcome c.game s (oldest u.unanswered) r)
          by_last there end is_play lacks at (yes legal) =
              let whole : IsGame g =
              subst IsGame (sym end.game_is)
              (IsGame-with_move (without_last g) end.move.colour end.move.vertex playable.earlier room legal) in
              let well : GoesWellOn g.size (without_last g) (Play end.move) =
              record { well = (room, (legal, sound.game.size)); sized = λ h. absurd h } in
              well_confirms there
              (subst (λ (x : GameRecord). GoesWellOn g.size x o.command) (sym at)
              (subst (λ (k : Command). GoesWellOn g.size (without_last g) k) (sym is_play) well))
              (λ _. whole)
            where
              room : HasRoom (without_last g)
              room = omega (arith, sound.game.few, shorter_length c.game, end_some)
                where
                  end_some : 0 < length c.game.moves
                  end_some =
                      let within = slice_get_within c.game.moves (length c.game.moves - 1) end.move end.there in
                      omega (arith, within)
          by_last there end is_play lacks at (no illegal) =
              let some : 0 < length c.game.moves =
              let within = slice_get_within c.game.moves (length c.game.moves - 1) end.move end.there in
              omega (arith, within) in
              let room : HasRoom (without_last g) = omega (arith, sound.game.few, shorter_length c.game, some) in
              let is_vertex : IsVertex end.move.vertex =
              vertex_of_legal (first_moves (length c.game.moves - 1) c.game) end.move.colour end.move.vertex
              (sound.game.legal (length c.game.moves - 1) end.move end.there) sound.game.size.most in
              let order_is : o ≡ record { id = o.id; command = Play end.move } =
              ap (λ (k : Command). record { id = o.id; command = k }) is_play in
              let a : Answered (without_last g) (record { id = o.id; command = Play end.move }) r owes.0 =
              subst (λ (x : SentCommand). Answered (without_last g) x r owes.0) order_is
              (subst (λ (x : GameRecord). Answered x o r owes.0) at owes.1) in
              let heard =
              refused_heard c.game s o.id end.move r (without_last g) owes.0 a room is_vertex illegal in
              let no_undo : ¬ IsUndo o.command =
              λ (undo : IsUndo o.command). let bad : Play end.move ≡ Undo = sym is_play ∙ undo in cc bad in
              refuses rules c s u e te tc lo sound none up idle playable theirs their_playable
              r (record { move = end.move; there = end.there; game_is = simple_ends c.game end })
              (nothing_pending c s u o us sound none up is no_undo)
              (oldest_is ∙ ap (λ (x : SentCommand). outcome c.game s (Some x) r) order_is ∙ heard.0)
              lacks illegal
              (left_of g u.confirmed (heard.1 ∙ sym at)) at_end

          by_place : slice_get (script c.game) u.confirmed ≡ Some o.command → Place g u.confirmed o.command
              → Replied rules c s u here lo (outcome c.game s (oldest u.unanswered) r)
          by_place there (Place.early well whole) = well_confirms there well whole
          by_place there (Place.last end is_play lacks at) =
              by_last there end is_play lacks at
              (legal? (without_last g) end.move.colour end.move.vertex)

          by_plan : HasPlan c.game c.pending s u.confirmed u.unanswered
              → Replied rules c s u here lo (outcome c.game s (oldest u.unanswered) r)
          by_plan (inl in_script) =
              let plan : InScript (script c.game) u.confirmed (o ∷ us) =
              subst (InScript (script c.game) u.confirmed) is in_script in
              by_place plan.0 (place g playable.earlier u.confirmed o.command plan.0)
          by_plan (inr (inl asks)) =
              let order_is : o ≡ record { id = o.id; command = Genmove s } = of_genmove asks in
              let is_game : IsGame g =
              playable.last (inr (has_all_if u.confirmed (length (script c.game)) asks.all)) in
              let whole : replayed g u.confirmed ≡ g = replayed_all g u.confirmed is_game asks.all in
              let a : Answered g (record { id = o.id; command = Genmove s }) r owes.0 =
              subst (λ (x : SentCommand). Answered g x r owes.0) order_is
              (subst (λ (x : GameRecord). Answered x o r owes.0) whole owes.1) in
              let ends : VerdictFits c None = subst (VerdictFits c) none sound.ends in
              let room : HasRoom g = omega (arith, ends.0, sound.setup.moves.1) in
              let picked : Chose rule c.game s (record { id = o.id; command = Genmove s }) r owes.0 =
              chose rule c.game s o.id r owes.0 (simple_rule c sound) room is_game.size.most a in
              let heard : outcome c.game s (oldest u.unanswered) r ≡ outcome_of_choice picked.choice =
              oldest_is ∙ ap (λ (x : SentCommand). outcome c.game s (Some x) r) order_is ∙ picked.heard in
              by_choice picked.choice heard picked.lawful picked.game_is room is_game asks.turn asks.all
            where
              of_genmove : IsAsked c.game s u.confirmed u.unanswered → o ≡ record { id = o.id; command = Genmove s }
              of_genmove a =
                  let both : o ∷ us ≡ a.entry ∷ [] = sym is ∙ a.alone in
                  let same : o ≡ a.entry = cc both in
                  ap (λ (k : Command). record { id = o.id; command = k })
                  (ap (λ (x : SentCommand). x.command) same ∙ a.genmove)

              by_choice : (ch : Choice) → outcome c.game s (oldest u.unanswered) r ≡ outcome_of_choice ch
                  → IsLawful g s ch
                  → owes.0 ≡ (answer_choice g s ch).game → HasRoom g → IsGame g → to_move c.game ≡ s
                  → u.confirmed ≡ length (script c.game)
                  → Replied rules c s u here lo (outcome c.game s (oldest u.unanswered) r)
              by_choice choice.Resign heard lawful game_is room is_game turn all =
                  resigns rules c s u e te tc lo sound none up idle playable theirs their_playable
                  r heard (left_of g u.confirmed
                  (game_is ∙ sym (replayed_all g u.confirmed is_game all)))
              by_choice (choice.Play v) heard lawful game_is room is_game turn all =
                  let longer : u.confirmed + 1 ≡ length (script (with_move c.game s v)) =
                  omega (arith, all, script_longer c.game s v) in
                  let is2 : IsGame (with_move g s v) = IsGame-with_move g s v is_game room lawful in
                  moves rules c s u e te tc lo sound none up idle playable theirs their_playable
                  r v heard turn is_game is2 (left_of (with_move g s v) (u.confirmed + 1)
                  (game_is ∙ sym (replayed_all (with_move g s v) (u.confirmed + 1) is2 longer)))
          by_plan (inr (inr taking)) =
              let order_is : o ≡ record { id = o.id; command = Undo } = of_undo taking.1 in
              let t = taken_at c s sound none taking.0 in
              let same : Some t.engine ≡ Some u = sym t.up ∙ up in
              let same_engine : t.engine ≡ u = cc same in
              let all : u.confirmed ≡ length (script c.game) =
              sym (ap (λ (x : EngineRun). x.confirmed) same_engine) ∙ t.all in
              let is_game : IsGame g = playable.last (inr (has_all_if u.confirmed (length (script c.game)) all)) in
              let whole : replayed g u.confirmed ≡ g = replayed_all g u.confirmed is_game all in
              let a : Answered g (record { id = o.id; command = Undo }) r owes.0 =
              subst (λ (x : SentCommand). Answered g x r owes.0) order_is
              (subst (λ (x : GameRecord). Answered x o r owes.0) whole owes.1) in
              let heard = undone_heard c.game s o.id r g owes.0 a t.some in
              let shorter : u.confirmed - 1 ≡ length (script (without_last g)) =
              omega (arith, all, script_shorter c.game t.some) in
              takes_back rules c s u e te tc lo sound none up idle playable theirs their_playable
              r
              (oldest_is ∙ ap (λ (x : SentCommand). outcome c.game s (Some x) r) order_is ∙ heard.0)
              taking.0
              (left_of (without_last g) (u.confirmed - 1)
              (heard.1 ∙ sym (replayed_all (without_last g) (u.confirmed - 1) playable.earlier shorter)))
            where
              of_undo : AreUndo u.unanswered → o ≡ record { id = o.id; command = Undo }
              of_undo a =
                  let both : o ∷ us ≡ a.entry ∷ [] = sym is ∙ a.alone in
                  let same : o ≡ a.entry = cc both in
                  ap (λ (k : Command). record { id = o.id; command = k })
                  (ap (λ (x : SentCommand). x.command) same ∙ a.undo)
