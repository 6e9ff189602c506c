-- An engine that comes to a line which asks for a choice, before a verdict, is asked for its own side's move, whose
-- turn it is, at the controller's game.
use Rattle.std.proofs.Common.{◌≡◌, ℕ, ◌+◌, List, [], ◌∷◌, ◌++◌, map, length, Option, Some, None, slice_get, refl, sym}
use Rattle.std.proofs.Common.{◌∙◌, ap, subst, true, arith, inl, inr}
use Rattle.std.specs.Prelude.{◌==◌}
use Rattle.std.proofs.lemmas.Bool.Decides.{nat_tests}
use Rattle.std.proofs.lemmas.List.{append-nil}
use Rattle.go_base.specs.declared.colours.Colour.{Colour}
use Rattle.go_board.specs.Game.{GameRecord, IsGame, fresh_game_under}
use Rattle.go_board.specs.declared.rules.KoRule.TheVariants.{Simple}
use Rattle.gtp_wire.specs.declared.commands.Command.{Command}
use Rattle.gtp_wire.specs.declared.commands.Command.TheVariants.{Boardsize, Komi, ClearBoard, FixedHandicap, Play}
use Rattle.gtp_wire.specs.declared.commands.Command.TheVariants.{Genmove, Undo, Quit}
use Rattle.gtp_wire.specs.declared.lines.Line.{Line}
use Rattle.gtp_wire.specs.declared.replies.Reply.{Reply}
use Rattle.gtp_wire.specs.Lines.{lines}
use Rattle.gtp_session.proofs.engines.Replying.{lines-nothing}
use Rattle.gtp_session.proofs.engines.Sent.{genmove_asks}
use Rattle.gtp_session.specs.Commands.{asked}
use Rattle.gtp_session.specs.CommandAnswers.{GoesWell, line_of_command}
use Rattle.gtp_session.specs.Sent.{MayBeSent}
use Rattle.gtp_match.specs.declared.sides.EngineRun.{EngineRun}
use Rattle.gtp_match.specs.declared.unanswered.SentCommand.{SentCommand}
use Rattle.gtp_match.specs.declared.controller.Controller.{Controller}
use Rattle.gtp_match.specs.Controller.{to_move}
use Rattle.gtp_match.specs.Script.{script}
use Rattle.gtp_match.specs.Sides.{side_of}
use Rattle.gtp_match.specs.Sound.{HasPlan, InScript}
use Rattle.gtp_match.proofs.soundness.Calls.{my_engine}
use Rattle.gtp_world.specs.Exchange.{sent_line, Owes, AllMayBeSent, all_sent_bytes, replayed}
use Rattle.gtp_world.specs.Joined.{Rules, rule_of, ruled, EngineBody, BareLane, WillRead, WillReadWhereRunning}
use Rattle.gtp_world.specs.Joined.{IsJoinedInPlay, IsJoinedSide, IsPlayable, AreJoined}
use Rattle.gtp_world.proofs.exchange.ExchangeLemmas.{orders_lines}
use Rattle.gtp_world.proofs.exchange.ScriptLemmas.{script_well, well_at, replayed_all}
use Rattle.gtp_world.proofs.joined.JoinedLemmas.{simple_game}

-- ---- what asks for a choice is a `genmove` for that colour

same_colour : (c d : Colour) → Some c ≡ Some d → Genmove c ≡ Genmove d
same_colour c d e = let same : c ≡ d = cc e in ap Genmove same

asks_genmove : (game : GameRecord) (id : Option ℕ) (k : Command) (colour : Colour) → MayBeSent game k
    → asked game (line_of_command id k) ≡ Some colour → k ≡ Genmove colour
asks_genmove game id (Boardsize size) colour may e = absurd (cc e)
asks_genmove game id (Komi komi) colour may e = absurd (cc e)
asks_genmove game id ClearBoard colour may e = absurd (cc e)
asks_genmove game id (FixedHandicap stones) colour may e = absurd (cc e)
asks_genmove game id (Play move) colour may e = absurd (cc e)
asks_genmove game id (Genmove c) colour may e = same_colour c colour (sym (genmove_asks game id c may.0) ∙ e)
asks_genmove game id Undo colour may e = absurd (cc e)
asks_genmove game id Quit colour may e = absurd may

-- ---- of the commands that are owed

-- the command that waits first is one of those that are owed
first_in_script : (commands : List Command) (n : ℕ) (g : GameRecord) (os : List SentCommand) (rs : List Reply)
    (o : SentCommand) (ws : List SentCommand) (ahead : GameRecord) → Owes g os rs (o ∷ ws) ahead
    → InScript commands n os → (m : ℕ) × (slice_get commands m ≡ Some o.command)
first_in_script commands n g [] [] o ws ahead h s = absurd (let bad : o ∷ ws ≡ [] = h.0 in cc bad)
first_in_script commands n g (p ∷ os) [] o ws ahead h s =
    let both : o ∷ ws ≡ p ∷ os = h.0 in
    let same : o ≡ p = cc both in
    (n, s.0 ∙ ap (λ (x : SentCommand). Some x.command) (sym same))
first_in_script commands n g [] (r ∷ rs) o ws ahead h s = absurd h
first_in_script commands n g (p ∷ os) (r ∷ rs) o ws ahead h s =
    first_in_script commands (n + 1) h.0 os rs o ws ahead h.2 s.1

-- where one command alone is owed, it is that one, and the engine is where the confirmed ones brought it
alone_waits : (g : GameRecord) (entry : SentCommand) (rs : List Reply) (o : SentCommand) (ws : List SentCommand)
    (ahead : GameRecord) → Owes g (entry ∷ []) rs (o ∷ ws) ahead → (o ≡ entry) × (ahead ≡ g)
alone_waits g entry [] o ws ahead h = let both : o ∷ ws ≡ entry ∷ [] = h.0 in (cc both, h.1)
alone_waits g entry (r ∷ []) o ws ahead h = absurd (let bad : o ∷ ws ≡ [] = h.2.0 in cc bad)
alone_waits g entry (r ∷ q ∷ rs) o ws ahead h = absurd h.2

-- ---- the side

module _ (rules : Rules) (c : Controller) (side : Colour) (l lo : BareLane) (b : EngineBody)
    (j : AreJoined rules c side l lo) (none : c.verdict ≡ None) (runs : l.engine ≡ Some b) (line : Line)
    (ls : List Line) (colour : Colour) (comes : lines (b.rest ++ l.to_engine) ≡ line ∷ ls)
    (asks : asked b.game line ≡ Some colour) where
  abbrev g : GameRecord
  g = ruled (rule_of rules side) c.game

  -- it is asked for its own side's move, whose turn it is, at the controller's game
  abbrev InTurn : Type 0
  InTurn = (colour ≡ side) × (to_move c.game ≡ side) × (b.game ≡ g)

  no_genmove : (n : ℕ) (k : Command) → slice_get (script c.game) n ≡ Some k → k ≡ Genmove colour → ⊥
  no_genmove n k e is =
      let simple : GameRecord = ruled Simple c.game in
      let well =
      well_at simple.size (fresh_game_under Simple) (script c.game) n k (script_well simple (simple_game c j.sound)) e
      in
      subst (GoesWell _) is well.well

  by_plan : (u : EngineRun) → (side_of c.sides side).up ≡ Some u → (rs : List Reply) (o : SentCommand)
      (ws : List SentCommand) (ahead : GameRecord) → Owes (replayed g u.confirmed) u.unanswered rs (o ∷ ws) ahead
      → b.game ≡ ahead → o.command ≡ Genmove colour → HasPlan c.game c.pending side u.confirmed u.unanswered → InTurn
  by_plan u up rs o ws ahead owes at genmove (inl script_left) =
      let it =
      first_in_script (script c.game) u.confirmed (replayed g u.confirmed) u.unanswered rs o ws ahead owes script_left
      in
      absurd (no_genmove it.0 o.command it.1 genmove)
  by_plan u up rs o ws ahead owes at genmove (inr (inl is)) =
      let F : List SentCommand → Type 0 = λ os. Owes (replayed g u.confirmed) os rs (o ∷ ws) ahead in
      let it = alone_waits (replayed g u.confirmed) is.entry rs o ws ahead (subst F is.alone owes) in
      let own : Genmove colour ≡ Genmove side =
      sym genmove ∙ ap (λ (x : SentCommand). x.command) it.0 ∙ is.genmove in
      let P : Option EngineRun → Type 0 = λ x. IsPlayable (rule_of rules side) c.game side x in
      let playable : IsPlayable (rule_of rules side) c.game side (Some u) = subst P up j.mine.playable in
      let whole : IsGame g = playable.last (inr (all_test u.confirmed (length (script c.game)) is.all)) in
      (cc own, is.turn, at ∙ it.1 ∙ replayed_all g u.confirmed whole is.all)
    where
      all_test : (n m : ℕ) → n ≡ m → (n == m) ≡ true
      all_test n m e = grind (arith, nat_tests)
  by_plan u up rs o ws ahead owes at genmove (inr (inr (pending, is))) =
      let F : List SentCommand → Type 0 = λ os. Owes (replayed g u.confirmed) os rs (o ∷ ws) ahead in
      let it = alone_waits (replayed g u.confirmed) is.entry rs o ws ahead (subst F is.alone owes) in
      let wrong : Genmove colour ≡ Undo = sym genmove ∙ ap (λ (x : SentCommand). x.command) it.0 ∙ is.undo in
      absurd (cc wrong)

  by_waiting : (u : EngineRun) → (side_of c.sides side).up ≡ Some u → (h : IsJoinedInPlay g u l)
      → (waiting : List SentCommand) → h.waiting ≡ waiting → InTurn
  by_waiting u up h waiting is = go waiting is
    where
      reading : WillRead b l.to_engine h.ahead h.waiting
      reading = subst (λ (x : Option EngineBody). WillReadWhereRunning x l.to_engine h.ahead h.waiting) runs h.runs

      all : line ∷ ls ≡ map sent_line h.waiting ++ lines []
      all =
          sym comes ∙ reading.rest_reads l.to_engine
          ∙ ap lines (reading.arriving ∙ sym (append-nil (all_sent_bytes h.waiting))) ∙ orders_lines h.waiting [] h.fit

      go : (ws : List SentCommand) → h.waiting ≡ ws → InTurn
      go [] e =
          absurd (let bad : line ∷ ls ≡ [] =
          all ∙ ap (λ (w : List SentCommand). map sent_line w ++ lines []) e ∙ lines-nothing in cc bad)
      go (o ∷ ws) e =
          let both : line ∷ ls ≡ sent_line o ∷ (map sent_line ws ++ lines []) =
          all ∙ ap (λ (w : List SentCommand). map sent_line w ++ lines []) e in
          let line_is : line ≡ sent_line o = cc both in
          let may : AllMayBeSent h.ahead (o ∷ ws) = subst (AllMayBeSent h.ahead) e h.may in
          let asks_there : asked h.ahead (sent_line o) ≡ Some colour =
          ap (λ (game : GameRecord). asked game (sent_line o)) (sym reading.game) ∙ ap (asked b.game) (sym line_is)
          ∙ asks in
          let F : List SentCommand → Type 0 = λ w. Owes (replayed g u.confirmed) u.unanswered h.replies w h.ahead in
          by_plan u up h.replies o ws h.ahead (subst F e h.owes) reading.game
          (asks_genmove h.ahead (Some o.id) o.command colour may.0 asks_there)
          ((my_engine c side u j.sound up).under_way none).plan

  pub asked_in_turn : InTurn
  asked_in_turn = by_up (side_of c.sides side).up refl j.mine.joined
    where
      by_up : (up : Option EngineRun) → (side_of c.sides side).up ≡ up → IsJoinedSide g c.verdict up l → InTurn
      by_up None e h =
          absurd (let bad : None ≡ Some b =
          sym (ap (λ (x : BareLane). x.engine) (subst (λ v. IsJoinedSide g v None l) none h)) ∙ runs in cc bad)
      by_up (Some u) e h =
          let live : IsJoinedInPlay g u l = subst (λ v. IsJoinedSide g v (Some u) l) none h in
          by_waiting u e live live.waiting refl
