-- What a reply's outcome says of the command that it answers.
use Rattle.std.proofs.Common.{◌≡◌, ℕ, List, [], ◌∷◌, Option, Some, None, Bool, true, false, refl, sym, ◌∙◌, ap, subst}
use Rattle.std.proofs.Common.{cond, inl, inr, map}
use Rattle.std.specs.Prelude.{◌⊎◌, slice_get, nat_le}
use Rattle.std.specs.List.{AllByRecursion}
use Rattle.go_base.specs.declared.colours.Colour.{Colour}
use Rattle.go_base.specs.declared.moves.Move.{Move}
use Rattle.go_base.specs.Decide.{holds}
use Rattle.go_board.specs.Game.{GameRecord, IsLegal}
use Rattle.go_board.specs.decisions.Game.{legal?}
use Rattle.gtp_wire.specs.declared.commands.Command.{Command}
use Rattle.gtp_wire.specs.declared.commands.Command.TheVariants as command
use Rattle.gtp_wire.specs.declared.replies.Reply.{Reply}
use Rattle.go_base.proofs.general.Lists.{AllByRecursion-append}
use Rattle.gtp_match.specs.declared.sides.EngineRun.{EngineRun}
use Rattle.gtp_match.specs.declared.reply_table.Outcome.{Outcome}
use Rattle.gtp_match.specs.declared.reply_table.Outcome.TheVariants.{Down, Unfit, Forfeits, Confirms, Resigns, Moves}
use Rattle.gtp_match.specs.declared.reply_table.Outcome.TheVariants.{Refuses, TakesBack, Keeps}
use Rattle.gtp_match.specs.declared.unanswered.SentCommand.{SentCommand}
use Rattle.gtp_match.specs.declared.verdicts.ForfeitCause.TheVariants.{RefusedPlay, NoMove, NoVertex, IllegalMove}
use Rattle.gtp_match.specs.declared.verdicts.SideFault.{SideFault}
use Rattle.gtp_match.specs.declared.verdicts.SideFault.TheVariants.{WrongId, Unasked}
use Rattle.go_base.specs.declared.choices.Choice.{Choice}
use Rattle.go_base.specs.declared.choices.Choice.TheVariants as choice
use Rattle.gtp_match.specs.ReplyTable.{outcome, outcome_of, script_outcome, play_outcome, undo_outcome}
use Rattle.gtp_match.specs.ReplyTable.{choice_outcome, has_id}
use Rattle.gtp_wire.specs.ReplyWords.{choice_of_text}
use Rattle.gtp_match.specs.Script.{script, handicap_commands}
use Rattle.gtp_match.specs.Sound.{InScript, IsAsked, AreUndo, HasPlan, IsSetupCommand, IsPlay, IsUndo}
use Rattle.gtp_match.specs.Unanswered.{oldest}
use Rattle.gtp_match.proofs.scripts.Scripts.{NoGenmove, at_number}

-- `undo` is unanswered at the side whose last move is to be taken back
abbrev pub IsAskedUndo : Option Colour → Colour → EngineRun → Type 0
IsAskedUndo pending s engine = (pending ≡ Some s) × AreUndo engine.unanswered

-- the commands whose replies have this outcome, of a side's engine
abbrev pub Fits : GameRecord → Option Colour → Colour → EngineRun → Command → Outcome → Type 0
Fits game pending s engine k (Down fault) = Unit {0}
Fits game pending s engine k Unfit = IsSetupCommand k
Fits game pending s engine k (Forfeits RefusedPlay) = ⊥
Fits game pending s engine k (Forfeits NoMove) = IsAsked game s engine.confirmed engine.unanswered
Fits game pending s engine k (Forfeits NoVertex) = IsAsked game s engine.confirmed engine.unanswered
Fits game pending s engine k (Forfeits IllegalMove) = IsAsked game s engine.confirmed engine.unanswered
Fits game pending s engine k Confirms = NoGenmove k × ¬ IsUndo k
Fits game pending s engine k Resigns = IsAsked game s engine.confirmed engine.unanswered
Fits game pending s engine k (Moves v) = IsAsked game s engine.confirmed engine.unanswered
Fits game pending s engine k Refuses = IsPlay k
Fits game pending s engine k TakesBack = IsAskedUndo pending s engine
Fits game pending s engine k Keeps = IsAskedUndo pending s engine

-- ---- a command of the plan

data Planned (game : GameRecord) (pending : Option Colour) (s : Colour) (engine : EngineRun) (k : Command)
    : Type 0 where
  setup : IsSetupCommand k → Planned game pending s engine k
  play : IsPlay k → Planned game pending s engine k
  genmove : IsAsked game s engine.confirmed engine.unanswered → k ≡ command.Genmove s → Planned game pending s engine k
  undo : IsAskedUndo pending s engine → k ≡ command.Undo → Planned game pending s engine k

-- a command of the script
abbrev OfScript : Command → Type 0
OfScript k = IsSetupCommand k ⊎ IsPlay k

plays_of : (moves : List Move) → AllByRecursion OfScript (map command.Play moves)
plays_of [] = tt
plays_of (m ∷ moves) = (inr (m, refl), plays_of moves)

handicap_of : (stones : ℕ) → AllByRecursion OfScript (handicap_commands stones)
handicap_of stones = by_test (nat_le 2 stones)
  where
    by_test : (b : Bool) → AllByRecursion OfScript (cond b (command.FixedHandicap stones ∷ []) [])
    by_test true = (inl tt, tt)
    by_test false = tt

of_script : (game : GameRecord) (n : ℕ) (k : Command) → slice_get (script game) n ≡ Some k → OfScript k
of_script game n k e =
    let later = AllByRecursion-append OfScript (handicap_commands game.handicap) (map command.Play game.moves)
    (handicap_of game.handicap) (plays_of game.moves)
    in
    at_number OfScript (script game) n k (inl tt, (inl tt, (inl tt, later))) e

-- the first of a list is the one alone
pub first_is : (all : List SentCommand) (a : SentCommand) (more : List SentCommand) (b : SentCommand)
    → all ≡ a ∷ more → all ≡ b ∷ [] → a ≡ b
first_is all a more b e h = let both : a ∷ more ≡ b ∷ [] = sym e ∙ h in cc

planned : (game : GameRecord) (pending : Option Colour) (s : Colour) (engine : EngineRun) (entry : SentCommand)
    (more : List SentCommand)
    → engine.unanswered ≡ entry ∷ more → HasPlan game pending s engine.confirmed engine.unanswered
    → Planned game pending s engine entry.command
planned game pending s engine entry more e (inl plan) =
    let head : InScript (script game) engine.confirmed (entry ∷ more) =
    subst (InScript (script game) engine.confirmed) e plan in
    by_kind (of_script game engine.confirmed entry.command head.0)
  where
    by_kind : OfScript entry.command → Planned game pending s engine entry.command
    by_kind (inl is) = Planned.setup is
    by_kind (inr is) = Planned.play is
planned game pending s engine entry more e (inr (inl asked)) =
    let same : entry ≡ asked.entry = first_is engine.unanswered entry more asked.entry e asked.alone in
    Planned.genmove asked (ap (λ (x : SentCommand). x.command) same ∙ asked.genmove)
planned game pending s engine entry more e (inr (inr is_given)) =
    let same : entry ≡ is_given.1.entry = first_is engine.unanswered entry more is_given.1.entry e is_given.1.alone in
    Planned.undo is_given (ap (λ (x : SentCommand). x.command) same ∙ is_given.1.undo)

-- ---- what its outcomes are

no_genmove_in_setup : (k : Command) → IsSetupCommand k → NoGenmove k
no_genmove_in_setup (command.Boardsize size) is t e = cc
no_genmove_in_setup (command.Komi komi) is t e = cc
no_genmove_in_setup command.ClearBoard is t e = cc
no_genmove_in_setup (command.FixedHandicap stones) is t e = cc
no_genmove_in_setup (command.Play move) is t e = cc
no_genmove_in_setup (command.Genmove colour) is t e = absurd is
no_genmove_in_setup command.Undo is t e = cc
no_genmove_in_setup command.Quit is t e = cc

no_undo_in_setup : (k : Command) → IsSetupCommand k → ¬ IsUndo k
no_undo_in_setup k is same = subst IsSetupCommand same is

module _ (game : GameRecord) (pending : Option Colour) (s : Colour) (engine : EngineRun) where
  script_fits : (k : Command) → IsSetupCommand k → (ok : Bool) → Fits game pending s engine k (script_outcome ok)
  script_fits k is true = (no_genmove_in_setup k is, no_undo_in_setup k is)
  script_fits k is false = is

  play_fits : (move : Move) (ok : Bool) → Fits game pending s engine (command.Play move) (play_outcome ok)
  play_fits move true = ((λ t e. cc), λ e. cc)
  play_fits move false = (move, refl)

  undo_fits : IsAskedUndo pending s engine → (k : Command) (ok : Bool) → Fits game pending s engine k (undo_outcome ok)
  undo_fits is_given k true = is_given
  undo_fits is_given k false = is_given

  choice_fits : IsAsked game s engine.confirmed engine.unanswered → (k : Command) (x : Option Choice)
      → Fits game pending s engine k (choice_outcome game s x)
  choice_fits asked k None = asked
  choice_fits asked k (Some choice.Resign) = asked
  choice_fits asked k (Some (choice.Play v)) = by_legal (legal? game s v)
    where
      by_legal : (d : Dec (IsLegal game s v))
          → Fits game pending s engine k (cond (holds d) (Moves v) (Forfeits IllegalMove))
      by_legal (yes legal) = asked
      by_legal (no illegal) = asked

  genmove_fits : IsAsked game s engine.confirmed engine.unanswered → (k : Command) (x : Option Choice) (ok : Bool)
      → Fits game pending s engine k (cond ok (choice_outcome game s x) (Forfeits NoMove))
  genmove_fits asked k x true = choice_fits asked k x
  genmove_fits asked k x false = asked

  setup_fits : (k : Command) (reply : Reply) → IsSetupCommand k
      → Fits game pending s engine k (outcome_of game s k reply)
  setup_fits (command.Boardsize size) reply is = script_fits (command.Boardsize size) is reply.ok
  setup_fits (command.Komi komi) reply is = script_fits (command.Komi komi) is reply.ok
  setup_fits command.ClearBoard reply is = script_fits command.ClearBoard is reply.ok
  setup_fits (command.FixedHandicap stones) reply is = script_fits (command.FixedHandicap stones) is _
  setup_fits (command.Play move) reply is = absurd is
  setup_fits (command.Genmove colour) reply is = absurd is
  setup_fits command.Undo reply is = absurd is
  setup_fits command.Quit reply is = absurd is

  answer_fits : (k : Command) (reply : Reply) → Planned game pending s engine k
      → Fits game pending s engine k (outcome_of game s k reply)
  answer_fits k reply (Planned.setup is) = setup_fits k reply is
  answer_fits k reply (Planned.play is) =
      subst (λ (x : Command). Fits game pending s engine x (outcome_of game s x reply)) (sym is.1)
      (play_fits is.0 reply.ok)
  answer_fits k reply (Planned.genmove asked is) =
      subst (λ (x : Command). Fits game pending s engine x (outcome_of game s x reply)) (sym is)
      (genmove_fits asked (command.Genmove s) (choice_of_text reply.text.items) reply.ok)
  answer_fits k reply (Planned.undo is_given is) =
      subst (λ (x : Command). Fits game pending s engine x (outcome_of game s x reply)) (sym is)
      (undo_fits is_given command.Undo reply.ok)

-- ---- the oldest command that is unanswered, and those after it

pub record Answered (game : GameRecord) (pending : Option Colour) (s : Colour) (engine : EngineRun) (o : Outcome)
    : Type 0 where
  pub entry : SentCommand
  pub more : List SentCommand
  pub entries_are : engine.unanswered ≡ entry ∷ more
  pub fits : Fits game pending s engine entry.command o

-- what isn't a fault answers a command of the plan
pub answered_by : (game : GameRecord) (pending : Option Colour) (s : Colour) (engine : EngineRun) (reply : Reply)
    (o : Outcome)
    → ((f : SideFault) → Down f ≡ o → ⊥)
    → HasPlan game pending s engine.confirmed engine.unanswered
    → outcome game s (oldest engine.unanswered) reply ≡ o → Answered game pending s engine o
answered_by game pending s engine reply o not_down plan e = by_list engine.unanswered refl e
  where
    by_list : (es : List SentCommand) → engine.unanswered ≡ es → outcome game s (oldest es) reply ≡ o
        → Answered game pending s engine o
    by_list [] is e = absurd (not_down Unasked e)
    by_list (entry ∷ more) is e = by_id (has_id reply.id entry.id) refl
      where
        by_id : (same : Bool) → has_id reply.id entry.id ≡ same → Answered game pending s engine o
        by_id true same =
            let out : outcome_of game s entry.command reply ≡ o = rw same at e in
            record {
              entry = entry;
              more = more;
              entries_are = is;
              fits = subst (Fits game pending s engine entry.command) out
                  (answer_fits game pending s engine entry.command reply
                  (planned game pending s engine entry more is plan));
            }
        by_id false same = absurd (not_down WrongId (rw same at e))
