-- What a match reports of the bytes that it hears.
use Rattle.std.proofs.Common.{◌≡◌, ◌≤◌, ◌<◌, ℕ, List, [], ◌++◌, length, drop, Option, Some, None, true, false, inl, inr}
use Rattle.std.proofs.Common.{refl, sym, subst, arith, is_some}
use Rattle.std.specs.Option.{option_to_list}
use Rattle.std.specs.Prelude.{IfSome, option_map}
use Rattle.go_base.specs.Handicap.{AllowsHandicap}
use Rattle.go_base.specs.Int.{most_int}
use Rattle.go_base.specs.declared.colours.Colour.{Colour}
use Rattle.go_board.specs.Game.{GameRecord}
use Rattle.gtp_wire.specs.Commands.{IsWritable}
use Rattle.gtp_wire.specs.declared.commands.Command.{Command}
use Rattle.gtp_wire.specs.declared.commands.Command.TheVariants.{Boardsize, Komi, ClearBoard, FixedHandicap, Play}
use Rattle.gtp_wire.specs.declared.commands.Command.TheVariants.{Genmove, Undo, Quit}
use Rattle.gtp_match.specs.declared.controller.Controller.{Controller}
use Rattle.gtp_match.specs.declared.losses.Loss.{Loss}
use Rattle.gtp_match.specs.declared.losses.LossCause.{LossCause}
use Rattle.gtp_match.specs.declared.reports.Retake.{Retake}
use Rattle.gtp_match.specs.declared.sides.EngineRun.{EngineRun}
use Rattle.gtp_match.specs.declared.unanswered.SentCommand.{SentCommand}
use Rattle.gtp_match.specs.declared.verdicts.SideFault.{SideFault}
use Rattle.gtp_match.specs.declared.verdicts.Verdict.{Verdict}
use Rattle.gtp_match.specs.private.Conditions.{MayBeAnswered, MayReply}
use Rattle.gtp_match.specs.Losing.{loss_of, owed, owed_where, CanBeShown, first_of}
use Rattle.gtp_match.specs.Reporting.{HearsOnce, HearsChunk}
use Rattle.gtp_match.specs.Sides.{side_of}
use Rattle.gtp_match.specs.Sound.{IsSound}
use Rattle.gtp_match.specs.Unanswered.{oldest}
use Rattle.gtp_match.proofs.soundness.Heard.{may_hear}

-- ---- the oldest command can be shown

few_stones : (size stones : ℕ) → AllowsHandicap size stones → stones ≤ most_int
few_stones size stones h = elim h [
  | inl odd ↦ omega (arith, odd)
  | inr (inl seven) ↦ omega (arith, seven)
  | inr (inr even) ↦ omega (arith, even)
]

-- a command that may be answered can be written
writable_of : (game : GameRecord) (command : Command) → MayBeAnswered game command → IsWritable command
writable_of game (FixedHandicap stones) h = few_stones game.size stones h
writable_of game (Boardsize size) h = tt
writable_of game (Komi komi) h = tt
writable_of game ClearBoard h = tt
writable_of game (Play move) h = tt
writable_of game (Genmove colour) h = tt
writable_of game Undo h = tt
writable_of game Quit h = tt

-- so the oldest command of an engine that may reply
shows_oldest : (game : GameRecord) (entry : Option SentCommand)
    → IfSome entry (λ e. MayBeAnswered game e.command) → IfSome entry (λ e. IsWritable e.command)
shows_oldest game None h = tt
shows_oldest game (Some e) h = writable_of game e.command h

pub my_oldest : (c : Controller) (side : Colour) (engine : EngineRun) → IsSound c → c.verdict ≡ None
    → (side_of c.sides side).up ≡ Some engine → IfSome (oldest engine.unanswered) (λ e. IsWritable e.command)
my_oldest c side engine sound none up =
    let may : IfSome (side_of c.sides side).up (MayReply c.game) = (may_hear c side sound none).engine in
    let mine : MayReply c.game engine = subst (λ (u : Option EngineRun). IfSome u (MayReply c.game)) up may in
    shows_oldest c.game (oldest engine.unanswered) mine.answered

-- what a side owes can be shown
pub owed_shown : (c : Controller) (side : Colour) → IsSound c → IfSome (owed c side) CanBeShown
owed_shown c side sound = by_both c.verdict (side_of c.sides side).up refl refl
  where
    by_both : (v : Option Verdict) (u : Option EngineRun) → c.verdict ≡ v → (side_of c.sides side).up ≡ u
        → IfSome (owed_where v u) CanBeShown
    by_both None None none up = tt
    by_both None (Some engine) none up = my_oldest c side engine sound none up
    by_both (Some verdict) u over up = tt

names_oldest-of : (engine : EngineRun) (text : List ℕ) (o : Option LossCause)
    → IfSome (option_map (loss_of engine text) o) (λ l. l.owed.oldest ≡ oldest engine.unanswered)
names_oldest-of engine text None = tt
names_oldest-of engine text (Some x) = refl

shows_named : (loss : Option Loss) (entry : Option SentCommand) → IfSome entry (λ e. IsWritable e.command)
    → IfSome loss (λ l. l.owed.oldest ≡ entry) → IfSome loss (λ l. CanBeShown l.owed)
shows_named None entry can named = tt
shows_named (Some loss) entry can named = rw named can

-- what is reported of a loss can be shown
pub loss_shown : (c new : Controller) (side : Colour) (bytes : List ℕ) (used : ℕ) (fault : Option SideFault)
    (retake : Option Retake) (loss : Option Loss) → IsSound c → HearsOnce c side bytes used fault retake loss new
    → IfSome loss (λ l. CanBeShown l.owed)
loss_shown c new side bytes used fault retake loss sound (HearsOnce.replied engine reply cause none up first has) =
    shows_named _ (oldest engine.unanswered) (my_oldest c side engine sound none up) (names_oldest-of engine _ cause)
loss_shown c new side bytes used fault retake loss sound (HearsOnce.faulted engine shown none up first) =
    my_oldest c side engine sound none up
loss_shown c new side bytes used fault retake loss sound (HearsOnce.nothing_yet engine none up nothing) = tt
loss_shown c new side bytes used fault retake loss sound (HearsOnce.while_down none down) = tt
loss_shown c new side bytes used fault retake loss sound (HearsOnce.after_verdict verdict over) = tt

-- ---- all bytes

pub chunk_faulty : (side : Colour) (c new : Controller) (bytes : List ℕ) (used : ℕ) (fault : Option SideFault)
    (retake : Option Retake) (loss : Option Loss) → is_some fault ≡ true → 0 < length bytes
    → HearsOnce c side bytes used fault retake loss new
    → HearsChunk side c bytes fault (option_to_list retake) loss new
chunk_faulty side c new bytes used None retake loss e some h = absurd (cc)
chunk_faulty side c new bytes used (Some shown) retake loss e some h = HearsChunk.faulty used retake some h

pub chunk_more : (side : Colour) (c mid new : Controller) (bytes left : List ℕ) (used : ℕ)
    (fault shown : Option SideFault) (retake : Option Retake) (loss : Option Loss) (retakes : List Retake)
    (later : Option Loss) → is_some fault ≡ false → 0 < length bytes
    → HearsOnce c side bytes used fault retake loss mid → left ≡ drop used bytes
    → HearsChunk side mid left shown retakes later new
    → HearsChunk side c bytes shown (option_to_list retake ++ retakes) (first_of loss later) new
chunk_more side c mid new bytes left used (Some f) shown retake loss retakes later e some h is more = absurd (cc)
chunk_more side c mid new bytes left used None shown retake loss retakes later e some h is more =
    HearsChunk.goes_on used retake loss some h
    (subst (λ (t : List ℕ). HearsChunk side mid t shown retakes later new) is more)

-- the same retakes by other names
pub chunk_is : {side : Colour} {c new : Controller} {bytes : List ℕ} {fault : Option SideFault}
    {retakes same : List Retake} {loss : Option Loss} → retakes ≡ same
    → HearsChunk side c bytes fault retakes loss new → HearsChunk side c bytes fault same loss new
chunk_is {side} {c} {new} {bytes} {fault} {retakes} {same} {loss} is h =
    subst (λ (rs : List Retake). HearsChunk side c bytes fault rs loss new) is h

pub chunk_end : (side : Colour) (c : Controller) (left : List ℕ) → left ≡ []
    → HearsChunk side c left None [] None c
chunk_end side c left none =
    subst (λ (t : List ℕ). HearsChunk side c t None [] None c) (sym none) HearsChunk.used_up

-- the first of three
pub first_of_all : (a b d : Option Loss) → first_of (first_of a b) d ≡ first_of a (first_of b d)
first_of_all None b d = refl
first_of_all (Some x) b d = refl

pub first_of_none : (a : Option Loss) → first_of a None ≡ a
first_of_none None = refl
first_of_none (Some x) = refl

pub shows_first : (a b : Option Loss) → IfSome a (λ l. CanBeShown l.owed) → IfSome b (λ l. CanBeShown l.owed)
    → IfSome (first_of a b) (λ l. CanBeShown l.owed)
shows_first None b p q = q
shows_first (Some x) b p q = p
