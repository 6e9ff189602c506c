-- Bytes that a side's reader read are heard.
use Rattle.std.proofs.Common.{◌≡◌, ℕ, ◌+◌, ◌<◌, List, ◌++◌, length, take, Option, Some, None, Result, Ok, Err, Bool}
use Rattle.std.proofs.Common.{true, false, refl, sym, ◌∙◌, ap, subst, arith, cond}
use Rattle.std.specs.Prelude.{IfSome, IfNone, IsSome}
use Rattle.std.proofs.lemmas.List.{take_all}
use Rattle.go_base.specs.Int.{most_int}
use Rattle.go_base.specs.declared.colours.Colour.{Colour}
use Rattle.go_base.specs.declared.colours.Colour.TheVariants.{Black, White}
use Rattle.go_base.specs.declared.vertices.Vertex.{Vertex}
use Rattle.go_base.specs.Decide.{holds}
use Rattle.go_board.specs.Game.{GameRecord, HasRoom, IsLegal}
use Rattle.go_board.specs.decisions.Game.{legal?}
use Rattle.gtp_wire.specs.Replies.{rest_after, IsFirst, GivesNoAnswer}
use Rattle.gtp_wire.specs.declared.commands.Command.{Command}
use Rattle.gtp_wire.specs.declared.commands.Command.TheVariants as command
use Rattle.gtp_wire.specs.declared.replies.Reply.{Reply}
use Rattle.gtp_wire.specs.declared.replies.ReplyFault.{ReplyFault}
use Rattle.gtp_wire.specs.declared.reply_reader.ReplyFed.{ReplyFed}
use Rattle.gtp_match.specs.declared.unanswered.SentCommand.{SentCommand}
use Rattle.gtp_match.specs.declared.sides.EngineRun.{EngineRun}
use Rattle.gtp_match.specs.declared.sides.SideState.{SideState}
use Rattle.gtp_match.specs.declared.sides.Sides.{Sides}
use Rattle.gtp_match.specs.declared.reply_table.Outcome.{Outcome}
use Rattle.gtp_match.specs.declared.reply_table.Outcome.TheVariants.{Down, Unfit, Forfeits, Confirms, Resigns, Moves}
use Rattle.gtp_match.specs.declared.reply_table.Outcome.TheVariants.{Refuses, TakesBack, Keeps}
use Rattle.gtp_match.specs.declared.verdicts.SideFault.{SideFault}
use Rattle.gtp_match.specs.declared.verdicts.SideFault.TheVariants.{WrongId}
use Rattle.gtp_match.specs.declared.verdicts.ForfeitCause.TheVariants.{NoMove, IllegalMove}
use Rattle.gtp_match.specs.declared.verdicts.Verdict.{Verdict}
use Rattle.gtp_match.specs.declared.controller.Controller.{Controller}
use Rattle.go_base.specs.declared.choices.Choice.{Choice}
use Rattle.go_base.specs.declared.choices.Choice.TheVariants as choice
use Rattle.gtp_match.specs.Controller.{with_side_up, downed}
use Rattle.gtp_match.specs.Unanswered.{oldest}
use Rattle.gtp_match.specs.Sides.{side_of, with_side, with_engine, with_engine_of, heard_reply}
use Rattle.gtp_match.specs.ReplyTable.{outcome, outcome_of, script_outcome, play_outcome, undo_outcome}
use Rattle.gtp_match.specs.ReplyTable.{genmove_outcome}
use Rattle.gtp_match.specs.ReplyTable.{choice_outcome, has_id, after_outcome}
use Rattle.gtp_wire.specs.ReplyWords.{choice_of_text}
use Rattle.gtp_match.specs.Hearing.{KeepsAll, HearsUp, HearsWhere, HearsExactly}
use Rattle.gtp_match.specs.private.Conditions.{MayReply, MayHear, MayBe, MayApply}
use Rattle.gtp_match.specs.private.Feeding.{HasRead, fed_engine}

-- a side that is up with this engine read bytes, and has another engine after it
pub record HasFed (c : Controller) (side : Colour) (engine : EngineRun) (bytes : List ℕ) (fed : ReplyFed)
    (new : Sides) : Type 0 where
  pub up : (side_of c.sides side).up ≡ Some engine
  pub read : HasRead engine.reader bytes fed
  pub new_is : new ≡ with_side side (with_engine (fed_engine engine bytes fed) (side_of c.sides side)) c.sides

-- so it is where the engine of a side that was borrowed read them
has_fed : (c : Controller) (side : Colour) (bytes : List ℕ) (fed : ReplyFed) (borrowed : SideState)
    (old new : EngineRun)
    → borrowed ≡ side_of c.sides side → borrowed.up ≡ Some old → HasRead old.reader bytes fed
    → new ≡ fed_engine old bytes fed → HasFed c side old bytes fed (with_side side (with_engine new borrowed) c.sides)
has_fed c side bytes fed borrowed old new borrowed_is up read new_is =
    record {
      up = ap (λ (s : SideState). s.up) (sym borrowed_is) ∙ up;
      read = read;
      new_is = ap (λ (e : EngineRun). with_side side (with_engine e borrowed) c.sides) new_is
          ∙ ap (λ (s : SideState). with_side side (with_engine (fed_engine old bytes fed) s) c.sides) borrowed_is;
    }

pub hears_up : (c : Controller) (side : Colour) (engine : EngineRun) (bytes : List ℕ) (used : ℕ)
    (fault : Option SideFault) (new : Controller)
    → c.verdict ≡ None → (side_of c.sides side).up ≡ Some engine → HearsUp KeepsAll c side engine bytes used fault new
    → HearsExactly c side bytes used fault new
hears_up c side engine bytes used fault new none up h =
    let P : Option EngineRun → Type 0 = λ u. HearsWhere KeepsAll c side bytes None u used fault new in
    let Q : Option Verdict → Type 0 = λ v. HearsWhere KeepsAll c side bytes v
    (side_of c.sides side).up used fault new in
    subst Q (sym none) (subst P (sym up) h)

-- ---- a controller whose side's engine was changed before

pub up_twice : (c : Controller) (side : Colour) (a b : EngineRun)
    → with_side_up (with_side_up c side a) side b ≡ with_side_up c side b
up_twice c Black a b = refl
up_twice c White a b = refl

pub down_after_up : (c : Controller) (side : Colour) (a : EngineRun)
    → downed (with_side_up c side a) side ≡ downed c side
down_after_up c Black a = refl
down_after_up c White a = refl

pub outcome_after_up : (c : Controller) (side : Colour) (a b : EngineRun) (o : Outcome)
    → after_outcome (with_side_up c side a) side b o ≡ after_outcome c side b o
outcome_after_up c side a b (Down fault) = down_after_up c side a
outcome_after_up c Black a b Unfit = refl
outcome_after_up c White a b Unfit = refl
outcome_after_up c Black a b (Forfeits cause) = refl
outcome_after_up c White a b (Forfeits cause) = refl
outcome_after_up c Black a b Confirms = refl
outcome_after_up c White a b Confirms = refl
outcome_after_up c Black a b Resigns = refl
outcome_after_up c White a b Resigns = refl
outcome_after_up c Black a b (Moves v) = refl
outcome_after_up c White a b (Moves v) = refl
outcome_after_up c Black a b Refuses = refl
outcome_after_up c White a b Refuses = refl
outcome_after_up c Black a b TakesBack = refl
outcome_after_up c White a b TakesBack = refl
outcome_after_up c Black a b Keeps = refl
outcome_after_up c White a b Keeps = refl

pub up_of : (sides : Sides) (side : Colour) (a : EngineRun) → (side_of (with_engine_of side a sides) side).up ≡ Some a
up_of sides Black a = refl
up_of sides White a = refl

abbrev pub with_sides : Controller → Sides → Controller
with_sides c sides = record c { sides = sides }

-- the controller after the bytes were read
fed_is : (c : Controller) (side : Colour) (e : EngineRun) (bytes : List ℕ) (fed : ReplyFed) (new : Sides)
    → HasFed c side e bytes fed new → with_sides c new ≡ with_side_up c side (fed_engine e bytes fed)
fed_is c side e bytes fed new f = ap (with_sides c) f.new_is

fed_engine_by : (engine : EngineRun) (bytes : List ℕ) (fed : ReplyFed)
    (got : Option (Result Reply ReplyFault)) → fed.got ≡ got
    → fed_engine engine bytes fed ≡ record engine { reader = rest_after got (engine.reader ++ take fed.used bytes) }
fed_engine_by engine bytes fed got e =
    ap (λ g. let h : EngineRun = record engine { reader = rest_after g (engine.reader ++ take fed.used bytes) } in h)
    e

-- ---- what the reader returned

-- Before any verdict such a side's reader got this of the bytes: a reply, a fault, or nothing yet.
pub record HasGot (c : Controller) (side : Colour) (engine : EngineRun) (bytes : List ℕ) (fed : ReplyFed)
    (new : Sides) (got : Option (Result Reply ReplyFault)) : Type 0 where
  pub none : c.verdict ≡ None
  pub has_fed : HasFed c side engine bytes fed new
  pub is : fed.got ≡ got

-- so it is where the engine of a side that was borrowed read the bytes
pub has_got : (c : Controller) (side : Colour) (bytes : List ℕ) (fed : ReplyFed) (borrowed : SideState)
    (old new : EngineRun) (got : Option (Result Reply ReplyFault)) → c.verdict ≡ None
    → borrowed ≡ side_of c.sides side → borrowed.up ≡ Some old → HasRead old.reader bytes fed
    → new ≡ fed_engine old bytes fed → fed.got ≡ got
    → HasGot c side old bytes fed (with_side side (with_engine new borrowed) c.sides) got
has_got c side bytes fed borrowed old new got none borrowed_is up read new_is is =
    record { none = none; has_fed = has_fed c side bytes fed borrowed old new borrowed_is up read new_is; is = is }

pub first_got : (c : Controller) (side : Colour) (e : EngineRun) (bytes : List ℕ) (fed : ReplyFed) (new : Sides)
    (answer : Result Reply ReplyFault) → HasGot c side e bytes fed new (Some answer)
    → IsFirst (e.reader ++ bytes) (length e.reader + fed.used) answer
first_got c side e bytes fed new answer g =
    subst (λ (got : Option (Result Reply ReplyFault)).
    IfSome got (λ x. IsFirst (e.reader ++ bytes) (length e.reader + fed.used) x)) g.is g.has_fed.read.first

pub nothing_got : (c : Controller) (side : Colour) (e : EngineRun) (bytes : List ℕ) (fed : ReplyFed) (new : Sides)
    → HasGot c side e bytes fed new None → GivesNoAnswer (e.reader ++ bytes)
nothing_got c side e bytes fed new g =
    subst (λ (got : Option (Result Reply ReplyFault)). IfNone got (GivesNoAnswer (e.reader ++ bytes))) g.is
    g.has_fed.read.nothing

-- ---- nothing was returned

-- all bytes were used, and are kept
pub quiet_is : (c : Controller) (side : Colour) (e : EngineRun) (bytes : List ℕ) (fed : ReplyFed) (new : Sides)
    → HasGot c side e bytes fed new None
    → (fed.used ≡ length bytes) × (with_sides c new ≡ with_side_up c side (record e { reader = e.reader ++ bytes }))
quiet_is c side e bytes fed new g =
    let f = g.has_fed in
    let used : fed.used ≡ length bytes =
    subst (λ (got : Option (Result Reply ReplyFault)). IfNone got (fed.used ≡ length bytes)) g.is f.read.all in
    let kept : e.reader ++ take fed.used bytes ≡ e.reader ++ bytes =
    ap (λ t. e.reader ++ t) (take_all fed.used bytes (omega (arith, used))) in (
      used,
      fed_is c side e bytes fed new f ∙ ap (with_side_up c side) (fed_engine_by e bytes fed None g.is)
          ∙ ap (λ t. let h : EngineRun = record e { reader = t } in with_side_up c side h) kept,
    )

-- ---- a fault was returned

pub faulted_is : (c : Controller) (side : Colour) (e : EngineRun) (bytes : List ℕ) (fed : ReplyFed) (new : Sides)
    (fault : ReplyFault) (c2 : Controller) → HasGot c side e bytes fed new (Some (Err fault))
    → c2 ≡ downed (with_sides c new) side → c2 ≡ downed c side
faulted_is c side e bytes fed new fault c2 g is =
    is ∙ ap (λ (x : Controller). downed x side) (fed_is c side e bytes fed new g.has_fed)
    ∙ down_after_up c side (fed_engine e bytes fed)

-- ---- a reply was returned

-- the engine that is up then holds nothing
pub up_replied : (c : Controller) (side : Colour) (e : EngineRun) (bytes : List ℕ) (fed : ReplyFed) (new : Sides)
    (reply : Reply) → HasGot c side e bytes fed new (Some (Ok reply)) → (side_of new side).up ≡ Some (heard_reply e)
up_replied c side e bytes fed new reply g =
    ap (λ (s : Sides). (side_of s side).up) g.has_fed.new_is ∙ up_of c.sides side (fed_engine e bytes fed)
    ∙ ap (λ x. Some x) (fed_engine_by e bytes fed (Some (Ok reply)) g.is)

pub replied_is : (c : Controller) (side : Colour) (e : EngineRun) (bytes : List ℕ) (fed : ReplyFed) (new : Sides)
    (reply : Reply) (o : Outcome) (c2 : Controller) → HasGot c side e bytes fed new (Some (Ok reply))
    → o ≡ outcome c.game side (oldest e.unanswered) reply
    → IfSome (side_of new side).up (λ engine. c2 ≡ after_outcome (with_sides c new) side engine o)
    → c2 ≡ after_outcome c side (heard_reply e) (outcome c.game side (oldest e.unanswered) reply)
replied_is c side e bytes fed new reply o c2 g o_is applied =
    let applied_is : c2 ≡ after_outcome (with_sides c new) side (heard_reply e) o =
    subst (λ (u : Option EngineRun). IfSome u (λ engine. c2 ≡ after_outcome (with_sides c new) side engine o))
    (up_replied c side e bytes fed new reply g) applied in
    applied_is
    ∙ ap (λ (x : Controller). after_outcome x side (heard_reply e) o)
    (fed_is c side e bytes fed new g.has_fed
    ∙ ap (with_side_up c side) (fed_engine_by e bytes fed (Some (Ok reply)) g.is))
    ∙ outcome_after_up c side (heard_reply e) (heard_reply e) o
    ∙ ap (after_outcome c side (heard_reply e)) o_is

-- ---- what the table asks for may be done

pub scripted_is : (ok : Bool) (v : Vertex) → script_outcome ok ≡ Moves v → ⊥
scripted_is true v e = cc
scripted_is false v e = cc

pub played_is : (ok : Bool) (v : Vertex) → play_outcome ok ≡ Moves v → ⊥
played_is true v e = cc
played_is false v e = cc

pub undone_is : (ok : Bool) (v : Vertex) → undo_outcome ok ≡ Moves v → ⊥
undone_is true v e = cc
undone_is false v e = cc

placed_is : (game : GameRecord) (side : Colour) (w v : Vertex) (d : Dec (IsLegal game side w))
    → cond (holds d) (Moves w) (Forfeits IllegalMove) ≡ Moves v → IsLegal game side v
placed_is game side w v (yes legal) e = let same : w ≡ v = cc in subst (IsLegal game side) same legal
placed_is game side w v (no k) e = absurd (cc)

chosen_is : (game : GameRecord) (side : Colour) (x : Option Choice) (v : Vertex)
    → choice_outcome game side x ≡ Moves v → IsLegal game side v
chosen_is game side None v e = absurd (cc)
chosen_is game side (Some choice.Resign) v e = absurd (cc)
chosen_is game side (Some (choice.Play w)) v e = placed_is game side w v (legal? game side w) e

asked_is : (game : GameRecord) (side : Colour) (reply : Reply) (v : Vertex)
    → genmove_outcome game side reply ≡ Moves v → IsLegal game side v
asked_is game side reply v e = by_ok reply.ok refl
  where
    by_ok : (ok : Bool) → reply.ok ≡ ok → IsLegal game side v
    by_ok true ok = chosen_is game side (choice_of_text reply.text.items) v (rw ok at e)
    by_ok false ok = let none : Forfeits NoMove ≡ Moves v = rw ok at e in absurd (cc)

answer_is : (game : GameRecord) (side : Colour) (k : Command) (reply : Reply) (v : Vertex)
    → outcome_of game side k reply ≡ Moves v
    → IsLegal game side v
answer_is game side (command.Boardsize size) reply v e = absurd (scripted_is reply.ok v e)
answer_is game side (command.Komi komi) reply v e = absurd (scripted_is reply.ok v e)
answer_is game side command.ClearBoard reply v e = absurd (scripted_is reply.ok v e)
answer_is game side (command.FixedHandicap stones) reply v e = absurd (scripted_is _ v e)
answer_is game side (command.Play move) reply v e = absurd (played_is reply.ok v e)
answer_is game side (command.Genmove colour) reply v e = asked_is game side reply v e
answer_is game side command.Undo reply v e = absurd (undone_is reply.ok v e)
answer_is game side command.Quit reply v e = absurd (scripted_is reply.ok v e)

-- a move that a reply makes is legal
pub move_is_legal : (game : GameRecord) (side : Colour) (o : Option SentCommand) (reply : Reply) (v : Vertex)
    → outcome game side o reply ≡ Moves v
    → IsLegal game side v
move_is_legal game side None reply v e = absurd (cc)
move_is_legal game side (Some entry) reply v e = by_id (has_id reply.id entry.id) refl
  where
    by_id : (same : Bool) → has_id reply.id entry.id ≡ same → IsLegal game side v
    by_id true same = answer_is game side entry.command reply v (rw same at e)
    by_id false same = let none : Down WrongId ≡ Moves v = rw same at e in absurd (cc)

may_be : (game : GameRecord) (side : Colour) (o : Outcome) → HasRoom game
    → ((v : Vertex) → o ≡ Moves v → IsLegal game side v) → MayBe game side o
may_be game side (Down fault) room legal = tt
may_be game side Unfit room legal = tt
may_be game side (Forfeits cause) room legal = tt
may_be game side Confirms room legal = tt
may_be game side Resigns room legal = tt
may_be game side (Moves v) room legal = (legal v refl, room)
may_be game side Refuses room legal = tt
may_be game side TakesBack room legal = tt
may_be game side Keeps room legal = tt

pub may_apply : (c : Controller) (side : Colour) (e : EngineRun) (bytes : List ℕ) (fed : ReplyFed) (new : Sides)
    (reply : Reply) (asked_of : Option SentCommand) (o : Outcome)
    → MayHear c side → HasFed c side e bytes fed new → o ≡ outcome c.game side asked_of reply
    → MayApply (with_sides c new) side o
may_apply c side e bytes fed new reply asked_of o may f is =
    let engine : MayReply c.game e =
    subst (λ (u : Option EngineRun). IfSome u (MayReply c.game)) f.up may.engine in
    let up : (side_of new side).up ≡ Some (fed_engine e bytes fed) =
    ap (λ (s : Sides). (side_of s side).up) f.new_is ∙ up_of c.sides side (fed_engine e bytes fed) in
    record {
      outcome = may_be c.game side o may.room (λ v e. move_is_legal c.game side asked_of reply v (sym is ∙ e));
      up = subst (λ (u : Option EngineRun). IsSome u) (sym up) refl;
      engine = subst (λ (u : Option EngineRun). IfSome u (λ x. x.confirmed < most_int)) (sym up) engine.confirmed;
    }
