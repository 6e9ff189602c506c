-- Of bytes that are heard, once or all, a loss is reported exactly where a side fails.
use Rattle.std.proofs.Common.{◌≡◌, ℕ, List, ◌++◌, drop, Option, Some, None}
use Rattle.std.proofs.Common.{refl, sym, ◌∙◌, ap, subst, inl, inr}
use Rattle.std.specs.Prelude.{◌↔◌, ◌⊎◌, IsSome, IfSome}
use Rattle.go_base.specs.Colour.{other}
use Rattle.go_base.specs.declared.colours.Colour.{Colour}
use Rattle.go_base.specs.declared.colours.Colour.TheVariants.{Black, White}
use Rattle.gtp_match.specs.Controller.{downed}
use Rattle.gtp_match.specs.Hearing.{side_fault}
use Rattle.gtp_match.specs.Losing.{first_of, loss_of, GoesDown, LosesSide, CauseFits, ReportsLoss}
use Rattle.gtp_match.specs.Reporting.{HearsOnce, HearsChunk, text_up_to}
use Rattle.gtp_match.specs.ReplyTable.{outcome, after_outcome, fault_of}
use Rattle.gtp_match.specs.Sides.{side_of, with_engine_of, heard_reply, answered, confirmed, taken_back}
use Rattle.gtp_match.specs.Taking.{may_retake}
use Rattle.gtp_match.specs.Unanswered.{oldest}
use Rattle.gtp_match.specs.declared.controller.Controller.{Controller}
use Rattle.gtp_match.specs.declared.losses.Loss.{Loss}
use Rattle.gtp_match.specs.declared.losses.LossCause.{LossCause}
use Rattle.gtp_match.specs.declared.losses.LossCause.TheVariants as why
use Rattle.gtp_match.specs.declared.reports.Retake.{Retake}
use Rattle.gtp_match.specs.declared.sides.EngineRun.{EngineRun}
use Rattle.gtp_match.specs.declared.sides.Sides.{Sides}
use Rattle.gtp_match.specs.declared.reply_table.Outcome.{Outcome}
use Rattle.gtp_match.specs.declared.reply_table.Outcome.TheVariants.{Down, Unfit, Forfeits, Confirms, Resigns, Moves}
use Rattle.gtp_match.specs.declared.reply_table.Outcome.TheVariants.{Refuses, TakesBack, Keeps}
use Rattle.gtp_match.specs.declared.verdicts.SideFault.{SideFault}
use Rattle.gtp_match.specs.declared.verdicts.Verdict.{Verdict}
use Rattle.gtp_match.specs.declared.verdicts.Verdict.TheVariants as verdict
use Rattle.gtp_match.proofs.reporting.Blame.{LosesBy, IsJust, reply_just, fault_just, quiet_just}
use Rattle.gtp_match.proofs.replies.Refusals.{refused_all}
use Rattle.gtp_match.proofs.hearing.Changes.{up_there, down_there}
use Rattle.gtp_match.proofs.soundness.Calls.{mine_or_theirs}

-- ---- what is reported, and what isn't

none_given : (A : Type 0) → IsSome {T = A} None → ⊥
none_given A some = cc

no_some : {A : Type 0} (o : Option A) → o ≡ None → IsSome o → ⊥
no_some None none some = cc
no_some (Some x) none some = cc

some_or_none : {A : Type 0} (o : Option A) → (o ≡ None → ⊥) → IsSome o
some_or_none None h = absurd (h refl)
some_or_none (Some x) h = refl

-- a loss that is reported first, or later
given_first : (a b : Option Loss) → IsSome a → IsSome (first_of a b)
given_first None b some = absurd (cc)
given_first (Some x) b some = refl

given_later : (a b : Option Loss) → IsSome b → IsSome (first_of a b)
given_later None b some = some
given_later (Some x) b some = refl

reported_by_one : (a b : Option Loss) → IsSome (first_of a b) → IsSome a ⊎ IsSome b
reported_by_one None b some = inr some
reported_by_one (Some x) b some = inl refl

-- ---- the sides

abbrev other_stays : Colour → Sides → Sides → Type 0
other_stays side old new = side_of new (other side) ≡ side_of old (other side)

stays_beside : (sides : Sides) (side : Colour) (engine : EngineRun)
    → other_stays side sides (with_engine_of side engine sides)
stays_beside sides Black engine = refl
stays_beside sides White engine = refl

stays_where_down : (c : Controller) (side : Colour) → other_stays side c.sides (downed c side).sides
stays_where_down c Black = refl
stays_where_down c White = refl

-- where the other side stays, a side that goes down is this one
this_side : (c new : Controller) (side t : Colour) → other_stays side c.sides new.sides → GoesDown c new t → t ≡ side
this_side c new side t stays gone = by_side (mine_or_theirs t side)
  where
    by_side : (t ≡ side) ⊎ (t ≡ other side) → t ≡ side
    by_side (inl same) = same
    by_side (inr theirs) =
        let it : GoesDown c new (other side) = subst (GoesDown c new) theirs gone in
        absurd (no_some (side_of c.sides (other side)).up (sym (ap (λ s. s.up) stays) ∙ it.1) it.0)

goes_this : (c new : Controller) (side t : Colour) → other_stays side c.sides new.sides → GoesDown c new t
    → GoesDown c new side
goes_this c new side t stays gone = subst (GoesDown c new) (this_side c new side t stays gone) gone

-- ---- bytes that are heard once

-- what a side that was up leaves of the sides: it is down, by a fault, or up
data Leaves (side : Colour) (c : Controller) (fault : Option SideFault) (new : Controller) : Type 0 where
  puts_down : IsSome fault → new.sides ≡ (downed c side).sides → Leaves side c fault new
  keeps_up : (engine : EngineRun) → fault ≡ None → new.sides ≡ with_engine_of side engine c.sides
      → Leaves side c fault new

leaves_outcome : (c : Controller) (side : Colour) (engine : EngineRun) (o : Outcome)
    → Leaves side c (fault_of o) (after_outcome c side engine o)
leaves_outcome c side engine (Down fault) = Leaves.puts_down refl refl
leaves_outcome c side engine Unfit = Leaves.keeps_up engine refl refl
leaves_outcome c side engine (Forfeits cause) = Leaves.keeps_up engine refl refl
leaves_outcome c side engine Confirms = Leaves.keeps_up (confirmed engine) refl refl
leaves_outcome c side engine Resigns = Leaves.keeps_up (answered engine) refl refl
leaves_outcome c side engine (Moves v) = Leaves.keeps_up (confirmed engine) refl refl
leaves_outcome c side engine Refuses =
    refused_all (Leaves side c None) c side engine (Leaves.keeps_up engine refl refl)
    (Leaves.keeps_up (answered engine) refl refl) (Leaves.keeps_up (answered engine) refl refl)
    (may_retake c side engine)
leaves_outcome c side engine TakesBack = Leaves.keeps_up (taken_back engine) refl refl
leaves_outcome c side engine Keeps = Leaves.keeps_up engine refl refl

leaves_other : (c new : Controller) (side : Colour) (fault : Option SideFault) → Leaves side c fault new
    → other_stays side c.sides new.sides
leaves_other c new side fault (Leaves.puts_down some is) =
    ap (λ (s : Sides). side_of s (other side)) is ∙ stays_where_down c side
leaves_other c new side fault (Leaves.keeps_up engine none is) =
    ap (λ (s : Sides). side_of s (other side)) is ∙ stays_beside c.sides side engine

-- a side that was up goes down by a fault alone
down_by_fault : (c new : Controller) (side : Colour) (fault : Option SideFault) → IsSome (side_of c.sides side).up
    → Leaves side c fault new → IsSome fault ↔ GoesDown c new side
down_by_fault c new side fault was (Leaves.puts_down some is) = (
  (λ x. (was, ap (λ (s : Sides). (side_of s side).up) is ∙ down_there c side)),
  (λ x. some),
)
down_by_fault c new side fault was (Leaves.keeps_up engine none is) = (
  (λ some. absurd (no_some fault none some)),
  (λ gone.
      let no : Some engine ≡ None =
      sym (up_there c.sides side engine) ∙ sym (ap (λ (s : Sides). (side_of s side).up) is) ∙ gone.1 in
      absurd (cc)),
)

-- so what is lost by a fault, or by a verdict, is a side that is lost
lost_by : (c new : Controller) (side : Colour) (fault : Option SideFault) (loss : Option Loss)
    → IsSome fault ↔ GoesDown c new side → other_stays side c.sides new.sides → IsSome loss ↔ LosesBy c new fault
    → IsSome loss ↔ LosesSide c new
lost_by c new side fault loss down stays is_given = ((λ some. to (is_given.0 some)), (λ lost. is_given.1 (from lost)))
  where
    to : LosesBy c new fault → LosesSide c new
    to (LosesBy.shows some) = LosesSide.goes_down side (down.0 some)
    to (LosesBy.forfeits none given) = LosesSide.forfeits none given
    to (LosesBy.is_unfit none given) = LosesSide.is_unfit none given

    from : LosesSide c new → LosesBy c new fault
    from (LosesSide.goes_down t gone) = LosesBy.shows (down.1 (goes_this c new side t stays gone))
    from (LosesSide.forfeits none given) = LosesBy.forfeits none given
    from (LosesSide.is_unfit none given) = LosesBy.is_unfit none given

-- What is reported of a step, and what it leaves: a side that is down stays so, and so does a verdict.
record Step (side : Colour) (c new : Controller) (fault : Option SideFault) (loss : Option Loss) : Type 0 where
  is_given : ReportsLoss side c new fault loss
  stays_down : (side_of c.sides side).up ≡ None → (side_of new.sides side).up ≡ None
  stays_over : (v : Verdict) → c.verdict ≡ Some v → new.verdict ≡ Some v

none_lost : (c : Controller) → LosesSide c c → ⊥
none_lost c (LosesSide.goes_down t gone) = no_some (side_of c.sides t).up gone.1 gone.0
none_lost c (LosesSide.forfeits {loser = s} {cause = why} none given) =
    let no : None ≡ Some (verdict.Forfeit s why) = sym none ∙ given in cc
none_lost c (LosesSide.is_unfit {loser = s} none given) =
    let no : None ≡ Some (verdict.Unfit s) = sym none ∙ given in cc

-- where nothing changes
no_step : (side : Colour) (c : Controller) → Step side c c None None
no_step side c = record {
  is_given = record {
    exact = ((λ some. absurd (none_given Loss some)), (λ lost. absurd (none_lost c lost)));
    cause = tt;
    down = (
      (λ some. absurd (none_given SideFault some)),
      (λ gone. absurd (no_some (side_of c.sides side).up gone.1 gone.0)),
    );
    other_stays = refl;
  };
  stays_down = λ e. e;
  stays_over = λ v e. e;
}

up_step : (side : Colour) (c new : Controller) (engine : EngineRun) (fault : Option SideFault) (loss : Option Loss)
    → c.verdict ≡ None → (side_of c.sides side).up ≡ Some engine → Leaves side c fault new
    → IsJust c new side fault loss → Step side c new fault loss
up_step side c new engine fault loss none up leaves just =
    let was : IsSome (side_of c.sides side).up = subst (λ (o : Option EngineRun). IsSome o) (sym up) refl in
    let down = down_by_fault c new side fault was leaves in
    let stays = leaves_other c new side fault leaves in
    record {
      is_given = record {
        exact = lost_by c new side fault loss down stays just.0;
        cause = just.1;
        down = down;
        other_stays = stays;
      };
      stays_down = λ e. let no : Some engine ≡ None = sym up ∙ e in absurd (cc);
      stays_over = λ v e. let no : None ≡ Some v = sym none ∙ e in absurd (cc);
    }

heard_step : (side : Colour) (c new : Controller) (bytes : List ℕ) (used : ℕ) (fault : Option SideFault)
    (retake : Option Retake) (loss : Option Loss) → HearsOnce c side bytes used fault retake loss new
    → Step side c new fault loss
heard_step side c new bytes used fault retake loss (HearsOnce.replied engine reply cause none up first has) =
    up_step side c _ engine _ _ none up
    (leaves_outcome c side (heard_reply engine) (outcome c.game side (oldest engine.unanswered) reply))
    (reply_just c side engine reply (text_up_to engine bytes used) cause none has)
heard_step side c new bytes used fault retake loss (HearsOnce.faulted engine shown none up first) =
    up_step side c _ engine _ _ none up (Leaves.puts_down refl refl)
    (fault_just c _ side (loss_of engine (engine.reader ++ bytes) (why.Shows (side_fault shown))) _ refl)
heard_step side c new bytes used fault retake loss (HearsOnce.nothing_yet engine none up nothing) =
    up_step side c _ engine _ _ none up
    (Leaves.keeps_up (record engine { reader = engine.reader ++ bytes }) refl refl) (quiet_just c _ side none refl)
heard_step side c new bytes used fault retake loss (HearsOnce.while_down none down) = no_step side c
heard_step side c new bytes used fault retake loss (HearsOnce.after_verdict verdict over) = no_step side c

-- ---- all bytes

-- a step without a fault, and what follows
two_steps : (side : Colour) (c mid new : Controller) (shown : Option SideFault) (loss later : Option Loss)
    → Step side c mid None loss → Step side mid new shown later → Step side c new shown (first_of loss later)
two_steps side c mid new shown loss later one more = record {
  is_given = record {
    exact = ((λ some. by_one (reported_by_one loss later some)), said_of);
    cause = cause_of loss later one.is_given.cause more.is_given.cause;
    down = (
      (λ some. from_start (more.is_given.down.0 some)),
      (λ gone. more.is_given.down.1 (from_mid gone)),
    );
    other_stays = stays;
  };
  stays_down = λ e. more.stays_down (one.stays_down e);
  stays_over = λ v e. more.stays_over v (one.stays_over v e);
}
  where
    stays : other_stays side c.sides new.sides
    stays = more.is_given.other_stays ∙ one.is_given.other_stays

    -- a cause that fits a step without a fault is of a verdict, which stays
    fits_later : (x : LossCause) → CauseFits mid side None x → CauseFits new side shown x
    fits_later (why.Shows fault) fits = absurd (cc)
    fits_later why.Unfit fits = more.stays_over _ fits
    fits_later why.RefusesPlay fits = more.stays_over _ fits
    fits_later why.KeepsMove fits = more.stays_over _ fits
    fits_later why.NoMove fits = more.stays_over _ fits
    fits_later why.NoVertex fits = more.stays_over _ fits
    fits_later (why.Illegal rule) fits = more.stays_over _ fits

    cause_of : (a b : Option Loss) → IfSome a (λ l. CauseFits mid side None l.cause)
        → IfSome b (λ l. CauseFits new side shown l.cause)
        → IfSome (first_of a b) (λ l. CauseFits new side shown l.cause)
    cause_of None b first last = last
    cause_of (Some l) b first last = fits_later l.cause first

    from_start : GoesDown mid new side → GoesDown c new side
    from_start gone = (
      some_or_none (side_of c.sides side).up (λ e. no_some (side_of mid.sides side).up (one.stays_down e) gone.0),
      gone.1,
    )

    from_mid : GoesDown c new side → GoesDown mid new side
    from_mid gone = (
      some_or_none (side_of mid.sides side).up (λ e. none_given SideFault (one.is_given.down.1 (gone.0, e))),
      gone.1,
    )

    none_before : mid.verdict ≡ None → c.verdict ≡ None
    none_before e = by_verdict c.verdict refl
      where
        by_verdict : (v : Option Verdict) → c.verdict ≡ v → c.verdict ≡ None
        by_verdict None is = is
        by_verdict (Some v) is = let no : Some v ≡ None = sym (one.stays_over v is) ∙ e in absurd (cc)

    by_first : LosesSide c mid → LosesSide c new
    by_first (LosesSide.goes_down t gone) =
        absurd (none_given SideFault (one.is_given.down.1 (goes_this c mid side t one.is_given.other_stays gone)))
    by_first (LosesSide.forfeits {loser = s} {cause = why} none given) =
        LosesSide.forfeits none (more.stays_over (verdict.Forfeit s why) given)
    by_first (LosesSide.is_unfit {loser = s} none given) =
        LosesSide.is_unfit none (more.stays_over (verdict.Unfit s) given)

    by_later : LosesSide mid new → LosesSide c new
    by_later (LosesSide.goes_down t gone) =
        LosesSide.goes_down side (from_start (goes_this mid new side t more.is_given.other_stays gone))
    by_later (LosesSide.forfeits none given) = LosesSide.forfeits (none_before none) given
    by_later (LosesSide.is_unfit none given) = LosesSide.is_unfit (none_before none) given

    by_one : IsSome loss ⊎ IsSome later → LosesSide c new
    by_one (inl some) = by_first (one.is_given.exact.0 some)
    by_one (inr some) = by_later (more.is_given.exact.0 some)

    -- a verdict that loses a side was given by the step, or by what follows
    given_by_one : (v : Verdict)
        → ((a b : Controller) → a.verdict ≡ None → b.verdict ≡ Some v → LosesSide a b)
        → c.verdict ≡ None → new.verdict ≡ Some v → (o : Option Verdict) → mid.verdict ≡ o
        → IsSome (first_of loss later)
    given_by_one v loses none given None is = given_later loss later (more.is_given.exact.1 (loses mid new is given))
    given_by_one v loses none given (Some w) is =
        let same : Some w ≡ Some v = sym (more.stays_over w is) ∙ given in
        given_first loss later (one.is_given.exact.1 (loses c mid none (is ∙ same)))

    said_of : LosesSide c new → IsSome (first_of loss later)
    said_of (LosesSide.goes_down t gone) =
        given_later loss later
        (more.is_given.exact.1 (LosesSide.goes_down side (from_mid (goes_this c new side t stays gone))))
    said_of (LosesSide.forfeits {loser = s} {cause = why} none given) =
        given_by_one (verdict.Forfeit s why) (λ a b x y. LosesSide.forfeits x y) none given mid.verdict refl
    said_of (LosesSide.is_unfit {loser = s} none given) =
        given_by_one (verdict.Unfit s) (λ a b x y. LosesSide.is_unfit x y) none given mid.verdict refl

all_steps : (side : Colour) (c new : Controller) (bytes : List ℕ) (fault : Option SideFault) (retakes : List Retake)
    (loss : Option Loss) → HearsChunk side c bytes fault retakes loss new → Step side c new fault loss
all_steps side c new bytes fault retakes loss HearsChunk.used_up = no_step side c
all_steps side c new bytes fault retakes loss (HearsChunk.faulty used retake some h) =
    heard_step side c new bytes used fault retake loss h
all_steps side c new bytes fault retakes loss
    (HearsChunk.goes_on {mid = mid} {retakes = more} {later = later} used retake first some h rest) =
    two_steps side c mid new fault first later (heard_step side c mid bytes used None retake first h)
    (all_steps side mid new (drop used bytes) fault more later rest)

-- ---- the law

pub once_loss_reported : (c new : Controller) (side : Colour) (bytes : List ℕ) (used : ℕ) (fault : Option SideFault)
    (retake : Option Retake) (loss : Option Loss) → HearsOnce c side bytes used fault retake loss new
    → ReportsLoss side c new fault loss
once_loss_reported c new side bytes used fault retake loss h =
    (heard_step side c new bytes used fault retake loss h).is_given

pub all_losses_reported : (c new : Controller) (side : Colour) (bytes : List ℕ) (fault : Option SideFault)
    (retakes : List Retake) (loss : Option Loss) → HearsChunk side c bytes fault retakes loss new
    → ReportsLoss side c new fault loss
all_losses_reported c new side bytes fault retakes loss h =
    (all_steps side c new bytes fault retakes loss h).is_given
