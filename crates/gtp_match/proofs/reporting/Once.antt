-- What comes of the bytes that a side's reader read, and what they add to a report.
use Rattle.std.proofs.Common.{◌≡◌, ℕ, zero, suc, ◌+◌, ◌-◌, List, [], ◌∷◌, ◌++◌, length, take, Option, Some, None}
use Rattle.std.proofs.Common.{Ok, Err, Bool, true, false, cond, refl, ap, sym, subst, ◌∙◌, arith, is_some}
use Rattle.std.specs.Option.{option_or}
use Rattle.std.specs.Prelude.{option_map, IfSome}
use Rattle.std.proofs.Math.Seq.{take-append-add}
use Rattle.std.proofs.lemmas.List.{take-take}
use Rattle.go_base.specs.declared.colours.Colour.{Colour}
use Rattle.gtp_wire.specs.Replies.{most_shown}
use Rattle.gtp_wire.specs.declared.replies.Reply.{Reply}
use Rattle.gtp_wire.specs.declared.replies.ReplyFault.{ReplyFault}
use Rattle.gtp_wire.specs.declared.reply_reader.ReplyFed.{ReplyFed}
use Rattle.gtp_match.specs.Controller.{downed}
use Rattle.gtp_match.specs.Hearing.{side_fault}
use Rattle.gtp_match.specs.ReplyTable.{outcome, after_outcome, fault_of}
use Rattle.gtp_match.specs.Reporting.{HearsOnce, text_up_to}
use Rattle.gtp_match.specs.Sides.{side_of, heard_reply}
use Rattle.gtp_match.specs.Unanswered.{oldest}
use Rattle.gtp_match.specs.private.Adding.{AddsReply, HearsAdding, IsRetakeCount, loss_owing, owing_also, retake_owing}
use Rattle.gtp_match.specs.Losing.{HasLossCause, first_of, loss_of, owed_of}
use Rattle.gtp_match.specs.Retaking.{retake_by, retake_of}
use Rattle.gtp_match.specs.Taking.{may_retake}
use Rattle.gtp_match.specs.declared.controller.Controller.{Controller}
use Rattle.gtp_match.specs.declared.losses.LossCause.{LossCause}
use Rattle.gtp_match.specs.declared.losses.LossCause.TheVariants.{RefusesPlay, Shows}
use Rattle.gtp_match.specs.declared.losses.Owed.{Owed}
use Rattle.gtp_match.specs.declared.reply_table.Outcome.{Outcome}
use Rattle.gtp_match.specs.declared.reply_table.Outcome.TheVariants as made
use Rattle.gtp_match.specs.declared.reports.Report.{Report}
use Rattle.gtp_match.specs.declared.reports.Retake.{Retake}
use Rattle.gtp_match.specs.declared.sides.EngineRun.{EngineRun}
use Rattle.gtp_match.specs.declared.sides.Sides.{Sides}
use Rattle.gtp_match.specs.declared.verdicts.ForfeitCause.TheVariants as forfeit
use Rattle.gtp_match.specs.declared.verdicts.SideFault.{SideFault}
use Rattle.gtp_match.specs.declared.verdicts.Verdict.{Verdict}
use Rattle.gtp_match.proofs.hearing.Reading.{HasGot, first_got, nothing_got, up_replied, with_sides}
use Rattle.gtp_match.proofs.hearing.Reading.{replied_is, faulted_is, quiet_is}
use Rattle.gtp_match.proofs.reporting.AllBytes.{first_of_none}

-- the front of two texts that are joined
pub take_joined : (n : ℕ) (a b : List ℕ) → take n a ++ take (n - length (take n a)) b ≡ take n (a ++ b)
take_joined zero a b = refl
take_joined (suc n) [] b =
    let e : suc n - 0 ≡ suc n = omega arith in rw e refl
take_joined (suc n) (x ∷ a) b =
    let e : suc n - suc (length (take n a)) ≡ n - length (take n a) = omega arith in
    rw e (ap (λ (t : List ℕ). x ∷ t) (take_joined n a b))

or_none : (a : Option Retake) → option_or a None ≡ a
or_none None = refl
or_none (Some x) = refl

-- ---- what is shown

-- The beginning of a text, with what follows it, begins as both do together.
take_held : (n : ℕ) (text more : List ℕ) → take n (take n text ++ more) ≡ take n (text ++ more)
take_held n text more =
    sym (take_joined n (take n text) more)
    ∙ ap (λ (t : List ℕ). t ++ take (n - length t) more) (take-take n n text (omega arith))
    ∙ take_joined n text more

-- what the engine owes that wrote what begins so
abbrev owed_showing : EngineRun → List ℕ → Owed
owed_showing engine shown = record {
  unanswered = length engine.unanswered;
  oldest = oldest engine.unanswered;
  bytes = record { items = shown };
}

-- what an engine owes that had written a text, and then wrote another
pub owed_also : (engine : EngineRun) (text more : List ℕ)
    → owing_also (owed_of engine text) more ≡ owed_of engine (text ++ more)
owed_also engine text more = ap (owed_showing engine) (take_held most_shown text more)

-- so a reply is shown alone that ends in a piece
pub owed_alone : (engine : EngineRun) (bytes : List ℕ) (used : ℕ)
    → owing_also (owed_of engine engine.reader) (take used bytes) ≡ owed_of engine (text_up_to engine bytes used)
owed_alone engine bytes used =
    owed_also engine engine.reader (take used bytes)
    ∙ ap (owed_of engine) (sym (take-append-add engine.reader bytes used))

-- ---- what a reply adds to a report

-- by a reply that is retaken no side fails
no_cause : (c : Controller) (side : Colour) (e : EngineRun) (reply : Reply) (o : Outcome) (count : ℕ)
    → IsRetakeCount c side e o (Some count) → HasLossCause c side e reply o None
no_cause c side e reply (made.Down fault) count is = let no = is [] in absurd (cc)
no_cause c side e reply made.Unfit count is = let no = is [] in absurd (cc)
no_cause c side e reply (made.Forfeits cause) count is = let no = is [] in absurd (cc)
no_cause c side e reply made.Confirms count is = refl
no_cause c side e reply made.Resigns count is = refl
no_cause c side e reply (made.Moves v) count is = refl
no_cause c side e reply made.Refuses count is = by_may (may_retake c side e) refl (is [])
  where
    by_may : (b : Bool) → may_retake c side e ≡ b
        → cond b (Some (retake_of c e [])) None ≡ Some (retake_owing (owed_of e []) count)
        → HasLossCause c side e reply made.Refuses None
    by_may true may some =
        ap (λ (b : Bool). let o : Option LossCause = cond b None (Some RefusesPlay) in o) (sym may)
    by_may false may some = absurd (cc)
no_cause c side e reply made.TakesBack count is = refl
no_cause c side e reply made.Keeps count is = let no = is [] in absurd (cc)

-- what holds of a side's engine, by what holds of it already
pub each_up : {P Q : EngineRun → Type 0} (up : Option EngineRun) → IfSome up P → ((e : EngineRun) → P e → Q e)
    → IfSome up Q
each_up None h then = tt
each_up (Some e) h then = then e h

-- a retake is added
pub adds_retake : (c : Controller) (side : Colour) (e : EngineRun) (reply : Reply) (o : Outcome) (owed : Owed)
    (count : ℕ) (before after : Report) → IsRetakeCount c side e o (Some count)
    → after.retake ≡ option_or before.retake (Some (retake_owing owed count)) → after.loss ≡ before.loss
    → AddsReply c side e reply o owed before after
adds_retake c side e reply o owed count before after is retake loss = record {
  cause = None;
  has = no_cause c side e reply o count is;
  loss = loss ∙ sym (first_of_none before.loss);
  retake = λ text owed_is.
      retake ∙ ap (λ (x : Owed). option_or before.retake (Some (retake_owing x count))) owed_is
      ∙ ap (option_or before.retake) (sym (is text));
}

-- ---- what a reader returned, of an engine that is up and before any verdict

-- what a reply adds is the same once its bytes were read
adds_kept : (c : Controller) (new : Sides) (side : Colour) (e : EngineRun) (reply : Reply) (o : Outcome) (owed : Owed)
    (before after : Report) → AddsReply (with_sides c new) side (heard_reply e) reply o owed before after
    → AddsReply c side e reply o owed before after
adds_kept c new side e reply (made.Down fault) owed before after h =
    record { cause = h.cause; has = h.has; loss = h.loss; retake = h.retake }
adds_kept c new side e reply made.Unfit owed before after h =
    record { cause = h.cause; has = h.has; loss = h.loss; retake = h.retake }
adds_kept c new side e reply (made.Forfeits forfeit.RefusedPlay) owed before after h =
    record { cause = h.cause; has = h.has; loss = h.loss; retake = h.retake }
adds_kept c new side e reply (made.Forfeits forfeit.NoMove) owed before after h =
    record { cause = h.cause; has = h.has; loss = h.loss; retake = h.retake }
adds_kept c new side e reply (made.Forfeits forfeit.NoVertex) owed before after h =
    record { cause = h.cause; has = h.has; loss = h.loss; retake = h.retake }
adds_kept c new side e reply (made.Forfeits forfeit.IllegalMove) owed before after h =
    record { cause = h.cause; has = h.has; loss = h.loss; retake = h.retake }
adds_kept c new side e reply made.Confirms owed before after h =
    record { cause = h.cause; has = h.has; loss = h.loss; retake = h.retake }
adds_kept c new side e reply made.Resigns owed before after h =
    record { cause = h.cause; has = h.has; loss = h.loss; retake = h.retake }
adds_kept c new side e reply (made.Moves v) owed before after h =
    record { cause = h.cause; has = h.has; loss = h.loss; retake = h.retake }
adds_kept c new side e reply made.Refuses owed before after h =
    record { cause = h.cause; has = h.has; loss = h.loss; retake = h.retake }
adds_kept c new side e reply made.TakesBack owed before after h =
    record { cause = h.cause; has = h.has; loss = h.loss; retake = h.retake }
adds_kept c new side e reply made.Keeps owed before after h =
    record { cause = h.cause; has = h.has; loss = h.loss; retake = h.retake }

-- so it is what the outcome adds that the reply has
adds_outcome : (c : Controller) (side : Colour) (e : EngineRun) (bytes : List ℕ) (fed : ReplyFed) (new : Sides)
    (reply : Reply) (o : Outcome) (owed : Owed) (before after : Report)
    → HasGot c side e bytes fed new (Some (Ok reply)) → o ≡ outcome c.game side (oldest e.unanswered) reply
    → IfSome (side_of new side).up (λ engine. AddsReply (with_sides c new) side engine reply o owed before after)
    → AddsReply c side e reply (outcome c.game side (oldest e.unanswered) reply) owed before after
adds_outcome c side e bytes fed new reply o owed before after g o_is adds =
    let here : AddsReply (with_sides c new) side (heard_reply e) reply o owed before after =
    subst (λ (u : Option EngineRun).
    IfSome u (λ engine. AddsReply (with_sides c new) side engine reply o owed before after))
    (up_replied c side e bytes fed new reply g) adds in
    subst (λ (x : Outcome). AddsReply c side e reply x owed before after) o_is
    (adds_kept c new side e reply o owed before after here)

-- ---- what is heard

-- a reply does what its outcome says, and adds what it shows
pub reply_once : (c : Controller) (side : Colour) (e : EngineRun) (bytes : List ℕ) (fed : ReplyFed) (new : Sides)
    (reply : Reply) (o : Outcome) (fault : Option SideFault) (owed : Owed) (before after : Report) (c2 : Controller)
    → HasGot c side e bytes fed new (Some (Ok reply)) → o ≡ outcome c.game side (oldest e.unanswered) reply
    → owed ≡ owed_of e (text_up_to e bytes fed.used)
    → IfSome (side_of new side).up (λ engine. AddsReply (with_sides c new) side engine reply o owed before after)
    → fault ≡ fault_of o
    → IfSome (side_of new side).up (λ engine. c2 ≡ after_outcome (with_sides c new) side engine o)
    → HearsAdding c side bytes before (record { used = fed.used; fault = fault }) after c2
reply_once c side e bytes fed new reply o fault owed before after c2 g o_is owed_is adds fault_is applied =
    let a = adds_outcome c side e bytes fed new reply o owed before after g o_is adds in
    rw (fault_is ∙ ap fault_of o_is) (rw (replied_is c side e bytes fed new reply o c2 g o_is applied) (record {
      retake = retake_by c side e (text_up_to e bytes fed.used) (outcome c.game side (oldest e.unanswered) reply);
      loss = option_map (loss_of e (text_up_to e bytes fed.used)) a.cause;
      hears = HearsOnce.replied e reply a.cause g.none g.has_fed.up
          (first_got c side e bytes fed new (Ok reply) g) a.has;
      retakes = a.retake (text_up_to e bytes fed.used) owed_is;
      losses = a.loss ∙ ap (λ (x : Owed). first_of before.loss (option_map (loss_owing x) a.cause)) owed_is;
    }))

-- a fault puts the side down, and all that was read is shown
pub fault_once : (c : Controller) (side : Colour) (e : EngineRun) (bytes : List ℕ) (fed : ReplyFed) (new : Sides)
    (fault : ReplyFault) (owed : Owed) (before after : Report) (c2 : Controller)
    → HasGot c side e bytes fed new (Some (Err fault)) → owed ≡ owed_of e (e.reader ++ bytes)
    → after.loss ≡ first_of before.loss (Some (loss_owing owed (Shows (side_fault fault))))
    → after.retake ≡ before.retake → c2 ≡ downed (with_sides c new) side
    → HearsAdding c side bytes before (record { used = fed.used; fault = Some (side_fault fault) }) after c2
fault_once c side e bytes fed new fault owed before after c2 g owed_is loss retake is =
    rw (faulted_is c side e bytes fed new fault c2 g is) (record {
      retake = None;
      loss = Some (loss_of e (e.reader ++ bytes) (Shows (side_fault fault)));
      hears = HearsOnce.faulted e fault g.none g.has_fed.up (first_got c side e bytes fed new (Err fault) g);
      retakes = retake ∙ sym (or_none before.retake);
      losses = loss ∙ ap (λ (x : Owed). first_of before.loss (Some (loss_owing x (Shows (side_fault fault))))) owed_is;
    })

-- where nothing is shown the report stays
pub adds_nothing : (c : Controller) (side : Colour) (bytes : List ℕ) (report : Report) (used : ℕ) (new : Controller)
    → HearsOnce c side bytes used None None None new
    → HearsAdding c side bytes report (record { used = used; fault = None }) report new
adds_nothing c side bytes report used new h = record {
  retake = None;
  loss = None;
  hears = h;
  retakes = sym (or_none report.retake);
  losses = sym (first_of_none report.loss);
}

-- where there is no answer yet, nothing is shown
pub quiet_once : (c : Controller) (side : Colour) (e : EngineRun) (bytes : List ℕ) (fed : ReplyFed) (new : Sides)
    → HasGot c side e bytes fed new None → HearsOnce c side bytes fed.used None None None (with_sides c new)
quiet_once c side e bytes fed new g =
    let is = quiet_is c side e bytes fed new g in
    subst (λ (n : ℕ). HearsOnce c side bytes n None None None (with_sides c new)) (sym is.0)
    (subst (λ (x : Controller). HearsOnce c side bytes (length bytes) None None None x) (sym is.1)
    (HearsOnce.nothing_yet e g.none g.has_fed.up (nothing_got c side e bytes fed new g)))

-- while a side is down nothing is heard
pub down_once : (c new : Controller) (side : Colour) (bytes : List ℕ) → c.verdict ≡ None
    → (side_of c.sides side).up ≡ None → new ≡ c → HearsOnce c side bytes (length bytes) None None None new
down_once c new side bytes none down same =
    subst (λ (x : Controller). HearsOnce c side bytes (length bytes) None None None x) (sym same)
    (HearsOnce.while_down none down)

-- after a verdict nothing is heard
pub over_once : (c : Controller) (side : Colour) (bytes : List ℕ) → is_some c.verdict ≡ true
    → HearsOnce c side bytes (length bytes) None None None c
over_once c side bytes given = by_verdict c.verdict refl given
  where
    by_verdict : (v : Option Verdict) → c.verdict ≡ v → is_some v ≡ true
        → HearsOnce c side bytes (length bytes) None None None c
    by_verdict None e some = absurd (cc)
    by_verdict (Some v) e some = HearsOnce.after_verdict v e
