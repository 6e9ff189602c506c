-- What a match reports as retaken of the bytes that it hears: of one piece one retake at most.
use Rattle.std.proofs.Common.{◌≡◌, ℕ, List, [], ◌++◌, drop, Option, Some, None}
use Rattle.std.proofs.Common.{Bool, true, false, cond, refl, sym, ◌∙◌, ap, subst}
use Rattle.std.specs.Prelude.{IsSome, IfSome}
use Rattle.std.specs.Option.{option_or, option_to_list}
use Rattle.go_base.specs.Colour.{other}
use Rattle.go_base.specs.declared.colours.Colour.{Colour}
use Rattle.gtp_wire.specs.Commands.{IsWritable}
use Rattle.gtp_wire.specs.declared.replies.Reply.{Reply}
use Rattle.gtp_match.specs.Controller.{with_side_up, downed}
use Rattle.gtp_match.specs.Losing.{CanBeShown}
use Rattle.gtp_match.specs.ReplyTable.{outcome, after_outcome, retaken_at, refused}
use Rattle.gtp_match.specs.Reporting.{HearsOnce, text_up_to}
use Rattle.gtp_match.specs.Retaking.{retake_by, retake_of}
use Rattle.gtp_match.specs.Sides.{side_of, heard_reply, answered}
use Rattle.gtp_match.specs.Sound.{HasPlan, IsIdle, IsSound}
use Rattle.gtp_match.specs.Taking.{may_retake, has_all}
use Rattle.gtp_match.specs.Unanswered.{oldest}
use Rattle.gtp_match.specs.declared.controller.Controller.{Controller}
use Rattle.gtp_match.specs.declared.losses.Loss.{Loss}
use Rattle.gtp_match.specs.declared.reports.Retake.{Retake}
use Rattle.gtp_match.specs.declared.sides.EngineRun.{EngineRun}
use Rattle.gtp_match.specs.declared.reply_table.Outcome.{Outcome}
use Rattle.gtp_match.specs.declared.reply_table.Outcome.TheVariants.{Down, Unfit, Forfeits, Confirms, Resigns, Moves}
use Rattle.gtp_match.specs.declared.reply_table.Outcome.TheVariants.{Refuses, TakesBack, Keeps}
use Rattle.gtp_match.specs.declared.unanswered.SentCommand.{SentCommand}
use Rattle.gtp_match.specs.declared.verdicts.SideFault.{SideFault}
use Rattle.gtp_match.specs.declared.verdicts.Verdict.{Verdict}
use Rattle.gtp_match.proofs.replies.Outcomes.{answered_by}
use Rattle.gtp_match.proofs.soundness.Replies.{retake_is, last_alone}
use Rattle.gtp_match.proofs.hearing.Changes.{up_in, up_there, down_there}
use Rattle.gtp_match.proofs.soundness.Calls.{my_engine}
use Rattle.gtp_match.proofs.reporting.AllBytes.{my_oldest}

-- ---- the ways in which bytes are heard and reported

pub data Reports (c new : Controller) (side : Colour) (retake : Option Retake) : Type 0 where
  replied : (engine : EngineRun) (reply : Reply) (text : List ℕ) → c.verdict ≡ None
      → (side_of c.sides side).up ≡ Some engine
      → new ≡ after_outcome c side (heard_reply engine) (outcome c.game side (oldest engine.unanswered) reply)
      → retake ≡ retake_by c side engine text (outcome c.game side (oldest engine.unanswered) reply)
      → Reports c new side retake
  faulted : c.verdict ≡ None → new ≡ downed c side → retake ≡ None → Reports c new side retake
  kept_quiet : (engine : EngineRun) (kept : List ℕ) → c.verdict ≡ None → (side_of c.sides side).up ≡ Some engine
      → new ≡ with_side_up c side (record engine { reader = kept }) → retake ≡ None → Reports c new side retake
  was_down : c.verdict ≡ None → (side_of c.sides side).up ≡ None → new ≡ c → retake ≡ None → Reports c new side retake
  was_over : (v : Verdict) → c.verdict ≡ Some v → new ≡ c → retake ≡ None → Reports c new side retake

pub reports : (c new : Controller) (side : Colour) (bytes : List ℕ) (used : ℕ) (fault : Option SideFault)
    (retake : Option Retake) (loss : Option Loss) → HearsOnce c side bytes used fault retake loss new
    → Reports c new side retake
reports c new side bytes used fault retake loss (HearsOnce.replied engine reply cause none up first has) =
    Reports.replied engine reply (text_up_to engine bytes used) none up refl refl
reports c new side bytes used fault retake loss (HearsOnce.faulted engine shown none up first) =
    Reports.faulted none refl refl
reports c new side bytes used fault retake loss (HearsOnce.nothing_yet engine none up nothing) =
    Reports.kept_quiet engine (engine.reader ++ bytes) none up refl refl
reports c new side bytes used fault retake loss (HearsOnce.while_down none down) =
    Reports.was_down none down refl refl
reports c new side bytes used fault retake loss (HearsOnce.after_verdict verdict over) =
    Reports.was_over verdict over refl refl

-- ---- a retake is by the refusal of the one command that the side owes

-- a reply that reports a retake is a refusal that may be retaken
pub data IsRefusal (c : Controller) (side : Colour) (engine : EngineRun) (text : List ℕ) (o : Outcome)
    (retake : Option Retake) : Type 0 where
  is_retaken : o ≡ Refuses → may_retake c side engine ≡ true → retake ≡ Some (retake_of c engine text)
      → IsRefusal c side engine text o retake
  is_not : retake ≡ None → IsRefusal c side engine text o retake

pub which : (c : Controller) (side : Colour) (engine : EngineRun) (text : List ℕ) (o : Outcome)
    (retake : Option Retake) → retake ≡ retake_by c side engine text o → IsRefusal c side engine text o retake
which c side engine text (Down fault) retake e = IsRefusal.is_not e
which c side engine text Unfit retake e = IsRefusal.is_not e
which c side engine text (Forfeits cause) retake e = IsRefusal.is_not e
which c side engine text Confirms retake e = IsRefusal.is_not e
which c side engine text Resigns retake e = IsRefusal.is_not e
which c side engine text (Moves v) retake e = IsRefusal.is_not e
which c side engine text Refuses retake e = by_may (may_retake c side engine) refl e
  where
    by_may : (b : Bool) → may_retake c side engine ≡ b → retake ≡ cond b (Some (retake_of c engine text)) None
        → IsRefusal c side engine text Refuses retake
    by_may true may is = IsRefusal.is_retaken refl may is
    by_may false may is = IsRefusal.is_not is
which c side engine text TakesBack retake e = IsRefusal.is_not e
which c side engine text Keeps retake e = IsRefusal.is_not e

-- the plan of an engine that is up before a verdict
pub plan_of : (c : Controller) (side : Colour) (engine : EngineRun) → IsSound c → c.verdict ≡ None
    → (side_of c.sides side).up ≡ Some engine → HasPlan c.game c.pending side engine.confirmed engine.unanswered
plan_of c side engine sound none up = let e = my_engine c side engine sound up in (e.under_way none).plan

-- a sound match owes nothing more to a side whose refusal is retaken
pub nothing_more : (c : Controller) (side : Colour) (engine : EngineRun) (reply : Reply) → IsSound c
    → c.verdict ≡ None → (side_of c.sides side).up ≡ Some engine
    → outcome c.game side (oldest engine.unanswered) reply ≡ Refuses → may_retake c side engine ≡ true
    → drop 1 engine.unanswered ≡ []
nothing_more c side engine reply sound none up is may =
    let plan = plan_of c side engine sound none up in
    let a = answered_by c.game c.pending side engine reply Refuses (λ f x. cc) plan is in
    last_alone c.game c.pending side engine a plan (retake_is c side engine sound may).last

-- an engine that has nothing unanswered, at this side
pub idle_there : (c : Controller) (side : Colour) (engine : EngineRun) → (side_of c.sides side).up ≡ Some engine
    → engine.unanswered ≡ [] → IsIdle (side_of c.sides side).up
idle_there c side engine up idle = subst IsIdle (sym up) idle

idle_refused : (c : Controller) (side : Colour) (engine : EngineRun) → drop 1 engine.unanswered ≡ []
    → (held : Bool) → IsIdle (side_of (retaken_at c side (heard_reply engine) held).sides side).up
idle_refused c side engine idle true =
    idle_there (retaken_at c side (heard_reply engine) true) side (answered (heard_reply engine))
    (up_there c.sides side (answered (heard_reply engine))) idle
idle_refused c side engine idle false =
    idle_there (retaken_at c side (heard_reply engine) false) side (answered (heard_reply engine))
    (up_there c.sides side (answered (heard_reply engine))) idle

-- so the side is idle once a retake is reported
pub retake_idles : (c new : Controller) (side : Colour) (retake : Option Retake) → IsSound c → Reports c new side retake
    → IsSome retake → IsIdle (side_of new.sides side).up
retake_idles c new side retake sound (Reports.replied engine reply text none up is e) some =
    by_kind (which c side engine text o retake e)
  where
    o : Outcome
    o = outcome c.game side (oldest engine.unanswered) reply

    by_kind : IsRefusal c side engine text o retake → IsIdle (side_of new.sides side).up
    by_kind (IsRefusal.is_not nothing) =
        let no_retake : IsSome {T = Retake} None = subst (λ (r : Option Retake). IsSome r) nothing some in absurd (cc)
    by_kind (IsRefusal.is_retaken refuses may it) =
        let idle = nothing_more c side engine reply sound none up refuses may in
        let goes : new ≡ after_outcome c side (heard_reply engine) Refuses =
        is ∙ ap (after_outcome c side (heard_reply engine)) refuses in
        let goes_so : new ≡ refused c side (heard_reply engine) true =
        goes ∙ ap (refused c side (heard_reply engine)) may in
        subst (λ (x : Controller). IsIdle (side_of x.sides side).up) (sym goes_so)
        (idle_refused c side engine idle (has_all c.game (side_of c.sides (other side)).up))
retake_idles c new side retake sound (Reports.faulted none is nothing) some =
    subst (λ (u : Option EngineRun). IsIdle u) (sym (ap (up_in side) is ∙ down_there c side)) tt
retake_idles c new side retake sound (Reports.kept_quiet engine kept none up is nothing) some =
    let no_retake : IsSome {T = Retake} None = subst (λ (r : Option Retake). IsSome r) nothing some in absurd (cc)
retake_idles c new side retake sound (Reports.was_down none up is nothing) some =
    let no_retake : IsSome {T = Retake} None = subst (λ (r : Option Retake). IsSome r) nothing some in absurd (cc)
retake_idles c new side retake sound (Reports.was_over v is_over is nothing) some =
    let no_retake : IsSome {T = Retake} None = subst (λ (r : Option Retake). IsSome r) nothing some in absurd (cc)

-- ---- of an idle side no retake is reported, and it stays idle

-- what an idle side leaves
pub record StaysIdle (c new : Controller) (side : Colour) (retake : Option Retake) : Type 0 where
  pub nothing : retake ≡ None
  pub idle : IsIdle (side_of new.sides side).up
  pub retakes : new.retakes ≡ c.retakes

went_down : (c new : Controller) (side : Colour) (retake : Option Retake) → new ≡ downed c side → retake ≡ None
    → StaysIdle c new side retake
went_down c new side retake is nothing = record {
  nothing = nothing;
  idle = subst (λ (u : Option EngineRun). IsIdle u) (sym (ap (up_in side) is ∙ down_there c side)) tt;
  retakes = ap (λ (x : Controller). x.retakes) is;
}

stayed : (c new : Controller) (side : Colour) (retake : Option Retake) → IsIdle (side_of c.sides side).up → new ≡ c
    → retake ≡ None → StaysIdle c new side retake
stayed c new side retake idle is nothing = record {
  nothing = nothing;
  idle = subst (λ (x : Controller). IsIdle (side_of x.sides side).up) (sym is) idle;
  retakes = ap (λ (x : Controller). x.retakes) is;
}

pub idle_reports : (c new : Controller) (side : Colour) (retake : Option Retake) → Reports c new side retake
    → IsIdle (side_of c.sides side).up → StaysIdle c new side retake
idle_reports c new side retake (Reports.replied engine reply text none up is e) idle =
    let empty : engine.unanswered ≡ [] = subst IsIdle up idle in
    let unasked = ap (λ (es : List SentCommand). outcome c.game side (oldest es) reply) empty in
    went_down c new side retake (is ∙ ap (after_outcome c side (heard_reply engine)) unasked)
    (e ∙ ap (retake_by c side engine text) unasked)
idle_reports c new side retake (Reports.faulted none is nothing) idle = went_down c new side retake is nothing
idle_reports c new side retake (Reports.kept_quiet engine kept none up is nothing) idle = record {
  nothing = nothing;
  idle = subst (λ (x : Controller). IsIdle (side_of x.sides side).up) (sym is)
      (idle_there (with_side_up c side (record engine { reader = kept })) side (record engine { reader = kept })
      (up_there c.sides side (record engine { reader = kept })) (subst IsIdle up idle));
  retakes = ap (λ (x : Controller). x.retakes) is;
}
idle_reports c new side retake (Reports.was_down none up is nothing) idle = stayed c new side retake idle is nothing
idle_reports c new side retake (Reports.was_over v is_over is nothing) idle = stayed c new side retake idle is nothing

-- ---- all bytes

-- the retake so far, and one more where there was none
pub listed : (a b : Option Retake) (later : List Retake) → (IsSome a → b ≡ None)
    → option_to_list (option_or a b) ++ later ≡ option_to_list a ++ (option_to_list b ++ later)
listed None b later once = refl
listed (Some x) None later once = refl
listed (Some x) (Some y) later once = let no : Some y ≡ None = once refl in absurd (cc)

pub listed_end : (a b : Option Retake) → (IsSome a → b ≡ None)
    → option_to_list (option_or a b) ≡ option_to_list a ++ option_to_list b
listed_end None b once = refl
listed_end (Some x) None once = refl
listed_end (Some x) (Some y) once = let no : Some y ≡ None = once refl in absurd (cc)

pub listed_alone : (a : Option Retake) → option_to_list a ++ [] ≡ option_to_list a
listed_alone None = refl
listed_alone (Some x) = refl

-- where nothing of the side is unanswered after the retake so far, there is none more
pub none_again : (c new : Controller) (side : Colour) (a b : Option Retake) → Reports c new side b
    → (IsSome a → IsIdle (side_of c.sides side).up) → IsSome a → b ≡ None
none_again c new side a b r idle some = (idle_reports c new side b r (idle some)).nothing

-- and after a retake nothing of the side is unanswered
pub idle_after : (c new : Controller) (side : Colour) (a b : Option Retake) → IsSound c → Reports c new side b
    → (IsSome a → IsIdle (side_of c.sides side).up) → IsSome (option_or a b) → IsIdle (side_of new.sides side).up
idle_after c new side None b sound r idle some = retake_idles c new side b sound r some
idle_after c new side (Some x) b sound r idle some = (idle_reports c new side b r (idle refl)).idle

pub shows_either : (a b : Option Retake) → IfSome a (λ r. CanBeShown r.owed) → IfSome b (λ r. CanBeShown r.owed)
    → IfSome (option_or a b) (λ r. CanBeShown r.owed)
shows_either None b p q = q
shows_either (Some x) b p q = p

-- ---- the command that a retake names can be shown

names_refused : (c : Controller) (side : Colour) (engine : EngineRun) (text : List ℕ) (o : Outcome)
    (retake : Option Retake) → IfSome (oldest engine.unanswered) (λ e. IsWritable e.command)
    → IsRefusal c side engine text o retake → IfSome retake (λ r. CanBeShown r.owed)
names_refused c side engine text o retake can (IsRefusal.is_retaken refuses may is) =
    subst (λ (r : Option Retake). IfSome r (λ x. CanBeShown x.owed)) (sym is) can
names_refused c side engine text o retake can (IsRefusal.is_not nothing) =
    subst (λ (r : Option Retake). IfSome r (λ x. CanBeShown x.owed)) (sym nothing) tt

pub retake_shown : (c new : Controller) (side : Colour) (bytes : List ℕ) (used : ℕ) (fault : Option SideFault)
    (retake : Option Retake) (loss : Option Loss) → IsSound c → HearsOnce c side bytes used fault retake loss new
    → IfSome retake (λ r. CanBeShown r.owed)
retake_shown c new side bytes used fault retake loss sound
    (HearsOnce.replied engine reply cause none up first has) =
    names_refused c side engine (text_up_to engine bytes used) (outcome c.game side (oldest engine.unanswered) reply) _
    (my_oldest c side engine sound none up)
    (which c side engine (text_up_to engine bytes used) (outcome c.game side (oldest engine.unanswered) reply) _ refl)
retake_shown c new side bytes used fault retake loss sound (HearsOnce.faulted engine shown none up first) = tt
retake_shown c new side bytes used fault retake loss sound (HearsOnce.nothing_yet engine none up nothing) = tt
retake_shown c new side bytes used fault retake loss sound (HearsOnce.while_down none down) = tt
retake_shown c new side bytes used fault retake loss sound (HearsOnce.after_verdict verdict over) = tt
