-- Bytes that are heard keep what holds of every match.
use Rattle.std.proofs.Common.{◌≡◌, ℕ, zero, suc, ◌+◌, ◌*◌, ◌<◌, ◌≤◌, List, [], ◌∷◌, ◌++◌, length, take, drop, Option}
use Rattle.std.proofs.Common.{Some, None, Result, false, refl, sym, ◌∙◌, ap, subst, arith, inl, inr, append-nil}
use Rattle.std.specs.Prelude.{◌⊎◌, IfSome, is_some}
use Rattle.go_base.specs.Colour.{other}
use Rattle.go_base.specs.declared.colours.Colour.{Colour}
use Rattle.go_board.specs.Game.{GameRecord, IsGame}
use Rattle.gtp_wire.specs.declared.commands.Command.{Command}
use Rattle.gtp_wire.specs.declared.replies.Reply.{Reply}
use Rattle.gtp_wire.specs.declared.replies.ReplyFault.{ReplyFault}
use Rattle.gtp_wire.specs.Replies.{GivesNoAnswer, GivesAnswer, IsFirst}
use Rattle.gtp_match.specs.declared.controller.Controller.{Controller}
use Rattle.gtp_match.specs.declared.sides.EngineRun.{EngineRun}
use Rattle.gtp_match.specs.declared.unanswered.SentCommand.{SentCommand}
use Rattle.gtp_match.specs.declared.verdicts.SideFault.{SideFault}
use Rattle.gtp_match.specs.declared.verdicts.Verdict.{Verdict}
use Rattle.gtp_match.specs.private.Conditions.{MayReply, MayHear, MayBeAnswered}
use Rattle.gtp_match.specs.Controller.{with_side_up}
use Rattle.gtp_match.specs.Hearing.{MayKeep, HearsUp, HearsWhere, Hears, HearsAll, HearsAllBy}
use Rattle.gtp_match.specs.Script.{script}
use Rattle.gtp_match.specs.Sides.{side_of, with_side, with_engine}
use Rattle.gtp_match.specs.Sound.{VerdictFits, InScript, AreUndo, HasPlan, IsUnderWay, LacksLast, IsTakingBack}
use Rattle.gtp_match.specs.Sound.{all_retakes, IsIdle, IsSound}
use Rattle.gtp_match.specs.Unanswered.{oldest}
use Rattle.gtp_match.proofs.replies.Outcomes.{first_is}
use Rattle.gtp_match.proofs.soundness.Replies.{reply_sound}
use Rattle.gtp_match.proofs.scripts.Scripts.{script_few, below_length, command_fits}
use Rattle.gtp_match.proofs.soundness.Calls.{no_blame, my_side, one_idle, with_verdict, kept_game, my_engine, my_start}
use Rattle.gtp_match.proofs.soundness.Calls.{goes_on_taking, taken_at}
use Rattle.gtp_match.proofs.soundness.Down.{downed_sound}

-- ---- what may be kept for a text that gives no answer gives none

no_first : (text kept : List ℕ) → MayKeep kept text → GivesNoAnswer text → (n : ℕ) (answer : Result Reply ReplyFault)
    → IsFirst kept n answer → ⊥
no_first text kept keep quiet n answer first =
    let F : List ℕ → Type 0 = λ t. IsFirst t n answer in
    let same : IsFirst (text ++ []) n answer = (keep.1 [] n answer).0 (subst F (sym (append-nil kept)) first) in
    let there : IsFirst text n answer = subst F (append-nil text) same in
    quiet n answer there.inside there.is_given

-- a place at which a text gives an answer is the first or after one
none_below : (kept : List ℕ) → ((n : ℕ) (answer : Result Reply ReplyFault) → IsFirst kept n answer → ⊥)
    → (m n : ℕ) (answer : Result Reply ReplyFault) → n < m → n ≤ length kept → GivesAnswer (take n kept) answer → ⊥
none_below kept none zero n answer below inside is_given = omega (arith, below)
none_below kept none (suc m) n answer below inside is_given =
    none n answer (record {
      inside = inside;
      is_given = is_given;
      before = λ k other less t.
          none_below kept none m k other (omega (arith, less, below)) (omega (arith, less, inside)) t;
    })

pub quiet_kept : (text kept : List ℕ) → MayKeep kept text → GivesNoAnswer text → GivesNoAnswer kept
quiet_kept text kept keep quiet n answer inside is_given =
    none_below kept (no_first text kept keep quiet) (n + 1) n answer (omega arith) inside is_given

-- ---- bytes that are heard

pub quiet_sound : (c : Controller) (s : Colour) (engine : EngineRun) (text kept_text : List ℕ) → IsSound c
    → c.verdict ≡ None → (side_of c.sides s).up ≡ Some engine → GivesNoAnswer text → MayKeep kept_text text
    → IsSound (with_side_up c s (record engine { reader = kept_text }))
quiet_sound c s engine text kept_text h none up quiet is =
    let mine = my_side c s h in
    let e = my_engine c s engine h up in
    let state = with_engine next (side_of c.sides s) in
    kept_game c c.verdict s state h (record {
      back = λ x. x;
      ends = h.ends;
      blames = no_blame (with_verdict c c.verdict (with_side s state c.sides)) c.verdict none;
      mine = record {
        starts = mine.starts;
        start_left = λ _ x. absurd (cc);
        started = my_start c s engine h up;
        engine = record {
          sent = e.sent;
          quiet = quiet_kept text kept_text is quiet;
          under_way = λ none. same_way (e.under_way none);
        };
      };
      one_asked = by_one (one_idle c s h);
      taking_back = λ none. goes_on_taking c s state same_mine same_theirs (h.taking_back none);
    })
  where
    next : EngineRun
    next = record engine { reader = kept_text }

    same_way : IsUnderWay c.game c.pending (all_retakes c) s engine
        → IsUnderWay c.game c.pending (all_retakes c) s (record engine { reader = kept_text })
    same_way way = record {
      plan = way.plan;
      few_unanswered = way.few_unanswered;
      all_sent = way.all_sent;
      counted = way.counted;
    }

    by_one : IsIdle (side_of c.sides s).up ⊎ IsIdle (side_of c.sides (other s)).up
        → IsIdle (Some (record engine { reader = kept_text })) ⊎ IsIdle (side_of c.sides (other s)).up
    by_one (inl i) = inl (subst IsIdle up i)
    by_one (inr i) = inr i

    same_mine : IsTakingBack c.game (all_retakes c) s (side_of c.sides s).up (side_of c.sides (other s)).up
        → IsTakingBack c.game (all_retakes c) s (Some (record engine { reader = kept_text }))
        (side_of c.sides (other s)).up
    same_mine t =
        let same : Some t.engine ≡ Some engine = sym t.up ∙ up in
        let e : t.engine ≡ engine = cc in
        let T : EngineRun → Type 0 = λ x. (x.confirmed ≡ length (script c.game))
        × ((x.unanswered ≡ []) ⊎ AreUndo x.unanswered)
        × (x.sent + 2 ≤ x.confirmed + length x.unanswered + 2 * all_retakes c) in
        let now : T engine = subst T e (t.all, t.undoing, t.counted) in
        record {
          some = t.some;
          made = t.made;
          engine = record engine { reader = kept_text };
          up = refl;
          all = now.0;
          undoing = now.1;
          lacks = t.lacks;
          counted = now.2;
        }

    same_theirs : IfSome (side_of c.sides s).up (LacksLast c.game)
        → IfSome (Some (record engine { reader = kept_text })) (LacksLast c.game)
    same_theirs l =
        let x : LacksLast c.game engine = subst (λ (u : Option EngineRun). IfSome u (LacksLast c.game)) up l in
        record { idle = x.idle; lacks = x.lacks }

up_sound : (c : Controller) (s : Colour) (engine : EngineRun) (bytes : List ℕ) (used : ℕ) (fault : Option SideFault)
    (c2 : Controller) → IsSound c → c.verdict ≡ None → (side_of c.sides s).up ≡ Some engine
    → HearsUp MayKeep c s engine bytes used fault c2 → IsSound c2
up_sound c s engine bytes used fault c2 h none up (HearsUp.replied {value = reply} first) =
    reply_sound c s engine reply h none up
up_sound c s engine bytes used fault c2 h none up (HearsUp.faulted first) = downed_sound c s h
up_sound c s engine bytes used fault c2 h none up (HearsUp.nothing_yet {kept = text} quiet is) =
    quiet_sound c s engine (engine.reader ++ bytes) text h none up quiet is

pub hears_sound : (c : Controller) (s : Colour) (bytes : List ℕ) (used : ℕ) (fault : Option SideFault)
    (c2 : Controller) → IsSound c → Hears c s bytes used fault c2 → IsSound c2
hears_sound c s bytes used fault c2 h hears = by_verdict c.verdict refl hears
  where
    by_up : (up : Option EngineRun) → c.verdict ≡ None → (side_of c.sides s).up ≡ up
        → HearsWhere MayKeep c s bytes None up used fault c2 → IsSound c2
    by_up None none is ignored = subst IsSound (sym ignored.same) h
    by_up (Some engine) none is x = up_sound c s engine bytes used fault c2 h none is x

    by_verdict : (v : Option Verdict) → c.verdict ≡ v
        → HearsWhere MayKeep c s bytes v (side_of c.sides s).up used fault c2 → IsSound c2
    by_verdict (Some v) some ignored = subst IsSound (sym ignored.same) h
    by_verdict None none x = by_up (side_of c.sides s).up none refl x

pub hears_all_sound : (s : Colour) (c new : Controller) (bytes : List ℕ) (fault : Option SideFault) → IsSound c
    → HearsAll s c bytes fault new → IsSound new
hears_all_sound s c new bytes fault h HearsAllBy.used_up = h
hears_all_sound s c new bytes fault h (HearsAllBy.faulty used some heard) = hears_sound c s bytes used _ new h heard
hears_all_sound s c new bytes fault h (HearsAllBy.goes_on {mid = mid} used some heard more) =
    hears_all_sound s mid new (drop used bytes) fault (hears_sound c s bytes used _ mid h heard) more

-- ---- what a side that is heard may be asked for

pub oldest_fits : (game : GameRecord) (pending : Option Colour) (s : Colour) (n : ℕ) (entries : List SentCommand)
    → IsGame game → HasPlan game pending s n entries
    → IfSome (oldest entries) (λ entry. MayBeAnswered game entry.command)
oldest_fits game pending s n [] g plan = tt
oldest_fits game pending s n (entry ∷ entries) g (inl plan) = command_fits game n entry.command g.handicap plan.0
oldest_fits game pending s n (entry ∷ entries) g (inr (inl asked)) =
    let same : entry ≡ asked.entry = first_is (entry ∷ entries) entry entries asked.entry refl asked.alone in
    subst (MayBeAnswered game) (sym (ap (λ (x : SentCommand). x.command) same ∙ asked.genmove)) tt
oldest_fits game pending s n (entry ∷ entries) g (inr (inr (is, undo))) =
    let same : entry ≡ undo.entry = first_is (entry ∷ entries) entry entries undo.entry refl undo.alone in
    subst (MayBeAnswered game) (sym (ap (λ (x : SentCommand). x.command) same ∙ undo.undo)) tt

in_script_few : (commands : List Command) (n : ℕ) (entries : List SentCommand) → InScript commands n entries
    → n ≤ length commands
in_script_few commands n [] plan = plan
in_script_few commands n (entry ∷ entries) plan = omega (arith, below_length commands n entry.command plan.0)

-- an engine has confirmed the whole script at most
pub confirmed_few : (c : Controller) (s : Colour) (engine : EngineRun) → IsSound c → c.verdict ≡ None
    → (side_of c.sides s).up ≡ Some engine → engine.confirmed ≤ length (script c.game)
confirmed_few c s engine h none up = let e = my_engine c s engine h up in by_plan (e.under_way none).plan
  where
    by_plan : HasPlan c.game c.pending s engine.confirmed engine.unanswered → engine.confirmed ≤ length (script c.game)
    by_plan (inl plan) = in_script_few (script c.game) engine.confirmed engine.unanswered plan
    by_plan (inr (inl asked)) = omega (arith, asked.all)
    by_plan (inr (inr (is, undo))) =
        let t = taken_at c s h none is in
        let same : Some t.engine ≡ Some engine = sym t.up ∙ up in
        let e : t.engine ≡ engine = cc in
        omega (arith, t.all, ap (λ (x : EngineRun). x.confirmed) e)

pub may_hear : (c : Controller) (s : Colour) → IsSound c → c.verdict ≡ None → MayHear c s
may_hear c s h none =
    let ends : VerdictFits c None = subst (VerdictFits c) none h.ends in
    record {
      room = omega (arith, ends.0, h.setup.moves.1);
      engine = by_up (side_of c.sides s).up refl;
    }
  where
    by_up : (u : Option EngineRun) → (side_of c.sides s).up ≡ u → IfSome u (MayReply c.game)
    by_up None up = tt
    by_up (Some engine) up =
        let e = my_engine c s engine h up in
        record {
          answered = oldest_fits c.game c.pending s engine.confirmed engine.unanswered h.game (e.under_way none).plan;
          confirmed = omega (
            arith,
            confirmed_few c s engine h none up,
            script_few c.game,
            h.few_moves,
            h.setup.moves.1,
          );
        }

pub none_of : {A : Type 0} (o : Option A) → is_some o ≡ false → o ≡ None
none_of None e = refl
none_of (Some x) e = absurd (cc)
