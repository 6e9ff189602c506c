-- Of bytes that are heard, once or all of a piece, a retake is reported for each that is counted.
use Rattle.std.proofs.Common.{◌≡◌, ◌+◌, ◌-◌, ◌<◌, ◌≤◌, ℕ, zero, suc, List, [], ◌∷◌, ◌++◌, length, map, drop, Option}
use Rattle.std.proofs.Common.{Some, None, Bool, true, false, refl, sym, ◌∙◌, ap, subst, arith, inl, inr, length-append}
use Rattle.std.proofs.Common.{cond, get_or, slice_set}
use Rattle.std.specs.Prelude.{◌⊎◌, IsSome, slice_get, option_map}
use Rattle.std.specs.Option.{option_to_list}
use Rattle.std.proofs.lemmas.List.{length-map}
use Rattle.std.proofs.lemmas.Option.{slice_get-map}
use Rattle.go_base.specs.Colour.{other}
use Rattle.go_base.specs.declared.colours.Colour.{Colour}
use Rattle.go_base.specs.declared.moves.Move.{Move}
use Rattle.go_board.specs.Game.{GameRecord}
use Rattle.gtp_wire.specs.declared.commands.Command.TheVariants as command
use Rattle.gtp_wire.specs.declared.replies.Reply.{Reply}
use Rattle.gtp_match.specs.Controller.{with_side_up}
use Rattle.gtp_match.specs.ReplyTable.{outcome, after_outcome, retaken_at, refused}
use Rattle.gtp_match.specs.Retakes.{retakes_of, with_retake, total_of}
use Rattle.gtp_match.specs.Reporting.{HearsOnce, HearsChunk}
use Rattle.gtp_match.specs.Retaking.{retake_by, retake_of, IsOfLastMove, AreReported}
use Rattle.gtp_match.specs.Script.{script, handicap_commands}
use Rattle.gtp_match.specs.Sides.{side_of, heard_reply, confirmed, taken_back}
use Rattle.gtp_match.specs.Sound.{InScript, HasPlan, IsIdle, IsSound}
use Rattle.gtp_match.specs.Taking.{may_retake, has_all}
use Rattle.gtp_match.specs.Unanswered.{oldest}
use Rattle.gtp_match.specs.declared.controller.Controller.{Controller}
use Rattle.gtp_match.specs.declared.losses.Loss.{Loss}
use Rattle.gtp_match.specs.declared.reports.Retake.{Retake}
use Rattle.gtp_match.specs.declared.sides.EngineRun.{EngineRun}
use Rattle.gtp_match.specs.declared.reply_table.Outcome.{Outcome}
use Rattle.gtp_match.specs.declared.reply_table.Outcome.TheVariants.{Down, Unfit, Forfeits, Confirms, Resigns, Moves}
use Rattle.gtp_match.specs.declared.reply_table.Outcome.TheVariants.{Refuses, TakesBack, Keeps}
use Rattle.gtp_match.specs.declared.unanswered.SentCommand.{SentCommand}
use Rattle.gtp_match.specs.declared.verdicts.SideFault.{SideFault}
use Rattle.gtp_match.specs.declared.verdicts.Verdict.{Verdict}
use Rattle.gtp_match.proofs.hearing.Exactly.{wider}
use Rattle.gtp_match.proofs.reporting.Exact.{once_exact}
use Rattle.gtp_match.proofs.soundness.Heard.{hears_sound}
use Rattle.gtp_match.proofs.taking_back.MayRetake.{met_if, one_more}
use Rattle.gtp_match.proofs.replies.Outcomes.{Answered, answered_by, first_is}
use Rattle.gtp_match.proofs.soundness.Replies.{few_left}
use Rattle.gtp_match.proofs.hearing.Changes.{up_in, up_there, down_there}
use Rattle.gtp_match.proofs.reporting.RetakeOnce.{Reports, reports, IsRefusal, which, plan_of, nothing_more, idle_there}
use Rattle.gtp_match.proofs.reporting.RetakeOnce.{idle_reports, retake_idles}

-- ---- one retake more, of all

total_more : (xs : List ℕ) (k : ℕ) → k < length xs
    → total_of (slice_set xs k (get_or xs k 0 + 1)) ≡ total_of xs + 1
total_more [] k inside = absurd (omega (arith, inside))
total_more (x ∷ xs) zero inside = omega arith
total_more (x ∷ xs) (suc k) inside = omega (arith, total_more xs k (omega (arith, inside)))

counts_more : (retakes : List ℕ) (number : ℕ) → 0 < number → number ≤ length retakes
    → total_of (with_retake number retakes) ≡ total_of retakes + 1
counts_more retakes zero some inside = absurd (omega (arith, some))
counts_more retakes (suc k) some inside =
    let e : suc k - 1 ≡ k = omega arith in
    rw e (total_more retakes k (omega (arith, inside)))

-- ---- the script's last command is the `play` of the last move

last_joined : {X : Type 0} (xs ys : List X) (n k : ℕ) (x : X) → slice_get ys k ≡ Some x → k + 1 ≡ length ys
    → n + 1 ≡ length (xs ++ ys) → slice_get (xs ++ ys) n ≡ Some x
last_joined [] ys n k x there last all =
    let same : n ≡ k = omega (arith, last, all) in ap (slice_get ys) same ∙ there
last_joined (y ∷ xs) ys zero k x there last all =
    absurd (omega (arith, last, all, length-append xs ys))
last_joined (y ∷ xs) ys (suc n) k x there last all = last_joined xs ys n k x there last (omega (arith, all))

last_play : (game : GameRecord) (n place : ℕ) (move : Move) → slice_get game.moves place ≡ Some move
    → place + 1 ≡ length game.moves → n + 1 ≡ length (script game)
    → slice_get (script game) n ≡ Some (command.Play move)
last_play game n place move there last all =
    last_joined (command.Boardsize game.size ∷ command.Komi game.komi ∷ command.ClearBoard
    ∷ handicap_commands game.handicap) (map command.Play game.moves) n place (command.Play move)
    (slice_get-map command.Play game.moves place ∙ ap (option_map command.Play) there)
    (omega (arith, last, length-map game.moves command.Play)) all

-- ---- a refusal that is retaken

-- the command that was refused is the script's
refused_play : (c : Controller) (side : Colour) (engine : EngineRun)
    → (a : Answered c.game c.pending side engine Refuses)
    → HasPlan c.game c.pending side engine.confirmed engine.unanswered
    → slice_get (script c.game) engine.confirmed ≡ Some a.entry.command
refused_play c side engine a (inl plan) =
    let all : InScript (script c.game) engine.confirmed (a.entry ∷ a.more) =
    subst (InScript (script c.game) engine.confirmed) a.entries_are plan in
    all.0
refused_play c side engine a (inr (inl asked)) =
    let same : a.entry ≡ asked.entry =
    first_is engine.unanswered a.entry a.more asked.entry a.entries_are asked.alone in
    let clash : command.Play a.fits.0 ≡ command.Genmove side =
    sym a.fits.1 ∙ ap (λ (x : SentCommand). x.command) same ∙ asked.genmove in
    absurd (cc)
refused_play c side engine a (inr (inr is_given)) =
    let same : a.entry ≡ is_given.1.entry =
    first_is engine.unanswered a.entry a.more is_given.1.entry a.entries_are is_given.1.alone in
    let clash : command.Play a.fits.0 ≡ command.Undo =
    sym a.fits.1 ∙ ap (λ (x : SentCommand). x.command) same ∙ is_given.1.undo in
    absurd (cc)

same_some : {X : Type 0} (x y : X) → Some x ≡ Some y → x ≡ y
same_some x y e = cc

of_last_move : (c new : Controller) (side : Colour) (engine : EngineRun) (reply : Reply) (text : List ℕ)
    → IsSound c → c.verdict ≡ None → (side_of c.sides side).up ≡ Some engine
    → outcome c.game side (oldest engine.unanswered) reply ≡ Refuses → may_retake c side engine ≡ true
    → new.retakes ≡ with_retake (length c.game.moves) c.retakes
    → IsOfLastMove c new side (retake_of c engine text)
of_last_move c new side engine reply text sound none up is may more =
    let plan = plan_of c side engine sound none up in
    let a = answered_by c.game c.pending side engine reply Refuses (λ f x. cc) plan is in
    let idle = nothing_more c side engine reply sound none up is may in
    let few = few_left engine.unanswered idle in
    let met = met_if c side engine may in
    let inside : length c.game.moves ≤ length c.retakes =
    omega (arith, sound.few_moves, sound.setup.moves.1, sound.retakes.places) in
    let one = one_more c.retakes (length c.game.moves) (omega (arith, met.last)) inside in
    let of_new : retakes_of new.retakes (length c.game.moves) ≡ retakes_of c.retakes (length c.game.moves) + 1 =
    ap (λ (xs : List ℕ). retakes_of xs (length c.game.moves)) more ∙ one in
    let low : retakes_of c.retakes (length c.game.moves) < 3 =
    subst (λ n. retakes_of c.retakes n < 3) met.last met.few in
    record {
      place = met.place;
      move = met.move;
      there = met.there;
      last = met.last;
      by_other = met.by_other;
      entry = a.entry;
      oldest = ap oldest a.entries_are;
      play = same_some a.entry.command (command.Play met.move)
          (sym (refused_play c side engine a plan)
          ∙ last_play c.game engine.confirmed met.place met.move met.there met.last met.last_command);
      alone = omega (arith, few, ap length a.entries_are);
      count = sym (ap (retakes_of new.retakes) met.last ∙ of_new);
      first = omega arith;
      few = omega (arith, low);
    }

-- ---- bytes that are heard once

-- nothing more is reported of this side: there is a verdict, or nothing of it is unanswered
abbrev IsDone : Controller → Colour → Type 0
IsDone c side = IsSome c.verdict ⊎ IsIdle (side_of c.sides side).up

-- a retake that is reported, and counted
record Counts (c new : Controller) (side : Colour) (retake : Retake) : Type 0 where
  none : c.verdict ≡ None
  is : IsOfLastMove c new side retake
  more : new.retakes ≡ with_retake (length c.game.moves) c.retakes

-- What bytes that are heard once leave: no retake is reported or counted, and the game stays, or nothing more is
-- reported; or one is reported and counted, and nothing more is reported.
data Once (c new : Controller) (side : Colour) (retake : Option Retake) : Type 0 where
  no_retake : retake ≡ None → new.retakes ≡ c.retakes → (new.game ≡ c.game) ⊎ IsDone new side → Once c new side retake
  one_retake : (r : Retake) → retake ≡ Some r → Counts c new side r → IsDone new side → Once c new side retake

some_of : {X : Type 0} (o : Option X) (x : X) → o ≡ Some x → IsSome o
some_of {X} o x e = subst (λ (p : Option X). IsSome p) (sym e) refl

-- where the new match is this one
module _ (c new : Controller) (side : Colour) (retake : Option Retake) (nothing_given : retake ≡ None) where
  over : (x : Controller) (v : Verdict) → new ≡ x → x.retakes ≡ c.retakes → x.verdict ≡ Some v
      → Once c new side retake
  over x v is same given =
      Once.no_retake nothing_given (ap (λ (y : Controller). y.retakes) is ∙ same)
      (inr (inl (some_of new.verdict v (ap (λ (y : Controller). y.verdict) is ∙ given))))

  idles : (x : Controller) (engine : EngineRun) → new ≡ x → x.retakes ≡ c.retakes
      → (side_of x.sides side).up ≡ Some engine → engine.unanswered ≡ [] → Once c new side retake
  idles x engine is same up idle =
      Once.no_retake nothing_given (ap (λ (y : Controller). y.retakes) is ∙ same)
      (inr (inr (idle_there new side engine (ap (up_in side) is ∙ up) idle)))

  stays : (x : Controller) → new ≡ x → x.retakes ≡ c.retakes → x.game ≡ c.game → Once c new side retake
  stays x is same game =
      Once.no_retake nothing_given (ap (λ (y : Controller). y.retakes) is ∙ same)
      (inl (ap (λ (y : Controller). y.game) is ∙ game))

  goes_down : (x : Controller) → new ≡ x → x.retakes ≡ c.retakes → (side_of x.sides side).up ≡ None
      → Once c new side retake
  goes_down x is same down =
      Once.no_retake nothing_given (ap (λ (y : Controller). y.retakes) is ∙ same)
      (inr (inr (subst (λ (u : Option EngineRun). IsIdle u) (sym (ap (up_in side) is ∙ down)) tt)))

-- a reply that reports no retake
by_other_outcome : (c new : Controller) (side : Colour) (engine : EngineRun) (reply : Reply) (retake : Option Retake)
    (o : Outcome) → IsSound c → c.verdict ≡ None → (side_of c.sides side).up ≡ Some engine → retake ≡ None
    → outcome c.game side (oldest engine.unanswered) reply ≡ o
    → (o ≡ Refuses → may_retake c side engine ≡ false)
    → new ≡ after_outcome c side (heard_reply engine) o → Once c new side retake
by_other_outcome c new side engine reply retake (Down fault) sound none up nothing e other is =
    goes_down c new side retake nothing (after_outcome c side (heard_reply engine) (Down fault)) is refl
    (down_there c side)
by_other_outcome c new side engine reply retake Unfit sound none up nothing e other is =
    over c new side retake nothing (after_outcome c side (heard_reply engine) Unfit) _ is refl refl
by_other_outcome c new side engine reply retake (Forfeits cause) sound none up nothing e other is =
    over c new side retake nothing (after_outcome c side (heard_reply engine) (Forfeits cause)) _ is refl refl
by_other_outcome c new side engine reply retake Confirms sound none up nothing e other is =
    stays c new side retake nothing (after_outcome c side (heard_reply engine) Confirms) is refl refl
by_other_outcome c new side engine reply retake Resigns sound none up nothing e other is =
    over c new side retake nothing (after_outcome c side (heard_reply engine) Resigns) _ is refl refl
by_other_outcome c new side engine reply retake (Moves v) sound none up nothing e other is =
    let plan = plan_of c side engine sound none up in
    let a = answered_by c.game c.pending side engine reply (Moves v) (λ f x. cc) plan e in
    idles c new side retake nothing (after_outcome c side (heard_reply engine) (Moves v))
    (confirmed (heard_reply engine)) is refl (up_there c.sides side (confirmed (heard_reply engine)))
    (ap (drop 1) a.fits.alone)
by_other_outcome c new side engine reply retake Refuses sound none up nothing e other is =
    over c new side retake nothing (refused c side (heard_reply engine) false) _
    (is ∙ ap (refused c side (heard_reply engine)) (other refl)) refl refl
by_other_outcome c new side engine reply retake TakesBack sound none up nothing e other is =
    let plan = plan_of c side engine sound none up in
    let a = answered_by c.game c.pending side engine reply TakesBack (λ f x. cc) plan e in
    idles c new side retake nothing (after_outcome c side (heard_reply engine) TakesBack)
    (taken_back (heard_reply engine)) is refl (up_there c.sides side (taken_back (heard_reply engine)))
    (ap (drop 1) a.fits.1.alone)
by_other_outcome c new side engine reply retake Keeps sound none up nothing e other is =
    over c new side retake nothing (after_outcome c side (heard_reply engine) Keeps) _ is refl refl

-- a refusal of which no retake is reported may not be retaken
not_retaken : (c : Controller) (side : Colour) (engine : EngineRun) (text : List ℕ)
    → retake_by c side engine text Refuses ≡ None → may_retake c side engine ≡ false
not_retaken c side engine text nothing = by_may (may_retake c side engine) nothing
  where
    by_may : (b : Bool) → cond b (Some (retake_of c engine text)) None ≡ None → b ≡ false
    by_may false e = refl
    by_may true e = absurd (cc)

retaken_more : (c : Controller) (side : Colour) (engine : EngineRun) (held : Bool)
    → (retaken_at c side engine held).retakes ≡ with_retake (length c.game.moves) c.retakes
retaken_more c side engine true = refl
retaken_more c side engine false = refl

step : (c new : Controller) (side : Colour) (retake : Option Retake) → IsSound c → Reports c new side retake
    → Once c new side retake
step c new side retake sound (Reports.replied engine reply text none up is e) =
    by_kind (which c side engine text o retake e)
  where
    o : Outcome
    o = outcome c.game side (oldest engine.unanswered) reply

    by_kind : IsRefusal c side engine text o retake → Once c new side retake
    by_kind (IsRefusal.is_not nothing) =
        let other : o ≡ Refuses → may_retake c side engine ≡ false =
        λ refuses. not_retaken c side engine text (sym (ap (retake_by c side engine text) refuses) ∙ sym e ∙ nothing) in
        by_other_outcome c new side engine reply retake o sound none up nothing refl other is
    by_kind (IsRefusal.is_retaken refuses may it) =
        let goes : new ≡ after_outcome c side (heard_reply engine) Refuses =
        is ∙ ap (after_outcome c side (heard_reply engine)) refuses in
        let goes_so : new ≡ refused c side (heard_reply engine) true =
        goes ∙ ap (refused c side (heard_reply engine)) may in
        let more : new.retakes ≡ with_retake (length c.game.moves) c.retakes =
        ap (λ (x : Controller). x.retakes) goes_so
        ∙ retaken_more c side (heard_reply engine) (has_all c.game (side_of c.sides (other side)).up) in
        Once.one_retake (retake_of c engine text) it
        (record {
          none = none;
          is = of_last_move c new side engine reply text sound none up refuses may more;
          more = more;
        })
        (inr (retake_idles c new side retake sound (Reports.replied engine reply text none up is e)
        (some_of retake (retake_of c engine text) it)))
step c new side retake sound (Reports.faulted none is nothing) =
    goes_down c new side retake nothing _ is refl (down_there c side)
step c new side retake sound (Reports.kept_quiet engine kept none up is nothing) =
    stays c new side retake nothing (with_side_up c side (record engine { reader = kept })) is refl refl
step c new side retake sound (Reports.was_down none up is nothing) = stays c new side retake nothing c is refl refl
step c new side retake sound (Reports.was_over v is_over is nothing) = stays c new side retake nothing c is refl refl

-- ---- all bytes

-- once nothing more is reported, it stays so
done_step : (c new : Controller) (side : Colour) (retake : Option Retake) → Reports c new side retake → IsDone c side
    → (retake ≡ None) × (new.retakes ≡ c.retakes) × IsDone new side
done_step c new side retake r (inr idle) =
    let s = idle_reports c new side retake r idle in (s.nothing, s.retakes, inr s.idle)
done_step c new side retake r (inl given) = by_way r
  where
    clash : c.verdict ≡ None → ⊥
    clash none = let no : IsSome {T = Verdict} None = subst (λ (v : Option Verdict). IsSome v) none given in cc

    by_way : Reports c new side retake → (retake ≡ None) × (new.retakes ≡ c.retakes) × IsDone new side
    by_way (Reports.replied engine reply text none up is e) = absurd (clash none)
    by_way (Reports.faulted none is nothing) = absurd (clash none)
    by_way (Reports.kept_quiet engine kept none up is nothing) = absurd (clash none)
    by_way (Reports.was_down none up is nothing) = absurd (clash none)
    by_way (Reports.was_over v is_over is nothing) = (
      nothing,
      ap (λ (x : Controller). x.retakes) is,
      inl (subst (λ (x : Controller). IsSome x.verdict) (sym is) given),
    )

none_listed : (retake : Option Retake) → retake ≡ None → option_to_list retake ≡ []
none_listed retake e = ap option_to_list e

none_joined : (retake : Option Retake) (later : List Retake) → retake ≡ None → later ≡ []
    → option_to_list retake ++ later ≡ []
none_joined retake later e f = ap (λ (r : Option Retake). option_to_list r ++ later) e ∙ f

done_all : (side : Colour) (c new : Controller) (bytes : List ℕ) (fault : Option SideFault) (retakes : List Retake)
    (loss : Option Loss) → HearsChunk side c bytes fault retakes loss new → IsDone c side
    → (retakes ≡ []) × (new.retakes ≡ c.retakes)
done_all side c new bytes fault retakes loss HearsChunk.used_up done = (refl, refl)
done_all side c new bytes fault retakes loss (HearsChunk.faulty used retake some h) done =
    let d = done_step c new side retake (reports c new side bytes used _ retake loss h) done in
    (none_listed retake d.0, d.1)
done_all side c new bytes fault retakes loss
    (HearsChunk.goes_on {mid = mid} {retakes = more} {later = later} used retake first some h rest) done =
    let d = done_step c mid side retake (reports c mid side bytes used None retake first h) done in
    let l = done_all side mid new (drop used bytes) fault more later rest d.2 in
    (none_joined retake more d.0 l.0, l.1 ∙ d.1)

-- What all bytes of a piece report: nothing, or one retake.
data All (c new : Controller) (side : Colour) (retakes : List Retake) : Type 0 where
  none_at_all : retakes ≡ [] → new.retakes ≡ c.retakes → All c new side retakes
  one_of_all : (r : Retake) → retakes ≡ r ∷ [] → Counts c new side r → All c new side retakes

-- what follows leaves the retakes
counts_on : (c mid new : Controller) (side : Colour) (r : Retake) → Counts c mid side r → new.retakes ≡ mid.retakes
    → Counts c new side r
counts_on c mid new side r one same =
    let is = one.is in
    record {
      none = one.none;
      is = record {
        place = is.place;
        move = is.move;
        there = is.there;
        last = is.last;
        by_other = is.by_other;
        entry = is.entry;
        oldest = is.oldest;
        play = is.play;
        alone = is.alone;
        count = is.count ∙ ap (λ (xs : List ℕ). retakes_of xs (is.place + 1)) (sym same);
        first = is.first;
        few = is.few;
      };
      more = same ∙ one.more;
    }

-- what came before left the game and the retakes
counts_from : (c mid new : Controller) (side : Colour) (r : Retake) → Counts mid new side r → c.verdict ≡ None
    → mid.game ≡ c.game → mid.retakes ≡ c.retakes → Counts c new side r
counts_from c mid new side r one none game same =
    let is = one.is in
    let moves : mid.game.moves ≡ c.game.moves = ap (λ (g : GameRecord). g.moves) game in
    record {
      none = none;
      is = record {
        place = is.place;
        move = is.move;
        there = subst (λ (ms : List Move). slice_get ms is.place ≡ Some is.move) moves is.there;
        last = subst (λ (ms : List Move). is.place + 1 ≡ length ms) moves is.last;
        by_other = is.by_other;
        entry = is.entry;
        oldest = is.oldest;
        play = is.play;
        alone = is.alone;
        count = is.count;
        first = is.first;
        few = is.few;
      };
      more =
          one.more
          ∙ ap (λ (ms : List Move). with_retake (length ms) mid.retakes) moves
          ∙ ap (with_retake (length c.game.moves)) same;
    }

-- a verdict that was given stays
verdict_before : (c new : Controller) (side : Colour) (retake : Option Retake) → Reports c new side retake
    → new.verdict ≡ None → c.verdict ≡ None
verdict_before c new side retake (Reports.replied engine reply text none up is e) now = none
verdict_before c new side retake (Reports.faulted none is nothing) now = none
verdict_before c new side retake (Reports.kept_quiet engine kept none up is nothing) now = none
verdict_before c new side retake (Reports.was_down none up is nothing) now = none
verdict_before c new side retake (Reports.was_over v is_over is nothing) now =
    sym (ap (λ (x : Controller). x.verdict) is) ∙ now

all_from : (side : Colour) (c new : Controller) (bytes : List ℕ) (fault : Option SideFault) (retakes : List Retake)
    (loss : Option Loss) → IsSound c → HearsChunk side c bytes fault retakes loss new → All c new side retakes
all_from side c new bytes fault retakes loss sound HearsChunk.used_up = All.none_at_all refl refl
all_from side c new bytes fault retakes loss sound (HearsChunk.faulty used retake some h) =
    by_step (step c new side retake sound (reports c new side bytes used _ retake loss h))
  where
    by_step : Once c new side retake → All c new side (option_to_list retake)
    by_step (Once.no_retake is same left) = All.none_at_all (none_listed retake is) same
    by_step (Once.one_retake r is counts done) = All.one_of_all r (ap option_to_list is) counts
all_from side c new bytes fault retakes loss sound
    (HearsChunk.goes_on {mid = mid} {retakes = more} {later = later} used retake first some h rest) =
    by_step (step c mid side retake sound r)
    (all_from side mid new (drop used bytes) fault more later
    (hears_sound c side bytes used None mid sound
    (wider c side bytes used None mid (once_exact c mid side bytes used None retake first h))) rest)
  where
    r : Reports c mid side retake
    r = reports c mid side bytes used None retake first h

    by_later : mid.retakes ≡ c.retakes → retake ≡ None → mid.game ≡ c.game → All mid new side more
        → All c new side (option_to_list retake ++ more)
    by_later same is game (All.none_at_all none_later same_later) =
        All.none_at_all (none_joined retake more is none_later) (same_later ∙ same)
    by_later same is game (All.one_of_all x is_later counts) =
        All.one_of_all x (ap (λ (o : Option Retake). option_to_list o ++ more) is ∙ is_later)
        (counts_from c mid new side x counts (verdict_before c mid side retake r counts.none) game same)

    by_step : Once c mid side retake → All mid new side more → All c new side (option_to_list retake ++ more)
    by_step (Once.no_retake is same (inl game)) all = by_later same is game all
    by_step (Once.no_retake is same (inr done)) all =
        let l = done_all side mid new (drop used bytes) fault more later rest done in
        All.none_at_all (none_joined retake more is l.0) (l.1 ∙ same)
    by_step (Once.one_retake x is counts done) all =
        let l = done_all side mid new (drop used bytes) fault more later rest done in
        All.one_of_all x
        (ap (λ (o : Option Retake). option_to_list o ++ more) is ∙ ap (λ (t : List Retake). x ∷ t) l.0)
        (counts_on c mid new side x counts l.1)

-- ---- the law

reported : (side : Colour) (c new : Controller) (retakes : List Retake) → IsSound c → All c new side retakes
    → AreReported side c new retakes
reported side c new retakes sound (All.none_at_all is same) = record {
  counted = omega (arith, ap total_of same, ap (λ (rs : List Retake). length rs) is);
  each = λ place r there.
      let no : None ≡ Some r = sym (ap (λ (rs : List Retake). slice_get rs place) is) ∙ there in absurd (cc);
  one = omega (arith, ap (λ (rs : List Retake). length rs) is);
  over = λ given. is;
}
reported side c new retakes sound (All.one_of_all x is counts) =
    let last = counts.is.last in
    let inside : length c.game.moves ≤ length c.retakes =
    omega (arith, sound.few_moves, sound.setup.moves.1, sound.retakes.places) in
    let more = counts_more c.retakes (length c.game.moves) (omega (arith, last)) inside in
    record {
      counted = omega (arith, ap total_of counts.more, more, ap (λ (rs : List Retake). length rs) is);
      each = λ place r there. by_place place r (sym (ap (λ (rs : List Retake). slice_get rs place) is) ∙ there);
      one = omega (arith, ap (λ (rs : List Retake). length rs) is);
      over = λ given.
          let no : IsSome {T = Verdict} None = subst (λ (v : Option Verdict). IsSome v) counts.none given in
          absurd (cc);
    }
  where
    by_place : (place : ℕ) (r : Retake) → slice_get (x ∷ []) place ≡ Some r → IsOfLastMove c new side r
    by_place zero r e = let same : x ≡ r = cc in subst (IsOfLastMove c new side) same counts.is
    by_place (suc place) r e = absurd (cc)

pub once_reported : (c new : Controller) (side : Colour) (bytes : List ℕ) (used : ℕ) (fault : Option SideFault)
    (retake : Option Retake) (loss : Option Loss) → IsSound c → HearsOnce c side bytes used fault retake loss new
    → AreReported side c new (option_to_list retake)
once_reported c new side bytes used fault retake loss sound h =
    reported side c new (option_to_list retake) sound
    (by_step (step c new side retake sound (reports c new side bytes used fault retake loss h)))
  where
    by_step : Once c new side retake → All c new side (option_to_list retake)
    by_step (Once.no_retake is same left) = All.none_at_all (none_listed retake is) same
    by_step (Once.one_retake r is counts done) = All.one_of_all r (ap option_to_list is) counts

pub all_reported : (c new : Controller) (side : Colour) (bytes : List ℕ) (fault : Option SideFault)
    (retakes : List Retake) (loss : Option Loss) → IsSound c → HearsChunk side c bytes fault retakes loss new
    → AreReported side c new retakes
all_reported c new side bytes fault retakes loss sound h =
    reported side c new retakes sound (all_from side c new bytes fault retakes loss sound h)
