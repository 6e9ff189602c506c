-- What is written after an exchange.
use Rattle.std.proofs.Common.{◌≡◌, ◌∙◌, ap, refl, sym, subst, Bool, true, false, List, [], ◌∷◌, ◌++◌, ℕ, Option, Some}
use Rattle.std.specs.Prelude.{not, unwrap_or}
use Rattle.byte_streams.specs.declared.calls.WriteOnce.{Ghosts as WriterGhosts}
use Rattle.byte_streams.specs.Writing.{AreFlushed, line_flushed, no_line}
use Rattle.gtp_process.specs.declared.starter.Process.{Ghosts}
use Rattle.gtp_process.specs.Starts.{Attempts}
use Rattle.gtp_check_texts.specs.declared.complaint.Complaint.{Complaint}
use Rattle.gtp_check_talk.specs.declared.fault.Fault.{Fault}
use Rattle.cli.specs.declared.failure.Failure.{Failure}
use Rattle.gtp_check_shortening.specs.declared.flat.Shortening.{Shortening}
use Rattle.gtp_check_judge.specs.declared.asking.CheckCommand.{CheckCommand}
use Rattle.gtp_check_course.specs.declared.plan.Plan.{Plan}
use Rattle.gtp_check_talk.specs.declared.said.Purpose.{Purpose}
use Rattle.gtp_check_app.specs.declared.tally.Tally.{Tally}
use Rattle.gtp_check_texts.specs.Complaints.{complaint_lines}
use Rattle.gtp_check_talk.specs.Dialogues.{IsTrial, Wrong, right, unstarted, wrong, wrong_purpose, wrong_talk}
use Rattle.gtp_check_app.specs.Progress.{IsShown, cleared, clearing, looking, looking_line}
use Rattle.gtp_check_shortening.specs.Shortening.{shortened}
use Rattle.gtp_check_app.specs.Trials.{LastGames, shortenings_of}
use Rattle.gtp_check_app.specs.Tally.{found, is_shown}
use Rattle.gtp_check_app.specs.declared.streams.Streams.{Streams}
use Rattle.gtp_check_app.specs.Sequence.{Known, Point, StopsIn, first_line_broke, no_memory_for_first_line}
use Rattle.gtp_check_app.specs.Sequence.{complaint_broke as turn_complaint_broke, no_memory_to_complain, point}
use Rattle.gtp_check_talk.specs.Dialogues.{Standing, Trial}
use Rattle.gtp_check_app.specs.Turns.{standing_in}
use Rattle.gtp_check_app.specs.Turns.{Closes, Complains, Exchanges, IsComplaint, IsReduced, IsShortened, IsTried}
use Rattle.gtp_check_app.specs.Turns.{Moment, Reduces, Shortens, State, TriesOne, caption_of, found_in}
use Rattle.gtp_check_app.specs.Turns.{hidden, missed, moment, none_left, process_of, shortened_so, shown, shown_of}
use Rattle.gtp_check_app.specs.Turns.{waiting}
use Rattle.gtp_check_shortening.specs.Reduction.{Reduction}
use Rattle.gtp_check_app.specs.private.Steps.{ComplaintIsFlushed, ComplaintStops, FirstIsFlushed, FirstStops, Settles}
use Rattle.gtp_check_app.specs.private.Steps.{StopsAfter, complaint_broke, complaint_refused, first_broke}
use Rattle.gtp_check_app.specs.private.Steps.{first_flushed, first_refused, stops_after}
use Rattle.gtp_check_app.specs.Unjudged.{is_blamed}
use Rattle.gtp_check_app.proofs.Progressing.{both_shown, none_shown}

-- what `not` says of the other
not-true : (so : Bool) → not so ≡ true → so ≡ false
not-true true is = absurd (cc is)
not-true false is = refl

pub not-false : (so : Bool) → not so ≡ false → so ≡ true
not-false true is = refl
not-false false is = absurd (cc is)

-- lines were flushed, and then others
both_out : {W : Type 0} (known : WriterGhosts W) (one other : List (List ℕ)) (before between after : W)
    → AreFlushed known one before between → AreFlushed known other between after
    → AreFlushed known (one ++ other) before after
both_out known one other before between after no_line later = later
both_out known one other before between after (line_flushed {lines = lines} {mid = mid} first rest) later =
    line_flushed first (both_out known lines other mid between after rest later)

module _ {P O E : Type 0} (known : Known P O E) (plan : Plan) (before : Moment P) (mid : State P) (fault : Fault)
    (wrong : Wrong) (purpose : Purpose) (tally : Tally) (closes : Closes known.processes fault before.state wrong mid)
    (judged : is_blamed plan.unasked (Some fault) ≡ true) (same : purpose ≡ wrong_purpose wrong)
    (now : tally ≡ found mid.tally purpose.lesson fault) where
  found_now : record mid { tally = tally } ≡ found_in mid wrong fault
  found_now =
      ap (λ (t : Tally). record mid { tally = t })
      (now ∙ ap (λ (p : Purpose). found mid.tally p.lesson fault) same)

  pub is_hidden : (answer : Bool) → answer ≡ is_shown mid.tally fault → answer ≡ false
      → (streams : Streams O E)
      → ComplaintIsFlushed known plan (record { now = before; streams = streams }) fault
      (point (record mid { tally = tally }) before.asked streams)
  is_hidden answer is so streams =
      subst
      (λ (last : State P).
      ComplaintIsFlushed known plan (record { now = before; streams = streams }) fault
      (point last before.asked streams))
      (sym found_now)
      (record {
        said = [];
        complains = hidden wrong (not-true _ judged) closes (sym is ∙ so);
        flushed = no_line;
        shown = none_shown known.errs plan.shows_progress streams.errors;
      })

  pub complained : (answer : Bool) → answer ≡ is_shown mid.tally fault → answer ≡ true
      → {shorter : Option Wrong} {after : Moment P}
      → IsShortened known.processes plan wrong (moment (record mid { tally = tally }) before.asked) shorter after
      → (complaint : Complaint)
      → IsComplaint plan.rule
      (caption_of after.state.tally.complaints purpose.lesson (shown_of plan.trials shorter wrong))
      (unwrap_or shorter wrong) complaint
      → Complains known.processes plan before (Some fault) after (complaint_lines complaint ∷ [])
  complained answer is so {shorter = shorter} {after = after} shortens complaint about =
      shown wrong complaint (not-true _ judged) closes (sym is ∙ so)
      (subst
      (λ (start : State P). IsShortened known.processes plan wrong (moment start before.asked) shorter after)
      found_now shortens)
      (subst (λ (p : Purpose).
      IsComplaint plan.rule (caption_of after.state.tally.complaints p.lesson (shown_of plan.trials shorter wrong))
      (unwrap_or shorter wrong) complaint) same about)

module _ {P O E : Type 0} (known : Known P O E) (plan : Plan) where
  -- what is waited for was shown, and then what is shown before the first line and a complaint
  all_shown : (mid : State P) (line texts : List (List ℕ)) (errors seen then sees : E)
      → IsShown known.errs plan.shows_progress (waiting plan mid) errors seen
      → IsShown known.errs plan.shows_progress (clearing line) seen then
      → IsShown known.errs plan.shows_progress texts then sees
      → IsShown known.errs plan.shows_progress (waiting plan mid ++ (clearing line ++ texts)) errors sees
  all_shown mid line texts errors seen then sees waited cleared_so last =
      both_shown known.errs plan.shows_progress (waiting plan mid) (clearing line ++ texts) errors seen sees waited
      (both_shown known.errs plan.shows_progress (clearing line) texts seen then sees cleared_so last)

  -- the first line wasn't written, and so the turn stopped
  pub first_stops : (mid : Point P O E) (fault : Option Fault) (after : State P) (new : Streams O E) (why : Failure)
      → FirstStops known plan mid.now.state (is_blamed plan.unasked fault) mid.streams after new why
      → StopsAfter known plan mid fault (process_of after.engine) mid.now.asked new why
  first_stops mid fault after new why (first_broke first breaks wrote same) =
      stops_after (λ before errors heard waited.
      rw same
      (first_line_broke heard first breaks
      (both_shown known.errs plan.shows_progress (waiting plan heard.mid) (cleared ∷ []) errors mid.streams.errors
      new.errors waited wrote)))
  first_stops mid fault after new why (first_refused still same) =
      stops_after (λ before errors heard waited. rw (still, same) (no_memory_for_first_line heard waited))

  -- the complaint wasn't written, and so the turn stopped
  pub complaint_stops : (mid : Point P O E) (fault : Fault) (next : State P) (between : Streams O E)
      (after : Point P O E) (why : Failure) → is_blamed plan.unasked (Some fault) ≡ true
      → FirstIsFlushed known plan mid.now.state (is_blamed plan.unasked (Some fault)) mid.streams next between
      → ComplaintStops known plan (point next mid.now.asked between) fault after why
      → StopsAfter known plan mid (Some fault) (process_of after.now.state.engine) after.now.asked after.streams why
  complaint_stops mid fault next between after why judged (first_flushed line first flushed cleared_so)
      (complaint_broke {text = text} complains breaks wrote gone) =
      stops_after (λ before errors heard waited.
      rw gone
      (turn_complaint_broke heard first flushed complains breaks
      (all_shown heard.mid line (looking (text ∷ [])) errors mid.streams.errors between.errors after.streams.errors
      waited cleared_so wrote)))
  complaint_stops mid fault next between after why judged (first_flushed line first flushed cleared_so)
      (complaint_refused closes asks is wrote gone) =
      stops_after (λ before errors heard waited.
      rw gone
      (no_memory_to_complain heard (rw judged at first)
      (subst (λ (out : O). AreFlushed known.outs line mid.streams.output out) (sym is) flushed) closes asks
      (all_shown heard.mid line (looking_line ∷ []) errors mid.streams.errors between.errors after.streams.errors
      waited cleared_so wrote)))

  -- the turn with this exchange stopped
  pub stopped_in : {mid : Point P O E} {fault : Option Fault} {process : Option P} {has : Attempts P}
      {after : Streams O E} {why : Failure} → StopsAfter known plan mid fault process has after why
      → (before : State P) (errors : E) (heard : Exchanges known.processes plan before fault mid.now.state)
      → IsShown known.errs plan.shows_progress (waiting plan heard.mid) errors mid.streams.errors
      → StopsIn known plan (point before mid.now.asked (record mid.streams { errors = errors })) process has after why
  stopped_in (stops_after stops) = stops

  -- the first line was written where it is due, and nothing is complained of
  pub settles_quietly : (mid : Point P O E) (fault : Option Fault) (next : State P) (between : Streams O E)
      (after : State P)
      → FirstIsFlushed known plan mid.now.state (is_blamed plan.unasked fault) mid.streams next between
      → Complains known.processes plan (moment next mid.now.asked) fault (moment after mid.now.asked) []
      → Settles known plan mid fault (point after mid.now.asked between)
  settles_quietly mid fault next between after (first_flushed line first flushed cleared_so) complains = record {
    next = next;
    line = line;
    said = [];
    first = first;
    complains = complains;
    flushed = both_out known.outs line [] mid.streams.output between.output between.output flushed no_line;
    shown = both_shown known.errs plan.shows_progress (clearing line) [] mid.streams.errors between.errors
        between.errors cleared_so (none_shown known.errs plan.shows_progress between.errors);
  }

  -- the first line was written where it is due, and then what is due of a complaint
  pub settles_so : (mid : Point P O E) (fault : Fault) (next : State P) (between : Streams O E) (after : Point P O E)
      → FirstIsFlushed known plan mid.now.state (is_blamed plan.unasked (Some fault)) mid.streams next between
      → ComplaintIsFlushed known plan (point next mid.now.asked between) fault after
      → Settles known plan mid (Some fault) after
  settles_so mid fault next between after (first_flushed line first flushed cleared_so) out = record {
    next = next;
    line = line;
    said = out.said;
    first = first;
    complains = out.complains;
    flushed = both_out known.outs line out.said mid.streams.output between.output after.streams.output flushed
        out.flushed;
    shown = both_shown known.errs plan.shows_progress (clearing line) (looking out.said) mid.streams.errors
        between.errors after.streams.errors cleared_so out.shown;
  }

-- ---- after a complaint the engine is down

trial_down : {P : Type 0} (known : Ghosts P) (tries : Trial) (before : Standing P)
    → {result : Option Wrong} {after : Standing P} → IsTrial known tries before result after
    → before.check.exam.up ≡ false → after.check.exam.up ≡ false
trial_down known tries before (unstarted reason never) down = down
trial_down known tries before (right process ending started converses asks left) down = refl
trial_down known tries before (wrong process ending fault started ends asks left) down = refl

tried_down : {P : Type 0} (known : Ghosts P) (plan : Plan) (about : Wrong) (commands : List CheckCommand)
    (before : Moment P) → {result : Option Wrong} {after : Moment P}
    → IsTried known plan about commands before result after
    → before.state.check.exam.up ≡ false → after.state.check.exam.up ≡ false
tried_down known plan about commands before (IsTried.by_trial held) down =
    trial_down known _ (standing_in before) held down

one_down : {P : Type 0} (known : Ghosts P) (plan : Plan) (about : Wrong) (commands : List CheckCommand)
    (before : Moment P) → {result : Option Wrong} {after : Moment P}
    → TriesOne known plan about commands before result after
    → before.state.check.exam.up ≡ false → after.state.check.exam.up ≡ false
one_down known plan about commands before (TriesOne.no_start never) down = down
one_down known plan about commands before (TriesOne.right may tried) down =
    tried_down known plan about commands before tried down
one_down known plan about commands before (TriesOne.other may tried differs) down =
    tried_down known plan about commands before tried down
one_down known plan about commands before (TriesOne.alike may tried same) down =
    tried_down known plan about commands before tried down

shortens_down : {P : Type 0} (known : Ghosts P) (plan : Plan) (found : Wrong) (all : List Shortening)
    → {before : Moment P} {games : LastGames} {after : Moment P} → Shortens known plan found all before games after
    → before.state.check.exam.up ≡ false → after.state.check.exam.up ≡ false
shortens_down known plan found [] none_left down = down
shortens_down known plan found (how ∷ later) (missed {before = before} one more) down =
    shortens_down known plan found later more
    (one_down known plan found (shortened how (wrong_talk found)) before one down)
shortens_down known plan found (how ∷ later) (shortened_so {before = before} one) down =
    one_down known plan found (shortened how (wrong_talk found)) before one down

reduces_down : {P : Type 0} (known : Ghosts P) (plan : Plan) (about : Wrong) (first : Reduction) (before : Moment P)
    → {last : Reduction} {best : Option Wrong} {after : Moment P}
    → Reduces known plan about first before last best after
    → before.state.check.exam.up ≡ false → after.state.check.exam.up ≡ false
reduces_down known plan about first before Reduces.begins down = down
reduces_down known plan about first before (Reduces.failed {mid = mid} commands so_far is one) down =
    one_down known plan about commands mid one (reduces_down known plan about first before so_far down)
reduces_down known plan about first before (Reduces.succeeded {mid = mid} commands so_far is one) down =
    one_down known plan about commands mid one (reduces_down known plan about first before so_far down)

shortened_down : {P : Type 0} (known : Ghosts P) (plan : Plan) (about : Wrong) (before : Moment P)
    → {result : Option Wrong} {after : Moment P} → IsShortened known plan about before result after
    → before.state.check.exam.up ≡ false → after.state.check.exam.up ≡ false
shortened_down known plan about before
    (IsShortened.both_ways {mid = mid} shortens (IsReduced.reduced reduces over)) down =
    reduces_down known plan about _ mid reduces
    (shortens_down known plan about (shortenings_of plan.trials (wrong_talk about)) shortens down)

pub complains_down : {P : Type 0} (known : Ghosts P) (plan : Plan) (before : Moment P) (fault : Fault)
    → {after : Moment P} {said : List (List ℕ)} (which : Option Fault) → which ≡ Some fault
    → Complains known plan before which after said → after.state.check.exam.up ≡ false
complains_down known plan before fault which is Complains.nothing = absurd (cc is)
complains_down known plan before fault which is (Complains.passed_over so passes) =
    ap {A = State _} (λ now. now.check.exam.up) passes.leads
complains_down known plan before fault which is (Complains.hidden {mid = mid} about judged closes kept_back) =
    ap {A = State _} (λ now. now.check.exam.up) closes.leads
complains_down known plan before fault which is
    (Complains.shown {fault = one} {mid = mid} about complaint judged closes so shortens which_one) =
    shortened_down known plan about _ shortens
    (ap {A = State _} (λ now. now.check.exam.up) closes.leads)
