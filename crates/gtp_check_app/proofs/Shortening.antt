-- The starts that are asked for while shorter conversations are tried.
use Rattle.std.proofs.Common.{◌≡◌, ◌∙◌, add-zero, ap, arith, sym, subst, Option, None, Some, Err, Ok, [], ◌∷◌}
use Rattle.std.proofs.Common.{◌++◌, append_assoc}
use Rattle.std.proofs.Common.{ℕ, ◌+◌, ◌<◌, ◌≤◌, length, take, drop, get_or}
use Rattle.std.proofs.lemmas.List.{append-nil, at_drop_more, length-append, length-take, take-append-drop, take_all}
use Rattle.std.proofs.lemmas.List.{take_more}
use Rattle.std.specs.Prelude.{List}
use Rattle.gtp_process.specs.declared.starter.Process.{Ghosts}
use Rattle.gtp_process.specs.declared.starter.StartFault.TheVariants as start_fault
use Rattle.gtp_process.specs.Starts.{Attempts, Text, program_line}
use Rattle.gtp_check_judge.specs.declared.asking.CheckCommand.{CheckCommand}
use Rattle.gtp_check_shortening.specs.declared.flat.Shortening.{Shortening}
use Rattle.gtp_check_course.specs.declared.plan.Plan.{Plan}
use Rattle.gtp_check_talk.specs.Dialogues.{AsksForMore, IsTrial, Wrong, none, one_more, right, unstarted, wrong}
use Rattle.gtp_check_talk.specs.Dialogues.{wrong_talk}
use Rattle.gtp_check_talk.specs.declared.said.Said.{Said}
use Rattle.gtp_check_shortening.specs.Shortening.{shortened}
use Rattle.gtp_check_talk.specs.Said.{commands_of}
use Rattle.gtp_check_app.specs.Trials.{LastGames, left_by, shortenings_of}
use Rattle.gtp_check_talk.specs.Dialogues.{Standing, Trial}
use Rattle.gtp_check_app.specs.Turns.{standing_in}
use Rattle.gtp_check_app.specs.Turns.{IsReduced, IsShortened, IsTried, Moment, Reduces, Shortens, TriesOne}
use Rattle.gtp_check_app.specs.Turns.{missed, none_left}
use Rattle.gtp_check_shortening.specs.Reduction.{Reduction}
use Rattle.gtp_check_app.specs.Turns.{shortened_so}

-- programs were asked for, and then others
pub then_more : {P : Type 0} (line : List Text) (had between : Attempts P) → AsksForMore line had between
    → {has : Attempts P} → AsksForMore line between has → AsksForMore line had has
then_more line had between one none = one
then_more line had between one (one_more answer more tries) =
    one_more answer (then_more line had between one more) tries

-- a trial asks for one
trial_asks : {P : Type 0} (known : Ghosts P) (tries : Trial) (before : Standing P)
    → {result : Option Wrong} {after : Standing P} → IsTrial known tries before result after
    → AsksForMore tries.line before.asked after.asked
trial_asks known tries before (unstarted reason never) =
    one_more (Err (start_fault.NotStarted reason)) none never
trial_asks known tries before (right process ending started converses asks left) =
    one_more (Ok process) none started
trial_asks known tries before (wrong process ending fault started ends asks left) =
    one_more (Ok process) none started

tried_asks : {P : Type 0} (known : Ghosts P) (plan : Plan) (found : Wrong) (commands : List CheckCommand)
    (before : Moment P) → {result : Option Wrong} {after : Moment P}
    → IsTried known plan found commands before result after
    → AsksForMore (program_line plan.words.items) before.asked after.asked
tried_asks known plan found commands before (IsTried.by_trial held) =
    trial_asks known _ (standing_in before) held

pub one_asks : {P : Type 0} (known : Ghosts P) (plan : Plan) (found : Wrong) (commands : List CheckCommand)
    (before : Moment P) → {result : Option Wrong} {after : Moment P}
    → TriesOne known plan found commands before result after
    → AsksForMore (program_line plan.words.items) before.asked after.asked
one_asks known plan found commands before (TriesOne.no_start never) = none
one_asks known plan found commands before (TriesOne.right may tried) =
    tried_asks known plan found commands before tried
one_asks known plan found commands before (TriesOne.other may tried differs) =
    tried_asks known plan found commands before tried
one_asks known plan found commands before (TriesOne.alike may tried same) =
    tried_asks known plan found commands before tried

-- and so do several
pub shortens_asks : {P : Type 0} (known : Ghosts P) (plan : Plan) (found : Wrong) (all : List Shortening)
    → {before : Moment P} {games : LastGames} {after : Moment P}
    → Shortens known plan found all before games after
    → AsksForMore (program_line plan.words.items) before.asked after.asked
shortens_asks known plan found [] none_left = none
shortens_asks known plan found (how ∷ later) (missed {before = before} {mid = mid} one more) =
    then_more (program_line plan.words.items) before.asked mid.asked
    (one_asks known plan found (shortened how (wrong_talk found)) before one)
    (shortens_asks known plan found later more)
shortens_asks known plan found (how ∷ later) (shortened_so {before = before} one) =
    one_asks known plan found (shortened how (wrong_talk found)) before one

-- these shorter conversations were tried, and none ended like the one that was found
pub data Missed {P : Type 0} (known : Ghosts P) (plan : Plan) (found : Wrong) (first : Moment P)
    : List Shortening → Moment P → Type 0 where
  nothing : Missed known plan found first [] first
  more : {all : List Shortening} {mid after : Moment P} (how : Shortening) → Missed known plan found first all mid
      → TriesOne known plan found (shortened how (wrong_talk found)) mid None after
      → Missed known plan found first (all ++ how ∷ []) after

-- so many were tried before
abbrev with_more : ℕ → LastGames → LastGames
with_more count games = record games { tried = games.tried + count }

module _ {P : Type 0} (known : Ghosts P) (plan : Plan) (found : Wrong) (first : Moment P) where
  -- and then the others
  missed_then : {all : List Shortening} {mid : Moment P} → Missed known plan found first all mid
      → (later : List Shortening) {games : LastGames} {after : Moment P}
      → Shortens known plan found later mid games after
      → Shortens known plan found (all ++ later) first (with_more (length all) games) after
  missed_then Missed.nothing later {games = games} {after = after} rest =
      subst (λ (came : LastGames). Shortens known plan found later first came after)
      (ap (λ (tried : ℕ). record games { tried = tried }) (sym (add-zero games.tried))) rest
  missed_then (Missed.more {all = all} how one tried) later {games = games} {after = after} rest =
      let count : games.tried + 1 + length all ≡ games.tried + length (all ++ how ∷ []) =
      omega (arith, length-append all (how ∷ [])) in
      subst (λ (came : LastGames). Shortens known plan found ((all ++ how ∷ []) ++ later) first came after)
      (ap (λ (number : ℕ). record games { tried = number }) count)
      (rw (append_assoc all (how ∷ []) later) (missed_then one (how ∷ later) (missed tried rest)))

  -- programs were asked for in them
  pub missed_asks : {all : List Shortening} {mid : Moment P} → Missed known plan found first all mid
      → AsksForMore (program_line plan.words.items) first.asked mid.asked
  missed_asks Missed.nothing = none
  missed_asks (Missed.more {mid = mid} how one tried) =
      then_more (program_line plan.words.items) first.asked mid.asked (missed_asks one)
      (one_asks known plan found (shortened how (wrong_talk found)) mid tried)

  -- Of a list all before this index were tried, and none ended like it. (It is the list of those that are tried, and the
  -- conversation the one that was found.)
  module _ (all list : List Shortening) (talk : List Said) (index tried : ℕ) (mid : Moment P)
      (same : list ≡ all) (is : talk ≡ wrong_talk found) (count : tried ≡ index)
      (before : Missed known plan found first (take index list) mid) where
    -- the next one ended like it
    pub found_here : (other : Shortening) (commands left : List CheckCommand) {ended : Wrong} {after : Moment P}
        → commands ≡ shortened (get_or list index other) talk → index < length list
        → left ≡ left_by found commands ended → TriesOne known plan found commands mid (Some ended) after
        → Shortens known plan found all first (record { ended = Some ended; tried = tried + 1; left = left }) after
    found_here other commands left {ended = ended} {after = after} which within left-is attempt =
        let how = get_or list index other in
        let stays = left_by found (shortened how (wrong_talk found)) ended in
        let parts : take index list ++ how ∷ drop (index + 1) list ≡ all =
        sym (at_drop_more (λ (rest : List Shortening). take index list ++ rest) list index other within)
        ∙ take-append-drop index list ∙ same in
        let number : 1 + length (take index list) ≡ tried + 1 = omega (arith, count, length-take index list) in
        let same_left : stays ≡ left =
        sym (left-is ∙ ap (λ (these : List CheckCommand). left_by found these ended)
        (which ∙ ap (λ (all_said : List Said). shortened how all_said) is)) in
        subst
        (λ (these : List CheckCommand). Shortens known plan found all first
        (record { ended = Some ended; tried = tried + 1; left = these }) after) same_left
        (subst
        (λ (n : ℕ). Shortens known plan found all first
        (record { ended = Some ended; tried = n; left = stays }) after)
        number
        (subst
        (λ (ones : List Shortening). Shortens known plan found ones first
        (record { ended = Some ended; tried = 1 + length (take index list); left = stays }) after) parts
        (missed_then before (how ∷ drop (index + 1) list) (shortened_so (rw (which, is) at attempt)))))

    -- the next one didn't
    pub one_missed : (other : Shortening) (commands : List CheckCommand) {after : Moment P}
        → commands ≡ shortened (get_or list index other) talk → index < length list
        → TriesOne known plan found commands mid None after
        → Missed known plan found first (take (index + 1) list) after
    one_missed other commands {after = after} which within attempt =
        subst (λ (ones : List Shortening). Missed known plan found first ones after)
        (sym (take_more list index other within))
        (Missed.more (get_or list index other) before (rw (which, is) at attempt))

    -- there is no other
    pub all_missed : (left : List CheckCommand) → left ≡ commands_of talk → length list ≤ index → index ≤ length list
        → Shortens known plan found all first (record { ended = None; tried = tried; left = left }) mid
    all_missed left left-is past within =
        let whole : take index list ++ [] ≡ all = append-nil (take index list) ∙ take_all index list past ∙ same in
        let number : 0 + length (take index list) ≡ tried = omega (arith, count, length-take index list) in
        let same_left : commands_of (wrong_talk found) ≡ left =
        sym (left-is ∙ ap (λ (all_said : List Said). commands_of all_said) is) in
        subst
        (λ (these : List CheckCommand). Shortens known plan found all first
        (record { ended = None; tried = tried; left = these }) mid) same_left
        (subst
        (λ (n : ℕ). Shortens known plan found all first
        (record { ended = None; tried = n; left = commands_of (wrong_talk found) }) mid)
        number
        (subst
        (λ (ones : List Shortening). Shortens known plan found ones first
        (record { ended = None; tried = 0 + length (take index list); left = commands_of (wrong_talk found) }) mid)
        whole (missed_then before [] none_left)))

-- ---- delta debugging

-- what is reduced asks for programs
pub reduces_asks : {P : Type 0} (known : Ghosts P) (plan : Plan) (found : Wrong) (first : Reduction)
    (before : Moment P) → {last : Reduction} {best : Option Wrong} {after : Moment P}
    → Reduces known plan found first before last best after
    → AsksForMore (program_line plan.words.items) before.asked after.asked
reduces_asks known plan found first before Reduces.begins = none
reduces_asks known plan found first before (Reduces.failed {mid = mid} commands so_far is one) =
    then_more (program_line plan.words.items) before.asked mid.asked (reduces_asks known plan found first before so_far)
    (one_asks known plan found commands mid one)
reduces_asks known plan found first before (Reduces.succeeded {mid = mid} commands so_far is one) =
    then_more (program_line plan.words.items) before.asked mid.asked (reduces_asks known plan found first before so_far)
    (one_asks known plan found commands mid one)

-- and so does what is made shorter in both ways
pub shortened_asks : {P : Type 0} (known : Ghosts P) (plan : Plan) (found : Wrong) (before : Moment P)
    → {result : Option Wrong} {after : Moment P} → IsShortened known plan found before result after
    → AsksForMore (program_line plan.words.items) before.asked after.asked
shortened_asks known plan found before (IsShortened.both_ways {mid = mid} shortens (IsReduced.reduced reduces over)) =
    then_more (program_line plan.words.items) before.asked mid.asked
    (shortens_asks known plan found (shortenings_of plan.trials (wrong_talk found)) shortens)
    (reduces_asks known plan found _ mid reduces)
