-- Loops over many games: what holds of the lists after the first games.
use Rattle.std.proofs.Common.{◌≡◌, ℕ, ◌+◌, ◌<◌, ◌≤◌, List, [], ◌∷◌, ◌++◌, length, get_or, take, drop, refl, sym, ap}
use Rattle.std.proofs.Common.{◌∙◌, subst, arith}
use Rattle.std.proofs.lemmas.List.{take_more, take_more_set, take_all, take-append-drop, length-set, length-take-le}
use Rattle.std.proofs.lemmas.List.{drop-set-lt, drop-drop, get_or-drop, append-nil, append_assoc, length-append}
use Rattle.std.proofs.lemmas.List.{length-drop, length-map, get_or-map, map-set, set-get_or}
use Rattle.std.proofs.lemmas.List.Sums.{sum_by_more, sum_by-take-le}
use Rattle.std.proofs.lemmas.Slice.{take-put_mid, drop-put_mid}
use Rattle.std.specs.List.{sum_by}
use borrow.Rule.Slice.PartMut.{put_mid}
use denote.RawPtr.{Ptr}
use Rattle.vintsaky.specs.declared.game.GameHandle.{GameHandle}
use Rattle.std.proofs.Math.ListN.{set}
use Rattle.go_board.specs.Game.{GameRecord}
use Rattle.vintsaky_calls.specs.Batches.{EachGame, none, next, InTurn, no_game, first, Overwrites}
use Rattle.vintsaky.specs.Games.{games_of, places_of}

-- one game more
each_push : {A B : Type 0} {P : GameRecord → A → GameRecord → B → Type 0} {old new : List GameRecord} {xs : List A}
    {ys : List B} → EachGame P old xs new ys → (before : GameRecord) (x : A) (after : GameRecord) (y : B)
    → P before x after y
    → EachGame P (old ++ before ∷ []) (xs ++ x ∷ []) (new ++ after ∷ []) (ys ++ y ∷ [])
each_push none before x after y p = next p none
each_push (next q more) before x after y p = next q (each_push more before x after y p)

-- a list is as it was from a place on
pub record IsKept {A : Type 0} (place : ℕ) (old new : List A) : Type 0 where
  pub long : length new ≡ length old
  pub rest : drop place new ≡ drop place old

kept_none : {A : Type 0} (xs : List A) → IsKept 0 xs xs
kept_none xs = record { long = refl; rest = refl }

kept_more : {A : Type 0} (place : ℕ) (old new changed : List A) (x : A) → IsKept place old new
    → changed ≡ set new place x → IsKept (place + 1) old changed
kept_more place old new changed x kept is = record {
  long = ap length is ∙ length-set new place x ∙ kept.long;
  rest = ap (drop (place + 1)) is ∙ drop-set-lt (place + 1) new place x (omega arith)
      ∙ sym (drop-drop 1 place new) ∙ ap (drop 1) kept.rest ∙ drop-drop 1 place old;
}

-- what is there still
kept_at : {A : Type 0} (place : ℕ) (old new : List A) (d : A) → IsKept place old new
    → get_or old place d ≡ get_or new place d
kept_at place old new d kept =
    let same : get_or old (place + 0) d ≡ get_or new (place + 0) d =
    sym (get_or-drop place old 0 d) ∙ ap (λ l. get_or l 0 d) (sym kept.rest) ∙ get_or-drop place new 0 d in
    let none : place + 0 ≡ place = omega arith in
    subst (λ (k : ℕ). get_or old k d ≡ get_or new k d) none same

-- the games before this place are done, with their items in two lists, and all others stay
pub record AreDone {A B : Type 0} (P : GameRecord → A → GameRecord → B → Type 0) (place : ℕ) (old new : List GameRecord)
    (xs_old xs_new : List A) (ys_old ys_new : List B)
    : Type 0 where
  pub each : EachGame P (take place old) (take place xs_new) (take place new) (take place ys_new)
  pub games : IsKept place old new
  pub firsts : IsKept place xs_old xs_new
  pub seconds : IsKept place ys_old ys_new

pub done_none : {A B : Type 0} (P : GameRecord → A → GameRecord → B → Type 0) (old : List GameRecord) (xs : List A)
    (ys : List B) → AreDone P 0 old old xs xs ys ys
done_none P old xs ys =
    record { each = none; games = kept_none old; firsts = kept_none xs; seconds = kept_none ys }

pub done_more : {A B : Type 0} {P : GameRecord → A → GameRecord → B → Type 0} {place : ℕ} {old new : List GameRecord}
    {xs_old xs_new : List A} {ys_old ys_new : List B} → AreDone P place old new xs_old xs_new ys_old ys_new
    → (changed : List GameRecord) (xs : List A) (ys : List B) (before : GameRecord) (x : A) (after : GameRecord) (y : B)
    → changed ≡ set new place after → xs ≡ set xs_new place x → ys ≡ set ys_new place y
    → place < length old → place < length xs_old → place < length ys_old
    → before ≡ get_or new place before → P before x after y
    → AreDone P (place + 1) old changed xs_old xs ys_old ys
done_more {P = P} {place = place} {old = old} {new = new} {xs_old = xs_old} {xs_new = xs_new} {ys_old = ys_old}
    {ys_new = ys_new} done changed xs ys before x after y changed_is xs_is ys_is in_games in_xs in_ys is p =
    let olds : take (place + 1) old ≡ take place old ++ before ∷ [] =
    take_more old place before in_games
    ∙ ap (λ g. take place old ++ g ∷ []) (kept_at place old new before done.games ∙ sym is) in
    let news : take (place + 1) changed ≡ take place new ++ after ∷ [] =
    ap (take (place + 1)) changed_is ∙ take_more_set new place after (omega (arith, done.games.long)) in
    let firsts : take (place + 1) xs ≡ take place xs_new ++ x ∷ [] =
    ap (take (place + 1)) xs_is ∙ take_more_set xs_new place x (omega (arith, done.firsts.long)) in
    let seconds : take (place + 1) ys ≡ take place ys_new ++ y ∷ [] =
    ap (take (place + 1)) ys_is ∙ take_more_set ys_new place y (omega (arith, done.seconds.long)) in
    record {
      each = rw (olds, news, firsts, seconds) (each_push done.each before x after y p);
      games = kept_more place old new changed after done.games changed_is;
      firsts = kept_more place xs_old xs_new xs x done.firsts xs_is;
      seconds = kept_more place ys_old ys_new ys y done.seconds ys_is;
    }

-- what was written over a list, where it is as it was from a place on
overwritten : {A : Type 0} (place : ℕ) (old new : List A) → IsKept place old new → place ≤ length old
    → Overwrites (take place new) old new
overwritten place old new kept fits =
    let long : length (take place new) ≡ place = length-take-le place new (omega (arith, kept.long)) in
    record {
      fits = omega (arith, long);
      new_is = rw long (sym (take-append-drop place new) ∙ ap (λ l. take place new ++ l) kept.rest);
    }

-- all games are done
pub record AreAllDone {A B : Type 0} (P : GameRecord → A → GameRecord → B → Type 0) (old new : List GameRecord)
    (xs_old xs_new : List A) (ys_old ys_new : List B)
    : Type 0 where
  pub each : EachGame P old (take (length old) xs_new) new (take (length old) ys_new)
  pub firsts : Overwrites (take (length old) xs_new) xs_old xs_new
  pub seconds : Overwrites (take (length old) ys_new) ys_old ys_new

pub done_all : {A B : Type 0} {P : GameRecord → A → GameRecord → B → Type 0} {place : ℕ} {old new : List GameRecord}
    {xs_old xs_new : List A} {ys_old ys_new : List B} → AreDone P place old new xs_old xs_new ys_old ys_new
    → place ≡ length old → length old ≤ length xs_old → length old ≤ length ys_old
    → AreAllDone P old new xs_old xs_new ys_old ys_new
done_all {P = P} {place = place} {old = old} {new = new} {xs_old = xs_old} {xs_new = xs_new} {ys_old = ys_old}
    {ys_new = ys_new} done all in_xs in_ys =
    let n = length old in
    let each : EachGame P (take n old) (take n xs_new) (take n new) (take n ys_new) =
    subst (λ (k : ℕ). EachGame P (take k old) (take k xs_new) (take k new) (take k ys_new)) all done.each in
    record {
      each =
          subst (λ (l : List GameRecord). EachGame P l (take n xs_new) new (take n ys_new))
          (take_all n old (omega arith))
          (subst (λ (l : List GameRecord). EachGame P (take n old) (take n xs_new) l (take n ys_new))
          (take_all n new (omega (arith, done.games.long))) each);
      firsts = subst (λ (k : ℕ). Overwrites (take k xs_new) xs_old xs_new) all
          (overwritten place xs_old xs_new done.firsts (omega arith));
      seconds = subst (λ (k : ℕ). Overwrites (take k ys_new) ys_old ys_new) all
          (overwritten place ys_old ys_new done.seconds (omega arith));
    }

-- ---- games that stay

-- there are as many games as handles
pub in_games : (handles : List GameHandle) (games : List GameRecord) (place : ℕ) → place < length handles
    → games_of handles ≡ games → place < length games
in_games handles games place below are =
    let many = sym (ap length are) ∙ length-map handles (λ h. h.value) in
    omega (arith, many)

-- the game behind a handle is that of the list
pub read_game : (handles : List GameHandle) (games : List GameRecord) (place : ℕ) (d : GameHandle) (game : GameRecord)
    → place < length handles → games_of handles ≡ games → game ≡ (get_or handles place d).value
    → game ≡ get_or games place game
read_game handles games place d game below are is =
    is ∙ sym (get_or-map (λ h. h.value) handles place d game below) ∙ ap (λ l. get_or l place game) are

-- a handle whose game stays leaves all games as they were
pub same_games : (handles : List GameHandle) (games : List GameRecord) (place : ℕ) (d h : GameHandle)
    → place < length handles → games_of handles ≡ games → h.value ≡ (get_or handles place d).value
    → games_of (set handles place h) ≡ games
same_games handles games place d h below are is =
    map-set (λ h. h.value) handles place h
    ∙ ap (set (games_of handles) place) (is ∙ sym (get_or-map (λ h. h.value) handles place d d.value below))
    ∙ set-get_or (games_of handles) place d.value ∙ are

-- a handle of the same memory leaves the memory of all handles as it was
pub same_places : (handles : List GameHandle) (places : List Ptr) (place : ℕ) (d h : GameHandle)
    → place < length handles → places_of handles ≡ places → h.at ≡ (get_or handles place d).at
    → places_of (set handles place h) ≡ places
same_places handles places place d h below are is =
    map-set (λ h. h.at) handles place h
    ∙ ap (set (places_of handles) place) (is ∙ sym (get_or-map (λ h. h.at) handles place d d.at below))
    ∙ set-get_or (places_of handles) place d.at ∙ are

-- ---- values of each game, one after the other

in_turn_push : {A : Type 0} {P : GameRecord → List A → Type 0} {games : List GameRecord} {values : List A}
    → InTurn P games values → (game : GameRecord) (part : List A) → P game part
    → InTurn P (games ++ game ∷ []) (values ++ part)
in_turn_push {A = A} {P = P} no_game game part p =
    subst (λ (l : List A). InTurn P (game ∷ []) l) (append-nil part) (first p no_game)
in_turn_push {A = A} {P = P} (first {game = g} {games = gs} {values = values} {rest = rest} q more) game part
    p =
    subst (λ (l : List A). InTurn P (g ∷ (gs ++ game ∷ [])) l) (sym (append_assoc values rest part))
    (first q (in_turn_push more game part p))

pub sum_more : {A : Type 0} (f : A → ℕ) (xs : List A) (place : ℕ) (x : A) → place < length xs → x ≡ get_or xs place x
    → sum_by f (take (place + 1) xs) ≡ sum_by f (take place xs) + f x
sum_more f xs place x below is = sum_by_more f xs place x below ∙ ap (λ y. sum_by f (take place xs) + f y) (sym is)

-- with one game more, the values are still no more than those of all games
pub sum_fits : {A : Type 0} (f : A → ℕ) (xs : List A) (place : ℕ) (x : A) → place < length xs → x ≡ get_or xs place x
    → sum_by f (take place xs) + f x ≤ sum_by f xs
sum_fits f xs place x below is =
    let more = sum_more f xs place x below is in
    let le = sum_by-take-le f xs (place + 1) in
    omega (arith, more, le)

-- the games before this place are shown in the values before `at`, and the other values stay
pub record AreShown {A : Type 0} (P : GameRecord → List A → Type 0) (f : GameRecord → ℕ) (place : ℕ)
    (games : List GameRecord) (at : ℕ) (old new : List A)
    : Type 0 where
  pub shows : InTurn P (take place games) (take at new)
  pub kept : IsKept at old new
  pub at_is : at ≡ sum_by f (take place games)

pub shown_none : {A : Type 0} (P : GameRecord → List A → Type 0) (f : GameRecord → ℕ) (games : List GameRecord)
    (values : List A) → AreShown P f 0 games 0 values values
shown_none P f games values = record { shows = no_game; kept = kept_none values; at_is = refl }

pub shown_more : {A : Type 0} {P : GameRecord → List A → Type 0} {f : GameRecord → ℕ} {place : ℕ}
    {games : List GameRecord} {at : ℕ} {old new : List A} → AreShown P f place games at old new
    → (end k : ℕ) (game : GameRecord) (part : List A) → place < length games → game ≡ get_or games place game
    → sum_by f games ≤ length old → end ≡ at + f game → k ≡ f game → length part ≡ k → P game part
    → AreShown P f (place + 1) games end old (put_mid at k new part)
shown_more {A = A} {P = P} {f = f} {place = place} {games = games} {at = at} {old = old} {new = new} shown end k game part
    below is fits next_is k_is part_is p =
    let sum = sum_more f games place game below is in
    let within = sum_fits f games place game below is in
    let there : at ≤ length new = omega (arith, shown.kept.long, shown.at_is) in
    let front : take end (put_mid at k new part) ≡ take at new ++ part =
    take-put_mid at k new part end (omega arith) there in
    let back : drop end (put_mid at k new part) ≡ drop end new =
    drop-put_mid at k new part end (omega arith) there part_is in
    let split : at + k ≡ end = omega arith in
    let games_more : take (place + 1) games ≡ take place games ++ game ∷ [] =
    take_more games place game below ∙ ap (λ g. take place games ++ g ∷ []) (sym is) in
    record {
      shows = subst (λ (l : List A). InTurn P (take (place + 1) games) l) (sym front)
          (subst (λ (l : List GameRecord). InTurn P l (take at new ++ part)) (sym games_more)
          (in_turn_push shown.shows game part p));
      kept = record {
        long =
            let whole = ap length (sym (take-append-drop end (put_mid at k new part))) in
            let both = length-append (take end (put_mid at k new part)) (drop end (put_mid at k new part)) in
            let first_part = ap length front ∙ length-append (take at new) part in
            let last_part = ap length back ∙ length-drop end new in
            let taken = length-take-le at new there in
            omega (arith, shown.kept.long, whole, both, first_part, last_part, taken, shown.at_is);
        rest = back ∙ subst (λ (n : ℕ). drop n new ≡ drop n old) split
            (sym (drop-drop k at new) ∙ ap (drop k) shown.kept.rest ∙ drop-drop k at old);
      };
      at_is = next_is ∙ ap (λ n. n + f game) shown.at_is ∙ sym sum;
    }

-- the values of one game more end within the list
pub ends_within : {A : Type 0} {P : GameRecord → List A → Type 0} {f : GameRecord → ℕ} {place : ℕ}
    {games : List GameRecord} {at : ℕ} {old new : List A} (handles : List GameHandle) (d : GameHandle)
    (game : GameRecord) (count : ℕ) → AreShown P f place games at old new → place < length handles
    → games_of handles ≡ games → game ≡ (get_or handles place d).value → count ≡ f game
    → sum_by f games ≤ length old → at + count ≤ length new
ends_within {f = f} {place = place} {games = games} handles d game count shown below are is counted fits =
    let within =
    sum_fits f games place game (in_games handles games place below are)
    (read_game handles games place d game below are is) in
    omega (arith, within, shown.at_is, shown.kept.long, counted)

-- all games are shown
pub record AreAllShown {A : Type 0} (P : GameRecord → List A → Type 0) (games : List GameRecord) (at : ℕ)
    (old new : List A)
    : Type 0 where
  pub shows : InTurn P games (take at new)
  pub written : Overwrites (take at new) old new

pub shown_all : {A : Type 0} {P : GameRecord → List A → Type 0} {f : GameRecord → ℕ} {place : ℕ}
    {games : List GameRecord} {at : ℕ} {old new : List A} → AreShown P f place games at old new
    → length games ≤ place → sum_by f games ≤ length old → AreAllShown P games at old new
shown_all {A = A} {P = P} {f = f} {place = place} {games = games} {at = at} {old = old} {new = new} shown all fits =
    let within = sum_by-take-le f games place in
    record {
      shows = subst (λ (l : List GameRecord). InTurn P l (take at new)) (take_all place games all) shown.shows;
      written = overwritten at old new shown.kept (omega (arith, shown.at_is, within));
    }
