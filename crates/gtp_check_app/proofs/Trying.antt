-- The shortenings that are tried are found one after the other.
use Rattle.std.proofs.Common.{◌≡◌, ◌∙◌, ◌+◌, ◌<◌, ◌≤◌, ap, arith, sym, cond, ℕ, Bool, true, false, List, [], ◌∷◌}
use Rattle.std.proofs.Common.{◌++◌}
use Rattle.std.proofs.Common.{length, take, get_or}
use Rattle.std.proofs.lemmas.List.{append-nil, length-append, length-take, take-append-le, take_all}
use Rattle.std.proofs.lemmas.List.Elements.{filter_more}
use Rattle.gtp_check_shortening.specs.declared.flat.Shortening.{Shortening}
use Rattle.gtp_check_talk.specs.declared.said.Said.{Said}
use Rattle.gtp_check_app.specs.Trials.{is_for, those_for}

-- what is tried of one more
abbrev of_one : Bool → Shortening → List Shortening
of_one may how = cond may (how ∷ []) []

module _ (trials : ℕ) (talk : List Said) (all : List Shortening) (index : ℕ) (other : Shortening)
    (tried : List Shortening) where
  abbrev before : List Shortening
  before = those_for talk (take index all)

  with_one : index < length all
      → those_for talk (take (index + 1) all)
      ≡ before ++ of_one (is_for talk (get_or all index other)) (get_or all index other)
  unfolding those_for
  with_one within = filter_more (is_for talk) all index other within

  -- none is tried any more
  pub full : index < length all → tried ≡ take trials before → trials ≤ length tried
      → tried ≡ take trials (those_for talk (take (index + 1) all))
  full within is most =
      let count : length tried ≡ length (take trials before) = ap length is in
      let few : trials ≤ length before = omega (arith, count, length-take trials before) in
      is ∙ sym (take-append-le trials before (of_one (is_for talk (get_or all index other)) (get_or all index other))
      few)
      ∙ ap (take trials) (sym (with_one within))

  -- one is passed over
  pub passed : index < length all → tried ≡ take trials before → is_for talk (get_or all index other) ≡ false
      → tried ≡ take trials (those_for talk (take (index + 1) all))
  passed within is not =
      is ∙ ap (take trials) (sym (append-nil before))
      ∙ ap (λ (may : Bool). take trials (before ++ of_one may (get_or all index other))) (sym not)
      ∙ ap (take trials) (sym (with_one within))

  -- one is tried
  pub added : index < length all → tried ≡ take trials before → length tried < trials
      → is_for talk (get_or all index other) ≡ true
      → tried ++ get_or all index other ∷ [] ≡ take trials (those_for talk (take (index + 1) all))
  added within is less may =
      let count : length tried ≡ length (take trials before) = ap length is in
      let few : length before < trials = omega (arith, count, length-take trials before) in
      let whole : tried ≡ before = is ∙ take_all trials before (omega (arith, few)) in
      let one = get_or all index other ∷ [] in
      let fits : length (before ++ one) ≤ trials = omega (arith, few, length-append before one) in
      ap (λ (list : List Shortening). list ++ one) whole ∙ sym (take_all trials (before ++ one) fits)
      ∙ ap (λ (yes : Bool). take trials (before ++ of_one yes (get_or all index other))) (sym may)
      ∙ ap (take trials) (sym (with_one within))
