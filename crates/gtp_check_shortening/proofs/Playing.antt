-- What was done in a conversation, command by command.
use Rattle.std.proofs.Common.{◌≡◌, ◌∙◌, ◌++◌, ◌∷◌, ◌+◌, ◌<◌, ◌≤◌, ℕ, List, [], Option, None, Some, ap, drop, length}
use Rattle.std.proofs.Common.{refl, sym}
use Rattle.std.proofs.Common.{append_assoc, get_or, Bor}
use Rattle.std.specs.List.{HoldsAt}
use Rattle.std.specs.Option.{MatchOption, option_map}
use Rattle.std.proofs.lemmas.List.{at_drop_all, at_drop_more}
use Rattle.gtp_check_talk.specs.declared.said.Said.{Said}
use Rattle.gtp_check_shortening.specs.Played.{done_before, first_of, played}

-- what was asked next is the first of the commands that follow
pub next_is : (talk : List Said) (index : ℕ) (next : Option (Bor Said))
    → MatchOption next (length talk ≤ index) (λ one. (index < length talk) × HoldsAt {X = Said} (λ (other : Said). one.now ≡ other) talk index)
    → option_map (λ one. one.now) next ≡ first_of (drop index talk)
next_is talk index None past = sym (at_drop_all first_of talk index past)
next_is talk index (Some one) (within, is) =
    ap (λ (said : Said). Some said) (is one.now) ∙ sym (at_drop_more first_of talk index one.now within)

-- a command more
pub played_here : (talk : List Said) (index : ℕ) (said : Said) (next : Option (Bor Said)) → index < length talk
    → said ≡ get_or talk index said
    → MatchOption next (length talk ≤ index + 1)
    (λ one. (index + 1 < length talk) × HoldsAt {X = Said} (λ (other : Said). one.now ≡ other) talk (index + 1))
    → done_before said (option_map (λ one. one.now) next) ++ played (drop (index + 1) talk) ≡ played (drop index talk)
unfolding played
played_here talk index said next within is looked =
    ap (λ (one : Option Said). done_before said one ++ played (drop (index + 1) talk))
    (next_is talk (index + 1) next looked)
    ∙ sym (at_drop_more played talk index said within
    ∙ ap (λ (one : Said). played (one ∷ drop (index + 1) talk)) (sym is))

-- and none
pub played_out : (talk : List Said) (index : ℕ) → length talk ≤ index → played (drop index talk) ≡ []
unfolding played
played_out talk index past = at_drop_all played talk index past
