use Rattle.std.proofs.Common.{◌≡◌, ◌∙◌, ◌+◌, ◌<◌, ℕ, Bool, List, Option, Some, add-one, ap, arith, get_or, if◌then◌else◌, length, refl}
use Rattle.std.proofs.Common.{slice_get, sym}
use Rattle.std.proofs.lemmas.Option.{slice_get-get_or}
use Rattle.gtp_check_shortening.specs.LastGame.{last_setting, sets, sets_at}
use Rattle.gtp_check_shortening.specs.declared.last_game.Setting.{Setting}
use Rattle.gtp_check_talk.specs.declared.said.Said.{Said}
use Rattle.gtp_check_shortening.proofs.last_game.last_setting.Goals as goal
use Rattle.gtp_check_shortening.proofs.last_game.last_setting.Goals.{then-sets, else-sets}

-- a place more
one_more : (what : Setting) (talk : List Said) (place : ℕ) (said : Said) (is : Bool) → place < length talk
    → is ≡ sets what (get_or talk place said).command
    → (if is then Some place else last_setting what talk place) ≡ last_setting what talk (place + 1)
unfolding last_setting
one_more what talk place said is within sets-is =
    ap (λ (b : Bool). if b then Some place else last_setting what talk place)
    (sets-is ∙ sym (ap (sets_at what) (slice_get-get_or talk place said within)))
    ∙ ap (last_setting what talk) (sym (add-one place))

pub loop-place-init : goal.loop-place-init
unfolding last_setting
loop-place-init c = refl

pub loop-place-preserved : goal.loop-place-preserved
loop-place-preserved c =
    let more = one_more c.args.what.now c.args.talk.now c.loop-place.place c.index-talk-place.result c.sets.result
    (omega (arith, c.loop-place-test.true, c.requires)) c.sets.ensures in
    elim c.if-sets.branch [
      | then-sets w ↦ w.last-is
          ∙ ap (λ (b : Bool). if b then Some c.loop-place.place
          else last_setting c.args.what.now c.args.talk.now c.loop-place.place) (sym w.if-sets.true) ∙ more
      | else-sets w ↦ w.last-is ∙ c.loop-place.invariant
          ∙ ap (λ (b : Bool). if b then Some c.loop-place.place
          else last_setting c.args.what.now c.args.talk.now c.loop-place.place) (sym w.if-sets.false) ∙ more
    ]
