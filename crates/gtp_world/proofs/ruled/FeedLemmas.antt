-- A sans-IO engine is fed.
use Rattle.std.proofs.Common.{◌≡◌, ℕ, ◌+◌, ◌≤◌, List, ◌++◌, length, take, drop, min, refl, subst}
use Rattle.std.proofs.lemmas.List.{take_min}
use Rattle.gtp_session.specs.declared.events.StepsFed.{StepsFed}
use Rattle.gtp_session.specs.Steps.{StepsState}
use Rattle.gtp_world.specs.Kinds.{Feeds, FeedsFront, written_at}
use Rattle.gtp_world.specs.World.{most_to_controller}
use Rattle.gtp_world.specs.private.Room.{ReadsInto, WritesWithin}

module _ (te out : List ℕ) (count given : ℕ) (e after : StepsState) (fed : StepsFed)
    (by : given ≡ min count (length te)) (feeds : Feeds e (take given te) fed after) where
  front : (left : List ℕ) → left ≡ drop fed.used te → FeedsFront count e te after left (written_at fed.event after)
  front left left_is = record {
    fed = fed;
    feeds = let t : take given te ≡ take count te = rw by (take_min count te) in
        subst (λ (t : List ℕ). Feeds e t fed after) t feeds;
    left_is = left_is;
    written_is = refl;
  }

  -- what is written has room
  pub reply_room : WritesWithin (FeedsFront count) e te out
      → length out + length (written_at fed.event after) ≤ most_to_controller
  reply_room room = room after (drop fed.used te) (written_at fed.event after) (front (drop fed.used te) refl)

  -- and that is what happens
  pub fed_into : (left out2 : List ℕ) → left ≡ drop fed.used te → out2 ≡ out ++ written_at fed.event after
      → ReadsInto (FeedsFront count) e te out after left out2
  fed_into left out2 left_is out_is =
      record { written = written_at fed.event after; done = front left left_is; appended = out_is }
