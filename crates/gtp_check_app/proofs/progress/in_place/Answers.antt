use Rattle.std.proofs.Common.{refl}
use Rattle.std.proofs.lemmas.List.{take_min}
use Rattle.gtp_check_app.proofs.progress.in_place.Goals as goal

pub returns : goal.returns
returns c =
    rw (
      c.push-3.ensures.bytes,
      c.push-2.ensures.bytes,
      c.push.ensures.bytes,
      c.new-line.ensures,
      c.min.ensures,
      take_min 79 c.args.text.now,
    )
    refl
