use Rattle.std.proofs.Common.{◌-◌, arith}
use Rattle.std.proofs.lemmas.List.{take_min}
use Rattle.gtp_check_texts.proofs.Joining.{joined_cut}
use Rattle.gtp_check_app.proofs.progress.add.Goals as goal

pub returns : goal.returns
returns c =
    let len = c.len-room.ensures.value in
    let fits = c.len-room.ensures.fits in
    rw (c.push.ensures.bytes, c.min.ensures, take_min (79 - c.len-room.result) c.args.part.now)
    (joined_cut 79 (79 - c.len-room.result) c.args.text.now.items c.args.part.now (omega (arith, len, fits)))
