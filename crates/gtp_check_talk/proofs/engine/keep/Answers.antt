use Rattle.std.proofs.Common.{◌≡◌, ◌+◌, ◌-◌, ◌∙◌, sym, ap, ℕ, List, ◌++◌, length, take, arith}
use Rattle.std.proofs.lemmas.List.{take_min}
use Rattle.std.proofs.Math.Seq.{take-append-add}
use Rattle.gtp_check_talk.proofs.engine.keep.Goals as goal

-- the first n of two texts, where the first text leaves so much room
joined : (n room : ℕ) (xs ys : List ℕ) → length xs + room ≡ n → xs ++ take room ys ≡ take n (xs ++ ys)
joined n room xs ys is = sym (take-append-add xs ys room) ∙ ap (λ (k : ℕ). take k (xs ++ ys)) is

pub returns : goal.returns
returns c =
    let len = c.len-room.ensures.value in
    let fits = c.len-room.ensures.fits in
    rw (c.push.ensures.bytes, c.min.ensures, take_min (80 - c.len-room.result) c.args.bytes.now)
    (joined 80 (80 - c.len-room.result) c.args.wrote.now.items c.args.bytes.now (omega (arith, len, fits)))
