use Rattle.std.proofs.Common.{◌≡◌, length, drop, arith}
use Rattle.std.proofs.lemmas.List.{length-drop}
use Rattle.vintsaky_calls.proofs.Marks.{mask_of, put_last}
use Rattle.vintsaky_calls.proofs.batches.put_mask.Goals as goal

pub returns : goal.returns
returns g c =
    let marks = c.legal_mask_into.new.mask.items in
    let values = c.put_marks.new.values in
    let legal = mask_of c.args.zero c.args.one c.args.game.now c.turn_of.result marks c.deref.result.now values
    c.legal_mask_into.ensures c.deref.ensures.0 c.put_marks.ensures in
    let count = c.len-count.result in
    let one_left : length (drop count c.args.values.now) ≡ 1 =
    omega (
      arith,
      length-drop count c.args.values.now,
      c.requires,
      legal.long,
      c.len-count.ensures.value,
      c.legal_mask_into.ensures.long,
    ) in
    record {
      c = c.turn_of.result;
      points = values;
      turn = c.turn_of.ensures;
      legal = legal;
      values_are = put_last values (drop count c.args.values.now) count c.args.one
          (omega (arith, legal.long, c.len-count.ensures.value, c.legal_mask_into.ensures.long)) one_left;
    }
