use Rattle.std.proofs.Common.{[], ◌∷◌, codes, map, sym}
use Rattle.std.proofs.lemmas.List.{append-nil}
use Rattle.std.specs.List.{concat}
use Rattle.gtp_check_texts.specs.Summary.{spaced_size}
use Rattle.gtp_check_texts.proofs.Joining.{one_more}
use Rattle.gtp_check_texts.proofs.summary.add_refusals.Goals as goal

pub returns : goal.returns
returns c =
    let old = c.args.text.now.items in
    let head = codes "check: it refuses the sizes" in
    let sizes = concat (map spaced_size c.args.sizes.now) in
    let one = one_more old old _ head [] (sym (append-nil old)) c.in_ok-extend_from_slice.ensures.items in
    let two = one_more old _ _ sizes (head ∷ []) one c.in_ok-add_sizes.ensures in
    one_more old _ _ (codes "\n") (head ∷ sizes ∷ []) two c.in_ok-extend_from_slice-2.ensures.items
