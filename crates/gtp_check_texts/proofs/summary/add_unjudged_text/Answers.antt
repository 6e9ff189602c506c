use Rattle.std.proofs.Common.{[], ◌∷◌, codes, sym}
use Rattle.std.proofs.lemmas.List.{append-nil}
use Rattle.gtp_check_texts.specs.Summary.{counted_text}
use Rattle.gtp_check_texts.proofs.Joining.{one_more}
use Rattle.gtp_check_texts.proofs.summary.add_unjudged_text.Goals as goal

pub returns : goal.returns
returns c =
    let old = c.args.text.now.items in
    let head = codes "check: " in
    let count = counted_text c.args.unjudged (codes " move") in
    let one = one_more old old _ head [] (sym (append-nil old)) c.in_ok-extend_from_slice.ensures.items in
    let two = one_more old _ _ count (head ∷ []) one c.in_ok-add_count.ensures in
    one_more old _ _ (codes " by genmove, not judged, as the options say\n") (head ∷ count ∷ []) two
    c.in_ok-extend_from_slice-2.ensures.items
