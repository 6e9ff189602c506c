use Rattle.std.proofs.Common.{[], ◌∷◌, codes, sym}
use Rattle.std.proofs.lemmas.List.{append-nil}
use Rattle.gtp_check_texts.specs.Summary.{lack_line}
use Rattle.gtp_check_texts.proofs.Joining.{one_more}
use Rattle.gtp_check_texts.proofs.summary.add_lacks.Goals as goal

pub returns : goal.returns
returns c =
    let old = c.args.text.now.items in
    let handicap = lack_line c.args.notes.now.lacks_handicap (codes "fixed_handicap") in
    let taking_back = lack_line c.args.notes.now.lacks_undo (codes "undo") in
    let score = lack_line c.args.notes.now.lacks_score (codes "final_score") in
    let one = one_more old old _ handicap [] (sym (append-nil old)) c.in_ok-add_lack.ensures in
    let two = one_more old _ _ taking_back (handicap ∷ []) one c.in_ok-add_lack-2.ensures in
    one_more old _ _ score (handicap ∷ taking_back ∷ []) two c.in_ok-add_lack-3.ensures
