use Rattle.std.proofs.Common.{◌∙◌, ◌++◌, ℕ, List, [], ◌∷◌, ap, codes}
use Rattle.gtp_check_course.specs.declared.lessons.Lesson.{Lesson}
use Rattle.gtp_check_texts.specs.Summary.{counts_line, hidden_lines, lack_lines, lessons_line, unplayed_lines}
use Rattle.gtp_check_texts.specs.Summary.{missed_lines}
use Rattle.gtp_check_texts.specs.Summary.{refused_line, unjudged_line, undos_line}
use Rattle.gtp_check_texts.proofs.Joining.{one_more}
use Rattle.gtp_check_texts.proofs.summary.last_lines.Goals as goal

pub returns : goal.returns
returns c =
    let notes = c.args.notes.now in
    let ending = c.args.ending.now in
    let hidden = hidden_lines ending.hidden.now in
    let left_out = lessons_line (codes "not asked, as the options say:") c.args.plan.now.left_out.items in
    let missed = missed_lines ending.over.now ending.missed.now in
    let lacks = lack_lines notes in
    let undos = undos_line notes.most_undos in
    let refused = refused_line notes.refused.items in
    let unjudged = unjudged_line ending.unjudged in
    let counts = counts_line notes.commands ending.starts ending.complaints in
    let one = one_more [] _ _ hidden [] c.new-text.ensures.items c.in_ok-add_hidden.ensures in
    let two = one_more [] _ _ left_out (hidden ∷ []) one
    (c.in_ok-add_lessons.ensures ∙ ap (λ (l : List Lesson). c.add_hidden.new.text.items
    ++ lessons_line (codes "not asked, as the options say:") l) c.deref.ensures.0) in
    let three = one_more [] _ _ missed (hidden ∷ left_out ∷ []) two c.in_ok-add_missed.ensures in
    let lessons = c.args.plan.now.lessons.items in
    let unplayed = unplayed_lines lessons ending.missed.now notes.answered.items in
    let played = one_more [] _ _ unplayed (hidden ∷ left_out ∷ missed ∷ []) three
    (c.in_ok-add_unplayed.ensures
    ∙ ap (λ (l : List Lesson). c.add_missed.new.text.items
    ++ unplayed_lines l ending.missed.now c.deref-3.result.now) c.deref-2.ensures.0
    ∙ ap (λ (l : List Lesson). c.add_missed.new.text.items
    ++ unplayed_lines lessons ending.missed.now l) c.deref-3.ensures.0) in
    let four = one_more [] _ _ lacks (hidden ∷ left_out ∷ missed ∷ unplayed ∷ []) played c.in_ok-add_lacks.ensures in
    let back = one_more [] _ _ undos (hidden ∷ left_out ∷ missed ∷ unplayed ∷ lacks ∷ []) four
    c.in_ok-add_most_undos.ensures in
    let five = one_more [] _ _ refused (hidden ∷ left_out ∷ missed ∷ unplayed ∷ lacks ∷ undos ∷ []) back
    (c.in_ok-add_refused.ensures ∙ ap (λ (sizes : List ℕ). c.add_most_undos.new.text.items ++ refused_line sizes)
    c.deref-4.ensures.0) in
    let six = one_more [] _ _ unjudged (hidden ∷ left_out ∷ missed ∷ unplayed ∷ lacks ∷ undos ∷ refused ∷ []) five
    c.in_ok-add_unjudged.ensures in
    one_more [] _ _ counts (hidden ∷ left_out ∷ missed ∷ unplayed ∷ lacks ∷ undos ∷ refused ∷ unjudged ∷ []) six
    c.in_ok-add_counts.ensures
