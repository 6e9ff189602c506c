use Rattle.std.proofs.Common.{◌≡◌, ◌++◌, ◌∙◌, ℕ, List, subst}
use Rattle.std.specs.Prelude.{OnOk}
use Rattle.gtp_check_texts.proofs.CaptureTexts.{captures-joined}
use Rattle.gtp_check_texts.proofs.reasons.plays.add_captures.Goals as goal

pub returns : goal.returns
returns c =
    subst (λ (t : List ℕ). OnOk c.add_all.result (c.add_all.new.text.items ≡ c.args.text.now.items ++ t))
    (captures-joined c.args.colour c.args.points.now c.deref.result.now c.stones_word.result.now
    c.colour_name.result.now c.deref-2.result.now c.more_mark.result.now
    (record {
      number = c.deref.ensures.0 ∙ c.write_int.ensures;
      word = c.stones_word.ensures;
      name = c.colour_name.ensures;
      vertices = c.deref-2.ensures.0 ∙ c.first_vertices.ensures;
      mark = c.more_mark.ensures;
    }))
    c.add_all.ensures
