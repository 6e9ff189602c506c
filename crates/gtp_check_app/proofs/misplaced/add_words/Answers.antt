use Rattle.std.proofs.Common.{◌∙◌, ap}
use Rattle.gtp_check_app.proofs.CommandPlace.{added_word}
use Rattle.gtp_check_app.proofs.misplaced.add_words.Goals as goal

pub loop-word-preserved : goal.loop-word-preserved
loop-word-preserved g c =
    added_word g.A.AsStr.text c.args.words.now c.loop-word.word-index c.word-item.result c.args.line.now.items
    c.loop-word.line.items c.push.new.self.items c.extend_from_slice.new.self.items c.as_bytes.result.now
    c.loop-word-test.true c.loop-word.invariant c.in_ok-push.ensures.items c.in_ok-extend_from_slice.ensures.items
    (c.as_bytes.ensures.value ∙ c.as_str.ensures ∙ ap g.A.AsStr.text c.word-item.is)
