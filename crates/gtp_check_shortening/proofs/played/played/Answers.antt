use Rattle.std.proofs.Common.{◌≡◌, ◌∙◌, ◌++◌, List, ap, append_assoc, drop, sym, ◌+◌}
use Rattle.std.proofs.lemmas.List.{append-nil}
use Rattle.gtp_check_talk.specs.declared.said.Said.{Said}
use Rattle.gtp_check_shortening.specs.Played.{done_before, played}
use Rattle.gtp_check_shortening.proofs.Playing.{played_here, played_out}
use Rattle.gtp_check_shortening.proofs.played.played.Goals as goal

pub loop-index-preserved : goal.loop-index-preserved
loop-index-preserved c =
    ap (λ (all : List Said). all ++ played (drop (c.loop-index.index + 1) c.args.talk.now)) c.in_ok-add_done.ensures
    ∙ append_assoc c.loop-index.all.items _ (played (drop (c.loop-index.index + 1) c.args.talk.now))
    ∙ ap (λ (all : List Said). c.loop-index.all.items ++ all)
    (played_here c.args.talk.now c.loop-index.index c.index-talk-index.result c.get.result c.loop-index-test.true
    c.index-talk-index.is c.get.ensures.lookup.3)
    ∙ c.loop-index.invariant

pub returns : goal.returns
returns c =
    sym (append-nil c.loop-index.all.items)
    ∙ ap (λ (all : List Said). c.loop-index.all.items ++ all)
    (sym (played_out c.args.talk.now c.loop-index.index c.loop-index-test.false))
    ∙ c.loop-index.invariant
