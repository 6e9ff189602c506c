use Rattle.std.proofs.Common.{ℕ, List, take, min, ap, ◌∙◌, subst}
use Rattle.gtp_world.specs.private.Room.{ReadsAndReplies}
use Rattle.gtp_world.proofs.exchange.PieceLemmas.{read_some}
use Rattle.gtp_world.proofs.sessions.SessionsEngines.deliver.Goals as goal

pub returns : goal.returns
returns g c =
    let by = c.min-used.ensures ∙ ap (λ (n : ℕ). min c.args.count n) c.len.ensures.value in
    let served =
    subst (λ (w : List ℕ). ReadsAndReplies g.M.Made.Policy.may c.args.engine.now (take c.min-used.result w)
    c.serve_all.new.session c.args.to_controller.now.items c.serve_all.new.out.items) c.as_slice.ensures.value
    c.serve_all.ensures in
    read_some g.M.Made.Policy.may c.args.engine.now c.args.to_engine.now.items c.args.to_controller.now.items
    c.args.count c.min-used.result c.serve_all.new.session c.cut_front.new.list.items c.serve_all.new.out.items by
    served c.cut_front.ensures
