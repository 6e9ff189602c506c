use Rattle.std.proofs.Common.{rules, ◌≡◌, Some, None, ◌∙◌, ap, refl}
use Rattle.gtp_session.specs.declared.commands.CommandName.{CommandName}
use Rattle.gtp_session.specs.declared.commands.CommandName.TheVariants as command
use Rattle.gtp_session.specs.Commands.{asked_by_named}
use Rattle.gtp_session.proofs.table.Names.{unasked}
use Rattle.gtp_session.proofs.waits.wait_of_command.Goals as goal

pub returns-then-eq : goal.returns-then-eq
returns-then-eq c =
    let same : c.in-Some.command ≡ command.Genmove = search rules in
    let named : c.args.command ≡ Some command.Genmove =
    c.in-Some.is ∙ ap (λ (x : CommandName). Some x) same in
    rw (← c.requires, named) c.wait_of_genmove.ensures

pub returns : goal.returns
returns c =
    let other : ¬ (c.args.command ≡ Some command.Genmove) =
    λ e. let same : c.in-Some.command ≡ command.Genmove = cc (c.in-Some.is, e) in
    cc (c.if-eq.false, rw same at c.eq.ensures) in
    let none : asked_by_named c.args.game.now c.args.command c.args.line.now.words ≡ None =
    unasked c.args.game.now c.args.command c.args.line.now.words other in
    rw (← c.requires, none, c.in-Some.is) refl
