use Rattle.std.proofs.Common.{arith, ◌≡◌, ◌∙◌, ap, List, ℕ, ◌++◌, get_or, take}
use Rattle.std.proofs.lemmas.List.{take_all}
use Rattle.go_base.specs.Text.{joined}
use Rattle.gtp_session.specs.Commands.{all_names}
use Rattle.gtp_session.specs.OwnCommands.{names_with}
use Rattle.gtp_session.proofs.stepping.OwnNames.{listed_more, table_names_few}
use Rattle.gtp_session.proofs.own_commands.OwnCommands.listed.Goals as goal

pub loop-name-init : goal.loop-name-init
loop-name-init c =
    let table : c.push.new.text.items ≡ all_names =
    c.push.ensures.bytes ∙ ap (λ (t : List ℕ). t ++ c.deref.result.now) c.new-text.ensures ∙ c.deref.ensures.0
    ∙ c.all_names.ensures in
    record { short = table_names_few c.push.new.text.items table; written = table }

pub push_word-requires : goal.push_word-requires
push_word-requires c =
    omega (
      arith,
      c.loop-name.invariant.short,
      c.loop-name-test.true,
      c.as_slice-name-items.ensures.fits,
      c.deref-in-loop-name.ensures.1,
    )

pub loop-name-preserved : goal.loop-name-preserved
loop-name-preserved c =
    let commands = c.args.self.now in
    let name : c.deref-in-loop-name.result.now ≡ get_or commands c.loop-name.name-index c.name-item.result =
    c.deref-in-loop-name.ensures.0 ∙ c.name.view_is ∙ c.name-item.is
    ∙ ap (λ (t : List (List ℕ)). get_or t c.loop-name.name-index c.name-item.result)
    (c.as_slice-name-items.ensures.value ∙ c.self.view_is) in
    record {
      short = omega (arith, c.push_word.ensures.len, c.loop-name.invariant.short, c.deref-in-loop-name.ensures.1);
      written = c.push_word.ensures.bytes
          ∙ ap (λ (t : List ℕ). joined 10 t c.deref-in-loop-name.result.now) c.loop-name.invariant.written
          ∙ ap (joined 10 (names_with (take c.loop-name.name-index commands))) name
          ∙ listed_more commands c.loop-name.name-index c.name-item.result
          (rw (c.as_slice-name-items.ensures.value, c.self.view_is) at c.loop-name-test.true);
    }

pub returns : goal.returns
returns c =
    c.loop-name.invariant.written
    ∙ ap names_with (take_all c.loop-name.name-index c.args.self.now
    (rw (c.as_slice-name-items.ensures.value, c.self.view_is) at c.loop-name-test.false))
