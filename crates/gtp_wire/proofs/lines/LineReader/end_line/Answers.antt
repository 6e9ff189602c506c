use Rattle.std.proofs.Common.{◌≡◌, ◌∙◌, ◌<◌, ◌≤◌, ℕ, List, ◌∷◌, length, ap, sym, arith}
use Rattle.gtp_wire.specs.declared.lines.Line.TheVariants.{Command}
use Rattle.gtp_wire.specs.Lines.{lines}
use Rattle.gtp_wire.specs.Words.{words, command_of}
use Rattle.std.proofs.lemmas.Bool.Decides.{nat_tests}
use Rattle.gtp_wire.proofs.line_reading.Steps.{end_empty, end_long, end_command}
use Rattle.gtp_wire.proofs.lines.LineReader.end_line.Goals as goal
use Rattle.gtp_wire.proofs.lines.LineReader.end_line.Goals.{then-is_short, else-is_short}

pub returns-then-is_empty-clause-step : goal.returns-then-is_empty-clause-step
returns-then-is_empty-clause-step c z =
    let none : length c.self.inside.held.items ≡ 0 = grind (arith, nat_tests) in
    rw (← c.self.view_is) (end_empty c.self.inside.held.items c.self.inside.stage z c.self.invariant.joined none)

pub returns-clause-step : goal.returns-clause-step
returns-clause-step c z = rw (← c.self.view_is) (elim c.if-is_short.branch [
  | then-is_short w ↦
      let some : 0 < length c.self.inside.held.items = grind (arith, nat_tests) in
      let short : length c.self.inside.held.items ≤ 1000 = grind arith in
      rw (w.line-is, w.put_command.ensures)
      (end_command c.self.inside.held.items c.self.inside.stage z c.self.invariant.joined some short
      ∙ ap (λ (t : List ℕ). Command (command_of (words t)) ∷ lines z) (sym w.deref.ensures.0))
  | else-is_short w ↦
      let long : 1000 < length c.self.inside.held.items = grind arith in
      rw w.line-is (end_long c.self.inside.held.items c.self.inside.stage z c.self.invariant.joined long)
])
