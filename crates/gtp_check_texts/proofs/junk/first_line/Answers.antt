use Rattle.std.proofs.Common.{◌∙◌, ℕ, take, min, ap}
use Rattle.std.specs.List.{position_or_len}
use Rattle.gtp_check_talk.specs.Lines.{is_newline}
use Rattle.gtp_check_texts.proofs.DrawnLines.{take_shorter}
use Rattle.gtp_check_texts.proofs.junk.first_line.Goals as goal

pub returns-clause-line : goal.returns-clause-line
returns-clause-line c =
    ap (λ (n : ℕ). take n c.args.wrote.now) (c.min.ensures ∙ ap (λ (n : ℕ). min n 80) c.line_len.ensures.value)
    ∙ take_shorter (position_or_len is_newline c.args.wrote.now) 80 c.args.wrote.now
