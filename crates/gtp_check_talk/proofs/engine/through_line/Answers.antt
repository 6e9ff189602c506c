use Rattle.std.proofs.Common.{◌≡◌, ◌-◌, ◌∙◌, ap, ℕ, List, take, drop, arith}
use Rattle.std.specs.List.{position_or_len}
use Rattle.std.proofs.lemmas.List.{take_min}
use Rattle.gtp_check_talk.specs.Lines.{is_newline}
use Rattle.gtp_check_talk.proofs.engine.through_line.Goals as goal

pub returns : goal.returns
returns c =
    let bytes = c.args.bytes.now in
    let before = c.saturating_sub-before.ensures in
    let rest = c.split_at.ensures.back ∙ ap (λ (n : ℕ). drop n bytes) before in
    let line : c.line_len.result ≡ position_or_len is_newline (drop (c.args.used - 1) bytes) =
    c.line_len.ensures.value ∙ ap (λ (text : List ℕ). position_or_len is_newline text) rest in
    ap (λ (n : ℕ). take n bytes) c.min.ensures ∙ take_min _ bytes
    ∙ ap (λ (n : ℕ). take n bytes) (omega (arith, before, line))
