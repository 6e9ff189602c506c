use Rattle.std.proofs.Common.{◌≡◌, [], ◌∷◌, ◌∙◌, ◌≤◌, length, take, drop, ap, sym, subst, arith, Option, Bor, List, ℕ}
use Rattle.std.specs.Prelude.{MatchOption}
use Rattle.std.specs.List.{position_or_len}
use Rattle.std.proofs.lemmas.List.{length-drop}
use Rattle.gtp_check_talk.specs.Lines.{is_newline}
use Rattle.gtp_check_texts.specs.Lines.{lines_of}
use Rattle.gtp_check_texts.proofs.LinesOfTexts.{none_ended, first_ended}
use Rattle.gtp_check_texts.proofs.lines.ended_line.Goals as goal

pub returns-in_err-_newline-clause-lines : goal.returns-in_err-_newline-clause-lines
returns-in_err-_newline-clause-lines c =
    let text = c.args.text.now in
    let none : length c.split_at.result.1.now ≡ 0 = c.in_err-_newline.ensures.cases in
    let rest = ap length c.split_at.ensures.back in
    let past : length text ≤ position_or_len is_newline text =
    omega (arith, none, rest, length-drop c.line_len.result text, c.line_len.ensures.value) in
    subst (λ (r : Option (Bor (List ℕ) × Bor (List ℕ))). MatchOption r (lines_of text ≡ text ∷ [])
    (λ parts. lines_of text ≡ parts.0.now ∷ lines_of parts.1.now)) (sym c.from_residual.ensures)
    (none_ended is_newline text past)

pub returns-clause-lines : goal.returns-clause-lines
returns-clause-lines c =
    let text = c.args.text.now in
    let at = ap (λ (n : ℕ). drop n text) (sym c.line_len.ensures.value) in
    let line : c.split_at.result.0.now ≡ take (position_or_len is_newline text) text =
    c.split_at.ensures.front ∙ ap (λ (n : ℕ). take n text) c.line_len.ensures.value in
    first_ended is_newline text c.in_ok-_newline._newline.now c.in_ok-_newline.more.now
    (at ∙ sym c.split_at.ensures.back ∙ c.in_ok-_newline.ensures.cases.0)
    ∙ ap (λ (l : List ℕ). l ∷ lines_of c.in_ok-_newline.more.now) (sym line)
