use Rattle.std.proofs.Common.{◌≡◌, ◌∙◌, sym, ap, [], ◌∷◌, ◌++◌, eqb, get_or, cond}
use Rattle.std.specs.Prelude.{is_some}
use Rattle.std.specs.Char.{is_ascii_digit}
use Rattle.go_base.specs.Int.{int_of}
use Rattle.go_base.specs.Text.{front_while, skip_while}
use Rattle.gtp_wire.specs.Replies.{trim}
use Rattle.gtp_wire.proofs.reply_bytes.BytesAndValue.{reply_made}
use Rattle.gtp_wire.proofs.first_answers.OneByteMore.{body_between}
use Rattle.gtp_wire.proofs.reply_value.read_prepared.Goals as goal

pub returns : goal.returns
returns c raw whole same =
    let begun : c.skip_blanks-begun.result.now ≡ whole.status ∷ (whole.body ++ 10 ∷ 10 ∷ []) =
    c.skip_blanks-begun.ensures.text ∙ sym same ∙ whole.shape in
    let body : c.body_of.result.now ≡ whole.body =
    c.body_of.ensures.body ∙ body_between c.skip_blanks-begun.result.now whole.status whole.body begun in
    let id = c.split_id-id.result.0 in
    reply_made raw whole _ id c.push.new.text
    (ap (λ l. eqb (get_or l 0 0) 61) begun)
    (c.split_id-id.ensures.id ∙ ap (λ b. int_of (front_while is_ascii_digit b)) body)
    (c.push.ensures.bytes ∙ ap (λ t. t ++ c.trim.result.now) c.clear.ensures ∙ c.trim.ensures.text
    ∙ ap trim (c.split_id-id.ensures.text ∙ ap (λ b. cond (is_some id) (skip_while is_ascii_digit b) b) body))
